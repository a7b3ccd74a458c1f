-- each number as a chain of tests
pub mod NumberChains
-- a message by numbers of positions: when it is taken, what it settles
pub mod TakenWhen
pub mod Chains
pub mod TakenEntries
pub mod RightPadding
-- marks stand apart from the cells
pub mod MarksApart
-- histories: what each step keeps, what stays
pub mod Through
pub mod Grows
pub mod Again
pub mod FactsKept
-- bytes behind the store
pub mod BytesLeft
pub mod Alike
pub mod Beyond
pub mod MarksBeyond
pub mod SavedBeyond
-- marks decide nothing about hashes; the bitfield
pub mod Independence
pub mod Bitfield
pub mod SameStore
-- what a store that only this build has written looks like
pub mod Invariant
pub mod FourClauses
-- and one that was loaded or repaired
pub mod SavedWhen
pub mod SaveBytes
pub mod Restored
pub mod OwnBytes
pub mod OursMeet
-- two strings with one SHA-256
pub mod Conflict
pub mod Shown
pub mod ConflictShows
-- from numbers to layers and indices
pub mod ReadBack
pub mod AnchorHeld
pub mod Over
pub mod Positions
pub mod ChainsTo
pub mod Differing
-- each number exactly when
pub mod FormedWhen
pub mod HeldWhen
pub mod Verdicts
pub mod JudgedWhen
-- marks over a history
pub mod MarksSince
pub mod RepairedMarks
pub mod MarkedWhen
pub mod ServedWhen
pub mod AskedWhen
pub mod RootAlone
pub mod LoadedWhen
pub mod BehindLoads
pub mod LoadedMarks
pub mod FormWhen
pub mod ThereAndBack
pub mod NoAnchor
-- what is held and counted afterwards
pub mod HeldAfter
pub mod SettledMany
pub mod CountedAll
-- the same messages, in any order
pub mod AnyOrder
pub mod CountsAdd
pub mod RoundsEnd
-- and what was answered 0, offered again
pub mod Journal
pub mod Replayed
-- replies, read back
pub mod Replies
pub mod ReadThere
pub mod Sent
-- from the root to the block
pub mod RootToBlock
pub mod PieceIsTheFiles
pub mod TrueMessage
pub mod TrueLayer
pub mod Known
pub mod MarkedIsTheFiles
-- refusals, the table, the cases worked by hand
pub mod Refusals
pub mod InTable
pub mod ByHand
-- what to ask for next, and which piece to fetch
pub mod Counting
pub mod NextRequest
pub mod RequestBytes
pub mod AskingEnds
pub mod RequestServed
pub mod PickedWhen
pub mod PickingEnds
pub mod AskingApart
pub mod AskingNumbers
-- a piece's block hashes, taught
pub mod LeavesNumbers
pub mod LeavesTaught
-- a file and an earlier one
pub mod Peaks
pub mod YoungerNumbers
pub mod OneRoot
pub mod Younger
pub mod YoungerSince
pub mod YoungerLeaf
