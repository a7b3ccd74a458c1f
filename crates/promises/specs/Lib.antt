-- the demands, sentence by sentence
pub mod Demand1
pub mod Demand2
pub mod Demand3
-- 01: each number by entry point; from the root to the block; the cases worked by hand
pub mod EachNumber
pub mod FromRootToBlock
pub mod Worked
-- 02: bytes that come in bursts; marks; what to ask for next
pub mod Running
pub mod Marks
pub mod Asking
-- 02: a store that was saved
pub mod Saved
-- 02: the same messages, in any order; a message that is heard of a stream
pub mod AnyOrder
pub mod Heard
-- 02: a piece of a hybrid
pub mod Hybrid
-- what hosts need: a piece's block hashes
pub mod Teaching
-- 00: a battery does not get younger
pub mod Younger
-- the premises can be met
pub mod Blank
pub mod TwoBlocks
pub mod Offered
pub mod Example
pub mod LayerExample
pub mod TrueFirstPair
pub mod PastTheBlocks
pub mod Witness
pub mod OneRound
pub mod ServedAndTaken
pub mod AskingExample
pub mod YoungerExample
pub mod HybridExample
pub mod TeachingExample
-- the impostors
pub mod NumbersGiven
pub mod Impostors
