-- 02, request 9: cases worked by hand, each one that a reader with a likely mistake gets wrong.
-- Assumes nothing.
use Rattle.std.specs.Prelude.{◌≡◌, refl, [], ◌∷◌}
use Rattle.frames.specs.Frames.{choke_id, bitfield_id, table, sizes_in, sizes_of, right_for, known, right}
use Rattle.stream.specs.Reading.{mode_of, fitting, mode_at, kept, nothing, message, wrong_skipped, large_skipped, standing, between, prefixed, prefix_byte, said_at_end, progressed, frame_byte, byte, hears}
use Rattle.stream.specs.Saying.{frame_says}

-- a bitfield of 3 bytes in a room of 3: the prefix needs no room
pub room_without_prefix : frame_says (bitfield_id ∷ 1 ∷ 2 ∷ []) 3 ≡ message (bitfield_id ∷ 1 ∷ 2 ∷ [])
unfolding frame_says known right right_for sizes_of sizes_in table
room_without_prefix = refl

-- in a room of 2 it is too large
pub larger_than_the_room : frame_says (bitfield_id ∷ 1 ∷ 2 ∷ []) 2 ≡ large_skipped
unfolding frame_says known right right_for sizes_of sizes_in table
larger_than_the_room = refl

-- a choke of 2 bytes in a room of 1: its size is wrong in every room
pub wrong_before_large : frame_says (choke_id ∷ 0 ∷ []) 1 ≡ wrong_skipped
unfolding frame_says known right right_for sizes_of sizes_in table
wrong_before_large = refl

-- a frame of 2 bytes of an unknown id, then one byte: it is the next prefix's first
pub skipped_whole : hears between [] (0 ∷ 0 ∷ 0 ∷ 2 ∷ 9 ∷ 1 ∷ 0 ∷ []) ≡ record { said = nothing; used = 7; state = standing 0 1 0 0; room = [] }
unfolding hears byte prefix_byte prefixed frame_byte progressed said_at_end kept mode_at fitting mode_of known right right_for sizes_of sizes_in table
skipped_whole = refl
