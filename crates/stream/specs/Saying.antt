-- 02, request 9: what a stream says frame by frame, in a room of n bytes; lists of messages as they are written and heard.
-- Assumes nothing.
use Rattle.std.specs.Prelude.{◌≡◌, List, [], ◌∷◌, ◌++◌, ◌⊎◌, false, cond, ℕ, ◌^◌, ◌≤◌, ◌<◌, length, take, ltb}
use Rattle.octets.specs.Octets.{pasted, be, number_at}
use Rattle.limits.specs.Limits.{longest_frame}
use Rattle.frames.specs.Frames.{known, right, frame_of, frame_answer, frame_after}
use Rattle.stream.specs.Reading.{storing, mode_of, fitting, kept, Said, nothing, message, keep_alive, wrong_skipped, large_skipped, refused_now, quiet, standing, refused_by}
use Rattle.stream.specs.declared.Stream.{Stream}

-- ---- frame by frame

-- what the frame of f says: a keep-alive; of an unknown id nothing; 1; 11; or the message f itself
unfoldable pub frame_says : List ℕ → ℕ → Said
frame_says [] n = keep_alive
frame_says (i ∷ f) n =
    cond (known i) (cond (right i (length (i ∷ f))) (cond (ltb n (length (i ∷ f))) large_skipped (message (i ∷ f))) wrong_skipped) nothing

-- and leaves in the room
unfoldable pub frame_leaves : List ℕ → List ℕ → List ℕ
frame_leaves [] room = room
frame_leaves (i ∷ f) room = kept (fitting (length (i ∷ f)) (length room) (mode_of i (length (i ∷ f)))) room 0 (i ∷ f)

-- what is heard first, if anything, and what then
unfoldable pub hearing : Said → List Said → List Said
hearing h hs = cond (quiet h) hs (h ∷ hs)

-- the state inside a frame of l bytes, of which p have come
unfoldable pub partly : ℕ → List ℕ → ℕ → Stream
partly l [] n = standing l 4 0 storing
partly l (i ∷ p) n = standing l 4 (length (i ∷ p)) (fitting l n (mode_of i l))

-- bytes from the beginning on, all that is heard of them, and the state then: frames one after the other; at last
-- a prefix above the limit, whatever follows; or some bytes of a prefix, or none; or a prefix and some bytes of its frame, or none
pub data Says : ℕ → List ℕ → List Said → Stream → Type 0 where
  a_frame : {n : ℕ} {q : List ℕ} {hs : List Said} {s : Stream} (f : List ℕ) → length f ≤ longest_frame → Says n q hs s
      → Says n (frame_of f ++ q) (hearing (frame_says f n) hs) s
  too_long : {n : ℕ} (l : ℕ) (q : List ℕ) → longest_frame < l → l < 256 ^ 4 → Says n (be 4 l ++ q) (refused_now ∷ []) (refused_by l)
  in_prefix : {n : ℕ} (p : List ℕ) → length p < 4 → Says n p [] (standing (number_at p 0 (length p)) (length p) 0 storing)
  in_frame : {n : ℕ} (l : ℕ) (p : List ℕ) → l ≤ longest_frame → length p < l → Says n (be 4 l ++ p) [] (partly l p n)

-- frames of unknown ids in a row, of which nothing is heard
pub data Unheard : List ℕ → Type 0 where
  no_frames : Unheard []
  unknown : {q : List ℕ} (i : ℕ) (f : List ℕ) → known i ≡ false → length (i ∷ f) ≤ longest_frame → Unheard q → Unheard (frame_of (i ∷ f) ++ q)

-- h is heard among hs
unfoldable pub Among : Said → List Said → Type 0
Among h [] = ⊥
Among h (x ∷ hs) = (h ≡ x) ⊎ Among h hs

-- ---- lists of messages

-- messages that the writer answered 0, each with an output of its own, and what it wrote, in a row
pub data Written : List (List ℕ) → List ℕ → Type 0 where
  none_written : Written [] []
  one_more : {ms : List (List ℕ)} {bs : List ℕ} (m out : List ℕ) → (frame_answer m out).number ≡ 0 → Written ms bs
      → Written (m ∷ ms) (take (frame_answer m out).count (frame_after m out) ++ bs)

-- what a message is heard as
unfoldable pub heard_as : List ℕ → Said
heard_as [] = keep_alive
heard_as (i ∷ m) = message (i ∷ m)

unfoldable pub heard_list : List (List ℕ) → List Said
heard_list [] = []
heard_list (m ∷ ms) = heard_as m ∷ heard_list ms

-- a room of n bytes has room for each of them
unfoldable pub RoomForAll : ℕ → List (List ℕ) → Type 0
RoomForAll n [] = Unit
RoomForAll n (m ∷ ms) = (length m ≤ n) × RoomForAll n ms

-- the room that they leave
unfoldable pub room_then : List ℕ → List (List ℕ) → List ℕ
room_then room [] = room
room_then room (m ∷ ms) = room_then (pasted room 0 m) ms
