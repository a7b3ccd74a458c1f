-- 02, request 9, as theorems: messages that the writer answered 0 are heard as they were given, in any cutting, and leave the stream between two
-- frames.
-- Assumes nothing.
use Rattle.std.specs.Prelude.{◌≡◌, refl, List, [], ◌∷◌, ◌++◌, Bool, true, ◌&&◌, ℕ, ◌≤◌, length, take}
use Rattle.std.proofs.Common.{ap, ap₂, sym, ◌∙◌, arith, le-ltb}
use Rattle.std.proofs.Math.Bool.{and-eq-true_iff}
use Rattle.octets.specs.Octets.{pasted, be}
use Rattle.octets.specs.OctetsLaws.{pasted_length, pasted_none}
use Rattle.frames.specs.Frames.{Bytes, known, right, frame_of, sendable, frame_answer, frame_after}
use Rattle.frames.specs.FramesLaws.{bytes_front, bytes_rest}
use Rattle.frames.specs.WriterLaws.{answer_number, frame_0, frame_success}
use Rattle.stream.specs.Reading.{mode_of, fitting, kept, Said, between}
use Rattle.stream.specs.StepsLaws.{going_between}
use Rattle.stream.specs.Cuttings.{Whole, after, streamed, joined, Offered}
use Rattle.stream.specs.CuttingsLaws.{any_cutting}
use Rattle.stream.specs.Saying.{frame_says, frame_leaves, Written, none_written, one_more, heard_as, heard_list, RoomForAll, room_then}
use Rattle.stream.specs.WholeFrameLaws.{whole_frame_says}

both : (a b : Bool) → (a && b) ≡ true → (a ≡ true) × (b ≡ true)
both a b e = (and-eq-true_iff a b).0 e

-- a message that may be sent is said of its frame where there is room
sendable_says : (m : List ℕ) (n : ℕ) → sendable m ≡ true → length m ≤ n → frame_says m n ≡ heard_as m
unfolding sendable frame_says heard_as
sendable_says [] n e h = refl
sendable_says (i ∷ m) n e h = let k = both (known i) (right i (length (i ∷ m))) e in rw (k.0, k.1, le-ltb n (length (i ∷ m)) h)

-- and left in the room
sendable_leaves : (m room : List ℕ) → sendable m ≡ true → length m ≤ length room → frame_leaves m room ≡ pasted room 0 m
unfolding sendable frame_leaves mode_of fitting kept
sendable_leaves [] room e h = sym (pasted_none room 0)
sendable_leaves (i ∷ m) room e h = let k = both (known i) (right i (length (i ∷ m))) e in rw (k.0, k.1, le-ltb (length room) (length (i ∷ m)) h)

after_message : (m : List ℕ) (w : Whole) → after (heard_as m) w ≡ record { heard = heard_as m ∷ w.heard; state = w.state; room = w.room }
unfolding after heard_as
after_message [] w = refl
after_message (i ∷ m) w = refl

-- what was written in a row is heard as the messages
pub written_heard : {ms : List (List ℕ)} {bs : List ℕ} → Written ms bs → (room : List ℕ) → Bytes bs → RoomForAll (length room) ms
    → streamed between room bs ≡ record { heard = heard_list ms; state = between; room = room_then room ms }
unfolding RoomForAll heard_list room_then streamed
written_heard none_written room y r = refl
written_heard (one_more {ms = ms} {bs = bs} m out e w) room y r =
    let k = frame_success m out e in
    let z = (frame_0 m (length out)).0 (sym (answer_number m out) ∙ e) in
    let f : take (frame_answer m out).count (frame_after m out) ≡ frame_of m = ap (λ (j : ℕ). take j (frame_after m out)) k.0 ∙ k.1 in
    let b : Bytes (frame_of m ++ bs) = (rw f at y) in
    let l : length (pasted room 0 m) ≡ length room = pasted_length room 0 m (omega (arith, r.0)) in
    ap (λ (x : List ℕ). streamed between room (x ++ bs)) f
    ∙ whole_frame_says m room bs (message_bytes m bs b) z.0
    ∙ ap₂ (λ (x : Said) (y : List ℕ). after x (streamed between y bs)) (sendable_says m (length room) z.1 r.0) (sendable_leaves m room z.1 r.0)
    ∙ ap (after (heard_as m)) (written_heard w (pasted room 0 m) (bytes_rest (frame_of m) bs b) (rw l r.1))
    ∙ after_message m (record { heard = heard_list ms; state = between; room = room_then (pasted room 0 m) ms })
  where
    message_bytes : (m q : List ℕ) → Bytes (frame_of m ++ q) → Bytes m
    message_bytes m q y = unfold frame_of in bytes_rest (be 4 (length m)) m (bytes_front (be 4 (length m) ++ m) q y)

-- in any cutting
pub there_and_back : {ms : List (List ℕ)} {bs : List ℕ} → Written ms bs → (room : List ℕ) → Bytes bs → RoomForAll (length room) ms
    → (ps : List (List ℕ)) → joined ps ≡ bs → {w : Whole} → Offered between room ps w
    → w ≡ record { heard = heard_list ms; state = between; room = room_then room ms }
there_and_back v room y r ps e o = sym (any_cutting o (going_between (length room)) (rw e y)) ∙ ap (streamed between room) e ∙ written_heard v room y r
