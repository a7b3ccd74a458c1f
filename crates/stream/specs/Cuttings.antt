-- 02, request 9: what a stream of bytes says, byte by byte, and the pieces of a cutting offered to the reader one after the other.
-- Assumes nothing.
use Rattle.std.specs.Prelude.{◌≡◌, List, [], ◌∷◌, ◌++◌, cond, ℕ, drop, eqb}
use Rattle.numbers.specs.Numbers.{frame_too_long}
use Rattle.stream.specs.Reading.{refusing, Said, quiet, number_of, byte, called}
use Rattle.stream.specs.declared.Stream.{Stream}

-- ---- a whole stream, byte by byte

-- all that is heard, in order, and the state and room that it ends in
pub record Whole : Type 0 where
  pub heard : List Said
  pub state : Stream
  pub room : List ℕ

abbrev pub ends : Stream → List ℕ → Whole
ends s room = record { heard = []; state = s; room = room }

-- what is heard first, and what then
unfoldable pub after : Said → Whole → Whole
after h w = cond (quiet h) w (record { heard = h ∷ w.heard; state = w.state; room = w.room })

-- a refused stream hears nothing more
unfoldable pub streamed : Stream → List ℕ → List ℕ → Whole
streamed s room [] = ends s room
streamed s room (b ∷ bs) = cond (eqb s.mode refusing) (ends s room) (after (byte s room b).said (streamed (byte s room b).state (byte s room b).room bs))

-- ---- the pieces of a cutting, offered one after the other

unfoldable pub joined : List (List ℕ) → List ℕ
joined [] = []
joined (p ∷ ps) = p ++ joined ps

-- each call is given the state and the room that the one before left, and what is left of its piece: until all is used, or 30.
-- A piece that is used up may be offered again or not
pub data Offered : Stream → List ℕ → List (List ℕ) → Whole → Type 0 where
  all_used : {s : Stream} {room : List ℕ} → Offered s room [] (ends s room)
  piece_used : {s : Stream} {room : List ℕ} {ps : List (List ℕ)} {w : Whole} → Offered s room ps w → Offered s room ([] ∷ ps) w
  call_on : {s : Stream} {room p : List ℕ} {ps : List (List ℕ)} {w : Whole} → (number_of (called s room p).said ≡ frame_too_long → ⊥)
      → Offered (called s room p).state (called s room p).room (drop (called s room p).used p ∷ ps) w
      → Offered s room (p ∷ ps) (after (called s room p).said w)
  refused_at : {s : Stream} {room p : List ℕ} {ps : List (List ℕ)} → number_of (called s room p).said ≡ frame_too_long
      → Offered s room (p ∷ ps) (after (called s room p).said (ends (called s room p).state (called s room p).room))
