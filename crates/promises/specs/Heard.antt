-- 02, request 9, and the calls on a store: a hashes message that is heard of a stream is never 1 to kd_take, a hash request never to kd_serve, a hash
-- reject never to kd_take_reject, whatever the store. (What is heard of a stream: crates/frames and crates/stream.)
-- Assumes nothing.
use Rattle.std.specs.Prelude.{◌≡◌, refl, true, List, ℕ, ◌≤◌, length, eqb, leb}
use Rattle.std.proofs.Common.{sym, ap, ◌∙◌, inl, inr, arith, leb-true, eqb-true}
use Rattle.numbers.specs.Numbers.{no_message}
use Rattle.frames.specs.Frames.{Bytes, table, sizes_in, sizes_of, right_for, right}
use Rattle.stream.specs.Reading.{message, between}
use Rattle.stream.specs.Cuttings.{streamed}
use Rattle.stream.specs.Saying.{Among}
use Rattle.stream.specs.ExactlyLaws.{heard_messages}
use Rattle.header.specs.Header.{header_size, hashes_id, request_id, reject_id, message_id}
use Rattle.messages.specs.Take.{take_answer, reject_answer}
use Rattle.serve.specs.Serve.{serve_answer}
use Rattle.promises.specs.EachNumber.{take_1, serve_1, reject_1}

-- the sizes of both tables are the same
right_hashes : (n : ℕ) → right hashes_id n ≡ leb header_size n
unfolding right right_for sizes_of sizes_in table
right_hashes n = refl

right_request : (n : ℕ) → right request_id n ≡ eqb n header_size
unfolding right right_for sizes_of sizes_in table
right_request n = refl

right_reject : (n : ℕ) → right reject_id n ≡ eqb n header_size
unfolding right right_for sizes_of sizes_in table
right_reject n = refl

-- bs is a stream from its beginning on, m a message that is heard of it in this room
module _ (bs room m : List ℕ) (bytes : Bytes bs) (heard : Among (message m) (streamed between room bs).heard) where
  -- its size is right for its id
  sized : (i : ℕ) → message_id m ≡ i → right i (length m) ≡ true
  sized i e = ap (λ (k : ℕ). right k (length m)) (sym e) ∙ (heard_messages bs room bytes m heard).right.size

  pub heard_hashes : message_id m ≡ hashes_id → (s : List ℕ) → (take_answer s m).number ≡ no_message → ⊥
  heard_hashes e s z =
      let l : header_size ≤ length m = leb-true header_size (length m) (sym (right_hashes (length m)) ∙ sized hashes_id e) in
      elim ((take_1 s m).0 z).1 [ inl h ↦ omega arith | inr k ↦ k e ]

  pub heard_request : message_id m ≡ request_id → (s out : List ℕ) → (serve_answer s m out).number ≡ no_message → ⊥
  heard_request e s out z =
      ((serve_1 s m out).0 z).1 (record { size = eqb-true (length m) header_size (sym (right_request (length m)) ∙ sized request_id e); first = e })

  pub heard_reject : message_id m ≡ reject_id → (s : List ℕ) → (reject_answer s m).number ≡ no_message → ⊥
  heard_reject e s z = ((reject_1 s m).0 z).1 (record { size = eqb-true (length m) header_size (sym (right_reject (length m)) ∙ sized reject_id e); first = e })
