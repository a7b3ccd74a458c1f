-- Demand 2: when a message that passes 9, 1, 2, 3 and 4 gets 0, 5, 6, 7 or 8.
-- Assumes nothing.
use Rattle.std.specs.Prelude.{◌≡◌, refl, true, false, cond, List, ℕ, length}
use Rattle.std.proofs.Common.{◌∙◌, eq-eqb, eqb-true}
use Rattle.octets.specs.OctetsLaws.{same_true, same_eq, same_ne}
use Rattle.numbers.specs.Numbers.{wrong_padding, no_anchor, differs, conflict}
use Rattle.numbers.specs.Chain.{exactly_of}
use Rattle.cells.specs.Cells.{held_at, hash_at}
use Rattle.cells.specs.Entries.{agrees}
use Rattle.store.specs.Store.{blocks_of}
use Rattle.header.specs.Header.{header_of, is_hashes, message_size}
use Rattle.messages.specs.Take.{header_number, settled, anchor, worked, padded, anchored, body_number, place_in, take_number}
use Rattle.messages.specs.TakeLaws.{passes}
use Rattle.knowledge.specs.NumberChains.{take_chain, take_tests}

-- 9, 1, 2, 3 and 4 are not given, by their tests (words/specs/Messages.WellFormed says it of the message: FormedWhen)
pub record Formed (s m : List ℕ) : Type 0 where
  pub header : header_number (is_hashes m) s m ≡ 0
  pub size : length m ≡ message_size (header_of m)

-- its padding is right, its anchor is held, its hashes chain to the anchor, and no held hash differs from it
pub record Right (s m : List ℕ) : Type 0 where
  pub padding : padded m (header_of m) (place_in s m) (blocks_of s) ≡ true
  pub held : held_at s (anchor (place_in s m)) ≡ true
  pub chains : hash_at s (anchor (place_in s m)) ≡ worked m (place_in s m)
  pub agree : agrees s (settled m (place_in s m)) ≡ true

-- the number of a well-formed message is decided by padding, anchor, chain and agreement, in this order
pub well_formed_number : (s m : List ℕ) → Formed s m
    → take_number s m ≡ cond (padded m (header_of m) (place_in s m) (blocks_of s)) (anchored s m (place_in s m)) wrong_padding
unfolding take_number body_number
well_formed_number s m w =
    rw (eq-eqb (header_number (is_hashes m) s m) 0 w.header) (rw (eq-eqb (length m) (message_size (header_of m)) w.size))

-- taken exactly when it is right
pub taken_then_right : (s m : List ℕ) → Formed s m → take_number s m ≡ 0 → Right s m
taken_then_right s m w e =
    let t = ((exactly_of (take_chain s m) 0 (take_tests s m) refl).0 e).1.1.1.1.1 in
    record { padding = t.0; held = t.1.0; chains = same_true _ _ t.1.1.0; agree = t.1.1.1.0 }

-- and one that is right is taken
pub right_then_taken : (s m : List ℕ) → Formed s m → Right s m → take_number s m ≡ 0
unfolding anchored
right_then_taken s m w r =
    well_formed_number s m w ∙ rw (r.padding, r.held, same_eq (hash_at s (anchor (place_in s m))) (worked m (place_in s m)) r.chains, r.agree)

-- 5: some given padding is wrong
pub wrong_padding_then_5 : (s m : List ℕ) → Formed s m → padded m (header_of m) (place_in s m) (blocks_of s) ≡ false → take_number s m ≡ wrong_padding
wrong_padding_then_5 s m w p = well_formed_number s m w ∙ rw p

-- 6: padding right, anchor not held
pub no_anchor_then_6 : (s m : List ℕ) → Formed s m → padded m (header_of m) (place_in s m) (blocks_of s) ≡ true
    → held_at s (anchor (place_in s m)) ≡ false → take_number s m ≡ no_anchor
unfolding anchored
no_anchor_then_6 s m w p h = well_formed_number s m w ∙ rw (p, h)

-- 7: padding right, anchor held with another value than the hashes chain to
pub other_anchor_then_7 : (s m : List ℕ) → Formed s m → padded m (header_of m) (place_in s m) (blocks_of s) ≡ true
    → held_at s (anchor (place_in s m)) ≡ true → (hash_at s (anchor (place_in s m)) ≡ worked m (place_in s m) → ⊥) → take_number s m ≡ differs
unfolding anchored
other_anchor_then_7 s m w p h d =
    well_formed_number s m w ∙ rw (p, h, same_ne (hash_at s (anchor (place_in s m))) (worked m (place_in s m)) d)

-- 8: all that is right, and a held hash differs
pub held_differs_then_8 : (s m : List ℕ) → Formed s m → padded m (header_of m) (place_in s m) (blocks_of s) ≡ true
    → held_at s (anchor (place_in s m)) ≡ true → hash_at s (anchor (place_in s m)) ≡ worked m (place_in s m) → agrees s (settled m (place_in s m)) ≡ false
    → take_number s m ≡ conflict
unfolding anchored
held_differs_then_8 s m w p h c a =
    well_formed_number s m w ∙ rw (p, h, same_eq (hash_at s (anchor (place_in s m))) (worked m (place_in s m)) c, a)

-- a message that is taken is well-formed: its header and its size are right
pub taken_well_formed : (s m : List ℕ) → take_number s m ≡ 0 → Formed s m
taken_well_formed s m e =
    let t = (exactly_of (take_chain s m) 0 (take_tests s m) refl).0 e in
    record {
      header = passes (is_hashes m) s m (record { store = t.0; formed = t.1.0; root = t.1.1.0; rules = t.1.1.1.0 });
      size = eqb-true (length m) (message_size (header_of m)) t.1.1.1.1.0;
    }
