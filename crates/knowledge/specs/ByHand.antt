-- What the cases worked by hand rest on (01; the table is promises/specs/Worked).
-- Assumes nothing.
use Rattle.std.specs.Prelude.{◌≡◌, refl, Bool, true, false, ◌&&◌, List, ℕ, ◌+◌, ◌%◌, ◌≤◌, ◌<◌, length, eqb, leb}
use Rattle.std.proofs.Common.{ap, ap₂, ◌∙◌, inl, inr, arith, lit<, lit≤, le-ltb}
use Rattle.octets.specs.Octets.{same}
use Rattle.numbers.specs.Numbers.{rule_broken}
use Rattle.tree.specs.Geometry.{node_number, ceil_div, block_count, height_from, height}
use Rattle.cells.specs.Cells.{held_at}
use Rattle.cells.specs.Entries.{lacks}
use Rattle.store.specs.Store.{usable, file_length, facts_root, blocks_of, height_of, positions, facts_in_range, store_size, opened}
use Rattle.store.specs.StoreLaws.{opened_height, opened_held}
use Rattle.settling.specs.Subtree.{subtree}
use Rattle.settling.specs.Path.{sibling, path}
use Rattle.header.specs.declared.Header.{Header}
use Rattle.header.specs.declared.Place.{Place}
use Rattle.header.specs.Header.{header_of, message_root, is_hashes, is_request, is_reject, length_rule, index_rule, rules_kept, place_of}
use Rattle.messages.specs.Take.{header_number, settled, place_in, take_number, take_answer, reject_answer}
use Rattle.serve.specs.Serve.{request_number}
use Rattle.knowledge.specs.TakenEntries.{lacking, count_lacking}
use Rattle.words.specs.Messages.{Refused3}
use Rattle.knowledge.specs.ServedWhen.{serve_rejects}

-- ---- (0,0,2,2) on a fresh store of five blocks

abbrev first_pair : Header
first_pair = record { base = 0; index = 0; len = 2; proof = 2 }

abbrev first_pair_place : Place
first_pair_place = record { k = 1; u = 2; top = 4 }

place_is : place_of first_pair 3 ≡ first_pair_place
unfolding place_of node_number height_from height
place_is = refl

pub three_high : height (block_count 81920) ≡ 3
unfolding ceil_div block_count height_from height
three_high = refl

seven : (s m : List ℕ)
    → lacking s (settled m first_pair_place) ≡ lacks s 8 + (lacks s 9 + (lacks s 4 + (lacks s 5 + (lacks s 2 + (lacks s 3 + (lacks s 1 + 0))))))
unfolding settled subtree path sibling lacking
seven s m = refl

-- (0,0,2,2), taken on a fresh store: 6 new
pub six_new : (b : List ℕ) (plen : ℕ) (root m : List ℕ) → facts_in_range 81920 plen ≡ true → store_size 81920 ≤ length b → length root ≡ 32
    → header_of m ≡ record { base = 0; index = 0; len = 2; proof = 2 } → take_number (opened b 81920 plen root) m ≡ 0
    → (take_answer (opened b 81920 plen root) m).count ≡ 6
unfolding lacks positions
six_new b plen root m ok fits size h z =
    let s = opened b 81920 plen root in
    let e : height_of s ≡ 3 = opened_height b 81920 plen root ok fits size ∙ three_high in
    let p : place_in s m ≡ first_pair_place = ap₂ (λ (x : Header) (y : ℕ). place_of x y) h e ∙ place_is in
    let held : (q : ℕ) → 1 ≤ q → q < 16 → held_at s q ≡ eqb q 1 = λ q l g. opened_held b 81920 plen root ok fits size q l (rw three_high g) in
    count_lacking s m z ∙ ap (λ (x : Place). lacking s (settled m x)) p ∙ seven s m
    ∙ rw (
      held 8 (lit≤ tt) (lit< tt),
      held 9 (lit≤ tt) (lit< tt),
      held 4 (lit≤ tt) (lit< tt),
      held 5 (lit≤ tt) (lit< tt),
      held 2 (lit≤ tt) (lit< tt),
      held 3 (lit≤ tt) (lit< tt),
      held 1 (lit≤ tt) (lit< tt),
    )

-- ---- refused 3

-- a rule that fails, in a usable store with the message's root, is 3
broken : (form : Bool) (s m : List ℕ) → usable s ≡ true → form ≡ true → same (facts_root s) (message_root m) ≡ true
    → rules_kept (header_of m) (height_of s) ≡ false → header_number form s m ≡ rule_broken
unfolding header_number
broken form s m u f r k = rw (u, f, r, k)

-- so in whichever of the three forms it comes
pub broken_3 : (s m : List ℕ) → usable s ≡ true → same (facts_root s) (message_root m) ≡ true → rules_kept (header_of m) (height_of s) ≡ false → Refused3 s m
broken_3 s m u r k =
    record {
      hashes = λ f. unfold take_answer take_number in rw (broken (is_hashes m) s m u f r k);
      request = λ out f l. (serve_rejects s m out rule_broken (inr (inl refl))).1 (unfold request_number in rw (broken (is_request m) s m u f r k), l);
      reject = λ f. unfold reject_answer in broken (is_reject m) s m u f r k;
    }

-- a rule that fails in a tree of height 3, in a store of N=81920
pub of_five : (s m : List ℕ) (x : Header) → file_length s ≡ 81920 → header_of m ≡ x → rules_kept x 3 ≡ false → rules_kept (header_of m) (height_of s) ≡ false
unfolding height_of blocks_of ceil_div block_count height_from height
of_five s m x n e k = rw (n, e) k

-- no header keeps the rules of a tree of height 0
pub no_rule_at_height_0 : (x : Header) → rules_kept x 0 ≡ false
unfolding rules_kept
no_rule_at_height_0 x =
    rw (le-ltb (x.base + x.proof) 0 (omega arith))
    (last (length_rule x.len && eqb (x.index % x.len) 0 && leb (x.base + height x.len) 0) (index_rule x 0))
  where
    last : (a c : Bool) → (a && false && c) ≡ false
    last true c = refl
    last false c = refl
