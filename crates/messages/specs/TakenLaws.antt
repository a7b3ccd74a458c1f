-- A message that is taken: what it is sure of, what it leaves; and one that is refused.
-- Assumes nothing.
use Rattle.std.specs.Prelude.{◌≡◌, refl, Bool, true, false, cond, List, ℕ, ◌+◌, ◌*◌, ◌^◌, length, eqb}
use Rattle.std.proofs.Common.{ap, sym, ◌∙◌, arith, eq-eqb, ne_eqb, eqb-true}
use Rattle.std.proofs.Math.Decide.{ℕ_discrete}
use Rattle.octets.specs.Octets.{zero_hash}
use Rattle.octets.specs.OctetsLaws.{cut_length, zero_octets}
use Rattle.numbers.specs.Numbers.{refused, done, wrong_size, wrong_padding}
use Rattle.tree.specs.Values.{node}
use Rattle.cells.specs.Entries.{put_all, fresh}
use Rattle.cells.specs.EntriesLaws.{Sound, FromRoot, from_root_in, newly_none, count_fresh}
use Rattle.store.specs.Store.{blocks_of, height_of, positions}
use Rattle.store.specs.StoreLaws.{usable_facts, positions_even}
use Rattle.settling.specs.Subtree.{run_leaf}
use Rattle.settling.specs.SubtreeLaws.{run_leaf_length}
use Rattle.settling.specs.SettledLaws.{settled_sound, settled_positive}
use Rattle.header.specs.declared.Header.{Header}
use Rattle.header.specs.declared.Place.{Place}
use Rattle.header.specs.Header.{header_size, header_of, is_hashes, message_size}
use Rattle.messages.specs.Take.{header_number, run_of, uncles_of, given, settled, padded, anchored, body_number, place_in, or_else, take_number, take_after, take_answer}
use Rattle.messages.specs.Asks.{RulesPassed, Carried, Ready}
use Rattle.messages.specs.TakeLaws.{passed, placed, placed_ready}

pub uncles_length : (m : List ℕ) (x : Header) (p : Place) → Carried (length m) x p → length (uncles_of m x.len p.u) ≡ 32 * p.u
unfolding uncles_of
uncles_length m x p c = cut_length m (header_size + 32 * x.len) (32 * p.u) (omega (arith, c.carries))

-- what a message settles are hashes, at positions of the tree
pub ready_settled : (ls : ℕ) (m : List ℕ) (h : ℕ) (x : Header) (p : Place) → Ready ls (length m) h x p → Sound (positions h) (settled m p)
unfolding settled given
ready_settled ls m h x p r =
    let q = r.carried.power in
    let l : length (uncles_of m (2 ^ p.k) p.u) ≡ 32 * p.u = ap (λ (y : ℕ). length (uncles_of m y p.u)) q ∙ uncles_length m x p r.carried in
    settled_sound (run_leaf (run_of m (2 ^ p.k)) zero_hash) (run_leaf_length (run_of m (2 ^ p.k)) zero_hash zero_octets.size)
    (uncles_of m (2 ^ p.k) p.u) (positions h) p.k p.top 0 0 p.u (node (run_leaf (run_of m (2 ^ p.k)) zero_hash) p.k 0) r.top (omega arith) (positions_even h)

-- at positions from the root's on
pub ready_from_root : (ls : ℕ) (m : List ℕ) (h : ℕ) (x : Header) (p : Place) → Ready ls (length m) h x p → FromRoot (settled m p)
unfolding settled
ready_from_root ls m h x p r =
    from_root_in _
    (λ e i.
    settled_positive (given m p.k) (uncles_of m (2 ^ p.k) p.u) p.k p.top 0 0 p.u (node (given m p.k) p.k 0) r.anchor e i)

-- ---- a number of 0, and the whole call

pub zero_or : (n a : ℕ) → or_else n a ≡ 0 → n ≡ 0
zero_or n a e = elim (ℕ_discrete n 0) [ yes z ↦ z | no ne ↦ rw (ne_eqb n 0 ne) at e ]

pub taken_passed : (s m : List ℕ) (r : ℕ) → r ≡ take_number s m → r ≡ 0 → RulesPassed (is_hashes m) s m
unfolding take_number
taken_passed s m r e z = passed (is_hashes m) s m (zero_or (header_number (is_hashes m) s m) (body_number s m (header_of m) (place_in s m)) (sym e ∙ z))

pub body_zero : (n a : ℕ) → or_else n a ≡ 0 → a ≡ 0
body_zero n a e = rw (eq-eqb n 0 (zero_or n a e)) at e

sized : (t u : Bool) (a : ℕ) → cond t (cond u a wrong_padding) wrong_size ≡ 0 → t ≡ true
sized true u a e = refl
sized false u a e = let w : ⊥ = omega arith in absurd w

body_sized : (s m : List ℕ) (x : Header) (p : Place) → body_number s m x p ≡ 0 → length m ≡ message_size x
unfolding body_number
body_sized s m x p e =
    eqb-true (length m) (message_size x) (sized (eqb (length m) (message_size x)) (padded m x p (blocks_of s)) (anchored s m p) e)

pub taken_size : (s m : List ℕ) (r : ℕ) → r ≡ take_number s m → r ≡ 0 → length m ≡ message_size (header_of m)
unfolding take_number
taken_size s m r e z =
    body_sized s m (header_of m) (place_in s m) (body_zero (header_number (is_hashes m) s m) (body_number s m (header_of m) (place_in s m)) (sym e ∙ z))

pub taken_ready : (s m : List ℕ) (r : ℕ) → r ≡ take_number s m → r ≡ 0 → Ready (length s) (length m) (height_of s) (header_of m) (place_in s m)
taken_ready s m r e z =
    let P = taken_passed s m r e z in
    let q = placed (is_hashes m) s m P in
    placed_ready (length s) (length m) q (usable_facts s P.store).room (omega (arith, taken_size s m r e z, q.size))

pub take_refused : (s m : List ℕ) (r : ℕ) → r ≡ take_number s m → (r ≡ 0 → ⊥) → (refused r ≡ take_answer s m) × (s ≡ take_after s m)
unfolding take_answer take_after
take_refused s m r e ne =
    let z : eqb (take_number s m) 0 ≡ false = ne_eqb (take_number s m) 0 (λ y. ne (e ∙ y)) in
    rw z (cc (newly_none (positions (height_of s)) s), refl)

pub take_done : (s m s' : List ℕ) (r c : ℕ) (p : Place) → r ≡ take_number s m → r ≡ 0 → p ≡ place_in s m → c ≡ fresh s (settled m p) → s' ≡ put_all s (settled m p)
    → (done c ≡ take_answer s m) × (s' ≡ take_after s m)
unfolding take_answer take_after
take_done s m s' r c p e z ep ec es =
    let t : take_number s m ≡ 0 = sym e ∙ z in
    let R = taken_ready s m r e z in
    let n = positions (height_of s) in
    let k = count_fresh (positions (height_of s)) (settled m (place_in s m)) s R.room (ready_settled (length s) m (height_of s) (header_of m) (place_in s m) R)
    (ready_from_root (length s) m (height_of s) (header_of m) (place_in s m) R) in
    rw (eq-eqb (take_number s m) 0 t) (cc, cc)
