-- The functions below the entry points, each by one law over plain variables.
-- Assumes nothing.
use Rattle.std.specs.Prelude.{◌≡◌, refl, Bool, true, false, ◌&&◌, List, ◌++◌, ℕ, ◌+◌, ◌-◌, ◌*◌, ◌/◌, ◌^◌, ◌≤◌, ◌<◌, length, take, drop, eqb}
use Rattle.std.proofs.Common.{ap, ap₂, sym, ◌∙◌, arith, eq-eqb, ne_eqb}
use Rattle.std.proofs.Math.Decide.{ℕ_discrete}
use Rattle.octets.specs.Octets.{cut, same, zero_hash}
use Rattle.numbers.specs.Numbers.{refused, done, wrong_size, wrong_padding, no_anchor, judged}
use Rattle.numbers.specs.declared.Answer.{Answer}
use Rattle.tree.specs.Values.{node}
use Rattle.cells.specs.Cells.{held_at, hash_at}
use Rattle.cells.specs.Entries.{Entry, agrees, put_all, fresh}
use Rattle.cells.specs.EntriesLaws.{agree_append, put_append, fresh_append}
use Rattle.store.specs.Store.{blocks_of, positions}
use Rattle.store.specs.StoreLaws.{positions_even, positions_most}
use Rattle.settling.specs.Span.{Fit, Way}
use Rattle.settling.specs.Subtree.{subtree, run_leaf, Heaped}
use Rattle.settling.specs.SubtreeLaws.{within_self, fit_below, subtree_small}
use Rattle.settling.specs.Path.{ancestor, risen, path}
use Rattle.settling.specs.PathLaws.{path_small}
use Rattle.settling.specs.AncestorLaws.{ancestor_le}
use Rattle.header.specs.declared.Header.{Header}
use Rattle.header.specs.declared.Place.{Place}
use Rattle.header.specs.Header.{header_size, header_of, is_hashes, message_size}
use Rattle.messages.specs.Padded.{run_padded, uncles_padded}
use Rattle.messages.specs.Take.{header_number, run_of, uncles_of, given, settled, anchor, worked, padded, anchored, body_number, place_in, take_number, take_after, take_answer}
use Rattle.messages.specs.Asks.{Placed, Ready, compared, answer_to, left_by}
use Rattle.messages.specs.TakenLaws.{uncles_length, take_refused, take_done}

-- ---- the message's parts

pub run_part : (m : List ℕ) (len e : ℕ) → e ≡ header_size + 32 * len → take (e - header_size) (drop header_size m) ≡ run_of m len
unfolding run_of cut
run_part m len e q = let w : e - header_size ≡ 32 * len = omega arith in rw w

pub uncles_part : (m : List ℕ) (len u e f : ℕ) → e ≡ header_size + 32 * len → f ≡ e + 32 * u → take (f - e) (drop e m) ≡ uncles_of m len u
unfolding uncles_of cut
uncles_part m len u e f q w = let z : f - e ≡ 32 * u = omega arith in rw (z, q)

pub quotient_small : (i d : ℕ) → i < 2 ^ 32 → i / d < 2 ^ 63
quotient_small i d h = omega (arith, native.Mathlib.Nat.div-le_self i d)

-- ---- number 5

module _ (m : List ℕ) (x : Header) (p : Place) (b : ℕ) (run : List ℕ) (t : Bool) (er : run ≡ run_of m x.len) (et : t ≡ run_padded run b x.base x.index x.len) where
  pub padded_no : t ≡ false → false ≡ padded m x p b
  unfolding padded
  padded_no f = let w : run_padded (run_of m x.len) b x.base x.index x.len ≡ false = cc in sym (rw w)

  pub padded_yes : (hashes : List ℕ) (r : Bool) → t ≡ true → hashes ≡ uncles_of m x.len p.u
      → r ≡ uncles_padded hashes b 0 p.u (x.base + p.k) (x.index / x.len) → r ≡ padded m x p b
  unfolding padded
  padded_yes hashes r f eh g =
      let w : run_padded (run_of m x.len) b x.base x.index x.len ≡ true = cc in
      g ∙ ap (λ (h : List ℕ). uncles_padded h b 0 p.u (x.base + p.k) (x.index / x.len)) eh ∙ sym (rw w)

-- ---- looking and writing

module _ (m : List ℕ) (x : Header) (p : Place) (power : 2 ^ p.k ≡ x.len) (run past hashes : List ℕ) (er : run ≡ run_of m x.len) (ep : past ≡ zero_hash) (eh : hashes ≡ uncles_of m x.len p.u) where
  leaf_is : given m p.k ≡ run_leaf run past
  unfolding given
  leaf_is = cc

  uncles_are : uncles_of m (2 ^ p.k) p.u ≡ hashes
  uncles_are = cc

  -- the run's heap in the room is the message's
  pub heaped_given : (room : List ℕ) → Heaped (run_leaf run past) p.k 0 room → Heaped (given m p.k) p.k 0 room
  heaped_given room h = rw leaf_is h

  pub heaped_run : (room : List ℕ) → Heaped (given m p.k) p.k 0 room → Heaped (run_leaf run past) p.k 0 room
  heaped_run room h = rw leaf_is at h

  pub compared_by : (s v : List ℕ) (o1 : Bool) (w : List ℕ) (o2 : Bool) (a : ℕ) (g : List ℕ) (alike all : Bool) (r : ℕ)
      → (v ≡ node (run_leaf run past) p.k 0) × (o1 ≡ agrees s (subtree (run_leaf run past) p.k p.top 0))
      → (w ≡ risen hashes 0 p.u p.top v) × (o2 ≡ agrees s (path hashes 0 p.u p.top v))
      → g ≡ hash_at s a → alike ≡ same g w → all ≡ (o1 && o2) → r ≡ judged true alike all
      → r ≡ compared s m p a
  unfolding worked settled
  compared_by s v o1 w o2 a g alike all r L H e2 e3 e4 e5 =
      let A = subtree (given m p.k) p.k p.top 0 in
      let B = path (uncles_of m (2 ^ p.k) p.u) 0 p.u p.top (node (given m p.k) p.k 0) in
      let l = leaf_is in
      let u = uncles_are in
      let ag : all ≡ agrees s (A ++ B) = cc (agree_append s A B) in
      cc

  pub wrote_by : (s v : List ℕ) (c1 : ℕ) (s1 : List ℕ) (c2 : ℕ) (s2 : List ℕ)
      → v ≡ node (run_leaf run past) p.k 0 → c1 ≡ fresh s (subtree (run_leaf run past) p.k p.top 0) → s1 ≡ put_all s (subtree (run_leaf run past) p.k p.top 0)
      → c2 ≡ fresh s1 (path hashes 0 p.u p.top v) → s2 ≡ put_all s1 (path hashes 0 p.u p.top v)
      → (c1 + c2 ≡ fresh s (settled m p)) × (s2 ≡ put_all s (settled m p))
  unfolding settled
  wrote_by s v c1 s1 c2 s2 ev e1 f1 e2 f2 =
      let A = subtree (given m p.k) p.k p.top 0 in
      let B = path (uncles_of m (2 ^ p.k) p.u) 0 p.u p.top (node (given m p.k) p.k 0) in
      let l = leaf_is in
      let u = uncles_are in
      (cc (fresh_append s A B), cc (put_append s A B))

-- ---- the answer to a number

module _ (n : ℕ) (s : List ℕ) (es : List Entry) where
  pub answer_refused : (r : ℕ) → r ≡ n → (r ≡ 0 → ⊥) → (refused r ≡ answer_to n s es) × (s ≡ left_by n s es)
  unfolding answer_to left_by
  answer_refused r e ne = let z : eqb n 0 ≡ false = ne_eqb n 0 (λ y. ne (e ∙ y)) in rw z (ap refused e, refl)

  pub answer_done : (r c : ℕ) (s' : List ℕ) → r ≡ n → r ≡ 0 → (c ≡ fresh s es) × (s' ≡ put_all s es)
      → (done c ≡ answer_to n s es) × (s' ≡ left_by n s es)
  unfolding answer_to left_by
  answer_done r c s' e z w = rw (eq-eqb n 0 (sym e ∙ z)) (ap done w.0, w.1)

  -- the same number under another name
  pub answer_same : (r : ℕ) (a : Answer) (s' : List ℕ) → r ≡ n → (a ≡ answer_to r s es) × (s' ≡ left_by r s es)
      → (a ≡ answer_to n s es) × (s' ≡ left_by n s es)
  answer_same r a s' e w = rw e at w

-- the anchor is looked at first
module _ (s m : List ℕ) (p : Place) (a : ℕ) (ea : a ≡ ancestor p.u p.top) (t : Bool) (et : t ≡ held_at s a) where
  here : held_at s (anchor p) ≡ t
  unfolding anchor
  here = ap (held_at s) (sym ea) ∙ sym et

  pub anchor_lacks : t ≡ false → no_anchor ≡ anchored s m p
  unfolding anchored
  anchor_lacks f = sym (rw (here, f))

  pub anchor_there : (r : ℕ) → t ≡ true → r ≡ compared s m p a → r ≡ anchored s m p
  unfolding anchored anchor
  anchor_there r f e = e ∙ sym (rw (← ea, ← et, f))

module _ (ls : ℕ) (m : List ℕ) {h : ℕ} (x : Header) (p : Place) (r : Ready ls (length m) h x p) where
  pub ready_fit : Fit ls p.k p.top 0
  ready_fit = fit_below _ r.room r.top (omega arith)

  pub ready_way : (ls' : ℕ) → ls' ≡ ls → (hashes : List ℕ) → hashes ≡ uncles_of m x.len p.u → Way ls' (length hashes) 0 p.u p.top
  ready_way ls' e hashes f =
      let l : length hashes ≡ 32 * p.u = ap length f ∙ uncles_length m x p r.carried in
      record { room = omega (arith, r.room, within_self (positions h) p.k p.top r.top, positions_even h); uncles = omega arith }

  pub ready_anchor : (a : ℕ) → a ≡ ancestor p.u p.top → 31 + 33 * (a + 1) ≤ ls
  ready_anchor a e = omega (arith, r.room, ancestor_le p.u p.top, within_self (positions h) p.k p.top r.top)

  pub ready_sum : (s s1 run past hashes v : List ℕ) (c1 c2 : ℕ) → c1 ≡ fresh s (subtree (run_leaf run past) p.k p.top 0) → c2 ≡ fresh s1 (path hashes 0 p.u p.top v)
      → c1 + c2 < 2 ^ 64
  ready_sum s s1 run past hashes v c1 c2 e f =
      omega (
        arith,
        subtree_small s (run_leaf run past) (positions h) p.k p.top 0 r.top,
        path_small s1 hashes 0 p.u p.top v,
        positions_most h r.low,
        r.carried.layers,
      )

-- ---- the numbers

module _ (s m : List ℕ) (x : Header) (p : Place) {h : ℕ} (q : Placed h x p) where
  pub body_4 : (length m ≡ header_size + 32 * (x.len + p.u) → ⊥) → wrong_size ≡ body_number s m x p
  unfolding body_number
  body_4 ne = sym (rw (ne_eqb (length m) (message_size x) (λ e. ne (e ∙ q.size))))

  module _ (e : length m ≡ header_size + 32 * (x.len + p.u)) (b : ℕ) (eb : b ≡ blocks_of s) (t : Bool) (et : t ≡ padded m x p b) where
    pads : t ≡ padded m x p (blocks_of s)
    pads = et ∙ ap (padded m x p) eb

    pub body_5 : t ≡ false → wrong_padding ≡ body_number s m x p
    unfolding body_number
    body_5 f = sym (rw (eq-eqb (length m) (message_size x) (e ∙ sym q.size), ← pads, f))

    pub body_judged : (r : ℕ) → t ≡ true → r ≡ anchored s m p → r ≡ body_number s m x p
    unfolding body_number
    body_judged r f g = g ∙ sym (rw (eq-eqb (length m) (message_size x) (e ∙ sym q.size), ← pads, f))

module _ (s m : List ℕ) (form : Bool) (h : ℕ) (ef : form ≡ is_hashes m) (eh : h ≡ header_number form s m) where
  pub took_header : (h ≡ 0 → ⊥) → h ≡ take_number s m
  unfolding take_number
  took_header ne =
      let w : h ≡ header_number (is_hashes m) s m = cc in
      let z : eqb (header_number (is_hashes m) s m) 0 ≡ false = ne_eqb (header_number (is_hashes m) s m) 0 (λ y. ne (w ∙ y)) in
      w ∙ sym (rw z)

  pub took_body : (r : ℕ) (x : Header) (p : Place) → h ≡ 0 → x ≡ header_of m → p ≡ place_in s m → r ≡ body_number s m x p → r ≡ take_number s m
  unfolding take_number
  took_body r x p z ex ep er =
      let w : header_number (is_hashes m) s m ≡ 0 = cc in
      er ∙ ap₂ (λ (y : Header) (q : Place). body_number s m y q) ex ep ∙ sym (rw (eq-eqb (header_number (is_hashes m) s m) 0 w))

-- the answer to the call's number is the call's answer
pub took : (s m s' : List ℕ) (r : ℕ) (a : Answer) (p : Place) → r ≡ take_number s m → p ≡ place_in s m
    → (a ≡ answer_to r s (settled m p)) × (s' ≡ left_by r s (settled m p)) → (a ≡ take_answer s m) × (s' ≡ take_after s m)
took s m s' r a p e ep w = elim (ℕ_discrete r 0) [ yes z ↦ on z | no ne ↦ stop ne ]
  where
    on : r ≡ 0 → (a ≡ take_answer s m) × (s' ≡ take_after s m)
    on z =
        let q = answer_done r s (settled m p) r (fresh s (settled m p)) (put_all s (settled m p)) refl z (refl, refl) in
        let d = take_done s m s' r (fresh s (settled m p)) p e z ep refl (w.1 ∙ sym q.1) in
        (w.0 ∙ sym q.0 ∙ d.0, d.1)

    stop : (r ≡ 0 → ⊥) → (a ≡ take_answer s m) × (s' ≡ take_after s m)
    stop ne =
        let q = answer_refused r s (settled m p) r refl ne in
        let d = take_refused s m r e ne in
        (w.0 ∙ sym q.0 ∙ d.0, w.1 ∙ sym q.1 ∙ d.1)

-- ---- a && b, as it is worked out

pub both_on : (a b r : Bool) → a ≡ true → r ≡ b → r ≡ (a && b)
both_on a b r e q = q ∙ sym (rw e)

pub both_off : (a b r : Bool) → a ≡ false → r ≡ a → r ≡ (a && b)
both_off a b r e q = q ∙ e ∙ sym (rw e)
