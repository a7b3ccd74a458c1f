-- Demand 3: a held hash stays held, and the number that a reply gets stays the same at every later offer.
-- Assumes nothing.
use Rattle.std.specs.Prelude.{◌≡◌, Bool, false, cond, ℕ, zero, ◌^◌, ◌<◌, length, eqb, List}
use Rattle.std.proofs.Math.Path.{refl, ap}
use Rattle.std.proofs.Common.{ap₂, sym, ◌∙◌, arith, eq-eqb, ne_eqb}
use Rattle.std.proofs.lemmas.Bool.{false≢true}
use Rattle.std.proofs.Math.Bool.{true}
use Rattle.std.proofs.Math.Decide.{ℕ_discrete}
use Rattle.octets.specs.Octets.{same}
use Rattle.octets.specs.OctetsLaws.{same_true, same_eq}
use Rattle.numbers.specs.Numbers.{wrong_size, wrong_padding, no_anchor, refused}
use Rattle.numbers.specs.Chain.{exactly_of}
use Rattle.tree.specs.Geometry.{node_number}
use Rattle.tree.specs.Values.{node}
use Rattle.cells.specs.Cells.{held_at, hash_at}
use Rattle.cells.specs.Entries.{Entry, agrees_at, agrees, put_all}
use Rattle.cells.specs.EntriesLaws.{Sound, In, sound_in, agrees_held, agrees_free, agrees_in, in_agrees, entries_held}
use Rattle.store.specs.Store.{usable, blocks_of, height_of, positions, in_tree, held_answer, Facts}
use Rattle.store.specs.StoreLaws.{usable_facts, facts_usable, tree_number_lem, held_unusable, held_outside, held_not, held_given}
use Rattle.settling.specs.AncestorLaws.{ancestor_le}
use Rattle.settling.specs.SubtreeLaws.{within_self}
use Rattle.settling.specs.SettledLaws.{settled_consistent}
use Rattle.header.specs.Header.{header_of, is_hashes, is_reject, place_of, message_size}
use Rattle.header.specs.declared.Place.{Place}
use Rattle.messages.specs.Take.{header_number, uncles_of, given, settled, anchor, worked, padded, anchored, body_number, place_in, or_else, take_number, take_after, reject_answer}
use Rattle.pieces.specs.Pieces.{layer_number}
use Rattle.pieces.proofs.PiecesLaws.{layer_refused}
use Rattle.messages.specs.Asks.{RulesPassed, Placed, Ready}
use Rattle.messages.specs.TakeLaws.{passed, placed, placed_ready}
use Rattle.messages.specs.TakenLaws.{ready_settled, taken_ready}
use Rattle.words.specs.Held.{Holds}
use Rattle.words.specs.History.{Steps}
use Rattle.knowledge.specs.Through.{Preserved, through}
use Rattle.numbers.specs.Tests.{not_both}
use Rattle.knowledge.specs.NumberChains.{take_chain, take_tests}
use Rattle.knowledge.specs.TakenWhen.{taken_well_formed}
use Rattle.knowledge.specs.Grows.{Grown, grown_take, grown_on, steps_grow}

-- ---- a held hash stays held with the same bytes

-- what kd_held answers 0 for is a position of the tree whose cell is held with that hash
pub what_is_held : (s : List ℕ) (l i : ℕ) (v : List ℕ) → Facts s → Holds s l i v
    → (in_tree (height_of s) l i ≡ true) × (held_at s (node_number (height_of s) l i) ≡ true) × (hash_at s (node_number (height_of s) l i) ≡ v)
what_is_held s l i v f h = by_place (in_tree (height_of s) l i) refl
  where
    u : usable s ≡ true
    u = facts_usable s f

    by_mark : in_tree (height_of s) l i ≡ true → (b : Bool) → held_at s (node_number (height_of s) l i) ≡ b
        → (in_tree (height_of s) l i ≡ true) × (held_at s (node_number (height_of s) l i) ≡ true) × (hash_at s (node_number (height_of s) l i) ≡ v)
    by_mark t true m =
        let g = held_given s l i u t m in
        (t, m, ap (λ (r : Rattle.sha256.specs.declared.Hashed.Hashed). r.hash) g ∙ h.hash)
    by_mark t false m =
        let g = ap (λ (r : Rattle.sha256.specs.declared.Hashed.Hashed). r.number) (held_not s l i u t m) in
        let w : ⊥ = omega (arith, h.given) in
        absurd w

    by_place : (b : Bool) → in_tree (height_of s) l i ≡ b
        → (in_tree (height_of s) l i ≡ true) × (held_at s (node_number (height_of s) l i) ≡ true) × (hash_at s (node_number (height_of s) l i) ≡ v)
    by_place true t = by_mark t (held_at s (node_number (height_of s) l i)) refl
    by_place false t =
        let g = ap (λ (r : Rattle.sha256.specs.declared.Hashed.Hashed). r.number) (held_outside s l i u t) in
        let w : ⊥ = omega (arith, h.given) in
        absurd w

-- from a store to one that holds at least as much, what is held stays held
pub grown_holds : (s t : List ℕ) → Facts s → Grown s t → (l i : ℕ) (v : List ℕ) → Holds s l i v → Holds t l i v
grown_holds s t f g l i v h =
    let w = what_is_held s l i v f h in
    let k = g.kept (node_number (height_of s) l i) (tree_number_lem (height_of s) l i w.0).1 w.1 in
    let e = g.same.layers in
    let a : record { number = 0; hash = hash_at t (node_number (height_of t) l i) } ≡ held_answer t l i =
    held_given t l i (facts_usable t g.facts) (rw e w.0) (rw e k.0) in
    record {
      given = sym (ap (λ (r : Rattle.sha256.specs.declared.Hashed.Hashed). r.number) a);
      hash = sym (ap (λ (r : Rattle.sha256.specs.declared.Hashed.Hashed). r.hash) a) ∙ ap (λ (h : ℕ). hash_at t (node_number h l i)) e ∙ k.1 ∙ w.2;
    }

-- what kd_held answers 0 for is asked of a usable store
pub held_usable : (s : List ℕ) (l i : ℕ) → (held_answer s l i).number ≡ 0 → usable s ≡ true
held_usable s l i z = by (usable s) refl
  where
    by : (b : Bool) → usable s ≡ b → usable s ≡ true
    by true e = e
    by false e =
        let g = ap (λ (r : Rattle.sha256.specs.declared.Hashed.Hashed). r.number) (held_unusable s l i e) in
        let w : ⊥ = omega arith in
        absurd w

-- KNOWLEDGE ONLY GROWS: through any messages and layer loads, a held hash stays held with the same bytes
pub knowledge_only_grows : {s t : List ℕ} → Steps s t → (l i : ℕ) (v : List ℕ) → Holds s l i v → Holds t l i v
knowledge_only_grows {s} {t} h l i v k =
    let f = usable_facts s (held_usable s l i k.given) in
    grown_holds s t f (steps_grow f h) l i v k

-- ---- a reply's number stays

module _ (s t m : List ℕ) (f : Facts s) (g : Grown s t) where
  same_place : place_in t m ≡ place_in s m
  same_place = ap (place_of (header_of m)) g.same.layers

  -- with more held, 9, 1, 2 and 3 come out as they did
  pub same_header : (form : Bool) → header_number form t m ≡ header_number form s m
  unfolding header_number
  same_header form = rw (facts_usable t g.facts, facts_usable s f, g.same.root, g.same.layers)

  same_padding : padded m (header_of m) (place_in t m) (blocks_of t) ≡ padded m (header_of m) (place_in s m) (blocks_of s)
  same_padding = ap₂ (λ (p : Place) (b : ℕ). padded m (header_of m) p b) same_place g.same.blocks

-- what t agrees with, s agreed with
less_agrees : (s t : List ℕ) (L : List Entry) → Grown s t → Sound (positions (height_of s)) L → agrees t L ≡ true → agrees s L ≡ true
less_agrees s t L g S a =
    in_agrees s L
    (λ e i.
    let n = sound_in L S i in
    by e n.0 (agrees_in t L a e i) (held_at s e.at) refl)
  where
    by : (e : Entry) → e.at < positions (height_of s) → agrees_at t e.at e.hash ≡ true → (b : Bool) → held_at s e.at ≡ b → agrees_at s e.at e.hash ≡ true
    by e l o false h = agrees_free s e.at e.hash h
    by e l o true h =
        let k = g.kept e.at l h in
        let w = same_true (hash_at t e.at) e.hash (sym (agrees_held t e.at e.hash k.0) ∙ o) in
        agrees_held s e.at e.hash h ∙ same_eq (hash_at s e.at) e.hash (sym k.1 ∙ w)

-- what is held with an entry's hash agrees with it
pub held_agrees : (t : List ℕ) (L : List Entry) → ((e : Entry) → In e L → (held_at t e.at ≡ true) × (hash_at t e.at ≡ e.hash)) → agrees t L ≡ true
held_agrees t L k =
    in_agrees t L (λ e i. let h = k e i in agrees_held t e.at e.hash h.0 ∙ same_eq (hash_at t e.at) e.hash h.1)

-- after a message is taken, all that it settles is held, and stays so
settled_stay : (s t m : List ℕ) → take_number s m ≡ 0 → Grown (take_after s m) t → agrees t (settled m (place_in s m)) ≡ true
unfolding take_after settled
settled_stay s t m z g =
    let p = place_in s m in
    let r = taken_ready s m (take_number s m) refl z in
    let L = settled m (place_in s m) in
    let S = ready_settled (length s) m (height_of s) (header_of m) (place_in s m) r in
    let f = usable_facts s (passed (is_hashes m) s m (taken_well_formed s m z).header).store in
    let lay = (grown_take s m f).same.layers in
    let c = settled_consistent (given m p.k) (uncles_of m (2 ^ p.k) p.u) p.k p.top 0 0 p.u (node (given m p.k) p.k 0) r.anchor in
    held_agrees t (settled m (place_in s m))
    (λ e i.
    let h = entries_held (positions (height_of s)) (settled m (place_in s m)) s r.room S c e i in
    let after : take_after s m ≡ put_all s (settled m (place_in s m)) = rw (eq-eqb (take_number s m) 0 z) in
    let l : e.at < positions (height_of (take_after s m)) = rw lay (sound_in (settled m (place_in s m)) S i).0 in
    let k = g.kept e.at l (rw after h.0) in
    (k.0, k.1 ∙ rw after h.1))

module _ (s t m : List ℕ) (f : Facts s) (g₁ : Grown (take_after s m) t) where
  g : Grown s t
  g = grown_on (grown_take s m f) g₁

  p : Place
  p = place_in s m

  -- with header and size right, and the anchor held, the three tests come out as they did
  anchored_again : RulesPassed (is_hashes m) s m → length m ≡ message_size (header_of m) → padded m (header_of m) (place_in s m) (blocks_of s) ≡ true
      → held_at s (anchor (place_in s m)) ≡ true → anchored t m (place_in s m) ≡ anchored s m (place_in s m)
  unfolding anchored anchor
  anchored_again P e pd h = by (same (hash_at s a) w) refl
    where
      q : Placed (height_of s) (header_of m) (place_in s m)
      q = placed (is_hashes m) s m P

      r : Ready (length s) (length m) (height_of s) (header_of m) (place_in s m)
      r = placed_ready (length s) (length m) q f.room (omega (arith, q.size))

      a : ℕ
      a = anchor (place_in s m)

      w : List ℕ
      w = worked m (place_in s m)

      below : anchor (place_in s m) < positions (height_of s)
      below = omega (arith, ancestor_le (place_in s m).u (place_in s m).top, within_self (positions (height_of s)) (place_in s m).k (place_in s m).top q.top)

      k : (held_at t (anchor (place_in s m)) ≡ true) × (hash_at t (anchor (place_in s m)) ≡ hash_at s (anchor (place_in s m)))
      k = g.kept (anchor (place_in s m)) below h

      agree : (b c : Bool) → agrees s (settled m (place_in s m)) ≡ b → agrees t (settled m (place_in s m)) ≡ c → same (hash_at s (anchor (place_in s m))) (worked m (place_in s m)) ≡ true → c ≡ b
      agree true true x y z = refl
      agree false false x y z = refl
      agree true false x y z =
          let zero : take_number s m ≡ 0 = Rattle.knowledge.specs.TakenWhen.right_then_taken s m (record { header = Rattle.messages.specs.TakeLaws.passes (is_hashes m) s m P; size = e })
          (record { padding = pd; held = h; chains = same_true (hash_at s (anchor (place_in s m))) (worked m (place_in s m)) z; agree = x }) in
          sym y ∙ settled_stay s t m zero g₁
      agree false true x y z =
          sym (less_agrees s t (settled m (place_in s m)) g (ready_settled (length s) m (height_of s) (header_of m) (place_in s m) r) y) ∙ x

      by : (b : Bool) → same (hash_at s (anchor (place_in s m))) (worked m (place_in s m)) ≡ b → anchored t m (place_in s m) ≡ anchored s m (place_in s m)
      by false z = unfold anchored in rw (k.0, k.1, h, z)
      by true z = unfold anchored in rw (k.0, k.1, h, z, agree (agrees s (settled m (place_in s m))) (agrees t (settled m (place_in s m))) refl refl z)

-- the body's number comes out as it did, unless it was 6
body_again : (s t m : List ℕ) → (f : Facts s) → Grown (take_after s m) t → header_number (is_hashes m) s m ≡ 0
    → (body_number s m (header_of m) (place_in s m) ≡ no_anchor → ⊥) → body_number t m (header_of m) (place_in t m) ≡ body_number s m (header_of m) (place_in s m)
unfolding body_number
body_again s t m f g₁ z not6 =
    by (eqb (length m) (message_size (header_of m))) (padded m (header_of m) (place_in s m) (blocks_of s)) (held_at s (anchor (place_in s m))) refl refl refl
  where
    gr : Grown s t
    gr = grown_on (grown_take s m f) g₁

    by : (a b c : Bool) → eqb (length m) (message_size (header_of m)) ≡ a → padded m (header_of m) (place_in s m) (blocks_of s) ≡ b → held_at s (anchor (place_in s m)) ≡ c
        → cond (eqb (length m) (message_size (header_of m))) (cond (padded m (header_of m) (place_in t m) (blocks_of t)) (anchored t m (place_in t m)) wrong_padding) wrong_size
        ≡ cond (eqb (length m) (message_size (header_of m))) (cond (padded m (header_of m) (place_in s m) (blocks_of s)) (anchored s m (place_in s m)) wrong_padding) wrong_size
    by false b c x y w = rw x
    by true false c x y w = rw (x, same_padding s t m f gr, y)
    by true true false x y w =
        absurd (not6 (unfold body_number anchored in rw (x, y, w)))
    by true true true x y w =
        rw (x, same_padding s t m f gr, y, same_place s t m f gr)
        (anchored_again s t m f g₁ (passed (is_hashes m) s m z) (borrow.Author.Tests.eqb-true (length m) (message_size (header_of m)) x) y w)

-- two numbers that follow a header's number are the same if they are where the header lets them decide
follow : (n a b : ℕ) → (n ≡ 0 → a ≡ b) → or_else n a ≡ or_else n b
follow n a b k = elim (ℕ_discrete n 0) [ yes z ↦ ap (or_else n) (k z) | no ne ↦ rw (ne_eqb n 0 ne) ]

-- a store that is not usable stays as it is
unusable_stays : (s : List ℕ) → usable s ≡ false → {t : List ℕ} → Steps s t → t ≡ s
unusable_stays s u h = through (λ (t : List ℕ). t ≡ s) each h refl
  where
    refused : (m : List ℕ) → take_after s m ≡ s
    refused m = unfold take_after take_number header_number in rw u

    each : Preserved (λ (t : List ℕ). t ≡ s)
    each =
        record {
          taken = λ t m b e. rw e (refused m);
          loaded = λ t l b e. rw e (layer_refused s l (λ z. let w : ⊥ = unfold layer_number in omega (arith, rw u at z) in w));
          remarked = λ t i n x f l o e. absurd (false≢true (sym u ∙ ap usable (sym e) ∙ facts_usable t f));
          moved = λ t x b e q. absurd (false≢true (sym u ∙ ap usable (sym q) ∙ e.store));
        }

-- what a reply got at a usable store, it gets at every later offer, unless it was 6
stays_usable : {t : List ℕ} (s m : List ℕ) → usable s ≡ true → Steps (take_after s m) t → (take_number s m ≡ no_anchor → ⊥) → take_number t m ≡ take_number s m
unfolding take_number
stays_usable {t} s m u h not6 =
    let f = usable_facts s u in
    let g₁ = steps_grow (grown_take s m f).facts h in
    let g = grown_on (grown_take s m f) g₁ in
    ap (λ (n : ℕ). or_else n (body_number t m (header_of m) (place_in t m))) (same_header s t m f g (is_hashes m))
    ∙ follow (header_number (is_hashes m) s m) (body_number t m (header_of m) (place_in t m)) (body_number s m (header_of m) (place_in s m))
    (λ z. body_again s t m f g₁ z (λ e. not6 (rw (eq-eqb (header_number (is_hashes m) s m) 0 z) e)))

-- THE NUMBER STAYS: what a reply got, it gets at every later offer, unless it was 6
pub number_stays : {t : List ℕ} (s m : List ℕ) → Steps (take_after s m) t → (take_number s m ≡ no_anchor → ⊥) → take_number t m ≡ take_number s m
number_stays {t} s m h not6 = by (usable s) refl
  where
    by : (b : Bool) → usable s ≡ b → take_number t m ≡ take_number s m
    by true u = stays_usable s m u h not6
    by false u =
        let e : take_after s m ≡ s = unfold take_after take_number header_number in rw u in
        ap (λ (x : List ℕ). take_number x m) (unusable_stays s u (rw e at h))

-- so does what a reject got: it depends on the facts alone
pub reject_stays : {t : List ℕ} (s m : List ℕ) → Steps s t → reject_answer t m ≡ reject_answer s m
unfolding reject_answer
reject_stays {t} s m h = by (usable s) refl
  where
    by : (b : Bool) → usable s ≡ b → refused (header_number (is_reject m) t m) ≡ refused (header_number (is_reject m) s m)
    by true u = let f = usable_facts s u in ap refused (same_header s t m f (steps_grow f h) (is_reject m))
    by false u = ap (λ (x : List ℕ). refused (header_number (is_reject m) x m)) (unusable_stays s u h)

-- 6 as long as the anchor is not held
pub no_anchor_stays : {t : List ℕ} (s m : List ℕ) → usable s ≡ true → Steps s t → take_number s m ≡ no_anchor → held_at t (anchor (place_in t m)) ≡ false
    → take_number t m ≡ no_anchor
unfolding take_number body_number anchored
no_anchor_stays {t} s m u h six free =
    let f = usable_facts s u in
    let g = steps_grow f h in
    ap (λ (n : ℕ). or_else n (cond (eqb (length m) (message_size (header_of m))) (cond (padded m (header_of m) (place_in t m) (blocks_of t)) (anchored t m (place_in t m)) wrong_padding) wrong_size)) (same_header s t m f g (is_hashes m))
    ∙ rw (same_padding s t m f g, free) (cases (header_number (is_hashes m) s m) (eqb (length m) (message_size (header_of m))) (padded m (header_of m) (place_in s m) (blocks_of s)) (anchored s m (place_in s m)) six)
  where
    cases : (n : ℕ) (a b : Bool) (x : ℕ) → or_else n (cond a (cond b x wrong_padding) wrong_size) ≡ no_anchor → or_else n (cond a (cond b no_anchor wrong_padding) wrong_size) ≡ no_anchor
    cases n false b x e = e
    cases n true false x e = e
    cases n true true x e = elim (ℕ_discrete n 0) [ yes z ↦ rw (eq-eqb n 0 z) | no ne ↦ rw (ne_eqb n 0 ne) (rw (ne_eqb n 0 ne) at e) ]

-- and never again as soon as it is
pub anchor_held_not_6 : (t m : List ℕ) → held_at t (anchor (place_in t m)) ≡ true → take_number t m ≡ no_anchor → ⊥
anchor_held_not_6 t m h e = not_both h ((exactly_of (take_chain t m) no_anchor (take_tests t m) refl).0 e).1.1.1.1.1.1
