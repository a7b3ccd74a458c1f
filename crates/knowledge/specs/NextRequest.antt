-- 02, request 11: nothing to ask, exactly; the next request, exactly: its run, its bytes, its rules, its anchor, the fewest proof layers.
-- Assumes nothing.
use Rattle.std.specs.Prelude.{◌≡◌, refl, Bool, true, false, List, ◌↔◌, ℕ, ◌+◌, ◌-◌, ◌*◌, ◌/◌, ◌^◌, ◌≤◌, ◌<◌, min, eqb, ltb}
use Rattle.std.proofs.Math.Path.{ap}
use Rattle.std.proofs.Common.{ap₂, sym, ◌∙◌, inl, inr, arith, eq-eqb, eqb-true, ltb-true, lt-ltb, div-add-mod', mod-lt, mul-div_cancel, div-lt_iff_lt-mul, pow_pos}
use Rattle.std.proofs.Math.Nat.{mul-mod_left}
use Rattle.limits.specs.Limits.{longest_run}
use Rattle.numbers.specs.Numbers.{no_anchor}
use Rattle.tree.specs.Geometry.{node_number, covering, Padding}
use Rattle.tree.proofs.GeometryLaws.{padding_from_covering, covering_not_padding, node_number_root}
use Rattle.cells.specs.Cells.{held_at, hash_at}
use Rattle.cells.specs.CellsLaws.{lt_or_ge}
use Rattle.store.specs.Store.{facts_root, blocks_of, height_of, Facts}
use Rattle.store.specs.StoreLaws.{facts_usable}
use Rattle.settling.specs.Path.{ancestor}
use Rattle.settling.specs.AncestorLaws.{ancestor_number}
use Rattle.header.specs.declared.Header.{Header}
use Rattle.header.specs.Header.{header_of, Kept, uncle_count}
use Rattle.messages.specs.Take.{take_answer}
use Rattle.asking.specs.declared.next.Request.{Request}
use Rattle.asking.specs.Asking.{next_number, wanted, lowest, run_length, uncles_needed, proof_for, run_top, run_header, next_header, no_request, request_for, next_answer, run_of, run_layers, next_run}
use Rattle.asking.proofs.AskingLaws.{needed_most, needed_free, needed_stops, proof_none, proof_some, proof_gives, proof_fewest, RunFacts, run_facts, top_in, run_ends, Asked, number_says, says_number, asked_low, wanted_within, lowest_held, lowest_free, asked_below, asked_run}
use Rattle.words.specs.Held.{Holds, Lacks}
use Rattle.words.specs.Messages.{anchor_layer, anchor_index}
use Rattle.words.specs.History.{Steps}
use Rattle.knowledge.specs.ReadBack.{holds_at}
use Rattle.knowledge.specs.Again.{what_is_held}
use Rattle.knowledge.specs.NoAnchor.{never_6_again}
use Rattle.words.specs.Asking.{Wanted, LowestLacking, HeaderOf}
use Rattle.numbers.specs.Tests.{not_both}

-- ---- what the answer is, by its tests

pub asks_is : (s : List ℕ) (l : ℕ) → eqb (next_number s l) 0 ≡ true → ltb (lowest s l) (wanted s l) ≡ true → next_answer s l ≡ request_for (facts_root s) (next_header s l)
unfolding next_answer
asks_is s l p q = rw (p, q)

pub asks_none : (s : List ℕ) (l : ℕ) → eqb (next_number s l) 0 ≡ true → ltb (lowest s l) (wanted s l) ≡ false → next_answer s l ≡ no_request 0
unfolding next_answer
asks_none s l p q = rw (p, q)

pub asks_refused : (s : List ℕ) (l : ℕ) → eqb (next_number s l) 0 ≡ false → next_answer s l ≡ no_request (next_number s l)
unfolding next_answer
asks_refused s l p = rw p

-- the answer is one of three: refused, nothing to ask, a request
pub data Three (s : List ℕ) (l : ℕ) : Type 0 where
  refuses : (next_number s l ≡ 0 → ⊥) → next_answer s l ≡ no_request (next_number s l) → Three s l
  nothing_asked : Asked s l → wanted s l ≤ lowest s l → next_answer s l ≡ no_request 0 → Three s l
  one_asked : Asked s l → lowest s l < wanted s l → next_answer s l ≡ request_for (facts_root s) (next_header s l) → Three s l

pub three : (s : List ℕ) (l : ℕ) → Three s l
three s l = by (eqb (next_number s l) 0) refl
  where
    further : eqb (next_number s l) 0 ≡ true → (b : Bool) → ltb (lowest s l) (wanted s l) ≡ b → Three s l
    further p true q = one_asked (number_says s l (eqb-true _ _ p)) (ltb-true _ _ q) (asks_is s l p q)
    further p false q =
        elim (lt_or_ge (lowest s l) (wanted s l)) [
          | inl a ↦ absurd (not_both (lt-ltb (lowest s l) (wanted s l) a) q)
          | inr a ↦ nothing_asked (number_says s l (eqb-true _ _ p)) a (asks_none s l p q)
        ]

    by : (a : Bool) → eqb (next_number s l) 0 ≡ a → Three s l
    by true p = further p (ltb (lowest s l) (wanted s l)) refl
    by false p = refuses (λ z. not_both (eq-eqb (next_number s l) 0 z) p) (asks_refused s l p)

-- its number is that of the tests
pub number_is : (s : List ℕ) (l : ℕ) → (next_answer s l).number ≡ next_number s l
number_is s l = by (three s l)
  where
    zero_there : Asked s l → next_number s l ≡ 0
    zero_there A = says_number s l (facts_usable s A.facts) A.layer A.root

    by : Three s l → (next_answer s l).number ≡ next_number s l
    by (refuses ne e) = ap (λ (r : Request). r.number) e
    by (nothing_asked A a e) = ap (λ (r : Request). r.number) e ∙ sym (zero_there A)
    by (one_asked A a e) = ap (λ (r : Request). r.number) e ∙ sym (zero_there A)

-- ---- wanted, by layer and index

wanted_below : (s : List ℕ) (l i : ℕ) → Wanted s l i → i < wanted s l
unfolding wanted
wanted_below s l i w =
    elim (lt_or_ge i (covering (blocks_of s) l)) [ inl a ↦ a | inr a ↦ absurd (w.full (padding_from_covering (blocks_of s) l i a)) ]

below_wanted : (s : List ℕ) (l i : ℕ) → l ≤ height_of s → i < wanted s l → Wanted s l i
below_wanted s l i a b =
    record { position = record { low = a; inside = omega (arith, wanted_within s l a) }; full = full s l i b }
  where
    full : (s : List ℕ) (l i : ℕ) → i < wanted s l → Padding (blocks_of s) l i → ⊥
    full s l i b = unfold wanted in covering_not_padding (blocks_of s) l i b

-- what `wanted` counts: the positions of the layer that are wanted stand before the others
pub wanted_exactly : (s : List ℕ) (l i : ℕ) → l ≤ height_of s → Wanted s l i ↔ (i < wanted s l)
wanted_exactly s l i a = (wanted_below s l i, below_wanted s l i a)

held_holds : (s : List ℕ) (l i : ℕ) → Facts s → l ≤ height_of s → i < wanted s l → held_at s (node_number (height_of s) l i) ≡ true → (v : List ℕ) × Holds s l i v
held_holds s l i f a b h = (hash_at s (node_number (height_of s) l i), holds_at s l i f a (omega (arith, wanted_within s l a)) h)

free_lacks : (s : List ℕ) (l i : ℕ) → Facts s → held_at s (node_number (height_of s) l i) ≡ false → Lacks s l i
free_lacks s l i f e w h = not_both (what_is_held s l i w f h).1 e

-- NOTHING TO ASK exactly when every position of the layer that isn't padding is held
pub nothing_exactly_when : (s : List ℕ) (l : ℕ) → (next_answer s l).number ≡ 0
    → ((next_answer s l).asks ≡ 0) ↔ ((i : ℕ) → Wanted s l i → (v : List ℕ) × Holds s l i v)
nothing_exactly_when s l z = by (three s l)
  where
    by : Three s l → ((next_answer s l).asks ≡ 0) ↔ ((i : ℕ) → Wanted s l i → (v : List ℕ) × Holds s l i v)
    by (refuses ne e) = absurd (ne (sym (ap (λ (r : Request). r.number) e) ∙ z))
    by (nothing_asked A a e) = (
      λ q i w. held_holds s l i A.facts w.position.low (wanted_below s l i w) (lowest_held s l i (omega (arith, wanted_below s l i w))),
      λ f. ap (λ (r : Request). r.asks) e,
    )
    by (one_asked A a e) = (
      λ q. (let w : ⊥ = omega (arith, sym q ∙ ap (λ (r : Request). r.asks) e) in absurd w),
      λ f.
          (let h = f (lowest s l) (below_wanted s l (lowest s l) (asked_low s l A.facts A.layer) a) in
          absurd (free_lacks s l (lowest s l) A.facts (lowest_free s l a) h.0 h.1)),
    )

-- all else is zero then
pub nothing_is : (s : List ℕ) (l : ℕ) → (next_answer s l).asks ≡ 0 → next_answer s l ≡ no_request (next_answer s l).number
nothing_is s l z = by (three s l)
  where
    by : Three s l → next_answer s l ≡ no_request (next_answer s l).number
    by (refuses ne e) = e ∙ ap no_request (sym (ap (λ (r : Request). r.number) e))
    by (nothing_asked A a e) = e ∙ ap no_request (sym (ap (λ (r : Request). r.number) e))
    by (one_asked A a e) = let w : ⊥ = omega (arith, sym z ∙ ap (λ (r : Request). r.asks) e) in absurd w

-- ---- a request

pub record Named (s : List ℕ) (l : ℕ) : Type 0 where
  pub asked : Asked s l
  pub some : lowest s l < wanted s l
  pub is : next_answer s l ≡ request_for (facts_root s) (next_header s l)

pub named : (s : List ℕ) (l : ℕ) → (next_answer s l).asks ≡ 1 → Named s l
named s l z = by (three s l)
  where
    by : Three s l → Named s l
    by (refuses ne e) = let w : ⊥ = omega (arith, sym z ∙ ap (λ (r : Request). r.asks) e) in absurd w
    by (nothing_asked A a e) = let w : ⊥ = omega (arith, sym z ∙ ap (λ (r : Request). r.asks) e) in absurd w
    by (one_asked A a e) = record { asked = A; some = a; is = e }

module _ (s : List ℕ) (l : ℕ) (e : (next_answer s l).asks ≡ 1) where
  N : Named s l
  N = named s l e

  A : Asked s l
  A = N.asked

  low : l < height_of s
  low = asked_below s l A N.some

  R : RunFacts (height_of s) l
  R = run_facts (height_of s) l low

  -- THE RUN: its length is the limit or the whole layer; it contains the lowest wanted position that isn't held
  pub request_run : ((next_answer s l).number ≡ 0) × ((next_answer s l).base ≡ l) × ((next_answer s l).len ≡ min longest_run (2 ^ (height_of s - l)))
      × ((i : ℕ) × LowestLacking s l i × ((next_answer s l).index ≤ i) × (i < (next_answer s l).index + (next_answer s l).len))
  unfolding next_header run_header run_length
  request_run =
      let q = N.is in
      let d = div-add-mod' (lowest s l) (run_of s l) in
      let m = mod-lt (lowest s l) {m = run_of s l} (omega (arith, R.two)) in
      let ei = ap (λ (r : Request). r.index) q in
      let el = ap (λ (r : Request). r.len) q in (
        ap (λ (r : Request). r.number) q,
        ap (λ (r : Request). r.base) q,
        el,
        (
          lowest s l,
          record {
            wanted = below_wanted s l (lowest s l) (asked_low s l A.facts A.layer) N.some;
            lacks = free_lacks s l (lowest s l) A.facts (lowest_free s l N.some);
            before = λ j b. held_holds s l j A.facts (asked_low s l A.facts A.layer) (omega (arith, N.some)) (lowest_held s l j b);
          },
          omega (arith, ei),
          omega (arith, ei, el),
        ),
      )

  -- ---- a message with the request's header, be it the request or a reply

  module _ (m : List ℕ) (H : HeaderOf (next_answer s l) m) where
    header_is : header_of m ≡ next_header s l
    unfolding header_of next_header run_header
    header_is =
        let q = N.is in
        let a = H.base ∙ ap (λ (r : Request). r.base) q in
        let b = H.index ∙ ap (λ (r : Request). r.index) q in
        let c = H.len ∙ ap (λ (r : Request). r.len) q in
        let d = H.proof ∙ ap (λ (r : Request). r.proof) q in
        rw (a, b, c, d)

    u : ℕ
    u = uncles_needed s (height_of s - (l + run_layers s l)) (run_top s l (next_run s l))

    few : u ≤ height_of s - (l + run_layers s l)
    unfolding u
    few = needed_most s (height_of s - (l + run_layers s l)) (run_top s l (next_run s l))

    header_base : (header_of m).base ≡ l
    unfolding next_header run_header
    header_base = ap (λ (x : Header). x.base) header_is

    header_len : (header_of m).len ≡ run_of s l
    unfolding next_header run_header
    header_len = ap (λ (x : Header). x.len) header_is

    header_index : (header_of m).index ≡ next_run s l * run_of s l
    unfolding next_header run_header
    header_index = ap (λ (x : Header). x.index) header_is

    header_proof : (header_of m).proof ≡ proof_for (run_layers s l) u
    unfolding next_header run_header u
    header_proof = ap (λ (x : Header). x.proof) header_is

    above : l + proof_for (run_layers s l) u < height_of s
    above =
        elim (Rattle.cells.specs.CellsLaws.lt_or_ge 0 u) [
          | inl a ↦ omega (arith, few, R.within, proof_some (run_layers s l) u (λ z. omega arith))
          | inr a ↦ (let z : u ≡ 0 = omega arith in omega (arith, low, ap (proof_for (run_layers s l)) z ∙ proof_none (run_layers s l)))
        ]

    inside : next_run s l * run_of s l < 2 ^ (height_of s - l)
    inside = asked_run s l A N.some

    -- it keeps the header's rules: no store of this file answers it 3
    pub keeps_rules : Kept (header_of m) (height_of s)
    keeps_rules =
        record {
          power = rw header_len R.power;
          two = rw header_len R.two;
          most = rw header_len R.most;
          multiple = rw (header_index, header_len) (mul-mod_left (next_run s l) (run_of s l));
          within = rw (header_base, header_len) R.within;
          above = rw (header_base, header_proof) above;
          inside = rw (header_base, header_index, header_len) (run_ends (height_of s) l (next_run s l) low inside);
        }

    uncles_are : uncle_count (header_of m) ≡ u
    uncles_are = rw (header_proof, header_len) (proof_gives (run_layers s l) u R.some)

    top_index : (header_of m).index / (header_of m).len ≡ next_run s l
    top_index = rw (header_index, header_len) (mul-div_cancel (next_run s l) (omega (arith, R.two)))

    -- the position v layers above the run's top
    over : (v : ℕ) → l + run_layers s l + v ≤ height_of s
        → ancestor v (run_top s l (next_run s l))
        ≡ node_number (height_of s) (l + run_layers s l + v) (next_run s l / 2 ^ v)
    unfolding run_top
    over v a = ancestor_number (height_of s) (l + run_layers s l) (next_run s l) v a

    top_low : next_run s l < 2 ^ (height_of s - (l + run_layers s l))
    top_low = top_in (height_of s) l (next_run s l) low inside

    anchor_held : held_at s (node_number (height_of s) (l + run_layers s l + u) (next_run s l / 2 ^ u)) ≡ true
    anchor_held =
        elim (lt_or_ge u (height_of s - (l + run_layers s l))) [
          | inl a ↦ rw (over u (omega (arith, R.within))) at stops a
          | inr a ↦
              let q : l + run_layers s l + u ≡ height_of s = omega (arith, R.within, few) in
              let p : height_of s - (l + run_layers s l) ≡ u = omega (arith, few) in
              let b : next_run s l < 2 ^ u = rw p at top_low in
              let z : next_run s l / 2 ^ u ≡ 0 = native.Mathlib.Nat.div-eq_of_lt b in
              rw (q, z, node_number_root (height_of s)) A.root
        ]
      where
        stops : u < height_of s - (l + run_layers s l) → held_at s (ancestor u (run_top s l (next_run s l))) ≡ true
        stops a = unfold u in needed_stops s (height_of s - (l + run_layers s l)) (run_top s l (next_run s l)) (unfold u in a)

    anchor_inside : next_run s l / 2 ^ u < 2 ^ (height_of s - (l + run_layers s l + u))
    anchor_inside =
        let x : height_of s - (l + run_layers s l + u) + u ≡ height_of s - (l + run_layers s l) = omega (arith, R.within, few) in
        let p : 2 ^ (height_of s - (l + run_layers s l + u)) * 2 ^ u ≡ 2 ^ (height_of s - (l + run_layers s l)) =
        sym (lib.Pow.pow-add 2 (height_of s - (l + run_layers s l + u)) u) ∙ ap (λ (y : ℕ). 2 ^ y) x in
        (div-lt_iff_lt-mul (pow_pos u)).1 (omega (arith, top_low))

    -- ITS ANCHOR IS HELD
    pub anchor_is_held : (v : List ℕ) × Holds s (anchor_layer m) (anchor_index m) v
    anchor_is_held =
        let el : anchor_layer m ≡ l + run_layers s l + u = rw (uncles_are, header_base, header_len) in
        let ei : anchor_index m ≡ next_run s l / 2 ^ u = rw (uncles_are, top_index) in
        let h = holds_at s (l + run_layers s l + u) (next_run s l / 2 ^ u) A.facts (omega (arith, R.within, few)) anchor_inside anchor_held in
        (hash_at s (node_number (height_of s) (l + run_layers s l + u) (next_run s l / 2 ^ u)), rw (el, ei) h)

    -- so a message with this header is never 6, now and after any history
    pub never_6 : {t : List ℕ} → Steps s t → (take_answer t m).number ≡ no_anchor → ⊥
    unfolding take_answer
    never_6 h = never_6_again m anchor_is_held.0 h anchor_is_held.1

  -- THE FEWEST PROOF LAYERS: with fewer for the same run the anchor is not held
  pub fewest : (m r : List ℕ) → HeaderOf (next_answer s l) m → (header_of r).base ≡ (header_of m).base → (header_of r).index ≡ (header_of m).index
      → (header_of r).len ≡ (header_of m).len → (header_of r).proof < (header_of m).proof → Lacks s (anchor_layer r) (anchor_index r)
  fewest m r H eb ei el less =
      let lr : (header_of r).len ≡ run_of s l = el ∙ header_len m H in
      let p : (header_of r).proof < proof_for (run_layers s l) (u m H) = omega (arith, header_proof m H) in
      let f : (header_of r).proof - (run_layers s l - 1) < u m H = proof_fewest (run_layers s l) (u m H) (header_of r).proof R.some p in
      let v : uncle_count (header_of r) ≡ (header_of r).proof - (run_layers s l - 1) = rw lr in
      let a : uncle_count (header_of r) < u m H = omega arith in
      let high : l + run_layers s l + uncle_count (header_of r) ≤ height_of s = omega (arith, few m H, R.within) in
      let al : anchor_layer r ≡ l + run_layers s l + uncle_count (header_of r) = rw (lr, eb, header_base m H) in
      let ti : (header_of r).index / (header_of r).len ≡ next_run s l = ap₂ (λ (x y : ℕ). x / y) ei el ∙ top_index m H in
      let ai : anchor_index r ≡ next_run s l / 2 ^ uncle_count (header_of r) = ap (λ (x : ℕ). x / 2 ^ uncle_count (header_of r)) ti in
      let free : held_at s (ancestor (uncle_count (header_of r)) (run_top s l (next_run s l))) ≡ false = freed m H (uncle_count (header_of r)) a in
      let free2 : held_at s (node_number (height_of s) (anchor_layer r) (anchor_index r)) ≡ false = rw (al, ai) (rw (over m H (uncle_count (header_of r)) high) at free) in
      free_lacks s (anchor_layer r) (anchor_index r) A.facts free2
    where
      freed : (m : List ℕ) (H : HeaderOf (next_answer s l) m) (v : ℕ) → v < u m H → held_at s (ancestor v (run_top s l (next_run s l))) ≡ false
      freed m H v a = needed_free s (height_of s - (l + run_layers s l)) (run_top s l (next_run s l)) v (unfold u in a)
