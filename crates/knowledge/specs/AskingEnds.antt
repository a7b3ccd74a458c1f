-- The asking ends: each reply that is taken makes its whole run held; held stays held, so the runs asked for later are other runs; and a
-- layer has ceil(wanted / length) runs with a wanted position.
-- Assumes nothing.
use Rattle.std.specs.Prelude.{◌≡◌, refl, Bool, true, false, ℕ, suc, ◌+◌, ◌-◌, ◌*◌, ◌%◌, ◌≤◌, ◌<◌, min, ltb, List}
use Rattle.std.proofs.Math.Path.{ap}
use Rattle.std.proofs.Common.{sym, ◌∙◌, inl, inr, div-add-mod', mod-lt, lt-ltb, le-ltb, arith}
use Rattle.tree.specs.Geometry.{ceil_div, node_number}
use Rattle.tree.proofs.GeometryLaws.{below_ceil}
use Rattle.cells.specs.Cells.{held_at}
use Rattle.cells.specs.CellsLaws.{lt_or_ge}
use Rattle.store.specs.Store.{facts_root, height_of, positions, Facts}
use Rattle.store.specs.StoreLaws.{facts_usable}
use Rattle.header.specs.Header.{header_of}
use Rattle.messages.specs.Take.{take_number, take_answer, take_after}
use Rattle.asking.specs.declared.next.Request.{Request}
use Rattle.asking.specs.Asking.{layer_asked, wanted, held_front, lowest, run_header, next_header, no_request, request_for, next_answer, run_of, next_run}
use Rattle.asking.proofs.AskingLaws.{front_held, front_all, RunFacts, run_facts, Asked, number_says, says_number, asked_low, wanted_within, lowest_free, asked_below}
use Rattle.words.specs.Messages.{in_run, hash_in}
use Rattle.words.specs.History.{Steps, begin, next}
use Rattle.knowledge.specs.Grows.{Grown, grown_same, grown_on, steps_grow, grown_take}
use Rattle.knowledge.specs.Again.{what_is_held}
use Rattle.knowledge.specs.HeldAfter.{settles_then_holds}
use Rattle.words.specs.Asking.{count_below, HeaderOf, Answered, unasked, meanwhile, reply}
use Rattle.numbers.specs.Tests.{either, not_both}
use Rattle.knowledge.specs.NextRequest.{Three, refuses, nothing_asked, one_asked, three, number_is, named}
use Rattle.knowledge.specs.Counting.{count_most, count_fewer, count_less, count_some}

-- ---- a layer's runs

-- the wanted positions of run j: how many, and whether one is not held
abbrev run_wanted : List ℕ → ℕ → ℕ → ℕ
run_wanted s l j = min (run_of s l) (wanted s l - j * run_of s l)

abbrev unfinished : List ℕ → ℕ → ℕ → Bool
unfinished s l j = ltb (held_front s (node_number (height_of s) l (j * run_of s l)) (run_wanted s l j)) (run_wanted s l j)

along : (h l j i : ℕ) → node_number h l j + i ≡ node_number h l (j + i)
unfolding node_number
along h l j i = omega arith

-- all wanted positions of run j are held
abbrev Finished : List ℕ → ℕ → ℕ → Type 0
Finished s l j = (i : ℕ) → i < run_wanted s l j → held_at s (node_number (height_of s) l (j * run_of s l + i)) ≡ true

finished_is : (s : List ℕ) (l j : ℕ) → Finished s l j → unfinished s l j ≡ false
finished_is s l j F =
    let a = front_all s (node_number (height_of s) l (j * run_of s l)) (run_wanted s l j)
    (λ i g. rw (along (height_of s) l (j * run_of s l) i) (F i g)) in
    le-ltb (held_front s (node_number (height_of s) l (j * run_of s l)) (run_wanted s l j)) (run_wanted s l j) (omega arith)

is_finished : (s : List ℕ) (l j : ℕ) → unfinished s l j ≡ false → Finished s l j
is_finished s l j e i g =
    elim (lt_or_ge (held_front s (node_number (height_of s) l (j * run_of s l)) (run_wanted s l j)) (run_wanted s l j)) [
      | inl a ↦ absurd (not_both (lt-ltb _ _ a) e)
      | inr a ↦ rw (along (height_of s) l (j * run_of s l) i) at (front_held s (node_number (height_of s) l (j * run_of s l)) (run_wanted s l j) i (omega arith))
    ]

-- how many runs have a wanted position at all
abbrev pub runs : List ℕ → ℕ → ℕ
runs s l = ceil_div (wanted s l) (run_of s l)

abbrev left : List ℕ → ℕ → ℕ → ℕ
left s l n = count_below (unfinished s l) n

-- ---- from a store to one that holds at least as much

module _ {s t : List ℕ} (l : ℕ) (f : Facts s) (g : Grown s t) where
  same_wanted : wanted t l ≡ wanted s l
  unfolding wanted
  same_wanted = rw g.same.blocks

  same_length : run_of t l ≡ run_of s l
  same_length = rw g.same.layers

  same_runs : runs t l ≡ runs s l
  same_runs = rw (same_wanted, same_length)

  same_run_wanted : (j : ℕ) → run_wanted t l j ≡ run_wanted s l j
  same_run_wanted j = rw (same_wanted, same_length)

  pub same_asked : layer_asked t l ≡ layer_asked s l
  unfolding layer_asked
  same_asked = rw (g.same.piece, g.same.file)

  module _ (low : l ≤ height_of s) where
    -- a position of the layer is one of the tree's
    in_tree : (i : ℕ) → i < wanted s l → node_number (height_of s) l i < positions (height_of s)
    unfolding positions
    in_tree i a = (Rattle.tree.proofs.GeometryLaws.node_number_range (height_of s) l i (omega (arith, wanted_within s l low))).1

    finished_stays : (j : ℕ) → Finished s l j → Finished t l j
    finished_stays j F i a =
        let b : i < run_wanted s l j = rw (same_run_wanted j) at a in
        let c : j * run_of s l + i < wanted s l = omega arith in
        rw g.same.layers (g.kept (node_number (height_of s) l (j * run_of s l + i)) (in_tree _ c) (F i b)).0

    unfinished_was : (j : ℕ) → unfinished t l j ≡ true → unfinished s l j ≡ true
    unfinished_was j e =
        elim (either (unfinished s l j)) [
          | inl a ↦ a
          | inr a ↦ absurd (not_both e (finished_is t l j (finished_stays j (is_finished s l j a))))
        ]

-- ---- the run asked for

module _ (s : List ℕ) (l : ℕ) (A : Asked s l) (a : lowest s l < wanted s l) where
  R : RunFacts (height_of s) l
  R = run_facts (height_of s) l (asked_below s l A a)

  asked_unfinished : unfinished s l (next_run s l) ≡ true
  asked_unfinished =
      let d = div-add-mod' (lowest s l) (run_of s l) in
      let m = mod-lt (lowest s l) {m = run_of s l} (omega (arith, R.two)) in
      elim (either (unfinished s l (next_run s l))) [
        | inl e ↦ e
        | inr e ↦
            let w = is_finished s l (next_run s l) e (lowest s l % run_of s l) (omega arith) in
            let q : next_run s l * run_of s l + lowest s l % run_of s l ≡ lowest s l = omega arith in
            absurd (not_both (rw q at w) (lowest_free s l a))
      ]

  asked_one_of : next_run s l < runs s l
  asked_one_of =
      let d = div-add-mod' (lowest s l) (run_of s l) in
      below_ceil (wanted s l) (run_of s l) (next_run s l) (omega (arith, R.two)) (omega arith)

-- a message that is taken makes its whole run held
taken_run : (u m : List ℕ) → take_number u m ≡ 0 → Facts (take_after u m) → (i : ℕ) → i < (header_of m).len
    → held_at (take_after u m) (node_number (height_of (take_after u m)) (header_of m).base ((header_of m).index + i)) ≡ true
taken_run u m z f i a =
    (what_is_held (take_after u m) (header_of m).base ((header_of m).index + i) (hash_in m i) f
    (settles_then_holds u m z (header_of m).base ((header_of m).index + i) (hash_in m i) (in_run i a))).1

header_base : (s : List ℕ) (l : ℕ) → ((next_header s l).base ≡ l) × ((next_header s l).index ≡ next_run s l * run_of s l) × ((next_header s l).len ≡ run_of s l)
unfolding next_header run_header
header_base s l = (refl, refl, refl)

-- ---- through a history

-- what holds after n replies: the store holds at least as much as at the start, and as many runs are whole
record Far (l : ℕ) (s : List ℕ) (n : ℕ) (t : List ℕ) : Type 0 where
  grown : Grown s t
  few : n + left t l (runs s l) ≤ runs s l

module _ (l : ℕ) (s : List ℕ) (A : Asked s l) where
  low : l ≤ height_of s
  low = asked_low s l A.facts A.layer

  low_there : {t : List ℕ} → Grown s t → l ≤ height_of t
  low_there g = rw g.same.layers low

  on : {n : ℕ} {t u : List ℕ} → Far l s n t → Grown t u → Far l s n u
  on {n} {t} {u} F g =
      record {
        grown = grown_on F.grown g;
        few =
            let w = count_fewer (unfinished t l) (unfinished u l) (runs s l) (λ j a e. unfinished_was l F.grown.facts g (low_there F.grown) j e) in
            omega (arith, F.few);
      }

  far : {n : ℕ} {t : List ℕ} → Answered l s n t → Far l s n t
  far unasked = record { grown = grown_same s A.facts; few = omega (arith, count_most (unfinished s l) (runs s l)) }
  far (meanwhile {n} {t} {u} H x) = let F = far H in on F (steps_grow F.grown.facts (next begin x))
  far (reply {n} {t} {u} m H e x h z) =
      let F = far H in
      let N = named t l e in
      replied F (steps_grow F.grown.facts x) N.asked N.some N.is h (unfold take_answer in z)
    where
      replied : {n : ℕ} {t u m : List ℕ} → Far l s n t → Grown t u → Asked t l → lowest t l < wanted t l → next_answer t l ≡ request_for (facts_root t) (next_header t l)
          → HeaderOf (next_answer t l) m → take_number u m ≡ 0 → Far l s (suc n) (take_after u m)
      replied {n} {t} {u} {m} F g B a q h z =
          let k = grown_on g (grown_take u m g.facts) in
          let X = header_base t l in
          let eb : (header_of m).base ≡ l = h.base ∙ ap (λ (r : Request). r.base) q ∙ X.0 in
          let ei : (header_of m).index ≡ next_run t l * run_of t l = h.index ∙ ap (λ (r : Request). r.index) q ∙ X.1 in
          let el : (header_of m).len ≡ run_of t l = h.len ∙ ap (λ (r : Request). r.len) q ∙ X.2 in
          let sl : run_of (take_after u m) l ≡ run_of t l = same_length l B.facts k in
          let fin : Finished (take_after u m) l (next_run t l) =
          (λ i b.
          let c : i < (header_of m).len = omega arith in
          let v = taken_run u m z k.facts i c in
          rw (sl, ← ei, ← eb) v) in
          let w = count_less (unfinished t l) (unfinished (take_after u m) l) (runs s l) (next_run t l)
          (λ i b e. unfinished_was l B.facts k (low_there F.grown) i e)
          (rw (same_runs l A.facts F.grown) at (asked_one_of t l B a))
          (asked_unfinished t l B a)
          (finished_is (take_after u m) l (next_run t l) fin) in
          record { grown = grown_on F.grown k; few = omega (arith, F.few) }

-- ---- the answer along the way

asked_on : {s t : List ℕ} (l : ℕ) → Asked s l → Grown s t → Asked t l
unfolding positions
asked_on {s} {t} l A g =
    record {
      facts = g.facts;
      layer = same_asked l A.facts g ∙ A.layer;
      root = (g.kept 1 (omega (arith, lib.Pow.pow_pos (height_of s))) A.root).0;
    }

-- the number stays 0: the store stays usable, the layer may be asked for, the root stays held
pub number_stays_0 : {s t : List ℕ} (l : ℕ) → (next_answer s l).number ≡ 0 → Steps s t → (next_answer t l).number ≡ 0
number_stays_0 {s} {t} l z h =
    let A = number_says s l (sym (number_is s l) ∙ z) in
    let B = asked_on l A (steps_grow A.facts h) in
    number_is t l ∙ says_number t l (facts_usable t B.facts) B.layer B.root

-- IT ENDS: where the requests named for a layer are each answered by a message that is taken, whatever else happens between, at most
-- ceil(wanted / length) such replies come; as long as there is something to ask, fewer have come;
pub asking_ends : {s t : List ℕ} {n : ℕ} (l : ℕ) → (next_answer s l).number ≡ 0 → Answered l s n t
    → (n ≤ ceil_div (wanted s l) (run_of s l)) × ((next_answer t l).asks ≡ 1 → n < ceil_div (wanted s l) (run_of s l))
asking_ends {s} {t} {n} l z H =
    let A = number_says s l (sym (number_is s l) ∙ z) in
    let F = far l s A H in (
      omega (arith, F.few),
      λ e.
          let N = named t l e in
          let B = N.asked in
          let w = count_some (unfinished t l) (runs s l) (next_run t l)
          (rw (same_runs l A.facts F.grown) at (asked_one_of t l B N.some)) (asked_unfinished t l B N.some) in
          omega (arith, F.few),
    )

-- and behind the last of them there is nothing to ask
pub then_nothing : {s t : List ℕ} {n : ℕ} (l : ℕ) → (next_answer s l).number ≡ 0 → Answered l s n t → n ≡ ceil_div (wanted s l) (run_of s l)
    → next_answer t l ≡ no_request 0
then_nothing {s} {t} {n} l z H e = by (three t l)
  where
    A : Asked s l
    A = number_says s l (sym (number_is s l) ∙ z)

    B : Asked t l
    B = asked_on l A (far l s A H).grown

    by : Three t l → next_answer t l ≡ no_request 0
    by (refuses ne q) = absurd (ne (says_number t l (facts_usable t B.facts) B.layer B.root))
    by (nothing_asked C a q) = q
    by (one_asked C a q) =
        let v = (asking_ends l z H).1 (ap (λ (r : Request). r.asks) q) in
        let w : ⊥ = omega arith in
        absurd w
