-- The counts beside a load and a repair are counts of positions: of all that are held then, each once; and what a repair held and dropped is all that
-- the bytes name. So loading is the repair that drops nothing.
-- Assumes nothing.
use Rattle.std.specs.Prelude.{◌≡◌, Bool, cond, List, [], ◌∷◌, ◌++◌, ◌↔◌, ◌⊎◌, ℕ, zero, suc, ◌+◌, ◌-◌, ◌*◌, ◌^◌, ◌≤◌, ◌<◌}
use Rattle.std.proofs.Math.Path.{refl, ap, ap₂, sym, subst}
use Rattle.std.proofs.Common.{◌∙◌, length-append, arith}
use Rattle.std.proofs.Math.Bool.{true, false}
use Rattle.std.proofs.lemmas.Bool.{false≢true}
use Rattle.std.proofs.Math.Logic.{inl, inr}
use Rattle.std.proofs.Math.Decide.{ℕ_discrete}
use Rattle.std.proofs.Math.ListN.{length}
use Rattle.std.proofs.Math.Pow.{pow_pos}
use Rattle.numbers.specs.Numbers.{done}
use Rattle.tree.specs.Geometry.{block_count, height, node_number}
use Rattle.tree.proofs.GeometryLaws.{node_number_covers}
use Rattle.cells.specs.Cells.{held_at, hash_at}
use Rattle.cells.specs.Entries.{Entry, one_if}
use Rattle.marks.specs.Marks.{marked_at}
use Rattle.cells.specs.EntriesLaws.{In, here, there, Apart}
use Rattle.store.specs.Store.{usable, file_length, blocks_of, height_of, positions, store_size, Facts}
use Rattle.store.specs.StoreLaws.{held_count, tree_says, tree_number_lem, positions_some, usable_facts, facts_leaves}
use Rattle.saved.specs.Form.{Saved, saved_bytes, mark_count, marks_to, marks_from, value_in, root_in, blocks_in, height_in, place_count, layer_in, index_in, hash_in, rank, rank_in, places_good, Placed}
use Rattle.saved.specs.Clauses.{Within, InTree}
use Rattle.saved.proofs.ClausesLaws.{loads_when_all_kept}
use Rattle.saved.specs.Saved.{opening_number, sound, loaded, rooted, repaired, repaired_many, load_answer, load_after, repair_answer, repair_after}
use Rattle.saved.proofs.SoundLaws.{rises}
use Rattle.saved.proofs.PrefixLaws.{FormIn, form_says}
use Rattle.saved.proofs.ExactLaws.{marks_many}
use Rattle.saved.specs.Save.{block_marked, marked_below, saved_of}
use Rattle.saved.proofs.SaveLaws.{saved_reads, saved_exactly}
use Rattle.saved.proofs.RoundTrip.{loaded_facts}
use Rattle.saved.proofs.RepairedLaws.{repaired_facts, repaired_height}
use Rattle.saved.proofs.CountLaws.{load_counts}
use Rattle.saved.proofs.RepairCount.{repair_counts, repair_few}
use Rattle.words.specs.Held.{Holds, Fixed, Stands, first, later, Distinct, none, more, All}
use Rattle.words.specs.History.{Bytes}
use Rattle.words.specs.Saving.{NamedBy}
use Rattle.knowledge.specs.Again.{what_is_held}
use Rattle.knowledge.specs.ReadBack.{holds_at}
use Rattle.knowledge.specs.Over.{Entered, Found}
use Rattle.knowledge.specs.SettledMany.{all_of}
use Rattle.knowledge.specs.SavedWhen.{load_0, repair_0}
use Rattle.knowledge.specs.Restored.{holds_exactly, tree}
use Rattle.knowledge.specs.LoadedWhen.{load_is_0, repair_is_0, repair_holds}
use Rattle.knowledge.specs.SaveBytes.{every_byte}
use Rattle.knowledge.specs.CountsAdd.{count_most}
use Rattle.knowledge.specs.ThereAndBack.{some_blocks, repair_within}

-- ---- the positions that a store holds

-- of the numbers up to k those that are held
unfoldable held_entries : List ℕ → ℕ → List Entry
held_entries s zero = []
held_entries s (suc k) = cond (held_at s (suc k)) (record { at = suc k; hash = hash_at s (suc k) } ∷ held_entries s k) (held_entries s k)

in_cons : {e x : Entry} {L : List Entry} → In e (x ∷ L) → (e ≡ x) ⊎ In e L
in_cons here = inl refl
in_cons (there y) = inr y

module _ (s : List ℕ) where
  entries_many : (k : ℕ) → length (held_entries s k) ≡ held_count k s
  unfolding held_entries held_count
  entries_many zero = refl
  entries_many (suc k) = by (held_at s (suc k)) refl (entries_many k)
    where
      by : (x : Bool) → held_at s (suc k) ≡ x → length (held_entries s k) ≡ held_count k s
          → length (cond (held_at s (suc k)) (record { at = suc k; hash = hash_at s (suc k) } ∷ held_entries s k) (held_entries s k)) ≡ held_count k s + one_if (held_at s (suc k))
      by true e r = rw e (omega (arith, r))
      by false e r = rw e (omega (arith, r))

  entry_is : (k : ℕ) (e : Entry) → In e (held_entries s k) → (1 ≤ e.at) × (e.at ≤ k) × (held_at s e.at ≡ true) × (hash_at s e.at ≡ e.hash)
  unfolding held_entries
  entry_is (suc k) e x = by (held_at s (suc k)) refl x (entry_is k e)
    where
      by : (b : Bool) → held_at s (suc k) ≡ b → In e (cond b (record { at = suc k; hash = hash_at s (suc k) } ∷ held_entries s k) (held_entries s k))
          → (In e (held_entries s k) → (1 ≤ e.at) × (e.at ≤ k) × (held_at s e.at ≡ true) × (hash_at s e.at ≡ e.hash))
          → (1 ≤ e.at) × (e.at ≤ suc k) × (held_at s e.at ≡ true) × (hash_at s e.at ≡ e.hash)
      by true q y r =
          elim (in_cons y) [
            | inl p ↦ let a : e.at ≡ suc k = ap (λ (n : Entry). n.at) p in (omega arith, omega arith, ap (held_at s) a ∙ q, ap (hash_at s) a ∙ sym (ap (λ (n : Entry). n.hash) p))
            | inr i ↦ let w = r i in (w.0, omega (arith, w.1), w.2, w.3)
          ]
      by false q y r = let w = r y in (w.0, omega (arith, w.1), w.2, w.3)
  entry_is zero e x = elim x [ ]

  entry_there : (k n : ℕ) → 1 ≤ n → n ≤ k → held_at s n ≡ true → In (record { at = n; hash = hash_at s n }) (held_entries s k)
  unfolding held_entries
  entry_there zero n a b h = absurd (omega arith)
  entry_there (suc k) n a b h =
      elim (ℕ_discrete n (suc k)) [
        | yes e ↦ let q : held_at s (suc k) ≡ true = rw e at h in rw (e, q) here
        | no ne ↦ by (held_at s (suc k)) (entry_there k n a (omega arith) h)
      ]
    where
      by : (x : Bool) → In (record { at = n; hash = hash_at s n }) (held_entries s k)
          → In (record { at = n; hash = hash_at s n }) (cond x (record { at = suc k; hash = hash_at s (suc k) } ∷ held_entries s k) (held_entries s k))
      by true y = there y
      by false y = y

  entries_apart : (k : ℕ) → Apart (held_entries s k)
  unfolding held_entries
  entries_apart zero = Rattle.cells.specs.EntriesLaws.Apart.none
  entries_apart (suc k) = by (held_at s (suc k)) (entries_apart k)
    where
      by : (x : Bool) → Apart (held_entries s k) → Apart (cond x (record { at = suc k; hash = hash_at s (suc k) } ∷ held_entries s k) (held_entries s k))
      by true A =
          let far : (e : Entry) → In e (held_entries s k) → e.at ≡ suc k → ⊥ = λ e y q. let w = entry_is k e y in omega (arith, w.1, q) in
          Rattle.cells.specs.EntriesLaws.Apart.more far A
      by false A = A

-- ALL THAT A STORE HOLDS, each once, as many as its numbers held
pub all_held : (s : List ℕ) → Facts s → All (Holds s) (held_count (positions (height_of s) - 1) s)
all_held s f =
    all_of (height_of s) (Holds s) (held_entries s (positions (height_of s) - 1)) entered found (entries_apart s (positions (height_of s) - 1)) _ (entries_many s (positions (height_of s) - 1))
  where
    entered : (l i : ℕ) (v : List ℕ) → Holds s l i v → Entered (height_of s) (held_entries s (positions (height_of s) - 1)) l i v
    entered l i v x =
        let w = what_is_held s l i v f x in
        let t = tree_says (height_of s) l i w.0 in
        let n = tree_number_lem (height_of s) l i w.0 in
        record { low = t.0; inside = t.1; has = rw w.2 at (entry_there s (positions (height_of s) - 1) (node_number (height_of s) l i) n.0 (omega (arith, n.1)) w.1) }

    found : (e : Entry) → In e (held_entries s (positions (height_of s) - 1)) → Found (height_of s) (Holds s) e.at e.hash
    found e x =
        let w = entry_is s (positions (height_of s) - 1) e x in
        let b : e.at < 2 * 2 ^ height_of s = unfold positions in omega (arith, w.1, positions_some (height_of s)) in
        let c = node_number_covers (height_of s) e.at w.0 b in
        let q = c.4 in
        let h : Holds s c.0 c.1 (hash_at s (node_number (height_of s) c.0 c.1)) = holds_at s c.0 c.1 f c.2 c.3 (ap (held_at s) (sym q) ∙ w.2) in
        record {
          l = c.0;
          i = c.1;
          low = c.2;
          inside = c.3;
          number = q;
          settles = subst (Holds s c.0 c.1) (ap (hash_at s) (sym q) ∙ w.3) h;
        }

-- ---- the positions that saved bytes name

unfoldable named_to : List ℕ → ℕ → List Fixed
named_to b zero = []
named_to b (suc k) = record { l = layer_in b k; i = index_in b k; v = hash_in b k } ∷ named_to b k

module _ (b : List ℕ) where
  named_many : (k : ℕ) → length (named_to b k) ≡ k
  unfolding named_to
  named_many zero = refl
  named_many (suc k) = omega (arith, named_many k)

  stands_named : (k l i : ℕ) (v : List ℕ) → Stands l i v (named_to b k) → Placed b k l i v
  unfolding named_to
  stands_named (suc k) l i v first = record { k = k; low = omega arith; layer = refl; index = refl; hash = refl }
  stands_named (suc k) l i v (later x) =
      let w = stands_named k l i v x in record { k = w.k; low = omega (arith, w.low); layer = w.layer; index = w.index; hash = w.hash }
  stands_named zero l i v x' = elim x' [ ]

  named_stands : (k m : ℕ) → m < k → Stands (layer_in b m) (index_in b m) (hash_in b m) (named_to b k)
  unfolding named_to
  named_stands zero m a = absurd (omega arith)
  named_stands (suc k) m a = elim (ℕ_discrete m k) [ yes e ↦ rw e first | no ne ↦ later (named_stands k m (omega arith)) ]

  named_distinct : (h c p : ℕ) → places_good h b p ≡ true → (k : ℕ) → k ≤ p → Distinct (named_to b k)
  unfolding named_to
  named_distinct h c p G zero a = none
  named_distinct h c p G (suc k) a =
      more (λ v x.
      let w = stands_named k (layer_in b k) (index_in b k) v x in
      let e : rank_in h b w.k ≡ rank_in h b k = ap₂ (λ (u y : ℕ). rank h u y) w.layer w.index in
      omega (arith, rises h c b p G w.k k w.low (omega arith))) (named_distinct h c p G k (omega arith))

  -- ALL THAT THE BYTES NAME, each once
  all_named : places_good (height_in b) b (place_count b) ≡ true → All (NamedBy b) (place_count b)
  all_named G =
      record {
        all = named_to b (place_count b);
        many = named_many (place_count b);
        distinct = named_distinct (height_in b) (blocks_in b) (place_count b) G (place_count b) (omega arith);
        exactly =
            λ l i v. (
              stands_named (place_count b) l i v,
              λ x. rw (← x.layer, ← x.index, ← x.hash) (named_stands (place_count b) x.k x.low),
            );
      }

-- ---- a part with as many is the whole

-- the list without one that stands in it
without : {l i : ℕ} {v : List ℕ} (L : List Fixed) → Stands l i v L → List Fixed
without (x ∷ L) first = L
without (x ∷ L) (later s) = x ∷ without L s
without {l = l} {i = i} {v = v} [] x' = elim x' [ ]

without_many : {l i : ℕ} {v : List ℕ} (L : List Fixed) (s : Stands l i v L) → suc (length (without L s)) ≡ length L
unfolding without
without_many (x ∷ L) first = refl
without_many (x ∷ L) (later s) = omega (arith, without_many L s)
without_many {l = l} {i = i} {v = v} [] s = elim s [ ]

-- what else stood in it still does
without_stands : {l i : ℕ} {v : List ℕ} (L : List Fixed) (s : Stands l i v L) (k j : ℕ) (w : List ℕ) → ((k ≡ l) × (j ≡ i) → ⊥) → Stands k j w L → Stands k j w (without L s)
unfolding without
without_stands (x ∷ L) first k j w ne first = absurd (ne (refl, refl))
without_stands (x ∷ L) first k j w ne (later y) = y
without_stands (x ∷ L) (later s) k j w ne first = first
without_stands (x ∷ L) (later s) k j w ne (later y) = later (without_stands L s k j w ne y)
without_stands {l = l} {i = i} {v = v} [] s k j w ne _ = elim s [ ]

-- a position is one of a list of distinct ones, or the list is not longer than the rest
as_many : (A B : List Fixed) → Distinct A → ((l i : ℕ) (v : List ℕ) → Stands l i v A → Stands l i v B) → length A ≤ length B
as_many [] B d f = omega arith
as_many (x ∷ A) B (more n d) f =
    let s = f x.l x.i x.v first in
    let r = as_many A (without B s) d (λ l i v y. without_stands B s l i v (λ e. n v (rw (← e.0, ← e.1) y)) (f l i v (later y))) in
    omega (arith, r, without_many B s)

-- ---- a load

load_says : (s b : List ℕ) → opening_number (length s) b ≡ 0 → sound b ≡ true → load_answer s b ≡ done (place_count b)
unfolding load_answer
load_says s b o g = rw (o, g)

-- THE COUNT BESIDE A LOAD: all positions then held
pub load_all_held : (s b : List ℕ) → (load_answer s b).number ≡ 0 → All (Holds (load_after s b)) (load_answer s b).count
load_all_held s b z =
    let w = load_0 s b z in
    let a = all_held (loaded s b) (loaded_facts s b w.0 w.1) in
    let e = load_counts s b w.0 w.1 in
    rw (w.2, load_says s b w.0 w.1) (subst (All (Holds (loaded s b))) e a)

-- ---- a repair

repair_says : (s b : List ℕ) → opening_number (length s) b ≡ 0 → rooted b ≡ true
    → repair_answer s b ≡ record { number = 0; dropped = place_count b - repaired_many s b; held = repaired_many s b }
unfolding repair_answer
repair_says s b o g = rw (o, g)

module _ (s b : List ℕ) (z : (repair_answer s b).number ≡ 0) where
  answers : repair_answer s b ≡ record { number = 0; dropped = place_count b - repaired_many s b; held = repaired_many s b }
  answers = let w = repair_0 s b z in repair_says s b w.0 w.1

  facts_left : Facts (repair_after s b)
  facts_left = let w = repair_0 s b z in rw w.2 (repaired_facts s b w.0 w.1)

  good : places_good (height_in b) b (place_count b) ≡ true
  good = (form_says b ((repair_is_0 s b).0 z).1.form).places

  few : repaired_many s b ≤ place_count b
  few = let w = repair_0 s b z in repair_few s b w.0 w.1 (omega (arith, ((repair_is_0 s b).0 z).1.root.low))

  all_left : All (Holds (repair_after s b)) (repaired_many s b)
  all_left =
      let w = repair_0 s b z in
      let a = all_held (repaired s b) (repaired_facts s b w.0 w.1) in
      let e = ap (λ (h : ℕ). held_count (positions h - 1) (repaired s b)) (repaired_height s b w.0 w.1) ∙ repair_counts s b w.0 w.1 in
      rw w.2 (subst (All (Holds (repaired s b))) e a)

  -- THE COUNT OF WHAT IS HELD: all positions then held
  pub repair_all_held : All (Holds (repair_after s b)) (repair_answer s b).held
  repair_all_held = rw answers all_left

  -- THE COUNT OF WHAT WAS DROPPED: with these it is all positions that the bytes name
  pub repair_all_named : All (NamedBy b) ((repair_answer s b).dropped + (repair_answer s b).held)
  repair_all_named = let e : place_count b - repaired_many s b + repaired_many s b ≡ place_count b = omega (arith, few) in rw (answers, e) (all_named b good)

  -- where nothing was dropped, all that is named is held
  none_dropped : (repair_answer s b).dropped ≡ 0 → Within (NamedBy b) (Holds (repair_after s b))
  none_dropped d l i v x = by (held_at (repair_after s b) (node_number (height_of (repair_after s b)) l i)) refl
    where
      A : All (Holds (repair_after s b)) (repaired_many s b)
      A = all_left

      N : All (NamedBy b) (place_count b)
      N = all_named b good

      enough : place_count b ≤ repaired_many s b
      enough = let q : place_count b - repaired_many s b ≡ 0 = rw answers at d in omega arith

      T : InTree (height_in b) (NamedBy b)
      T = let w = repair_0 s b z in tree s b w.0 w.1 (some_blocks s b z)

      layers : height_of (repair_after s b) ≡ height_in b
      layers = let w = repair_0 s b z in rw w.2 (repaired_height s b w.0 w.1)

      by : (y : Bool) → held_at (repair_after s b) (node_number (height_of (repair_after s b)) l i) ≡ y → Holds (repair_after s b) l i v
      by true e =
          let low : l ≤ height_of (repair_after s b) = rw layers (T.low l i v x) in
          let inside : i < 2 ^ (height_of (repair_after s b) - l) = rw layers (T.inside l i v x) in
          let h = holds_at (repair_after s b) l i facts_left low inside e in
          let n = repair_within s b z l i (hash_at (repair_after s b) (node_number (height_of (repair_after s b)) l i)) h in
          subst (Holds (repair_after s b) l i) (T.one l i (hash_at (repair_after s b) (node_number (height_of (repair_after s b)) l i)) v n x) h
      by false e =
          let S = (N.exactly l i v).1 x in
          let r = as_many A.all (without N.all S) A.distinct
          (λ k j w y.
          let h = (A.exactly k j w).0 y in
          without_stands N.all S k j w
          (λ q.
          let g : Holds (repair_after s b) l i w = rw (q.0, q.1) at h in
          false≢true (sym e ∙ (what_is_held (repair_after s b) l i w facts_left g).1))
          ((N.exactly k j w).1 (repair_within s b z k j w h))) in
          absurd (omega (arith, r, without_many N.all S, A.many, N.many, enough))

-- LOADING is the repair that drops nothing
pub load_drops_nothing : (s b : List ℕ) → ((load_answer s b).number ≡ 0) ↔ (((repair_answer s b).number ≡ 0) × ((repair_answer s b).dropped ≡ 0))
load_drops_nothing s b = (to, from)
  where
    to : (load_answer s b).number ≡ 0 → ((repair_answer s b).number ≡ 0) × ((repair_answer s b).dropped ≡ 0)
    to z =
        let w = (load_is_0 s b).0 z in
        let y = (repair_is_0 s b).1 (w.0, record { form = w.1.form; root = w.1.clauses.root }) in
        let r = repair_0 s b y in
        let k = ((loads_when_all_kept (height_in b) (blocks_in b) (root_in b) (NamedBy b) (tree s b r.0 r.1 (some_blocks s b y)) (some_blocks s b y)).0 w.1.clauses).1 in
        let A = all_left s b y in
        let N = all_named b (good s b y) in
        let m = as_many N.all A.all N.distinct (λ l i v x. (A.exactly l i v).1 ((repair_holds s b y l i v).1 (k l i v ((N.exactly l i v).0 x)))) in
        let e : place_count b - repaired_many s b ≡ 0 = omega (arith, m, A.many, N.many) in
        (y, rw (answers s b y) e)

    from : ((repair_answer s b).number ≡ 0) × ((repair_answer s b).dropped ≡ 0) → (load_answer s b).number ≡ 0
    from p =
        let y = p.0 in
        let w = (repair_is_0 s b).0 p.0 in
        let r = repair_0 s b p.0 in
        let C = (loads_when_all_kept (height_in b) (blocks_in b) (root_in b) (NamedBy b) (tree s b r.0 r.1 (some_blocks s b p.0)) (some_blocks s b p.0)).1
        (w.1.root, λ l i v x. (repair_holds s b p.0 l i v).0 (none_dropped s b p.0 p.1 l i v x)) in
        (load_is_0 s b).1 (w.0, record { form = w.1.form; clauses = C })

-- ---- how long a save is

marked_few : (s : List ℕ) (n : ℕ) → length (marked_below s n) ≤ n
unfolding marked_below
marked_few s zero = omega arith
marked_few s (suc n) =
    let a : length (marked_below s n ++ block_marked s n) ≡ length (marked_below s n) + length (block_marked s n) = simp length-append in
    let b = by (marked_at s n) in
    omega (arith, marked_few s n, a, b)
  where
    by : (x : Bool) → length (cond x (n ∷ []) []) ≤ 1
    by true = omega arith
    by false = omega arith

module _ (s : List ℕ) (u : usable s ≡ true) (bs : Bytes s) where
  f : Facts s
  f = usable_facts s u

  form : FormIn (saved_bytes (saved_of s))
  form = form_says (saved_bytes (saved_of s)) (saved_reads s f (every_byte s bs)).1

  marks_few : mark_count (saved_bytes (saved_of s)) ≤ blocks_of s
  unfolding value_in saved_of
  marks_few =
      let e : marks_to (saved_bytes (saved_of s)) (marks_from (saved_bytes (saved_of s))) (mark_count (saved_bytes (saved_of s))) ≡ marked_below s (blocks_of s) = ap (λ (v : Saved). v.marks) (saved_reads s f (every_byte s bs)).2 in
      let m = marks_many (saved_bytes (saved_of s)) (marks_from (saved_bytes (saved_of s))) (mark_count (saved_bytes (saved_of s))) in
      omega (arith, m, ap length e, marked_few s (blocks_of s))

  places_few : place_count (saved_bytes (saved_of s)) ≤ 2 * 2 ^ height_of s - 1
  unfolding positions
  places_few =
      let N = all_named (saved_bytes (saved_of s)) form.places in
      let A = all_held s f in
      let m = as_many N.all A.all N.distinct (λ l i v x. (A.exactly l i v).1 ((holds_exactly s f l i v).1 ((saved_exactly s f (every_byte s bs) l i v).0 ((N.exactly l i v).0 x)))) in
      let c = count_most (positions (height_of s) - 1) s in
      omega (arith, m, N.many, A.many, c)

  -- A SAVE IS AT MOST 87·2^h + 9 bytes long
  pub save_size : length (saved_bytes (saved_of s)) ≤ 87 * 2 ^ height_of s + 9
  save_size = omega (arith, form.size, places_few, marks_few, facts_leaves s f, pow_pos (height_of s))

  -- which is less than twice the store's size
  pub save_fits : length (saved_bytes (saved_of s)) ≤ 2 * store_size (file_length s)
  save_fits = omega (arith, save_size, store_is s)
    where
      store_is : (s : List ℕ) → store_size (file_length s) ≡ 31 + 33 * (2 * 2 ^ height_of s) + 2 ^ height_of s
      store_is s = unfold store_size positions height_of blocks_of in omega (arith, pow_pos (height (block_count (file_length s))))
