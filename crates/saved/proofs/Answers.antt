-- What each function answers, from what its callees ensure and the tests it took: every answer is one case of the definition.
use Rattle.std.specs.Prelude.{◌≡◌, refl, List, Bool, true, false, cond, ◌&&◌, ℕ, zero, suc, ◌+◌, ◌-◌, ◌*◌, ◌/◌, ◌%◌, ◌^◌, ◌≤◌, ◌<◌, length, get_or, eqb, leb, ltb}
use Rattle.std.proofs.Common.{ap, ap₂, sym, ◌∙◌, arith, add-one, pow_mono, eq-eqb, ne_eqb, eqb-true, lt-ltb, le-ltb, le-leb}
use Rattle.std.proofs.Math.Bool.{and-eq-true_iff, and-false}
use Rattle.std.proofs.Math.Decide.{ℕ_discrete}
use Rattle.std.proofs.lemmas.Bool.{lt-leb}
use Rattle.octets.specs.Octets.{same}
use Rattle.sha256.specs.Sha256.{pair_hash}
use Rattle.tree.specs.Geometry.{covering}
use Rattle.tree.specs.Values.{pad_value}
use Rattle.numbers.specs.Numbers.{refused, done, unusable, facts_out_of_range, not_saved}
use Rattle.numbers.specs.declared.Answer.{Answer}
use Rattle.octets.specs.Octets.{number_at}
use Rattle.limits.specs.Limits.{longest_file, tallest_tree}
use Rattle.tree.specs.Geometry.{block_count, height}
use Rattle.store.specs.Store.{in_tree, facts_in_range, store_size, size_answer}
use Rattle.store.specs.StoreLaws.{tree_low, tree_says, height_most, size_given, size_refused}
use Rattle.store.proofs.Answers.{shifted_two, tree_index}
use Rattle.saved.specs.Form.{blocks_in, height_in, mark_count, place_count, layer_in, index_in, block_in, rank, rank_in, sized, next_rank, place_good, places_good, next_block, mark_good, marks_good, marks_from, formed}
use Rattle.saved.specs.Form.{root_in, hash_in, length_in, piece_length_in, opens}
use Rattle.saved.specs.Saved.{pad_right, children_of, made_by, family_at, claimed_by, claimed, root_right, chained, sound, opening_number}
use Rattle.saved.proofs.PrefixLaws.{FormIn, form_says, mark_at, mark_says}
use Rattle.saved.specs.Saved.{neighbours, parent_in, joins, mended, mended_many, rooted, repaired, repaired_many}
use Rattle.saved.specs.Saved.{begun, not_repaired, repair_answer, repair_after}
use Rattle.saved.specs.declared.repair.Repaired.{Repaired}
use Rattle.saved.proofs.SoundExactly.{root_says}
use Rattle.saved.proofs.MendedLaws.{mended_yes, mended_no, mended_none, mended_one, many_yes, many_no, many_none, many_one}
use Rattle.cells.specs.Cells.{held_at, hash_at}
use Rattle.saved.specs.Saved.{entries_in, with_place, marks_set, loaded, load_answer, load_after}
use Rattle.saved.proofs.LoadLaws.{put_next, marks_set_next, marks_set_same, mark_fits, Opens, opening_says, first, first_room, second, second_facts, second_marks}
use Rattle.cells.specs.Cells.{Room, put}
use Rattle.cells.specs.Entries.{one_if, put_all}
use Rattle.marks.specs.Marks.{marked, marks_start, marks_put}
use Rattle.marks.specs.MarksLaws.{mark_in}
use Rattle.tree.specs.Geometry.{node_number}
use Rattle.tree.proofs.GeometryLaws.{node_number_range}
use Rattle.store.specs.Store.{blocks_of, height_of, positions, opened, open_after, Facts}
use Rattle.store.specs.StoreLaws.{open_done}
use Rattle.saved.proofs.RankLaws.{rank_most, width_most}
use Rattle.saved.proofs.SoundLaws.{place_at}
use Rattle.saved.proofs.ClaimedLaws.{claimed_none}

-- ---- whether the length fits

module _ (b : List ℕ) where
  pub sized_small : length b < 50 → false ≡ sized b
  unfolding sized
  sized_small l = sym (simp (lt-leb 50 (length b) l))

  pub sized_kind : 50 ≤ length b → (get_or b (length b - 5) 0 ≡ 4 → ⊥) → false ≡ sized b
  unfolding sized
  sized_kind l ne = sym (simp (le-leb 50 (length b) l, ne_eqb (get_or b (length b - 5) 0) 4 ne))

  pub sized_short : (m : ℕ) → m ≡ mark_count b → length b < 50 + 5 * m → false ≡ sized b
  unfolding sized
  sized_short m e l =
      let n : eqb (50 + 41 * place_count b + 5 * mark_count b) (length b) ≡ false = ne_eqb (50 + 41 * place_count b + 5 * mark_count b) (length b) (λ q. omega arith) in
      sym (rw n (and-false (leb 50 (length b) && eqb (get_or b (length b - 5) 0) 4)))

  pub sized_exact : (m : ℕ) → 50 ≤ length b → get_or b (length b - 5) 0 ≡ 4 → m ≡ mark_count b → 50 + 5 * m ≤ length b → eqb ((length b - (50 + 5 * m)) % 41) 0 ≡ sized b
  unfolding sized place_count
  sized_exact m l k e h =
      let g : eqb ((length b - (50 + 5 * m)) % 41) 0 ≡ eqb (50 + 41 * ((length b - (50 + 5 * m)) / 41) + 5 * m) (length b) =
      elim (ℕ_discrete ((length b - (50 + 5 * m)) % 41) 0) [
        | yes z ↦ eq-eqb ((length b - (50 + 5 * m)) % 41) 0 z ∙ sym (eq-eqb (50 + 41 * ((length b - (50 + 5 * m)) / 41) + 5 * m) (length b) (omega arith))
        | no z ↦ ne_eqb ((length b - (50 + 5 * m)) % 41) 0 z ∙ sym (ne_eqb (50 + 41 * ((length b - (50 + 5 * m)) / 41) + 5 * m) (length b) (λ q. z (omega arith)))
      ] in
      g ∙ sym (simp (le-leb 50 (length b) l, k, ← e))

  pub sized_says : sized b ≡ true → (50 + 5 * mark_count b ≤ length b) × (length b ≡ 50 + 41 * place_count b + 5 * mark_count b)
  unfolding sized
  sized_says g =
      let a = (and-eq-true_iff (leb 50 (length b) && eqb (get_or b (length b - 5) 0) 4) (eqb (50 + 41 * place_count b + 5 * mark_count b) (length b))).0 g in
      let e = eqb-true (50 + 41 * place_count b + 5 * mark_count b) (length b) a.1 in
      (omega arith, sym e)

-- ---- a position

module _ (b : List ℕ) (h k : ℕ) where
  pub there_kind : (get_or b (45 + 41 * k) 0 ≡ 2 → ⊥) → false ≡ (eqb (get_or b (45 + 41 * k) 0) 2 && in_tree h (layer_in b k) (index_in b k))
  there_kind ne = sym (simp (ne_eqb (get_or b (45 + 41 * k) 0) 2 ne))

  pub there_high : (l : ℕ) → get_or b (45 + 41 * k) 0 ≡ 2 → l ≡ layer_in b k → h < l → false ≡ (eqb (get_or b (45 + 41 * k) 0) 2 && in_tree h (layer_in b k) (index_in b k))
  there_high l e f g =
      let n : in_tree h (layer_in b k) (index_in b k) ≡ false = sym (tree_low h (layer_in b k) (index_in b k) (rw f at g)) in
      sym (rw (e, n))

  pub there_in : (l i : ℕ) → get_or b (45 + 41 * k) 0 ≡ 2 → l ≡ layer_in b k → i ≡ index_in b k → h ≤ tallest_tree → l ≤ h
      → ltb i ((1 * 2 ^ (h - l)) % 18446744073709551616) ≡ (eqb (get_or b (45 + 41 * k) 0) 2 && in_tree h (layer_in b k) (index_in b k))
  there_in l i e f g h20 low =
      let w : ltb i ((1 * 2 ^ (h - l)) % 18446744073709551616) ≡ in_tree h l i = tree_index h l i (omega arith) low in
      w ∙ ap₂ (in_tree h) f g ∙ sym (rw e)

  module _ (l i : ℕ) (f : l ≡ layer_in b k) (g : i ≡ index_in b k) (h20 : h ≤ tallest_tree) (t : in_tree h (layer_in b k) (index_in b k) ≡ true) where
    pub rank_low : l ≤ h
    rank_low = omega (arith, (tree_says h (layer_in b k) (index_in b k) t).0)

    inside : i < 2 ^ (h - l)
    inside = rw (f, g) (tree_says h (layer_in b k) (index_in b k) t).1

    pub rank_all : (2 * 2 ^ h) % 18446744073709551616 ≡ 2 * 2 ^ h
    rank_all = shifted_two h (omega arith)

    pub rank_above : (2 * 2 ^ (h - l)) % 18446744073709551616 ≡ 2 * 2 ^ (h - l)
    rank_above = shifted_two (h - l) (omega arith)

    pub rank_fits : 2 * 2 ^ (h - l) ≤ 2 * 2 ^ h
    rank_fits = omega (arith, width_most h l)

    pub rank_small : 2 * 2 ^ h - 2 * 2 ^ (h - l) + i + 2 ≤ 2 * 2 ^ h
    rank_small = unfold rank in rank_most h l i inside

    pub rank_by : (a d : ℕ) → a ≡ 2 * 2 ^ h → d ≡ 2 * 2 ^ (h - l) → (a - d + i ≡ rank_in h b k) × (a - d + i + 2 ≤ 2 * 2 ^ h)
    unfolding rank
    rank_by a d p q =
        let e : a - d + i ≡ 2 * 2 ^ h - 2 * 2 ^ (h - l) + i = omega arith in
        (e ∙ ap₂ (λ (x y : ℕ). 2 * 2 ^ h - 2 * 2 ^ (h - x) + y) f g, omega (arith, rank_most h l i inside))

-- 2^20 leaves at most
pub pow_small : (h : ℕ) → h ≤ tallest_tree → 2 ^ h ≤ 2 ^ tallest_tree
pow_small h l = pow_mono {i = h} {j = 20} l

-- ---- the positions

module _ (b : List ℕ) (h k : ℕ) where
  pub places_out : (p : ℕ) → k < p → places_good h b p ≡ true → place_good h b k ≡ true
  places_out p l g = Rattle.saved.proofs.SoundLaws.place_at h b p g k l

  good_not : (p : ℕ) → k < p → place_good h b k ≡ false → places_good h b p ≡ false
  good_not p l e = by (places_good h b p) refl
    where
      by : (x : Bool) → places_good h b p ≡ x → places_good h b p ≡ false
      by false q = q
      by true q = absurd (mathlib.Core.Bool.false≢true (sym e ∙ places_out p l q))

  pub places_there : (p : ℕ) (t : Bool) → k < p → t ≡ (eqb (get_or b (45 + 41 * k) 0) 2 && in_tree h (layer_in b k) (index_in b k)) → t ≡ false → false ≡ places_good h b p
  unfolding place_good
  places_there p t l e f = sym (good_not p l (rw (sym e ∙ f)))

  pub places_rank : (p r n : ℕ) → k < p → r ≡ rank_in h b k → n ≡ next_rank h b k → r < n → false ≡ places_good h b p
  unfolding place_good
  places_rank p r n l e f g =
      sym (good_not p l (rw (lt-leb (next_rank h b k) (rank_in h b k) (omega arith)) (and-false (eqb (get_or b (45 + 41 * k) 0) 2 && in_tree h (layer_in b k) (index_in b k)))))

  pub places_next : (t : Bool) (r n : ℕ) → places_good h b k ≡ true → t ≡ (eqb (get_or b (45 + 41 * k) 0) 2 && in_tree h (layer_in b k) (index_in b k)) → t ≡ true → r ≡ rank_in h b k → n ≡ next_rank h b k → n ≤ r
      → (places_good h b (k + 1) ≡ true) × (r + 1 ≡ next_rank h b (k + 1))
  unfolding places_good place_good next_rank
  places_next t r n g e f q w l =
      let x : (eqb (get_or b (45 + 41 * k) 0) 2 && in_tree h (layer_in b k) (index_in b k)) ≡ true = sym e ∙ f in
      let y : leb (next_rank h b k) (rank_in h b k) ≡ true = le-leb (next_rank h b k) (rank_in h b k) (omega arith) in
      rw (add-one k) (rw (g, x, y), omega arith)

pub there_in_tree : (b : List ℕ) (h k : ℕ) (t : Bool) → t ≡ (eqb (get_or b (45 + 41 * k) 0) 2 && in_tree h (layer_in b k) (index_in b k)) → t ≡ true → in_tree h (layer_in b k) (index_in b k) ≡ true
there_in_tree b h k t e f = ((and-eq-true_iff (eqb (get_or b (45 + 41 * k) 0) 2) (in_tree h (layer_in b k) (index_in b k))).0 (sym e ∙ f)).1

pub places_none : (b : List ℕ) (h : ℕ) → (places_good h b 0 ≡ true) × (0 ≡ next_rank h b 0)
unfolding places_good next_rank
places_none b h = (refl, refl)

-- ---- the marks

module _ (c : ℕ) (b : List ℕ) (at k : ℕ) where
  mark_not : (m : ℕ) → k < m → mark_good c b at k ≡ false → false ≡ marks_good c b at m
  mark_not m l e = by (marks_good c b at m) refl
    where
      by : (x : Bool) → marks_good c b at m ≡ x → false ≡ marks_good c b at m
      by false q = sym q
      by true q = absurd (mathlib.Core.Bool.false≢true (sym e ∙ Rattle.saved.proofs.PrefixLaws.mark_at c b at m q k l))

  pub marks_kind : (m : ℕ) → k < m → (get_or b (at + 5 * k) 0 ≡ 3 → ⊥) → false ≡ marks_good c b at m
  unfolding mark_good
  marks_kind m l ne = mark_not m l (simp (ne_eqb (get_or b (at + 5 * k) 0) 3 ne))

  pub marks_past : (m x : ℕ) → k < m → x ≡ block_in b at k → c ≤ x → false ≡ marks_good c b at m
  unfolding mark_good
  marks_past m x l e h = mark_not m l (rw (le-ltb (block_in b at k) c (omega arith)) (lost (eqb (get_or b (at + 5 * k) 0) 3) (leb (next_block b at k) (block_in b at k))))
    where
      lost : (x y : Bool) → (x && false && y) ≡ false
      lost true y = refl
      lost false y = refl

  pub marks_back : (m x n : ℕ) → k < m → x ≡ block_in b at k → n ≡ next_block b at k → x < n → false ≡ marks_good c b at m
  unfolding mark_good
  marks_back m x n l e f h = mark_not m l (rw (lt-leb (next_block b at k) (block_in b at k) (omega arith)) (and-false (eqb (get_or b (at + 5 * k) 0) 3 && ltb (block_in b at k) c)))

  pub marks_next : (x n : ℕ) → marks_good c b at k ≡ true → get_or b (at + 5 * k) 0 ≡ 3 → x ≡ block_in b at k → x < c → n ≡ next_block b at k → n ≤ x
      → (marks_good c b at (k + 1) ≡ true) × (x + 1 ≡ next_block b at (k + 1))
  unfolding marks_good mark_good next_block
  marks_next x n g q e l f h =
      let y : ltb (block_in b at k) c ≡ true = lt-ltb (block_in b at k) c (omega arith) in
      let z : leb (next_block b at k) (block_in b at k) ≡ true = le-leb (next_block b at k) (block_in b at k) (omega arith) in
      rw (add-one k) (rw (g, q, y, z), omega arith)

pub marks_none : (c : ℕ) (b : List ℕ) (at : ℕ) → (marks_good c b at 0 ≡ true) × (0 ≡ next_block b at 0)
unfolding marks_good next_block
marks_none c b at = (refl, refl)

-- ---- the form

module _ (b : List ℕ) where
  pub formed_size : (t : Bool) → t ≡ sized b → t ≡ false → false ≡ formed b
  unfolding formed
  formed_size t e f = sym (rw (sym e ∙ f))

  pub formed_places : (t x : Bool) (h p : ℕ) → t ≡ sized b → t ≡ true → p ≡ place_count b → h ≡ height_in b → x ≡ places_good h b p → x ≡ false → false ≡ formed b
  unfolding formed
  formed_places t x h p e f q w v u =
      let y : places_good (height_in b) b (place_count b) ≡ false = ap₂ (λ (j k : ℕ). places_good j b k) (sym w) (sym q) ∙ sym v ∙ u in
      sym (rw (sym e ∙ f, y))

  pub formed_marks : (t x y : Bool) (h c p m : ℕ) → t ≡ sized b → t ≡ true → p ≡ place_count b → h ≡ height_in b → x ≡ places_good h b p → x ≡ true → m ≡ mark_count b → c ≡ blocks_in b
      → y ≡ marks_good c b (45 + 41 * p) m → y ≡ formed b
  unfolding formed
  formed_marks t x y h c p m e f q w v u n d g =
      let z : places_good (height_in b) b (place_count b) ≡ true = ap₂ (λ (j k : ℕ). places_good j b k) (sym w) (sym q) ∙ sym v ∙ u in
      g ∙ ap₂ (λ (j k : ℕ). marks_good j b (45 + 41 * k) m) d q ∙ ap (marks_good (blocks_in b) b (marks_from b)) n ∙ sym (rw (sym e ∙ f, z))

-- ---- padding

module _ (c : ℕ) (b : List ℕ) (k l i r : ℕ) (el : l ≡ layer_in b k) (ei : i ≡ index_in b k) (er : r ≡ covering c l) where
  pub pad_real : i < r → true ≡ pad_right c b k
  unfolding pad_right
  pad_real lt = sym (simp (lt-ltb (index_in b k) (covering c (layer_in b k)) (rw (← ei, ← el, ← er) lt)))

  pub pad_past : (m v : List ℕ) (x : Bool) → r ≤ i → m ≡ hash_in b k → v ≡ pad_value l → x ≡ same m v → x ≡ pad_right c b k
  unfolding pad_right
  pad_past m v x le em ev ex = ex ∙ ap₂ same em (ev ∙ ap pad_value el) ∙ sym (simp (le-ltb (index_in b k) (covering c (layer_in b k)) (rw (← ei, ← el, ← er) le)))

-- ---- two children and their parent

pub place_in_tree : (h : ℕ) (b : List ℕ) (p k : ℕ) → places_good h b p ≡ true → k < p → in_tree h (layer_in b k) (index_in b k) ≡ true
unfolding place_good
place_in_tree h b p k g l =
    let a = (and-eq-true_iff (eqb (get_or b (45 + 41 * k) 0) 2 && in_tree h (layer_in b k) (index_in b k)) (leb (next_rank h b k) (rank_in h b k))).0 (unfold place_good in place_at h b p g k l) in
    ((and-eq-true_iff (eqb (get_or b (45 + 41 * k) 0) 2) (in_tree h (layer_in b k) (index_in b k))).0 a.0).1

-- the shift, and that nothing wraps
pub all_shifted : (h : ℕ) → h ≤ tallest_tree → ((2 * 2 ^ h) % 18446744073709551616 ≡ 2 * 2 ^ h) × (2 * 2 ^ h ≤ 2 * 2 ^ tallest_tree)
all_shifted h l = (shifted_two h (omega arith), omega (arith, pow_small h l))

module _ (h : ℕ) (b : List ℕ) (k j : ℕ) (h20 : h ≤ tallest_tree) (left up : ℕ) (el : left ≡ rank_in h b k) (eu : up ≡ rank_in h b j) where
  pub children_not : (left + (2 * 2 ^ h) % 18446744073709551616 ≡ 2 * up → ⊥) → false ≡ children_of h b k j
  unfolding children_of
  children_not ne =
      let s = (all_shifted h h20).0 in
      sym (simp (ne_eqb (rank_in h b k + 2 * 2 ^ h) (2 * rank_in h b j) (λ q. ne (omega arith))))

  pub children_is : (right : ℕ) → left + (2 * 2 ^ h) % 18446744073709551616 ≡ 2 * up → right ≡ rank_in h b (k + 1) → eqb right (left + 1) ≡ children_of h b k j
  unfolding children_of
  children_is right e er =
      let s = (all_shifted h h20).0 in
      ap₂ eqb er (ap (λ (x : ℕ). x + 1) el) ∙ sym (simp (eq-eqb (rank_in h b k + 2 * 2 ^ h) (2 * rank_in h b j) (omega arith)))

-- ---- a family

module _ (h c : ℕ) (b : List ℕ) (k j : ℕ) where
  pub family_behind : j ≤ k + 1 → false ≡ family_at h c b k j
  unfolding family_at
  family_behind l = sym (simp (le-ltb (k + 1) j l))

  module _ (lt : k + 1 < j) (near : Bool) (en : near ≡ children_of h b k j) where
    pub family_far : near ≡ false → false ≡ family_at h c b k j
    unfolding family_at
    family_far f = let x : children_of h b k j ≡ false = sym en ∙ f in sym (simp (lt-ltb (k + 1) j lt, x))

    module _ (fn : near ≡ true) (left : Bool) (el : left ≡ pad_right c b k) where
      pub family_left : left ≡ false → false ≡ family_at h c b k j
      unfolding family_at
      family_left f =
          let x : children_of h b k j ≡ true = sym en ∙ fn in
          let y : pad_right c b k ≡ false = sym el ∙ f in
          sym (simp (lt-ltb (k + 1) j lt, x, y))

      module _ (fl : left ≡ true) (right : Bool) (er : right ≡ pad_right c b (k + 1)) where
        pub family_right : right ≡ false → false ≡ family_at h c b k j
        unfolding family_at
        family_right f =
            let x : children_of h b k j ≡ true = sym en ∙ fn in
            let y : pad_right c b k ≡ true = sym el ∙ fl in
            let z : pad_right c b (k + 1) ≡ false = sym er ∙ f in
            sym (simp (lt-ltb (k + 1) j lt, x, y, z))

        pub family_made : right ≡ true → (r : Bool) → r ≡ made_by b k j → r ≡ family_at h c b k j
        unfolding family_at
        family_made f r e =
            let x : children_of h b k j ≡ true = sym en ∙ fn in
            let y : pad_right c b k ≡ true = sym el ∙ fl in
            let z : pad_right c b (k + 1) ≡ true = sym er ∙ f in
            e ∙ sym (simp (lt-ltb (k + 1) j lt, x, y, z))

-- ---- the pass

pub claimed_start : (h c : ℕ) (b : List ℕ) → 0 ≡ claimed h c b 0
claimed_start h c b = sym (claimed_none (family_at h c b))

pub claimed_turn : (h c : ℕ) (b : List ℕ) (j k r : ℕ) (two : Bool) → k ≡ claimed h c b j → k ≤ j → two ≡ family_at h c b k j → r ≡ cond two (k + 2) k → (r ≡ claimed h c b (j + 1)) × (r ≤ j + 1)
claimed_turn h c b j k r two e l f q = (turn, by two refl)
  where
    turn : r ≡ claimed h c b (j + 1)
    turn = unfold claimed_by in rw (add-one j) (q ∙ ap₂ (λ (t : Bool) (x : ℕ). cond t (x + 2) x) (f ∙ ap (λ (x : ℕ). family_at h c b x j) e) e)

    by : (t : Bool) → two ≡ t → r ≤ j + 1
    by false z = let w : r ≡ k = q ∙ ap (λ (t : Bool). cond t (k + 2) k) z in omega arith
    by true z =
        let w : r ≡ k + 2 = q ∙ ap (λ (t : Bool). cond t (k + 2) k) z in
        let a = (Rattle.saved.proofs.SoundLaws.family_says h c b k j (sym f ∙ z)).before in
        omega arith

-- ---- the root

module _ (h : ℕ) (b : List ℕ) (p : ℕ) (ep : p ≡ place_count b) where
  pub root_none : p ≡ 0 → false ≡ root_right h b
  unfolding root_right
  root_none z = sym (simp (le-ltb 0 (place_count b) (omega arith)))

  module _ (ne : p ≡ 0 → ⊥) (h20 : h ≤ tallest_tree) (up : ℕ) (eu : up ≡ rank_in h b (p - 1)) where
    up_is : up ≡ rank_in h b (place_count b - 1)
    up_is = eu ∙ ap (λ (x : ℕ). rank_in h b (x - 1)) ep

    pub root_other : (up + 2 ≡ (2 * 2 ^ h) % 18446744073709551616 → ⊥) → false ≡ root_right h b
    unfolding root_right
    root_other n =
        let s = (all_shifted h h20).0 in
        let e = up_is in
        sym (simp (lt-ltb 0 (place_count b) (omega arith), ne_eqb (rank_in h b (place_count b - 1) + 2) (2 * 2 ^ h) (λ q. n (omega arith))))

    pub root_is : (m r : List ℕ) (x : Bool) → up + 2 ≡ (2 * 2 ^ h) % 18446744073709551616 → m ≡ hash_in b (p - 1) → r ≡ root_in b → x ≡ same m r → x ≡ root_right h b
    unfolding root_right
    root_is m r x q em er ex =
        let s = (all_shifted h h20).0 in
        let e = up_is in
        ex ∙ ap₂ same (em ∙ ap (λ (y : ℕ). hash_in b (y - 1)) ep) er
        ∙ sym (simp (lt-ltb 0 (place_count b) (omega arith), eq-eqb (rank_in h b (place_count b - 1) + 2) (2 * 2 ^ h) (omega arith)))

pub root_cut : (b r : List ℕ) → r ≡ Rattle.octets.specs.Octets.cut b 13 32 → r ≡ root_in b
unfolding root_in
root_cut b r e = e

pub two_from : (k : ℕ) (t : Bool) (x : ℕ) → x ≡ one_if t → k + 2 * x ≡ cond t (k + 2) k
two_from k true x e = omega (arith, e)
two_from k false x e = omega (arith, e)

-- ---- the opening

module _ (size : ℕ) (b : List ℕ) where
  pub opening_short : length b < 45 → not_saved ≡ opening_number size b
  unfolding opening_number opens
  opening_short l = sym (simp (lt-leb 45 (length b) l))

  pub opening_kind : 45 ≤ length b → (get_or b 0 0 ≡ 1 → ⊥) → not_saved ≡ opening_number size b
  unfolding opening_number opens
  opening_kind l ne = sym (simp (le-leb 45 (length b) l, ne_eqb (get_or b 0 0) 1 ne))

  module _ (l : 45 ≤ length b) (k : get_or b 0 0 ≡ 1) (n plen : ℕ) (en : n ≡ number_at b 1 8) (ep : plen ≡ number_at b 9 4) (due : Answer) (ed : due ≡ size_answer n plen) where
    named : (n ≡ length_in b) × (plen ≡ piece_length_in b)
    unfolding length_in piece_length_in
    named = (en, ep)

    ranged : facts_in_range n plen ≡ facts_in_range (length_in b) (piece_length_in b)
    ranged = ap₂ facts_in_range named.0 named.1

    by_range : (x : Bool) → facts_in_range n plen ≡ x → (due.number ≡ 0) → (facts_in_range (length_in b) (piece_length_in b) ≡ true) × (due.count ≡ store_size (length_in b))
    by_range true q z =
        let w : due ≡ done (store_size n) = ed ∙ sym (size_given n plen q) in
        (sym ranged ∙ q, ap (λ (a : Answer). a.count) w ∙ ap store_size named.0)
    by_range false q z =
        let w : due.number ≡ 10 = ap (λ (a : Answer). a.number) (ed ∙ sym (size_refused n plen q)) in
        absurd (omega arith)

    out_range : (x : Bool) → facts_in_range n plen ≡ x → (due.number ≡ 0 → ⊥) → facts_in_range (length_in b) (piece_length_in b) ≡ false
    out_range false q ne = sym ranged ∙ q
    out_range true q ne = absurd (ne (ap (λ (a : Answer). a.number) (ed ∙ sym (size_given n plen q))))

    pub opening_facts : (due.number ≡ 0 → ⊥) → facts_out_of_range ≡ opening_number size b
    unfolding opening_number opens
    opening_facts ne = sym (simp (le-leb 45 (length b) l, eq-eqb (get_or b 0 0) 1 k, out_range (facts_in_range n plen) refl ne))

    pub opening_room : due.number ≡ 0 → size < due.count → unusable ≡ opening_number size b
    unfolding opening_number opens
    opening_room z lt =
        let w = by_range (facts_in_range n plen) refl z in
        sym (simp (le-leb 45 (length b) l, eq-eqb (get_or b 0 0) 1 k, w.0, lt-leb (store_size (length_in b)) size (omega (arith, w.1))))

    pub opening_done : due.number ≡ 0 → due.count ≤ size → 0 ≡ opening_number size b
    unfolding opening_number opens
    opening_done z le =
        let w = by_range (facts_in_range n plen) refl z in
        sym (simp (le-leb 45 (length b) l, eq-eqb (get_or b 0 0) 1 k, w.0, le-leb (store_size (length_in b)) size (omega (arith, w.1))))

-- ---- whether bytes may be loaded

module _ (b : List ℕ) (n c h : ℕ) (en : n ≡ number_at b 1 8) (ec : c ≡ block_count n) (eh : h ≡ height c) where
  blocks_are : c ≡ blocks_in b
  unfolding length_in
  blocks_are = ec ∙ ap block_count en

  pub sound_height : length_in b ≤ longest_file → (h ≤ tallest_tree) × (h ≡ height_in b) × (c ≡ blocks_in b)
  sound_height most = let e : h ≡ height_in b = eh ∙ ap height blocks_are in (omega (arith, height_most (length_in b) most), e, blocks_are)

  module _ (ok : Bool) (eo : ok ≡ formed b) where
    pub sound_form : ok ≡ false → false ≡ sound b
    unfolding sound
    sound_form f = let x : formed b ≡ false = sym eo ∙ f in sym (simp x)

    module _ (fo : ok ≡ true) (p : ℕ) (ep : p ≡ place_count b) where
      pub sound_places : (45 + 41 * p ≤ length b) × (places_good h b p ≡ true)
      sound_places =
          let F = form_says b (sym eo ∙ fo) in
          let e : h ≡ height_in b = eh ∙ ap height blocks_are in
          (omega (arith, F.size), ap₂ (λ (x y : ℕ). places_good x b y) e ep ∙ F.places)

      module _ (root : Bool) (er : root ≡ root_right h b) where
        root_right_is : root ≡ root_right (height_in b) b
        root_right_is = er ∙ ap (λ (x : ℕ). root_right x b) (eh ∙ ap height blocks_are)

        pub sound_root : root ≡ false → false ≡ sound b
        unfolding sound
        sound_root f =
            let x : formed b ≡ true = sym eo ∙ fo in
            let y : root_right (height_in b) b ≡ false = sym root_right_is ∙ f in
            sym (simp (x, y))

        pub sound_chain : root ≡ true → (k : ℕ) → k ≡ claimed h c b p → eqb (k + 1) p ≡ sound b
        unfolding sound chained
        sound_chain f k ek =
            let x : formed b ≡ true = sym eo ∙ fo in
            let y : root_right (height_in b) b ≡ true = sym root_right_is ∙ f in
            let z : k ≡ claimed (height_in b) (blocks_in b) b (place_count b) = ek ∙ ap₂ (λ (u v : ℕ). claimed u v b p) (eh ∙ ap height blocks_are) blocks_are ∙ ap (claimed (height_in b) (blocks_in b) b) ep in
            ap₂ (λ (u v : ℕ). eqb (u + 1) v) z ep ∙ sym (simp (x, y))

pub formed_sized : (b : List ℕ) (t : Bool) → t ≡ formed b → t ≡ true → sized b ≡ true
unfolding formed
formed_sized b t e f =
    let x = (and-eq-true_iff (sized b && places_good (height_in b) b (place_count b)) (marks_good (blocks_in b) b (marks_from b) (mark_count b))).0 (sym e ∙ f) in
    ((and-eq-true_iff (sized b) (places_good (height_in b) b (place_count b))).0 x.0).0

-- ---- positions and marks written

module _ (b : List ℕ) (h k l i : ℕ) (el : l ≡ layer_in b k) (ei : i ≡ index_in b k) (t : in_tree h (layer_in b k) (index_in b k) ≡ true) where
  pub place_range : (l ≤ h) × (i < 2 ^ (h - l))
  place_range = let w = tree_says h (layer_in b k) (index_in b k) t in (omega arith, rw (el, ei) w.1)

  pub place_put : (s s' : List ℕ) (n : ℕ) (v : List ℕ) → n ≡ node_number h l i → v ≡ hash_in b k → s' ≡ put s n v → s' ≡ with_place h b s k
  place_put s s' n v en ev e = e ∙ ap₂ (put s) (en ∙ ap₂ (node_number h) el ei) ev

pub put_turn : (h : ℕ) (b s₀ s s' : List ℕ) (k : ℕ) → s ≡ put_all s₀ (entries_in h b k) → s' ≡ with_place h b s k → s' ≡ put_all s₀ (entries_in h b (k + 1))
put_turn h b s₀ s s' k e q =
    q ∙ ap (λ (t : List ℕ). put t (node_number h (layer_in b k) (index_in b k)) (hash_in b k)) e ∙ sym (put_next h b s₀ k) ∙ ap (λ (j : ℕ). put_all s₀ (entries_in h b j)) (sym (add-one k))

module _ (s₀ b s : List ℕ) (at m k x : ℕ) (f : Facts s₀) (g : marks_good (blocks_of s₀) b at m ≡ true) (l : k < m) (e : s ≡ marks_set s₀ b at k) (ex : x ≡ block_in b at k) where
  pub marks_ready : (start : ℕ) → start ≡ marks_start s₀ → (start ≡ marks_start s) × (start + x < length s)
  unfolding marks_start
  marks_ready start q =
      let w = marks_set_same s₀ b at m f g k (omega arith) in
      let y = (mark_says (blocks_of s₀) b at k (mark_at (blocks_of s₀) b at m g k l)).inside in
      let z : (x + 1 ≤ 2 ^ height_of s) × (marks_start s + 2 ^ height_of s ≤ length s) =
      rw e (mark_fits (marks_set s₀ b at k) w.facts x (rw (ex, w.same.blocks) y), mark_in (marks_set s₀ b at k) w.facts) in
      let i : height_of s ≡ height_of s₀ = ap height_of e ∙ w.same.layers in
      let a : start ≡ marks_start s = q ∙ ap (λ (j : ℕ). 31 + 33 * positions j) (sym i) in
      (a, omega arith)

  pub marks_turn : (s' : List ℕ) → s' ≡ marks_put s x 1 1 → s' ≡ marks_set s₀ b at (k + 1)
  marks_turn s' q =
      q ∙ ap₂ (λ (t : List ℕ) (y : ℕ). marks_put t y 1 marked) e ex ∙ sym (marks_set_next s₀ b at k) ∙ ap (marks_set s₀ b at) (sym (add-one k))

-- ---- all of it

pub kept_written : (s b : List ℕ) (t : List ℕ) (h c p kept : ℕ) (u : List ℕ) → h ≡ height_in b → c ≡ blocks_in b → p ≡ place_count b → t ≡ begun s b → kept ≡ mended_many h c b t (p - 1) → u ≡ mended h c b t (p - 1)
    → (kept + 1 ≡ repaired_many s b) × (u ≡ repaired s b)
unfolding repaired_many repaired
kept_written s b t h c p kept u eh ec ep et ek eu = (
  ap (λ (x : ℕ). x + 1) (ek ∙ ap₂ (λ (x y : ℕ). mended_many x y b t (p - 1)) eh ec ∙ ap₂ (λ (x : List ℕ) (y : ℕ). mended_many (height_in b) (blocks_in b) b x (y - 1)) et ep),
  eu ∙ ap₂ (λ (x y : ℕ). mended x y b t (p - 1)) eh ec ∙ ap₂ (λ (x : List ℕ) (y : ℕ). mended (height_in b) (blocks_in b) b x (y - 1)) et ep,
)

pub first_begun : (s b : List ℕ) (O : Opens (length s) b) (F : FormIn b) → first s b O F ≡ begun s b
unfolding first
first_begun s b O F = refl

places_fewer : (h : ℕ) (b : List ℕ) (p : ℕ) → places_good h b p ≡ true → places_good h b (p - 1) ≡ true
unfolding places_good
places_fewer h b zero g = refl
places_fewer h b (suc p) g =
    let e : suc p - 1 ≡ p = omega arith in
    rw e ((and-eq-true_iff (places_good h b p) (place_good h b p)).0 g).0

module _ (s b : List ℕ) (z : opening_number (length s) b ≡ 0) (formed_here : formed b ≡ true) where
  pub opens_here : Opens (length s) b
  opens_here = opening_says (length s) b z

  pub form_here : FormIn b
  form_here = form_says b formed_here

  pub whole_here : 45 ≤ length b
  whole_here = opens_here.whole

  pub sized_here : sized b ≡ true
  sized_here = formed_sized b (formed b) refl formed_here

  module _ (n plen : ℕ) (root t : List ℕ) (en : n ≡ number_at b 1 8) (ep : plen ≡ number_at b 9 4) (er : root ≡ Rattle.octets.specs.Octets.cut b 13 32) (et : t ≡ open_after s n plen root) where
    pub opened_first : t ≡ first s b opens_here form_here
    unfolding length_in piece_length_in root_in first
    opened_first =
        let q : facts_in_range n plen ≡ true = ap₂ facts_in_range en ep ∙ opens_here.range in
        let r : store_size n ≤ length s = rw en opens_here.room in
        et ∙ sym (open_done s n plen root q r).1 ∙ ap₂ (λ (x y : ℕ). opened s x y root) en ep ∙ ap (opened s (number_at b 1 8) (number_at b 9 4)) er

    module _ (c h p : ℕ) (ec : c ≡ block_count n) (eh : h ≡ height c) (eq : p ≡ place_count b) where
      height_here : h ≡ height_in b
      unfolding length_in
      height_here = eh ∙ ap height (ec ∙ ap block_count en)

      most_here : length_in b ≤ longest_file
      most_here = (Rattle.store.specs.StoreLaws.range_says (length_in b) (piece_length_in b) opens_here.range).1

      pub places_ready : (h ≤ tallest_tree) × (45 + 41 * p ≤ length b) × (places_good h b p ≡ true) × Room (positions h) t
      places_ready = (
        omega (arith, height_here, height_most (length_in b) most_here),
        omega (arith, form_here.size),
        ap₂ (λ (x y : ℕ). places_good x b y) height_here eq ∙ form_here.places,
        let e : positions h ≡ positions (height_in b) = ap positions height_here in rw opened_first (omega (arith, first_room s b opens_here form_here)),
      )

      pub kept_ready : (h ≤ tallest_tree) × (45 + 41 * (p - 1) ≤ length b) × (places_good h b (p - 1) ≡ true) × Room (positions h) t
      kept_ready = let w = places_ready in (w.0, omega (arith, w.1), places_fewer h b p w.2, w.3)

      pub kept_all : 0 < place_count b → (kept : ℕ) (u : List ℕ) → kept ≡ mended_many h c b t (p - 1) → u ≡ mended h c b t (p - 1) → kept ≤ p - 1
          → (kept + 1 ≡ repaired_many s b) × (u ≡ repaired s b) × (kept + 1 ≤ place_count b)
      kept_all some kept u ek eu l =
          let w = kept_written s b t h c p kept u height_here (unfold length_in in ec ∙ ap block_count en) eq (opened_first ∙ first_begun s b opens_here form_here) ek eu in
          (w.0, w.1, omega arith)

      module _ (u : List ℕ) (eu : u ≡ put_all t (entries_in h b p)) (m : ℕ) (em : m ≡ mark_count b) where
        pub put_second : u ≡ second s b opens_here form_here
        unfolding second
        put_second = eu ∙ ap₂ (λ (x : List ℕ) (y : ℕ). put_all x (entries_in y b p)) opened_first height_here ∙ ap (λ (y : ℕ). put_all (first s b opens_here form_here) (entries_in (height_in b) b y)) eq

        pub marks_here : Facts u × (marks_good (blocks_of u) b (45 + 41 * p) m ≡ true) × (45 + 41 * p + 5 * m ≤ length b)
        marks_here = (
          rw put_second (second_facts s b opens_here form_here),
          rw (put_second, eq, em) (second_marks s b opens_here form_here),
          omega (arith, form_here.size),
        )

        pub all_written : (v : List ℕ) → v ≡ marks_set u b (45 + 41 * p) m → (p ≡ place_count b) × (v ≡ loaded s b)
        unfolding loaded first second
        all_written v ev = (
          eq,
          ev ∙ ap₂ (λ (x : List ℕ) (y : ℕ). marks_set x b (45 + 41 * y) m) put_second eq ∙ ap (marks_set (second s b opens_here form_here) b (marks_from b)) em,
        )

pub load_done : (s b : List ℕ) → opening_number (length s) b ≡ 0 → sound b ≡ true → (r : Answer) (t : List ℕ) → r ≡ done (place_count b) → t ≡ loaded s b → (r ≡ load_answer s b) × (t ≡ load_after s b)
unfolding load_answer load_after
load_done s b z g r t e f = (e ∙ sym (rw (z, g)), f ∙ sym (rw (z, g)))

pub load_refused : (s b : List ℕ) (n : ℕ) → n ≡ opening_number (length s) b → (n ≡ 0 → ⊥) → (r : Answer) → r ≡ refused n → (r ≡ load_answer s b) × (s ≡ load_after s b)
unfolding load_answer load_after
load_refused s b n e ne r q =
    let x : eqb (opening_number (length s) b) 0 ≡ false = ne_eqb (opening_number (length s) b) 0 (λ w. ne (e ∙ w)) in
    (q ∙ ap refused e ∙ sym (simp x), sym (simp x))

pub load_unsound : (s b : List ℕ) → opening_number (length s) b ≡ 0 → (t : Bool) → t ≡ sound b → t ≡ false → (r : Answer) → r ≡ refused not_saved → (r ≡ load_answer s b) × (s ≡ load_after s b)
unfolding load_answer load_after
load_unsound s b z t e f r q =
    let x : sound b ≡ false = sym e ∙ f in
    (q ∙ sym (rw (z, x)), sym (rw (z, x)))

pub place_below : (b : List ℕ) (h k l i : ℕ) → l ≡ layer_in b k → i ≡ index_in b k → in_tree h (layer_in b k) (index_in b k) ≡ true → (n : ℕ) → n ≡ node_number h l i → n < positions h
unfolding positions
place_below b h k l i el ei t n e = omega (arith, node_number_range h l i (place_range b h k l i el ei t).1)

pub put_ends : (h : ℕ) (b s₀ s : List ℕ) (k p : ℕ) → s ≡ put_all s₀ (entries_in h b k) → k ≡ p → s ≡ put_all s₀ (entries_in h b p)
put_ends h b s₀ s k p e q = e ∙ ap (λ (j : ℕ). put_all s₀ (entries_in h b j)) q

pub sound_asks : (size : ℕ) (b : List ℕ) → opening_number size b ≡ 0 → (45 ≤ length b) × (length_in b ≤ longest_file)
sound_asks size b z = let O = opening_says size b z in (O.whole, (Rattle.store.specs.StoreLaws.range_says (length_in b) (piece_length_in b) O.range).1)

-- ---- the repair

module _ (h : ℕ) (b : List ℕ) (k left right : ℕ) (el : left ≡ rank_in h b k) (er : right ≡ rank_in h b (k + 1)) where
  pub near_apart : (right ≡ left + 1 → ⊥) → false ≡ neighbours h b k
  unfolding neighbours
  near_apart ne = sym (simp (ne_eqb (rank_in h b (k + 1)) (rank_in h b k + 1) (λ q. ne (omega arith))))

  module _ (e : right ≡ left + 1) (i : ℕ) (ei : i ≡ index_in b k) where
    beside : eqb (rank_in h b (k + 1)) (rank_in h b k + 1) ≡ true
    beside = eq-eqb (rank_in h b (k + 1)) (rank_in h b k + 1) (omega arith)

    pub near_odd : (i ≡ 2 * (i / 2) → ⊥) → false ≡ neighbours h b k
    unfolding neighbours
    near_odd ne = sym (simp (beside, ne_eqb (index_in b k) (2 * (index_in b k / 2)) (λ q. ne (omega arith))))

    pub near_low : i ≡ 2 * (i / 2) → (l : ℕ) → l ≡ layer_in b k → ltb l h ≡ neighbours h b k
    unfolding neighbours
    near_low z l e2 = ap (λ (x : ℕ). ltb x h) e2 ∙ sym (simp (beside, eq-eqb (index_in b k) (2 * (index_in b k / 2)) (omega arith)))

pub parent_by : (b : List ℕ) (h k l i n : ℕ) → l ≡ layer_in b k → i ≡ index_in b k → in_tree h (layer_in b k) (index_in b k) ≡ true → n ≡ node_number h l i
    → (n / 2 ≡ parent_in h b k) × (n / 2 < positions h)
parent_by b h k l i n el ei t e = (ap (λ (x : ℕ). x / 2) (e ∙ ap₂ (node_number h) el ei), omega (arith, place_below b h k l i el ei t n e))

module _ (h c : ℕ) (b s : List ℕ) (k : ℕ) (near : Bool) (en : near ≡ neighbours h b k) where
  pub joins_apart : near ≡ false → false ≡ joins h c b s k
  unfolding joins
  joins_apart f = let x : neighbours h b k ≡ false = sym en ∙ f in sym (simp x)

  module _ (fn : near ≡ true) (up : ℕ) (eu : up ≡ parent_in h b k) (held : Bool) (eh : held ≡ held_at s up) where
    near_is : neighbours h b k ≡ true
    near_is = sym en ∙ fn

    held_is : held ≡ held_at s (parent_in h b k)
    held_is = eh ∙ ap (held_at s) eu

    pub joins_unheld : held ≡ false → false ≡ joins h c b s k
    unfolding joins
    joins_unheld f = let x : held_at s (parent_in h b k) ≡ false = sym held_is ∙ f in sym (simp (near_is, x))

    module _ (fh : held ≡ true) (left : Bool) (el : left ≡ pad_right c b k) where
      held_so : held_at s (parent_in h b k) ≡ true
      held_so = sym held_is ∙ fh

      pub joins_left : left ≡ false → false ≡ joins h c b s k
      unfolding joins
      joins_left f = let y : pad_right c b k ≡ false = sym el ∙ f in sym (simp (near_is, held_so, y))

      module _ (fl : left ≡ true) (right : Bool) (er : right ≡ pad_right c b (k + 1)) where
        left_so : pad_right c b k ≡ true
        left_so = sym el ∙ fl

        pub joins_right : right ≡ false → false ≡ joins h c b s k
        unfolding joins
        joins_right f = let y : pad_right c b (k + 1) ≡ false = sym er ∙ f in sym (simp (near_is, held_so, left_so, y))

        pub joins_made : right ≡ true → (x y v w : List ℕ) (r : Bool) → x ≡ hash_in b k → y ≡ hash_in b (k + 1) → v ≡ pair_hash x y → w ≡ hash_at s up → r ≡ same v w → r ≡ joins h c b s k
        unfolding joins
        joins_made f x y v w r ex ey ev ew er2 =
            let z : pad_right c b (k + 1) ≡ true = sym er ∙ f in
            er2 ∙ ap₂ same (ev ∙ ap₂ pair_hash ex ey) (ew ∙ ap (hash_at s) eu) ∙ sym (simp (near_is, held_so, left_so, z))

pub mend_not : (h c : ℕ) (b s : List ℕ) (k : ℕ) (t : Bool) → t ≡ joins h c b s k → t ≡ false → (false ≡ joins h c b s k) × (s ≡ cond false (with_place h b (with_place h b s k) (k + 1)) s)
mend_not h c b s k t e f = (sym f ∙ e, refl)

pub mend_done : (h c : ℕ) (b s u v : List ℕ) (k : ℕ) (t : Bool) → t ≡ joins h c b s k → t ≡ true → u ≡ with_place h b s k → v ≡ with_place h b u (k + 1)
    → (true ≡ joins h c b s k) × (v ≡ cond true (with_place h b (with_place h b s k) (k + 1)) s)
mend_done h c b s u v k t e f eu ev = (sym f ∙ e, ev ∙ ap (λ (x : List ℕ). with_place h b x (k + 1)) eu)

pub over_yes : (k : ℕ) (t : Bool) → t ≡ true → k ≡ cond t k (k + 1)
over_yes k t e = sym (rw e)

pub over_no : (k : ℕ) (t : Bool) → t ≡ false → k + 1 ≡ cond t k (k + 1)
over_no k t e = sym (rw e)

-- one turn
module _ (h c : ℕ) (b s₀ s u : List ℕ) (p k kept x j : ℕ) (two : Bool) (lt : 1 < k) (em : mended h c b s k ≡ mended h c b s₀ p) (en : kept + mended_many h c b s k ≡ mended_many h c b s₀ p)
    (small : kept + k ≤ p) (et : two ≡ joins h c b s (k - 2)) (eu : u ≡ cond two (with_place h b (with_place h b s (k - 2)) (k - 2 + 1)) s) (ex : x ≡ cond two (kept + 2) kept) (ej : j ≡ cond two (k - 2) (k - 2 + 1)) where
  pub mend_turn : (mended h c b u j ≡ mended h c b s₀ p) × (x + mended_many h c b u j ≡ mended_many h c b s₀ p) × (x + j ≤ p) × (j < k)
  mend_turn = by two refl
    where
      kk : k ≡ suc (suc (k - 2))
      kk = omega arith

      by : (t : Bool) → two ≡ t → (mended h c b u j ≡ mended h c b s₀ p) × (x + mended_many h c b u j ≡ mended_many h c b s₀ p) × (x + j ≤ p) × (j < k)
      by true f =
          let g : joins h c b s (k - 2) ≡ true = sym et ∙ f in
          let u2 : u ≡ with_place h b (with_place h b s (k - 2)) (k - 2 + 1) = eu ∙ ap (λ (t : Bool). cond t (with_place h b (with_place h b s (k - 2)) (k - 2 + 1)) s) f in
          let x2 : x ≡ kept + 2 = ex ∙ ap (λ (t : Bool). cond t (kept + 2) kept) f in
          let j2 : j ≡ k - 2 = ej ∙ ap (λ (t : Bool). cond t (k - 2) (k - 2 + 1)) f in
          let a : mended h c b s k ≡ mended h c b (with_place h b (with_place h b s (k - 2)) (k - 2 + 1)) (k - 2) = ap (mended h c b s) kk ∙ mended_yes h c b s (k - 2) g in
          let d : mended_many h c b s k ≡ mended_many h c b (with_place h b (with_place h b s (k - 2)) (k - 2 + 1)) (k - 2) + 2 = ap (mended_many h c b s) kk ∙ many_yes h c b s (k - 2) g in
          let m : mended_many h c b u j ≡ mended_many h c b (with_place h b (with_place h b s (k - 2)) (k - 2 + 1)) (k - 2) = ap₂ (mended_many h c b) u2 j2 in
          (ap₂ (mended h c b) u2 j2 ∙ sym a ∙ em, omega arith, omega arith, omega arith)
      by false f =
          let g : joins h c b s (k - 2) ≡ false = sym et ∙ f in
          let u2 : u ≡ s = eu ∙ ap (λ (t : Bool). cond t (with_place h b (with_place h b s (k - 2)) (k - 2 + 1)) s) f in
          let x2 : x ≡ kept = ex ∙ ap (λ (t : Bool). cond t (kept + 2) kept) f in
          let j1 : j ≡ k - 2 + 1 = ej ∙ ap (λ (t : Bool). cond t (k - 2) (k - 2 + 1)) f in
          let j2 : j ≡ suc (k - 2) = omega arith in
          let a : mended h c b s k ≡ mended h c b s (suc (k - 2)) = ap (mended h c b s) kk ∙ mended_no h c b s (k - 2) g in
          let d : mended_many h c b s k ≡ mended_many h c b s (suc (k - 2)) = ap (mended_many h c b s) kk ∙ many_no h c b s (k - 2) g in
          let m : mended_many h c b u j ≡ mended_many h c b s (suc (k - 2)) = ap₂ (mended_many h c b) u2 j2 in
          (ap₂ (mended h c b) u2 j2 ∙ sym a ∙ em, omega arith, omega arith, omega arith)

pub mend_end : (h c : ℕ) (b s₀ s : List ℕ) (p k kept : ℕ) → kept + k ≤ p → k ≤ 1 → mended h c b s k ≡ mended h c b s₀ p → kept + mended_many h c b s k ≡ mended_many h c b s₀ p
    → (kept ≡ mended_many h c b s₀ p) × (s ≡ mended h c b s₀ p) × (kept ≤ p)
mend_end h c b s₀ s p zero kept m l e f = (omega (arith, many_none h c b s), sym (mended_none h c b s) ∙ e, omega arith)
mend_end h c b s₀ s p (suc zero) kept m l e f = (omega (arith, many_one h c b s), sym (mended_one h c b s) ∙ e, omega arith)
mend_end h c b s₀ s p (suc (suc k)) kept m l e f = absurd (omega arith)

-- ---- repairing

module _ (b : List ℕ) (n c h : ℕ) (en : n ≡ number_at b 1 8) (ec : c ≡ block_count n) (eh : h ≡ height c) (ok : Bool) (eo : ok ≡ formed b) where
  pub rooted_form : ok ≡ false → false ≡ rooted b
  unfolding rooted
  rooted_form f = let x : formed b ≡ false = sym eo ∙ f in sym (simp x)

  pub rooted_root : ok ≡ true → (r : Bool) → r ≡ root_right h b → r ≡ rooted b
  unfolding rooted length_in
  rooted_root f r er =
      let x : formed b ≡ true = sym eo ∙ f in
      er ∙ ap (λ (y : ℕ). root_right y b) (eh ∙ ap height (ec ∙ ap block_count en)) ∙ sym (simp x)

-- there is a root, so there is a record
pub rooted_some : (b : List ℕ) → rooted b ≡ true → 0 < place_count b
unfolding rooted
rooted_some b g = (root_says (height_in b) b ((and-eq-true_iff (formed b) (root_right (height_in b) b)).0 g).1).some

pub repair_refused : (s b : List ℕ) (n : ℕ) → n ≡ opening_number (length s) b → (n ≡ 0 → ⊥) → (r : Repaired) → r ≡ not_repaired n → (r ≡ repair_answer s b) × (s ≡ repair_after s b)
unfolding repair_answer repair_after
repair_refused s b n e ne r q =
    let x : eqb (opening_number (length s) b) 0 ≡ false = ne_eqb (opening_number (length s) b) 0 (λ w. ne (e ∙ w)) in
    (q ∙ ap not_repaired e ∙ sym (simp x), sym (simp x))

pub repair_unrooted : (s b : List ℕ) → opening_number (length s) b ≡ 0 → (t : Bool) → t ≡ rooted b → t ≡ false → (r : Repaired) → r ≡ not_repaired not_saved → (r ≡ repair_answer s b) × (s ≡ repair_after s b)
unfolding repair_answer repair_after
repair_unrooted s b z t e f r q =
    let x : rooted b ≡ false = sym e ∙ f in
    (q ∙ sym (rw (z, x)), sym (rw (z, x)))

pub repair_done : (s b : List ℕ) → opening_number (length s) b ≡ 0 → rooted b ≡ true → (k p : ℕ) (t : List ℕ) → k ≡ repaired_many s b → p ≡ place_count b → t ≡ repaired s b
    → (record { number = 0; dropped = p - k; held = k } ≡ repair_answer s b) × (t ≡ repair_after s b)
unfolding repair_answer repair_after
repair_done s b z g k p t ek ep et =
    (ap₂ (λ (x y : ℕ). record { number = 0; dropped = x - y; held = y }) ep ek ∙ sym (rw (z, g)), et ∙ sym (rw (z, g)))
