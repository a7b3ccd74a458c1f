-- A file and an earlier one: what 0 says of them, and that a file that begins with the earlier one is answered 0.
-- Assumes nothing.
use Rattle.std.specs.Prelude.{◌≡◌, refl, List, [], ◌++◌, ◌⊎◌, ℕ, ◌+◌, ◌-◌, ◌*◌, ◌^◌, ◌≤◌, ◌<◌, min, length, drop}
use Rattle.std.proofs.Math.Path.{ap, sym}
use Rattle.std.proofs.Common.{ap₂, ◌∙◌, subst, append_assoc, append-nil, inl, inr, length-append, ext_get_or, eq-eqb, ne_eqb, arith}
use Rattle.std.proofs.Math.Decide.{ℕ_discrete}
use Rattle.std.proofs.Math.ListN.{take-append-drop}
use Rattle.octets.specs.Octets.{Octets, cut}
use Rattle.octets.specs.OctetsLaws.{cut_length, cut_cut, cut_short, cut_append_left, cut_whole, cut_octets}
use Rattle.numbers.specs.Numbers.{done}
use Rattle.numbers.specs.declared.Answer.{Answer}
use Rattle.sha256.specs.Sha256.{sha256}
use Rattle.sha256.specs.declared.Hashed.{Hashed}
use Rattle.tree.specs.Geometry.{block_length, block_count, block_size}
use Rattle.tree.proofs.GeometryLaws.{block_within}
use Rattle.tree.specs.Values.{node, leaf_of, block_of, pieces_root}
use Rattle.tree.proofs.ValuesLaws.{node_same, leaf_block}
use Rattle.store.specs.Store.{file_length, blocks_of, height_of, held_answer}
use Rattle.store.specs.StoreLaws.{tree_says, facts_usable}
use Rattle.extends.specs.Extends.{whole_blocks, rest_size, earlier_root, over_size, last_hash, extends_answer}
use Rattle.extends.proofs.ExtendsLaws.{last_bytes, HeldOf, earlier_root_lem}
use Rattle.words.specs.History.{Bytes, OurStore}
use Rattle.words.specs.Shown.{held_by, of_file, Shown}
use Rattle.words.specs.File.{For}
use Rattle.words.specs.Younger.{first_bytes, BeginsWith, over_end, TwoStrings, store_shows, lent_shows, tree_shows, block_shows, Needed, Follows, same, grew, ShownAmong, here, before}
use Rattle.knowledge.specs.Again.{what_is_held}
use Rattle.knowledge.specs.OwnBytes.{ours_have}
use Rattle.knowledge.specs.RootToBlock.{held_is_the_files_at}
use Rattle.knowledge.specs.Shown.{shown, reads_file}
use Rattle.knowledge.specs.ConflictShows.{ours_reads}
use Rattle.knowledge.specs.JudgedWhen.{block_0}
use Rattle.knowledge.specs.Known.{block_is_the_files}
use Rattle.knowledge.specs.Peaks.{peaks_exactly}
use Rattle.knowledge.specs.YoungerNumbers.{extends_0, extends_done}
use Rattle.knowledge.specs.OneRoot.{OneRoot, same_file, trees_show, blocks_show, one_root}

-- ---- the first n bytes of a file

-- those of them after their whole blocks
abbrev rest_of : List ℕ → ℕ → List ℕ
rest_of file n = cut file (block_length * whole_blocks n) (rest_size n)

module _ (G : List ℕ) (n : ℕ) (most : n ≤ length G) where
  first_length : length (first_bytes G n) ≡ n
  first_length = cut_length G 0 n (omega arith)

  -- the last bytes are those after the whole blocks
  first_last : last_bytes (first_bytes G n) ≡ rest_of G n
  first_last =
      let E = first_bytes G n in
      let at = block_length * whole_blocks n in
      let m : min block_length (length (first_bytes G n) - block_length * whole_blocks n) ≡ rest_size n = omega (arith, first_length) in
      let z : 0 + block_length * whole_blocks n ≡ block_length * whole_blocks n = omega arith in
      ap (λ (x : ℕ). cut E (block_length * whole_blocks x) block_length) first_length
      ∙ sym (cut_short E at block_length)
      ∙ ap (λ (x : ℕ). cut E at x) m
      ∙ cut_cut G 0 n at (rest_size n) (omega arith)
      ∙ ap (λ (x : ℕ). cut G x (rest_size n)) z

  -- the whole blocks are the file's,
  first_block : (x : ℕ) → x < whole_blocks n → block_of G x ≡ block_of (first_bytes G n) x
  unfolding block_of
  first_block x l =
      let z : 0 + block_length * x ≡ block_length * x = omega arith in
      sym (ap (λ (y : ℕ). cut G y block_length) z) ∙ sym (cut_cut G 0 n (block_length * x) block_length (omega arith))

  first_leaf : (x : ℕ) → x < whole_blocks n → leaf_of G x ≡ leaf_of (first_bytes G n) x
  first_leaf x l =
      leaf_block G x (block_within (length G) x (omega arith))
      ∙ ap sha256 (first_block x l)
      ∙ sym (leaf_block (first_bytes G n) x (block_within (length (first_bytes G n)) x (omega (arith, first_length))))

  -- and so are the nodes over them
  first_node : (l i : ℕ) → (i + 1) * 2 ^ l ≤ whole_blocks n → node (leaf_of G) l i ≡ node (leaf_of (first_bytes G n)) l i
  first_node l i b = node_same (leaf_of G) (leaf_of (first_bytes G n)) l i (λ x p q. first_leaf x (omega arith))

  first_bytes_lem : Bytes G → Bytes (first_bytes G n)
  first_bytes_lem bg = subst (λ (m : ℕ). Octets m (first_bytes G n)) (sym first_length) (cut_octets 0 n bg (omega arith))

  -- a file that they are is one that G begins with
  begins : (F : List ℕ) → length F ≡ n → F ≡ first_bytes G n → BeginsWith G F
  begins F e q = record { more = drop n G; whole = sym (ap (λ (x : List ℕ). x ++ drop n G) q ∙ front_rest) }
    where
      front_rest : cut G 0 n ++ drop n G ≡ G
      front_rest = unfold cut in take-append-drop n G

  -- ---- the block over their end

  in_file : block_length * whole_blocks n + over_size (length G) n ≤ length G
  unfolding block_size
  in_file =
      elim (ℕ_discrete (rest_size n) 0) [
        | yes z ↦ rw (eq-eqb (rest_size n) 0 z) (omega arith)
        | no z ↦ rw (ne_eqb (rest_size n) 0 z) (omega arith)
      ]

  over_length : length (over_end G n) ≡ over_size (length G) n
  over_length = cut_length G (block_length * whole_blocks n) (over_size (length G) n) in_file

  has_rest : rest_size n ≤ over_size (length G) n
  unfolding block_size
  has_rest =
      elim (ℕ_discrete (rest_size n) 0) [
        | yes z ↦ rw (eq-eqb (rest_size n) 0 z) (omega arith)
        | no z ↦ rw (ne_eqb (rest_size n) 0 z) (omega arith)
      ]

  over_first : cut (over_end G n) 0 (rest_size n) ≡ rest_of G n
  over_first =
      let at = block_length * whole_blocks n in
      let z : block_length * whole_blocks n + 0 ≡ block_length * whole_blocks n = omega arith in
      cut_cut G at (over_size (length G) n) 0 (rest_size n) (omega (arith, has_rest)) ∙ ap (λ (x : ℕ). cut G x (rest_size n)) z

  -- block w, if they end inside it
  over_block : (rest_size n ≡ 0 → ⊥) → over_end G n ≡ block_of G (whole_blocks n)
  unfolding block_of block_size
  over_block r = rw (ne_eqb (rest_size n) 0 r) (cut_short G (block_length * whole_blocks n) block_length)

  block_first : cut (block_of G (whole_blocks n)) 0 (rest_size n) ≡ rest_of G n
  unfolding block_of
  block_first =
      let at = block_length * whole_blocks n in
      let z : block_length * whole_blocks n + 0 ≡ block_length * whole_blocks n = omega arith in
      cut_cut G at block_length 0 (rest_size n) (omega arith) ∙ ap (λ (x : ℕ). cut G x (rest_size n)) z

leaf_node : (G : List ℕ) (i : ℕ) → i < block_count (length G) → node (leaf_of G) 0 i ≡ sha256 (block_of G i)
unfolding node
leaf_node G i l = leaf_block G i l

no_bytes : (a b : List ℕ) → length a ≡ 0 → length b ≡ 0 → a ≡ b
no_bytes a b p q = ext_get_or 0 a b (p ∙ sym q) (λ i l. absurd (omega arith))

-- ---- what is held

module _ {s : List ℕ} (G : List ℕ) (o : OurStore s) (w : For G s) where
  -- every held hash is the file's, or a pair is shown
  all_known : Shown (height_of s) (held_by s) (of_file G) ⊎ ((l i : ℕ) → (held_answer s l i).number ≡ 0 → (held_answer s l i).hash ≡ node (leaf_of G) l i)
  all_known =
      elim (held_is_the_files_at G o w) [
        | inl x ↦ inl (shown (height_of s) (held_by s) (of_file G) (ours_reads o) (reads_file G s w) x)
        | inr f ↦
            inr
            (λ l i z.
            let k = what_is_held s l i (held_answer s l i).hash (ours_have o).chained.facts (record { given = z; hash = refl }) in
            let t = tree_says (height_of s) l i k.0 in
            sym k.2 ∙ f l i t.0 t.1 k.1)
      ]

  -- so the root worked out of them, with the first bytes' last ones, is that of the first bytes
  root_first : (n : ℕ) → n ≤ length G → ((l i : ℕ) → (held_answer s l i).number ≡ 0 → (held_answer s l i).hash ≡ node (leaf_of G) l i)
      → (earlier_root s n (sha256 (rest_of G n))).number ≡ 0 → (earlier_root s n (sha256 (rest_of G n))).hash ≡ pieces_root (first_bytes G n)
  root_first n most k z =
      let E = first_bytes G n in
      let q : earlier_root s (length (first_bytes G n)) (sha256 (last_bytes (first_bytes G n))) ≡ earlier_root s n (sha256 (rest_of G n)) =
      ap₂ (λ (x : ℕ) (y : List ℕ). earlier_root s x (sha256 y)) (first_length G n most) (first_last G n most) in
      sym (ap (λ (x : Hashed). x.hash) q) ∙ earlier_root_lem s E held_of (ap (λ (x : Hashed). x.number) q ∙ z)
    where
      held_of : HeldOf s (first_bytes G n)
      held_of l i b y = k l i y ∙ first_node G n most l i (rw (first_length G n most) at b)

  -- a block of the right size that is the one held has the file's bytes in front
  module _ (F block : List ℕ) (bg : Bytes G) (bf : Bytes F) (bb : Bytes block) (z : (extends_answer s (length F) (pieces_root F) block).number ≡ 0) where
    abbrev n : ℕ
    n = length F

    most : length F ≤ length G
    most = let C = ((extends_0 s (length F) (pieces_root F) block).0 z).0 in omega (arith, C.range.1, w.long)

    inside_file : (rest_size (length F) ≡ 0 → ⊥) → whole_blocks (length F) < blocks_of s
    unfolding blocks_of
    inside_file r = block_within (file_length s) (whole_blocks (length F)) (let C = ((extends_0 s (length F) (pieces_root F) block).0 z).0 in omega (arith, C.range.1))

    size_is : (rest_size (length F) ≡ 0 → ⊥) → length block ≡ block_size (file_length s) (whole_blocks (length F))
    size_is r = let C = ((extends_0 s (length F) (pieces_root F) block).0 z).0 in rw (ne_eqb (rest_size (length F)) 0 r) at C.size

    no_size : rest_size (length F) ≡ 0 → length block ≡ 0
    no_size r = let C = ((extends_0 s (length F) (pieces_root F) block).0 z).0 in rw (eq-eqb (rest_size (length F)) 0 r) at C.size

    front_is : TwoStrings F G s block ⊎ (cut block 0 (rest_size (length F)) ≡ rest_of G (length F))
    front_is =
        elim (ℕ_discrete (rest_size (length F)) 0) [
          | yes r ↦
              inr
              (no_bytes (cut block 0 (rest_size (length F))) (rest_of G (length F)) (cut_length block 0 (rest_size (length F)) (omega (arith, no_size r)) ∙ r)
              (cut_length G (block_length * whole_blocks (length F)) (rest_size (length F)) (omega (arith, most)) ∙ r))
          | no r ↦
              let t = (extends_0 s (length F) (pieces_root F) block).0 z in
              elim (block_is_the_files G o w (whole_blocks (length F)) block bg bb
              ((block_0 s (whole_blocks (length F)) block).1 (record { store = t.0.store; inside = inside_file r; size = size_is r }, t.2.held r))) [
                | inl x ↦ inl (store_shows x)
                | inr (inl x) ↦ inl (lent_shows x)
                | inr (inr e) ↦ inr (ap (λ (x : List ℕ). cut x 0 (rest_size (length F))) e ∙ block_first G (length F) most)
              ]
        ]

    -- SOUND: G begins with an earlier file of this length and root, or two different strings with one SHA-256 are shown
    pub begins_with : TwoStrings F G s block ⊎ BeginsWith G F
    begins_with =
        elim front_is [
          | inl x ↦ inl x
          | inr e ↦ elim all_known [
            | inl x ↦ inl (store_shows x)
            | inr k ↦
                let t = (extends_0 s (length F) (pieces_root F) block).0 z in
                let q : last_hash (length F) block ≡ sha256 (rest_of G (length F)) = ap sha256 e in
                let found = (peaks_exactly s (length F) (sha256 (rest_of G (length F)))).1 t.1.peaks in
                let root = sym (root_first (length F) most k found) ∙ ap (λ (x : List ℕ). (earlier_root s (length F) x).hash) (sym q) ∙ t.2.value in
                by (one_root (first_bytes G (length F)) F (first_length G (length F) most) (first_bytes_lem G (length F) most bg) bf root)
          ]
        ]
      where
        by : OneRoot (first_bytes G (length F)) F → TwoStrings F G s block ⊎ BeginsWith G F
        by (same_file e) = inr (begins G (length F) most F refl (sym e))
        by (trees_show x) = inl (tree_shows x)
        by (blocks_show x c) = inl (block_shows x c)

  -- COMPLETE: of the file's own first n bytes, where the hashes needed are held and the block is the file's, it is 0, or a pair is shown
  pub first_extends : (n : ℕ) → 0 < n → n ≤ length G → Needed s n
      → Shown (height_of s) (held_by s) (of_file G) ⊎ (extends_answer s n (pieces_root (first_bytes G n)) (over_end G n) ≡ done n)
  first_extends n some most N =
      elim all_known [
        | inl x ↦ inl x
        | inr k ↦
            inr
            (extends_done s n (pieces_root (first_bytes G n)) (over_end G n)
            ((extends_0 s n (pieces_root (first_bytes G n)) (over_end G n)).1 (
              record {
                store = facts_usable s (ours_have o).chained.facts;
                range = (some, omega (arith, w.long));
                size = over_length G n most ∙ ap (λ (x : ℕ). over_size x n) (sym w.long);
              },
              N,
              record {
                held = λ r. record { given = (N.leaf r).1.given; hash = leaf_is k r };
                value = ap (λ (x : List ℕ). (earlier_root s n (sha256 x)).hash) (over_first G n most) ∙ root_first n most k ((peaks_exactly s n (sha256 (rest_of G n))).1 N.peaks);
              },
            )))
      ]
    where
      leaf_is : ((l i : ℕ) → (held_answer s l i).number ≡ 0 → (held_answer s l i).hash ≡ node (leaf_of G) l i) → (r : rest_size n ≡ 0 → ⊥)
          → (held_answer s 0 (whole_blocks n)).hash ≡ sha256 (over_end G n)
      leaf_is k r =
          k 0 (whole_blocks n) (N.leaf r).1.given
          ∙ leaf_node G (whole_blocks n) (block_within (length G) (whole_blocks n) (omega arith))
          ∙ ap sha256 (sym (over_block G n most r))

-- the first bytes of F and more
pub first_of : (F more : List ℕ) → first_bytes (F ++ more) (length F) ≡ F
first_of F more = cut_append_left F more 0 (length F) (omega arith) ∙ cut_whole F (length F) (omega arith)

-- ---- what follows

-- where the two are of one length, they are one file
pub same_length_same : (G F : List ℕ) → BeginsWith G F → length F ≡ length G → G ≡ F
same_length_same G F b e =
    let l : length b.more ≡ 0 = omega (arith, ap length b.whole, length-append F b.more) in
    b.whole ∙ ap (λ (x : List ℕ). F ++ x) (no_bytes b.more [] l refl) ∙ append-nil F

-- beginning with is handed on
begins_through : {F G H : List ℕ} → BeginsWith G F → BeginsWith H G → BeginsWith H F
begins_through {F} {G} {H} p q =
    record { more = p.more ++ q.more; whole = q.whole ∙ ap (λ (x : List ℕ). x ++ q.more) p.whole ∙ append_assoc F p.more q.more }

-- THROUGH ANY CHAIN OF SUCH ANSWERS the last file begins with the first, or strings are shown at one of them
pub follows : {F H : List ℕ} (c : Follows F H) → ShownAmong H c ⊎ BeginsWith H F
follows {F} same = inr (record { more = []; whole = sym (append-nil F) })
follows {F} (grew {G} c g H s block o w h b e) = by (follows c) (begins_with H o w G block h g b (ap (λ (a : Answer). a.number) e))
  where
    by : ShownAmong G c ⊎ BeginsWith G F → TwoStrings G H s block ⊎ BeginsWith H G → ShownAmong H (grew c g H s block o w h b e) ⊎ BeginsWith H F
    by (inl x) y = inl (before x)
    by (inr p) (inl x) = inl (here x)
    by (inr p) (inr q) = inr (begins_through p q)
