-- Demand 2, from the root to the block: the file's true hashes, their anchor held, are taken, or a pair is shown; before that they are 6.
-- Assumes nothing.
use Rattle.std.specs.Prelude.{◌≡◌, true, false, List, ◌⊎◌, length, ℕ, zero, suc, ◌+◌, ◌*◌, ◌/◌, ◌%◌, ◌^◌, ◌≤◌, ◌<◌}
use Rattle.std.proofs.Math.Path.{refl, ap}
use Rattle.std.proofs.Common.{ap₂, sym, ◌∙◌, arith}
use Rattle.std.proofs.Math.Logic.{inl, inr}
use Rattle.std.proofs.Math.Nat.{pow-succ'}
use Rattle.std.proofs.Math.Decide.{ℕ_discrete}
use Rattle.octets.specs.OctetsLaws.{same_true}
use Rattle.numbers.specs.Numbers.{no_anchor}
use Rattle.sha256.specs.Sha256.{pair_hash}
use Rattle.tree.specs.Geometry.{block_count, height}
use Rattle.tree.proofs.GeometryLaws.{left_start, right_start}
use Rattle.tree.specs.Values.{node, leaf_of}
use Rattle.tree.proofs.ValuesLaws.{padding_value}
use Rattle.cells.specs.Cells.{held_at, hash_at}
use Rattle.cells.specs.Entries.{Entry}
use Rattle.cells.specs.EntriesLaws.{In, Has, has_same, in_cases, one_is, no_entry, agrees_held, agrees_in, in_agrees}
use Rattle.store.specs.Store.{blocks_of, height_of, positions}
use Rattle.settling.specs.Subtree.{subtree}
use Rattle.settling.specs.SubtreeLaws.{subtree_cases}
use Rattle.settling.specs.Path.{sibling, parent_value, uncle, ancestor, risen, path}
use Rattle.settling.specs.PathLaws.{sibling_even, sibling_odd, parent_even, parent_odd, path_cases}
use Rattle.settling.specs.AncestorLaws.{ancestor_le, ancestor_parent}
use Rattle.header.specs.Header.{header_of, is_hashes, message_size}
use Rattle.messages.specs.Take.{header_number, uncles_of, given, settled, anchor, worked, padded, place_in, take_number}
use Rattle.words.specs.History.{OurStore}
use Rattle.words.specs.Shown.{held_by, of_file}
use Rattle.words.specs.File.{For}
use Rattle.knowledge.specs.TakenWhen.{right_then_taken, no_anchor_then_6}
use Rattle.knowledge.specs.RightPadding.{Pads}
use Rattle.knowledge.specs.Invariant.{Whole}
use Rattle.knowledge.specs.OwnBytes.{ours_have, ours_bytes}
use Rattle.knowledge.specs.Conflict.{ShownAt, well_ready}
use Rattle.knowledge.specs.Replies.{padded_when}
use Rattle.knowledge.specs.RootToBlock.{tree_of, tree_whole, same_height, tree_agrees, tree_has}

-- ---- a whole tree has the parents of what it has

module _ (N : ℕ) (L : List Entry) (w : Whole N 1 L) where
  parent_in : (p : ℕ) (l r : List ℕ) → 1 ≤ p → Has (2 * p) l L → Has (2 * p + 1) r L → Has p (pair_hash l r) L
  parent_in p l r a hl hr =
      elim (w.family (record { at = 2 * p; hash = l }) hl) [
        | inl e ↦ let z : ⊥ = omega arith in absurd z
        | inr F ↦
            let e : 2 * p / 2 ≡ p = omega arith in
            let el : 2 * (2 * p / 2) ≡ 2 * p = omega arith in
            let er : 2 * (2 * p / 2) + 1 ≡ 2 * p + 1 = omega arith in
            has_same L (2 * p / 2) p (pair_hash F.l F.r) (pair_hash l r) e
            (ap₂ pair_hash (w.alone _ _ F.left hl el) (w.alone _ _ F.right hr er)) F.parent
      ]

  above_in : (n : ℕ) (v u : List ℕ) → 1 ≤ n / 2 → Has n v L → Has (sibling n) u L → Has (n / 2) (parent_value n v u) L
  above_in n v u a hv hu =
      elim (ℕ_discrete (n % 2) 0) [
        | yes z ↦
            let en : n ≡ 2 * (n / 2) = omega arith in
            let es : sibling n ≡ 2 * (n / 2) + 1 = omega (arith, sibling_even n z) in
            rw (parent_even n v u z) (parent_in (n / 2) v u a (has_same L n (2 * (n / 2)) v v en refl hv) (has_same L (sibling n) (2 * (n / 2) + 1) u u es refl hu))
        | no z ↦
            let en : n ≡ 2 * (n / 2) + 1 = omega arith in
            let es : sibling n ≡ 2 * (n / 2) = omega (arith, sibling_odd n z) in
            rw (parent_odd n v u z) (parent_in (n / 2) u v a (has_same L (sibling n) (2 * (n / 2)) u u es refl hu) (has_same L n (2 * (n / 2) + 1) v v en refl hv))
      ]

  -- with its leaves, all of a subtree
  subtree_in : (leaf : ℕ → List ℕ) (k n j : ℕ) → 1 ≤ n → ((i : ℕ) → i < 2 ^ k → Has (n * 2 ^ k + i) (leaf (j * 2 ^ k + i)) L)
      → Has n (node leaf k j) L × ((e : Entry) → In e (subtree leaf k n j) → In e L)
  unfolding node subtree
  subtree_in leaf zero n j a f =
      let en : n * 2 ^ 0 + 0 ≡ n = omega arith in
      let ej : j * 2 ^ 0 + 0 ≡ j = omega arith in
      let h : Has n (leaf j) L = has_same L (n * 2 ^ 0 + 0) n (leaf (j * 2 ^ 0 + 0)) (leaf j) en (ap leaf ej) (f 0 (omega arith)) in
      (h, λ e x. (let o = one_is n (leaf j) x in has_same L n e.at (leaf j) e.hash (sym o.0) (sym o.1) h))
  subtree_in leaf (suc k) n j a f =
      let d = pow-succ' 2 k in
      let A = subtree_in leaf k (2 * n) (2 * j) (omega arith)
      (λ i l.
      let q : n * 2 ^ suc k + i ≡ 2 * n * 2 ^ k + i = omega (arith, left_start n k) in
      let v : j * 2 ^ suc k + i ≡ 2 * j * 2 ^ k + i = omega (arith, left_start j k) in
      has_same L (n * 2 ^ suc k + i) (2 * n * 2 ^ k + i) (leaf (j * 2 ^ suc k + i)) (leaf (2 * j * 2 ^ k + i)) q (ap leaf v) (f i (omega arith))) in
      let B = subtree_in leaf k (2 * n + 1) (2 * j + 1) (omega arith)
      (λ i l.
      let q : n * 2 ^ suc k + (2 ^ k + i) ≡ (2 * n + 1) * 2 ^ k + i = omega (arith, left_start n k, right_start n k) in
      let v : j * 2 ^ suc k + (2 ^ k + i) ≡ (2 * j + 1) * 2 ^ k + i = omega (arith, left_start j k, right_start j k) in
      has_same L (n * 2 ^ suc k + (2 ^ k + i)) ((2 * n + 1) * 2 ^ k + i) (leaf (j * 2 ^ suc k + (2 ^ k + i))) (leaf ((2 * j + 1) * 2 ^ k + i)) q (ap leaf v)
      (f (2 ^ k + i) (omega arith))) in
      let v = pair_hash (node leaf k (2 * j)) (node leaf k (2 * j + 1)) in
      let top = parent_in n (node leaf k (2 * j)) (node leaf k (2 * j + 1)) a A.0 B.0 in (
        top,
        λ e x. elim (subtree_cases leaf k n j e x) [
          | inl y ↦ A.1 e y
          | inr r ↦ elim r [ inl y ↦ B.1 e y | inr o ↦ has_same L n e.at v e.hash (sym o.0) (sym o.1) top ]
        ],
      )

  -- with its start and uncles, all of a path
  path_in : (hashes : List ℕ) (i u n : ℕ) (v : List ℕ) → 1 ≤ ancestor u n → Has n v L → ((j : ℕ) → j < u → Has (sibling (ancestor j n)) (uncle hashes (i + j)) L)
      → Has (ancestor u n) (risen hashes i u n v) L × ((e : Entry) → In e (path hashes i u n v) → In e L)
  unfolding ancestor risen path
  path_in hashes i zero n v a h f = (h, λ e x. absurd (no_entry x))
  path_in hashes i (suc u) n v a h f =
      let z : i + 0 ≡ i = omega arith in
      let hs : Has (sibling n) (uncle hashes i) L = has_same L (sibling n) (sibling n) (uncle hashes (i + 0)) (uncle hashes i) refl (ap (uncle hashes) z) (f 0 (omega arith)) in
      let up = above_in n v (uncle hashes i) (ancestor_parent u n a) h hs in
      let R = path_in hashes (i + 1) u (n / 2) (parent_value n v (uncle hashes i)) a up
      (λ j l.
      let q : i + suc j ≡ i + 1 + j = omega arith in
      has_same L (sibling (ancestor j (n / 2))) (sibling (ancestor j (n / 2))) (uncle hashes (i + suc j)) (uncle hashes (i + 1 + j)) refl (ap (uncle hashes) q) (f (suc j) (omega arith))) in (
        R.0,
        λ e x. elim (path_cases hashes i u n v e x) [
          | inl o ↦ has_same L (sibling n) e.at (uncle hashes i) e.hash (sym o.0) (sym o.1) hs
          | inr r ↦ elim r [ inl o ↦ has_same L (n / 2) e.at (parent_value n v (uncle hashes i)) e.hash (sym o.0) (sym o.1) up | inr y ↦ R.1 e y ]
        ],
      )

-- ---- a message with the file's own hashes

-- well-formed for s, and each given hash is the file's at its position
pub record Tells (file s r : List ℕ) : Type 0 where
  pub header : header_number (is_hashes r) s r ≡ 0
  pub size : length r ≡ message_size (header_of r)
  pub run : (j : ℕ) → j < 2 ^ (place_in s r).k → Has ((place_in s r).top * 2 ^ (place_in s r).k + j) (given r (place_in s r).k j) (tree_of file)
  pub uncles : (i : ℕ) → i < (place_in s r).u → Has (sibling (ancestor i (place_in s r).top)) (uncle (uncles_of r (2 ^ (place_in s r).k) (place_in s r).u) i) (tree_of file)

module _ (file s r : List ℕ) (f : For file s) (w : Tells file s r) where
  file_whole : Whole (positions (height (block_count (length file)))) 1 (tree_of file)
  file_whole = tree_whole file (height (block_count (length file)))

  -- all that it settles is the file's
  told : Has (anchor (place_in s r)) (worked r (place_in s r)) (tree_of file) × ((e : Entry) → In e (settled r (place_in s r)) → In e (tree_of file))
  unfolding anchor worked settled
  told =
      let p = place_in s r in
      let rd = well_ready s r w.header w.size in
      let N = positions (height (block_count (length file))) in
      let leaf = given r p.k in
      let us = uncles_of r (2 ^ p.k) p.u in
      let S = subtree_in N (tree_of file) file_whole leaf p.k p.top 0 (omega (arith, rd.anchor, ancestor_le p.u p.top))
      (λ i l.
      let z : i ≡ 0 * 2 ^ p.k + i = omega arith in
      has_same (tree_of file) (p.top * 2 ^ p.k + i) (p.top * 2 ^ p.k + i) (leaf i) (leaf (0 * 2 ^ p.k + i)) refl (ap leaf z) (w.run i l)) in
      let Q = path_in N (tree_of file) file_whole us 0 p.u p.top (node leaf p.k 0) rd.anchor S.0
      (λ j l.
      let z : j ≡ 0 + j = omega arith in
      has_same (tree_of file) (sibling (ancestor j p.top)) (sibling (ancestor j p.top)) (uncle us j) (uncle us (0 + j)) refl (ap (uncle us) z) (w.uncles j l)) in (
        Q.0,
        λ e x. elim (in_cases (subtree leaf p.k p.top 0) (path us 0 p.u p.top (node leaf p.k 0)) x) [ inl a ↦ S.1 e a | inr b ↦ Q.1 e b ],
      )

  -- where it is padding, it has the padding value
  file_pads : (n : ℕ) (v : List ℕ) → Has n v (tree_of file) → Pads (height_of s) (blocks_of s) n v
  file_pads n v x l i lh ib q pd =
      let y : Has n v (subtree (leaf_of file) (height_of s) 1 0) = rw (same_height file s f) x in
      let t = tree_has file s f l i lh ib in
      (tree_whole file (height_of s)).alone _ _ y t q ∙ padding_value file l i (rw blocks at pd)
    where
      blocks : blocks_of s ≡ block_count (length file)
      blocks = unfold blocks_of in ap block_count f.long

  told_padded : padded r (header_of r) (place_in s r) (blocks_of s) ≡ true
  told_padded = padded_when s r w.header w.size (λ j l. file_pads _ _ (w.run j l)) (λ i l. file_pads _ _ (w.uncles i l))

  -- THE FILE'S TRUE HASHES, their anchor not held, are 6,
  pub true_message_waits : held_at s (anchor (place_in s r)) ≡ false → take_number s r ≡ no_anchor
  true_message_waits = no_anchor_then_6 s r (record { header = w.header; size = w.size }) told_padded

-- and, their anchor held, are taken, or a pair is shown
pub true_message : {s : List ℕ} (file r : List ℕ) → OurStore s → For file s → Tells file s r → held_at s (anchor (place_in s r)) ≡ true
    → ShownAt (height_of s) (held_by s) (of_file file) ⊎ (take_number s r ≡ 0)
true_message {s} file r o f w h =
    let T = told file s r f w in
    let a = anchor (place_in s r) in
    let v = worked r (place_in s r) in
    elim (tree_agrees file s f (ours_have o).chained (ours_bytes o)) [
      | inl x ↦ inl x
      | inr g ↦
          inr (right_then_taken s r (record { header = w.header; size = w.size })
          (record {
            padding = told_padded file s r f w;
            held = h;
            chains = same_true (hash_at s a) v (sym (agrees_held s a v h) ∙ agrees_in s (tree_of file) g (record { at = a; hash = v }) T.0);
            agree = in_agrees s (settled r (place_in s r)) (λ e x. agrees_in s (tree_of file) g e (T.1 e x));
          }))
    ]
