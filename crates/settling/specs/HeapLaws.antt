-- A subtree looked at and written from a heap of its hashes.
-- Assumes nothing.
use Rattle.std.specs.Prelude.{◌≡◌, refl, List, ◌++◌, Bool, ◌&&◌, ℕ, zero, suc, ◌+◌, ◌-◌, ◌*◌, ◌%◌, ◌^◌, ◌≤◌, ◌<◌, length, take, drop}
use Rattle.std.proofs.Common.{ap, ap₂, sym, ◌∙◌, inl, add-mul, one-mul, mul-le-mul_right, le-mul_of_pos_right, arith, take_at, pow_mono, pow_pos}
use Rattle.std.proofs.Math.Decide.{dec_lt}
use Rattle.octets.specs.Octets.{cut, pasted}
use Rattle.octets.specs.OctetsLaws.{cut_cut, cut_whole, cut_pasted_same, cut_pasted_other, pasted_length}
use Rattle.sha256.specs.Sha256.{pair_hash}
use Rattle.lanes.specs.HashesLaws.{block_in}
use Rattle.lanes.specs.Hashes.{Heap, eighth_hash, block_hash}
use Rattle.tree.proofs.GeometryLaws.{left_start, right_start, shifted_one, block_within}
use Rattle.tree.specs.Values.{node, leaf_of, block_of}
use Rattle.tree.proofs.ValuesLaws.{node_pair, leaf_block}
use Rattle.heaps.specs.Heaps.{hash_in, Parents, Over, Worked}
use Rattle.heaps.specs.HeapsLaws.{hash_over, node_moved, heap_top}
use Rattle.cells.specs.Cells.{put}
use Rattle.cells.specs.Entries.{Entry, one, agrees_at, agrees, lacks}
use Rattle.settling.specs.Span.{Fit, room_layers, room_size}
use Rattle.settling.specs.Subtree.{subtree, run_leaf, Loaded, Heaped}
use Rattle.settling.specs.SubtreeLaws.{run_leaf_in, run_leaf_past, looked_up, Wrote, wrote_up}

-- a subtree's entries depend only on the leaves below it, wherever they are counted from
pub subtree_moved : (f g : ℕ → List ℕ) (k n a c : ℕ) → ((y : ℕ) → y < 2 ^ k → f (a * 2 ^ k + y) ≡ g (c * 2 ^ k + y)) → subtree f k n a ≡ subtree g k n c
unfolding subtree
subtree_moved f g zero n a c h =
    let x : a * 2 ^ 0 + 0 ≡ a = omega arith in
    let y : c * 2 ^ 0 + 0 ≡ c = omega arith in
    ap (one n) (sym (ap f x) ∙ h 0 (omega arith) ∙ ap g y)
subtree_moved f g (suc k) n a c h =
    ap₂ (λ (A B : List Entry). A ++ B)
    (ap₂ (λ (A B : List Entry). A ++ B)
    (subtree_moved f g k (2 * n) (2 * a) (2 * c)
    (λ y l. let e = left_start a k in let d = left_start c k in rw (e, d) (h y (omega (arith, left_start 1 k, right_start 1 k, pow_pos k, one-mul (2 ^ suc k), one-mul (2 ^ k))))))
    (subtree_moved f g k (2 * n + 1) (2 * a + 1) (2 * c + 1)
    (λ y l.
    let e : (2 * a + 1) * 2 ^ k + y ≡ a * 2 ^ suc k + (2 ^ k + y) = omega (arith, right_start a k, left_start a k) in
    let d : (2 * c + 1) * 2 ^ k + y ≡ c * 2 ^ suc k + (2 ^ k + y) = omega (arith, right_start c k, left_start c k) in
    rw (e, d) (h (2 ^ k + y) (omega (arith, left_start 1 k, add-mul 1 1 (2 ^ k), one-mul (2 ^ suc k), one-mul (2 ^ k)))))))
    (ap (one n) (node_moved f g (suc k) a c h))

-- ---- a heap's subtree, looked at and written

module _ (heap : List ℕ) (above : Parents heap) (k x : ℕ) (top : 1 ≤ x) (room : 32 * ((x + 1) * 2 ^ k) ≤ length heap) where
  heap_pair : (k ≡ 0 → ⊥) → hash_in heap x ≡ pair_hash (node (hash_in heap) (k - 1) (2 * x)) (node (hash_in heap) (k - 1) (2 * x + 1))
  heap_pair ne = hash_over heap above k x top room ∙ sym (node_pair (hash_in heap) _ _ _ k x ne refl refl refl)

  pub heap_looked : (s h : List ℕ) (n : ℕ) (l r o all : Bool) → (k ≡ 0 → ⊥) → h ≡ hash_in heap x → o ≡ agrees_at s n h
      → l ≡ agrees s (subtree (hash_in heap) (k - 1) (2 * n) (2 * x)) → r ≡ agrees s (subtree (hash_in heap) (k - 1) (2 * n + 1) (2 * x + 1))
      → all ≡ (l && r && o) → all ≡ agrees s (subtree (hash_in heap) k n x)
  heap_looked s h n l r o all ne e a L R t =
      (looked_up s (hash_in heap) k n x _ l _ r h o all ne (refl, L) (refl, R) (e ∙ heap_pair ne) a t).1

  pub heap_wrote : (s s1 s2 s3 h : List ℕ) (n l r a : ℕ) → (k ≡ 0 → ⊥) → h ≡ hash_in heap x → a ≡ lacks s2 n → s3 ≡ put s2 n h
      → Wrote s (subtree (hash_in heap) (k - 1) (2 * n) (2 * x)) l s1 → Wrote s1 (subtree (hash_in heap) (k - 1) (2 * n + 1) (2 * x + 1)) r s2
      → Wrote s (subtree (hash_in heap) k n x) (l + r + a) s3
  heap_wrote s s1 s2 s3 h n l r a ne e q p L R =
      (wrote_up s (hash_in heap) k n x _ l s1 _ r s2 h a s3 ne (refl, L) (refl, R) (e ∙ heap_pair ne) q p).1

-- ---- the heap over a run

pub over_run : (run past : List ℕ) → Over run past (run_leaf run past)
over_run run past = record { within = run_leaf_in run past; beyond = run_leaf_past run past }

pub worked_subtree : (leaf : ℕ → List ℕ) (k j : ℕ) (heap : List ℕ) (m n : ℕ) → m ≡ 2 ^ k → Worked leaf m j heap → subtree (hash_in heap) k n 1 ≡ subtree leaf k n j
worked_subtree leaf k j heap m n e w =
    subtree_moved (hash_in heap) leaf k n 1 j
    (λ y l.
    let a : 1 * 2 ^ k + y ≡ m + y = omega (arith, e, one-mul (2 ^ k)) in
    ap (hash_in heap) a ∙ w.leaves y (omega (arith, e)) ∙ ap (λ (x : ℕ). leaf (j * x + y)) e)

pub worked_top : (leaf : ℕ → List ℕ) (k j : ℕ) (heap : List ℕ) (m : ℕ) → m ≡ 2 ^ k → Worked leaf m j heap → cut heap 32 32 ≡ node leaf k j
worked_top leaf k j heap m e w = heap_top leaf k j heap (rw e at w)

-- ---- its place

-- the leaves of a subtree that fits can be counted
pub fit_leaves : {ls k n j : ℕ} → Fit ls k n j → (m : ℕ) → m ≡ 2 ^ k → (1 ≤ m) × (j * m + m < ls)
fit_leaves {ls} {k} {n} {j} f m e =
    let w : (j + 1) * 2 ^ k ≤ (n + 1) * 2 ^ k = mul-le-mul_right (2 ^ k) (omega (arith, f.index)) in
    let d = add-mul j 1 (2 ^ k) in
    let o = one-mul (2 ^ k) in
    rw e (pow_pos k, omega (arith, f.room))

pub fit_first : {ls k n j : ℕ} → Fit ls k n j → Fit ls k n 0
fit_first f = record { room = f.room; index = omega arith }

pub room_part : (k : ℕ) → k ≤ room_layers → ((1 * 2 ^ k) % 2 ^ 64 ≡ 2 ^ k) × (64 * 2 ^ k ≤ room_size)
room_part k h = (shifted_one k (omega arith), omega (arith, pow_mono {i = k} {j = room_layers} h))

-- ---- a heap that stays in the room

module _ (leaf : ℕ → List ℕ) (k j : ℕ) (room : List ℕ) where
  pub heaped_front : (m : ℕ) → Heaped leaf k j room → k ≤ room_layers → m ≡ 2 ^ k → Worked leaf m j (take (64 * m - 0) (drop 0 room))
  heaped_front m h l e = let z : 64 * m - 0 ≡ 64 * 2 ^ k = omega (arith, e) in rw (z, e) (h.heap l)

  pub heaped_high : (k ≤ room_layers → ⊥) → Heaped leaf k j room
  heaped_high f = record { heap = λ l. absurd (f l) }

-- what look_part leaves, with the rest of the room behind it
pub heaped_by : (leaf : ℕ → List ℕ) (k j m : ℕ) (heap rest : List ℕ) → m ≡ 2 ^ k → Worked leaf m j heap → Heaped leaf k j (heap ++ rest)
heaped_by leaf k j m heap rest e w =
    let l : length heap ≡ 64 * 2 ^ k = w.size ∙ ap (λ (n : ℕ). 64 * n) e in
    record { heap = λ h. rw (take_at heap rest (64 * 2 ^ k) l) (rw e at w) }

-- all of a heap's leaves are below its first hash
pub heap_whole : (n k m : ℕ) → m ≡ 2 ^ k → n ≡ 64 * m → 32 * ((1 + 1) * 2 ^ k) ≤ n
heap_whole n k m e l = omega (arith, e, l, add-mul 1 1 (2 ^ k), one-mul (2 ^ k))

pub hash_within : (l k x : ℕ) → 32 * ((x + 1) * 2 ^ k) ≤ l → 32 * x + 32 ≤ l
hash_within l k x h = let w : x + 1 ≤ (x + 1) * 2 ^ k = le-mul_of_pos_right (x + 1) (pow_pos k) in omega arith

-- ---- the leaves of a piece's bytes, put into a heap

module _ (leaf : ℕ → List ℕ) (m from : ℕ) where
  pub loaded_none : (heap : List ℕ) → length heap ≡ 64 * m → Loaded leaf m from 0 heap
  loaded_none heap l = record { size = l; most = omega arith; leaves = λ y h. absurd (omega arith) }

  -- w leaves more, put behind the others
  pub loaded_more : (c w : ℕ) (heap heap' h : List ℕ) → Loaded leaf m from c heap → c + w ≤ m → length h ≡ 32 * w
      → ((x : ℕ) → x < w → cut h (32 * x) 32 ≡ leaf (from + c + x)) → heap' ≡ pasted heap (32 * (m + c)) h → Loaded leaf m from (c + w) heap'
  loaded_more c w heap heap' h p b l f e =
      record {
        size = ap length e ∙ pasted_length heap (32 * (m + c)) h (omega (arith, p.size)) ∙ p.size;
        most = b;
        leaves = λ y g. ap (λ (v : List ℕ). cut v (32 * (m + y)) 32) e ∙ by_place y g (dec_lt y c);
      }
    where
      by_place : (y : ℕ) → y < c + w → Dec (y < c) → cut (pasted heap (32 * (m + c)) h) (32 * (m + y)) 32 ≡ leaf (from + y)
      by_place y g (yes d) =
          cut_pasted_other heap (32 * (m + c)) h (omega (arith, p.size)) (32 * (m + y)) 32 (omega (arith, p.size)) (inl (omega arith)) ∙ p.leaves y d
      by_place y g (no d) =
          let i : 32 * (m + y) ≡ 32 * (m + c) + 32 * (y - c) = omega arith in
          let k : from + c + (y - c) ≡ from + y = omega arith in
          ap (λ (a : ℕ). cut (pasted heap (32 * (m + c)) h) a 32) i
          ∙ sym (cut_cut (pasted heap (32 * (m + c)) h) (32 * (m + c)) (32 * w) (32 * (y - c)) 32 (omega arith))
          ∙ ap (λ (v : List ℕ). cut v (32 * (y - c)) 32) (cut_pasted_same heap (32 * (m + c)) h (32 * w) l (omega (arith, p.size)))
          ∙ f (y - c) (omega arith)
          ∙ ap leaf k

  pub loaded_one : (c : ℕ) (heap heap' h : List ℕ) → Loaded leaf m from c heap → c < m → length h ≡ 32 → h ≡ leaf (from + c)
      → heap' ≡ pasted heap (32 * (m + c)) h → Loaded leaf m from (c + 1) heap'
  loaded_one c heap heap' h p b l f e =
      loaded_more c 1 heap heap' h p (omega arith) l
      (λ x g.
      let i : 32 * x ≡ 0 = omega arith in
      let k : from + c ≡ from + c + x = omega arith in
      ap (λ (a : ℕ). cut h a 32) i ∙ cut_whole h 32 (omega arith) ∙ f ∙ ap leaf k)
      e

pub loaded_worked : (leaf : ℕ → List ℕ) (m j : ℕ) (heap heap' : List ℕ) → Loaded leaf m (j * m) m heap → Heap 1 m heap heap' → Worked leaf m j heap'
loaded_worked leaf m j heap heap' p h =
    record { size = h.size; parents = h.parents; leaves = λ y l. h.leaves (m + y) (omega arith) (omega arith) ∙ p.leaves y l }

-- eight whole blocks, hashed side by side, are eight leaves
pub eight_leaves : (bytes : List ℕ) (c x k : ℕ) → x < 8 → k ≡ 131072 → 16384 * c + k ≤ length bytes → eighth_hash (take k (drop (16384 * c) bytes)) x ≡ leaf_of bytes (c + x)
unfolding block_hash block_of
eight_leaves bytes c x k h e l =
    block_in bytes c x k h e l ∙ sym (leaf_block bytes (c + x) (block_within (length bytes) (c + x) (omega arith)))
