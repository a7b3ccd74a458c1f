-- What a subtree settles: as code meets it, how much, where, with which values, and each position with its family.
-- All of it holds whatever `pair_hash` is. Assumes nothing.
use Rattle.std.specs.Prelude.{◌≡◌, refl, List, ◌++◌, Bool, ◌&&◌, ◌⊎◌, ℕ, zero, suc, ◌+◌, ◌-◌, ◌*◌, ◌/◌, ◌^◌, ◌≤◌, ◌<◌, length}
use Rattle.std.proofs.Common.{ap, ap₂, sym, ◌∙◌, inl, inr, add-mul, one-mul, mul_assoc, le_trans, mul-le-mul_left, mul-le-mul_right, le-mul_of_pos_right, length-append, pow_pos, pow_mono, pow-add, lt-ltb, le-ltb, arith}
use Rattle.std.proofs.Math.Nat.{pow-succ'}
use Rattle.std.proofs.Math.Decide.{dec_lt}
use Rattle.octets.specs.Octets.{Octets, cut}
use Rattle.octets.specs.OctetsLaws.{cut_length, cut_octets}
use Rattle.sha256.specs.Sha256.{pair_hash}
use Rattle.sha256.specs.Sha256Laws.{pair_octets}
use Rattle.tree.specs.Geometry.{node_number}
use Rattle.tree.specs.Values.{node, pad_value}
use Rattle.tree.proofs.ValuesLaws.{node_leaf, node_pair, node_same, node_padding}
use Rattle.tree.proofs.GeometryLaws.{right_end, left_start}
use Rattle.cells.specs.Cells.{put}
use Rattle.cells.specs.Entries.{Entry, one, agrees_at, agrees, put_all, lacks, fresh}
use Rattle.cells.specs.EntriesLaws.{agree_one, put_one, fresh_one, agree_append, put_append, fresh_append, fresh_small, lacks_small, Sound, sound_one, sound_append, In, here, Has, has_same, in_left, in_right, in_cases, one_is, Apart, apart_one, apart_append}
use Rattle.settling.specs.Span.{Within, Fit}
use Rattle.settling.specs.Subtree.{subtree, run_leaf}
use Rattle.settling.specs.AncestorLaws.{Under, under_self, under_parent, under_from, under_apart}

-- ---- the positions below b

-- with a subtree, the one below its right child lies below b
pub within_right : (b k n : ℕ) → Within b (suc k) n → Within b k (2 * n + 1)
unfolding Within
within_right b k n h = rw right_end h

-- and the one below its left child
pub within_left : (b k n : ℕ) → Within b (suc k) n → Within b k (2 * n)
unfolding Within
within_left b k n h = le_trans (mul-le-mul_right (2 ^ k) (omega arith)) (within_right b k n h)

-- and its top
pub within_self : (b k n : ℕ) → Within b k n → n < b
unfolding Within
within_self b k n h = omega (arith, le-mul_of_pos_right (n + 1) (pow_pos k))

-- both children, from a height that is not 0 to the one below it
pub within_down : (b k n : ℕ) → (k ≡ 0 → ⊥) → Within b k n → Within b (k - 1) (2 * n) × Within b (k - 1) (2 * n + 1)
within_down b zero n ne h = absurd (ne refl)
within_down b (suc k) n ne h =
    let e : suc k - 1 ≡ k = omega arith in
    rw e (within_left b k n h, within_right b k n h)

-- the lowest layer has at most b positions
pub within_pow : (b k n : ℕ) → Within b k n → 2 ^ k ≤ b
unfolding Within
within_pow b k n h =
    let one : 1 ≤ n + 1 = omega arith in
    omega (arith, mul-le-mul_right (2 ^ k) one)

-- a lower subtree with the same top lies below b too
pub within_lower : (b k m n : ℕ) → m ≤ k → Within b k n → Within b m n
unfolding Within
within_lower b k m n l h = le_trans (mul-le-mul_left (n + 1) (pow_mono l)) h

-- a position of layer l lies with the k ≤ l layers below it in the tree of height h, whose positions are those below 2·2^h
pub within_tree : (h l i k : ℕ) → l ≤ h → i < 2 ^ (h - l) → k ≤ l → Within (2 * 2 ^ h) k (node_number h l i)
unfolding Within node_number
within_tree h l i k a b c =
    let e : h - l + l ≡ h = omega arith in
    let p : 2 ^ (h - l) * 2 ^ l ≡ 2 ^ h = sym (pow-add 2 (h - l) l) ∙ ap (λ (x : ℕ). 2 ^ x) e in
    let m : 2 ^ (h - l) + i + 1 ≤ 2 * 2 ^ (h - l) = omega arith in
    within_lower (2 * 2 ^ h) l k (2 ^ (h - l) + i) c
    (le_trans (mul-le-mul_right (2 ^ l) m) (omega (arith, mul_assoc 2 (2 ^ (h - l)) (2 ^ l))))

-- a subtree below b fits where the cells below b have room
pub fit_below : {ls k n j : ℕ} (b : ℕ) → 31 + 33 * b ≤ ls → Within b k n → j ≤ n → Fit ls k n j
unfolding Within
fit_below b r w i = record { room = omega arith; index = i }

module _ {ls k n j : ℕ} (f : Fit ls k n j) where
  -- a subtree that fits lies below the end of its lowest layer
  lowest : Within ((n + 1) * 2 ^ k) k n
  unfolding Within
  lowest = omega arith

  -- its top has a cell
  pub fit_self : 31 + 33 * (n + 1) ≤ ls
  fit_self = omega (arith, f.room, within_self _ k n lowest)

  -- it fits in every store of the same length
  pub fit_length : (ls' : ℕ) → ls' ≡ ls → Fit ls' k n j
  fit_length ls' e = record { room = omega (arith, f.room); index = f.index }

  -- its left child's fits
  pub fit_left : (k ≡ 0 → ⊥) → Fit ls (k - 1) (2 * n) (2 * j)
  fit_left ne = fit_below _ f.room (within_down _ k n ne lowest).0 (omega (arith, f.index))

  -- its right child's fits
  pub fit_right : (k ≡ 0 → ⊥) → Fit ls (k - 1) (2 * n + 1) (2 * j + 1)
  fit_right ne = fit_below _ f.room (within_down _ k n ne lowest).1 (omega (arith, f.index))

-- ---- the leaves of a run

-- a leaf that the run has
pub run_leaf_in : (run past : List ℕ) (i : ℕ) → i < length run / 32 → run_leaf run past i ≡ cut run (32 * i) 32
unfolding run_leaf
run_leaf_in run past i h = rw (lt-ltb i (length run / 32) h)

-- a leaf after the run
pub run_leaf_past : (run past : List ℕ) (i : ℕ) → length run / 32 ≤ i → run_leaf run past i ≡ past
unfolding run_leaf
run_leaf_past run past i h = rw (le-ltb i (length run / 32) h)

-- every leaf has 32 bytes, if the one for those after the run has
pub run_leaf_length : (run past : List ℕ) → length past ≡ 32 → (i : ℕ) → length (run_leaf run past i) ≡ 32
run_leaf_length run past e i =
    elim (dec_lt i (length run / 32)) [
      | yes l ↦ rw (run_leaf_in run past i l) (cut_length run (32 * i) 32 (omega arith))
      | no g ↦ rw (run_leaf_past run past i (omega arith)) e
    ]

-- and every leaf is a string of bytes, if the run and that one are
pub run_leaf_octets : (run past : List ℕ) → Octets (length run) run → Octets 32 past → (i : ℕ) → Octets 32 (run_leaf run past i)
run_leaf_octets run past o p i =
    elim (dec_lt i (length run / 32)) [
      | yes l ↦ rw (run_leaf_in run past i l) (cut_octets (32 * i) 32 o (omega arith))
      | no g ↦ rw (run_leaf_past run past i (omega arith)) p
    ]

-- ---- the equations as code meets them

-- a subtree of height 0 is its top alone
pub subtree_zero : (leaf : ℕ → List ℕ) (k n j : ℕ) → k ≡ 0 → subtree leaf k n j ≡ one n (node leaf k j)
unfolding subtree node
subtree_zero leaf k n j e = rw e

-- a higher one is what lies below its left child, what lies below its right child, and its top
pub subtree_up : (leaf : ℕ → List ℕ) (k n j : ℕ) → (k ≡ 0 → ⊥)
    → subtree leaf k n j ≡ subtree leaf (k - 1) (2 * n) (2 * j) ++ subtree leaf (k - 1) (2 * n + 1) (2 * j + 1) ++ one n (node leaf k j)
unfolding subtree
subtree_up leaf zero n j ne = absurd (ne refl)
subtree_up leaf (suc k) n j ne = let e : suc k - 1 ≡ k = omega arith in rw e

-- a subtree of height k has 2·2^k - 1 positions
pub subtree_length : (leaf : ℕ → List ℕ) (k n j : ℕ) → length (subtree leaf k n j) + 1 ≡ 2 * 2 ^ k
unfolding subtree
subtree_length leaf zero n j = refl
subtree_length leaf (suc k) n j =
    simp length-append (omega (arith, pow-succ' 2 k, subtree_length leaf k (2 * n) (2 * j), subtree_length leaf k (2 * n + 1) (2 * j + 1)))

-- so fewer than 2·b positions become held
pub subtree_small : (s : List ℕ) (leaf : ℕ → List ℕ) (b k n j : ℕ) → Within b k n → fresh s (subtree leaf k n j) < 2 * b
subtree_small s leaf b k n j w = omega (arith, fresh_small s (subtree leaf k n j), subtree_length leaf k n j, within_pow b k n w)

-- with both children and the top, fewer than the store has bytes
pub up_small : {ls k n i : ℕ} → Fit ls k n i → (k ≡ 0 → ⊥) → (s s1 s2 : List ℕ) (leaf : ℕ → List ℕ) (j al ar a : ℕ)
    → al ≡ fresh s (subtree leaf (k - 1) (2 * n) (2 * j)) → ar ≡ fresh s1 (subtree leaf (k - 1) (2 * n + 1) (2 * j + 1)) → a ≡ lacks s2 n
    → al + ar + a < ls
up_small {ls} {k} {n} {i} f ne s s1 s2 leaf j al ar a el er ea =
    let below = within_down ((n + 1) * 2 ^ k) k n ne (lowest f) in
    omega (
      arith,
      f.room,
      subtree_small s leaf ((n + 1) * 2 ^ k) (k - 1) (2 * n) (2 * j) below.0,
      subtree_small s1 leaf ((n + 1) * 2 ^ k) (k - 1) (2 * n + 1) (2 * j + 1) below.1,
      lacks_small s2 n,
    )

-- ---- a call that looks, by its two ways

-- height 0: the test of the top
pub looked_zero : (s : List ℕ) (leaf : ℕ → List ℕ) (k n j : ℕ) (h : List ℕ) (o : Bool) → k ≡ 0
    → h ≡ leaf j → o ≡ agrees_at s n h → (h ≡ node leaf k j) × (o ≡ agrees s (subtree leaf k n j))
looked_zero s leaf k n j h o e p q =
    let v : h ≡ node leaf k j = node_leaf leaf h k j e p in
    (v, cc (subtree_zero leaf k n j e, agree_one s n h))

-- else the tests below both children, and that of the top
pub looked_up : (s : List ℕ) (leaf : ℕ → List ℕ) (k n j : ℕ) (hl : List ℕ) (ol : Bool) (hr : List ℕ) (or : Bool) (h : List ℕ) (o all : Bool) → (k ≡ 0 → ⊥)
    → (hl ≡ node leaf (k - 1) (2 * j)) × (ol ≡ agrees s (subtree leaf (k - 1) (2 * n) (2 * j)))
    → (hr ≡ node leaf (k - 1) (2 * j + 1)) × (or ≡ agrees s (subtree leaf (k - 1) (2 * n + 1) (2 * j + 1)))
    → h ≡ pair_hash hl hr → o ≡ agrees_at s n h → all ≡ (ol && or && o)
    → (h ≡ node leaf k j) × (all ≡ agrees s (subtree leaf k n j))
looked_up s leaf k n j hl ol hr or h o all ne L R p q t =
    let A = subtree leaf (k - 1) (2 * n) (2 * j) in
    let B = subtree leaf (k - 1) (2 * n + 1) (2 * j + 1) in
    let v : h ≡ node leaf k j = node_pair leaf h hl hr k j ne L.0 R.0 p in
    (v, cc (subtree_up leaf k n j ne, agree_append s (A ++ B) (one n h), agree_append s A B, agree_one s n h))

-- ---- a call that writes, by its two ways

-- writing L counted `new` and left s'
abbrev pub Wrote : List ℕ → List Entry → ℕ → List ℕ → Type 0
Wrote s L new s' = (new ≡ fresh s L) × (s' ≡ put_all s L)

-- one position written
pub wrote_one : (s : List ℕ) (n : ℕ) (h : List ℕ) (a : ℕ) (s' : List ℕ) → a ≡ lacks s n → s' ≡ put s n h → Wrote s (one n h) a s'
wrote_one s n h a s' p q = (cc (fresh_one s n h), cc (put_one s n h))

-- one list written after another
pub wrote_append : (s : List ℕ) (A : List Entry) (a : ℕ) (s1 : List ℕ) (B : List Entry) (b : ℕ) (s2 : List ℕ)
    → Wrote s A a s1 → Wrote s1 B b s2 → Wrote s (A ++ B) (a + b) s2
wrote_append s A a s1 B b s2 p q = (cc (fresh_append s A B), cc (put_append s A B))

-- height 0: the top written
pub wrote_zero : (s : List ℕ) (leaf : ℕ → List ℕ) (k n j : ℕ) (h : List ℕ) (a : ℕ) (s' : List ℕ) → k ≡ 0
    → h ≡ leaf j → a ≡ lacks s n → s' ≡ put s n h → (h ≡ node leaf k j) × Wrote s (subtree leaf k n j) a s'
wrote_zero s leaf k n j h a s' e p q r =
    let v : h ≡ node leaf k j = node_leaf leaf h k j e p in
    let w = wrote_one s n h a s' q r in
    (v, (cc (subtree_zero leaf k n j e), cc (subtree_zero leaf k n j e)))

-- else what is below the left child, below the right child, and the top, one after the other
pub wrote_up : (s : List ℕ) (leaf : ℕ → List ℕ) (k n j : ℕ) (hl : List ℕ) (al : ℕ) (s1 hr : List ℕ) (ar : ℕ) (s2 h : List ℕ) (a : ℕ) (s3 : List ℕ) → (k ≡ 0 → ⊥)
    → (hl ≡ node leaf (k - 1) (2 * j)) × Wrote s (subtree leaf (k - 1) (2 * n) (2 * j)) al s1
    → (hr ≡ node leaf (k - 1) (2 * j + 1)) × Wrote s1 (subtree leaf (k - 1) (2 * n + 1) (2 * j + 1)) ar s2
    → h ≡ pair_hash hl hr → a ≡ lacks s2 n → s3 ≡ put s2 n h
    → (h ≡ node leaf k j) × Wrote s (subtree leaf k n j) (al + ar + a) s3
wrote_up s leaf k n j hl al s1 hr ar s2 h a s3 ne L R p q r =
    let A = subtree leaf (k - 1) (2 * n) (2 * j) in
    let B = subtree leaf (k - 1) (2 * n + 1) (2 * j + 1) in
    let v : h ≡ node leaf k j = node_pair leaf h hl hr k j ne L.0 R.0 p in
    let w = wrote_append s (A ++ B) (al + ar) s2 (one n h) a s3 (wrote_append s A al s1 B ar s2 L.1 R.1) (wrote_one s2 n h a s3 q r) in
    (v, (cc (subtree_up leaf k n j ne), cc (subtree_up leaf k n j ne)))

-- ---- every entry is a hash, at a position below b

-- a node over leaves of 32 bytes is 32 bytes
pub node_length : (leaf : ℕ → List ℕ) → ((i : ℕ) → length (leaf i) ≡ 32) → (k j : ℕ) → length (node leaf k j) ≡ 32
unfolding node
node_length leaf h zero j = h j
node_length leaf h (suc k) j = (pair_octets (node leaf k (2 * j)) (node leaf k (2 * j + 1))).size

-- a subtree over leaves of 32 bytes is sound
pub subtree_sound : (leaf : ℕ → List ℕ) → ((i : ℕ) → length (leaf i) ≡ 32) → (b k n j : ℕ) → Within b k n → Sound b (subtree leaf k n j)
unfolding subtree
subtree_sound leaf h b zero n j w = sound_one n (leaf j) (within_self b zero n w) (h j)
subtree_sound leaf h b (suc k) n j w =
    sound_append (subtree leaf k (2 * n) (2 * j) ++ subtree leaf k (2 * n + 1) (2 * j + 1)) (one n (node leaf (suc k) j))
    (sound_append (subtree leaf k (2 * n) (2 * j)) (subtree leaf k (2 * n + 1) (2 * j + 1))
    (subtree_sound leaf h b k (2 * n) (2 * j) (within_left b k n w))
    (subtree_sound leaf h b k (2 * n + 1) (2 * j + 1) (within_right b k n w)))
    (sound_one n (node leaf (suc k) j) (within_self b (suc k) n w) (node_length leaf h (suc k) j))

-- ---- where its entries are

-- an entry of a subtree is below the left child, below the right child, or the top
pub subtree_cases : (leaf : ℕ → List ℕ) (k n j : ℕ) (e : Entry) → In e (subtree leaf (suc k) n j)
    → In e (subtree leaf k (2 * n) (2 * j)) ⊎ (In e (subtree leaf k (2 * n + 1) (2 * j + 1)) ⊎ ((e.at ≡ n) × (e.hash ≡ node leaf (suc k) j)))
unfolding subtree
subtree_cases leaf k n j e i =
    let A = subtree leaf k (2 * n) (2 * j) in
    let B = subtree leaf k (2 * n + 1) (2 * j + 1) in
    elim (in_cases (A ++ B) (one n (node leaf (suc k) j)) i) [
      | inl x ↦ elim (in_cases A B x) [ inl a ↦ inl a | inr b ↦ inr (inl b) ]
      | inr y ↦ inr (inr (one_is n (node leaf (suc k) j) y))
    ]

-- what lies below the left child
pub subtree_left : (leaf : ℕ → List ℕ) (k n j : ℕ) (e : Entry) → In e (subtree leaf k (2 * n) (2 * j)) → In e (subtree leaf (suc k) n j)
unfolding subtree
subtree_left leaf k n j e i =
    let A = subtree leaf k (2 * n) (2 * j) in
    let B = subtree leaf k (2 * n + 1) (2 * j + 1) in
    in_left (A ++ B) (one n (node leaf (suc k) j)) (in_left A B i)

-- and below the right one
pub subtree_right : (leaf : ℕ → List ℕ) (k n j : ℕ) (e : Entry) → In e (subtree leaf k (2 * n + 1) (2 * j + 1)) → In e (subtree leaf (suc k) n j)
unfolding subtree
subtree_right leaf k n j e i =
    let A = subtree leaf k (2 * n) (2 * j) in
    let B = subtree leaf k (2 * n + 1) (2 * j + 1) in
    in_left (A ++ B) (one n (node leaf (suc k) j)) (in_right A B i)

-- the top has the value worked out
pub subtree_top : (leaf : ℕ → List ℕ) (k n j : ℕ) → Has n (node leaf k j) (subtree leaf k n j)
unfolding subtree node
subtree_top leaf zero n j = here
subtree_top leaf (suc k) n j = in_right (subtree leaf k (2 * n) (2 * j) ++ subtree leaf k (2 * n + 1) (2 * j + 1)) (one n (node leaf (suc k) j)) here

-- every entry is the top or below it
pub subtree_under : (leaf : ℕ → List ℕ) (k n j : ℕ) (e : Entry) → In e (subtree leaf k n j) → Under n e.at
unfolding subtree
subtree_under leaf zero n j e i = under_self n e.at (one_is n (leaf j) i).0
subtree_under leaf (suc k) n j e i =
    elim (subtree_cases leaf k n j e i) [
      | inl a ↦ under_parent (2 * n) (omega arith) (subtree_under leaf k (2 * n) (2 * j) e a)
      | inr r ↦ elim r [
        | inl b ↦ under_parent (2 * n + 1) (omega arith) (subtree_under leaf k (2 * n + 1) (2 * j + 1) e b)
        | inr t ↦ under_self n e.at t.0
      ]
    ]

-- so its number is from n on
pub subtree_from : (leaf : ℕ → List ℕ) (k n j : ℕ) (e : Entry) → In e (subtree leaf k n j) → n ≤ e.at
subtree_from leaf k n j e i = under_from (subtree_under leaf k n j e i)

-- below a position there are positions only
pub subtree_positive : (leaf : ℕ → List ℕ) (k n j : ℕ) → 1 ≤ n → (e : Entry) → In e (subtree leaf k n j) → 1 ≤ e.at
subtree_positive leaf k n j h e i = omega (arith, subtree_from leaf k n j e i)

-- no two entries have the same position
pub subtree_apart : (leaf : ℕ → List ℕ) (k n j : ℕ) → 1 ≤ n → Apart (subtree leaf k n j)
unfolding subtree
subtree_apart leaf zero n j h = apart_one n (leaf j)
subtree_apart leaf (suc k) n j h =
    let A = subtree leaf k (2 * n) (2 * j) in
    let B = subtree leaf k (2 * n + 1) (2 * j + 1) in
    let C = one n (node leaf (suc k) j) in
    apart_append (A ++ B) C
    (apart_append A B (subtree_apart leaf k (2 * n) (2 * j) (omega arith)) (subtree_apart leaf k (2 * n + 1) (2 * j + 1) (omega arith))
    (λ e f i g q.
    under_apart (2 * n) (2 * n + 1) e.at (λ z. omega arith) (omega arith) (omega arith)
    (subtree_under leaf k (2 * n) (2 * j) e i) (rw q (subtree_under leaf k (2 * n + 1) (2 * j + 1) f g))))
    (apart_one n (node leaf (suc k) j))
    (λ e f i g q.
    let z = (one_is n (node leaf (suc k) j) g).0 in
    elim (in_cases A B i) [
      | inl a ↦ omega (arith, subtree_from leaf k (2 * n) (2 * j) e a)
      | inr b ↦ omega (arith, subtree_from leaf k (2 * n + 1) (2 * j + 1) e b)
    ])

-- ---- with which values

below_right : (m layers : ℕ) → (2 * m + 1) * 2 ^ layers ≡ m * 2 ^ suc layers + 2 ^ layers
below_right m layers = omega (arith, add-mul (2 * m) 1 (2 ^ layers), one-mul (2 ^ layers), left_start m layers)

-- e is number `offset` from the left, `layers` below the top, with the value of that node
pub record Spot (leaf : ℕ → List ℕ) (k n j : ℕ) (e : Entry) : Type 0 where
  pub layers : ℕ
  pub offset : ℕ
  pub reach : layers ≤ k
  pub inside : offset < 2 ^ layers
  pub position : e.at ≡ n * 2 ^ layers + offset
  pub value : e.hash ≡ node leaf (k - layers) (j * 2 ^ layers + offset)

spot_top : (leaf : ℕ → List ℕ) (k n j : ℕ) (e : Entry) → e.at ≡ n → e.hash ≡ node leaf k j → Spot leaf k n j e
spot_top leaf k n j e p v =
    let q : n * 2 ^ 0 + 0 ≡ n = omega arith in
    let r : j * 2 ^ 0 + 0 ≡ j = omega arith in
    let z : k - 0 ≡ k = omega arith in
    record {
      layers = 0;
      offset = 0;
      reach = omega arith;
      inside = omega arith;
      position = p ∙ sym q;
      value = v ∙ ap₂ (λ (x y : ℕ). node leaf x y) (sym z) (sym r);
    }

spot_left : (leaf : ℕ → List ℕ) (k n j : ℕ) (e : Entry) → Spot leaf k (2 * n) (2 * j) e → Spot leaf (suc k) n j e
spot_left leaf k n j e P =
    let z : k - P.layers ≡ suc k - suc P.layers = omega arith in
    let r : 2 * j * 2 ^ P.layers + P.offset ≡ j * 2 ^ suc P.layers + P.offset = omega (arith, left_start j P.layers) in
    record {
      layers = suc P.layers;
      offset = P.offset;
      reach = omega (arith, P.reach);
      inside = omega (arith, P.inside, pow-succ' 2 P.layers);
      position = omega (arith, P.position, left_start n P.layers);
      value = P.value ∙ ap₂ (λ (x y : ℕ). node leaf x y) z r;
    }

spot_right : (leaf : ℕ → List ℕ) (k n j : ℕ) (e : Entry) → Spot leaf k (2 * n + 1) (2 * j + 1) e → Spot leaf (suc k) n j e
spot_right leaf k n j e P =
    let z : k - P.layers ≡ suc k - suc P.layers = omega arith in
    let r : (2 * j + 1) * 2 ^ P.layers + P.offset ≡ j * 2 ^ suc P.layers + (2 ^ P.layers + P.offset) = omega (arith, below_right j P.layers) in
    record {
      layers = suc P.layers;
      offset = 2 ^ P.layers + P.offset;
      reach = omega (arith, P.reach);
      inside = omega (arith, P.inside, pow-succ' 2 P.layers);
      position = omega (arith, P.position, below_right n P.layers);
      value = P.value ∙ ap₂ (λ (x y : ℕ). node leaf x y) z r;
    }

-- every entry has such a place
pub subtree_value : (leaf : ℕ → List ℕ) (k n j : ℕ) (e : Entry) → In e (subtree leaf k n j) → Spot leaf k n j e
unfolding subtree node
subtree_value leaf zero n j e i = spot_top leaf zero n j e (one_is n (leaf j) i).0 (one_is n (leaf j) i).1
subtree_value leaf (suc k) n j e i =
    elim (subtree_cases leaf k n j e i) [
      | inl a ↦ spot_left leaf k n j e (subtree_value leaf k (2 * n) (2 * j) e a)
      | inr r ↦ elim r [
        | inl b ↦ spot_right leaf k n j e (subtree_value leaf k (2 * n + 1) (2 * j + 1) e b)
        | inr t ↦ spot_top leaf (suc k) n j e t.0 t.1
      ]
    ]

-- and every such place has its entry
pub subtree_has : (leaf : ℕ → List ℕ) (k n j layers offset : ℕ) → layers ≤ k → offset < 2 ^ layers
    → Has (n * 2 ^ layers + offset) (node leaf (k - layers) (j * 2 ^ layers + offset)) (subtree leaf k n j)
subtree_has leaf k n j zero x l h =
    let q : n ≡ n * 2 ^ 0 + x = omega arith in
    let r : j ≡ j * 2 ^ 0 + x = omega arith in
    let z : k ≡ k - 0 = omega arith in
    has_same (subtree leaf k n j) n (n * 2 ^ 0 + x) (node leaf k j) (node leaf (k - 0) (j * 2 ^ 0 + x)) q (ap₂ (λ (a b : ℕ). node leaf a b) z r) (subtree_top leaf k n j)
subtree_has leaf zero n j (suc d) x l h = let w : ⊥ = omega arith in absurd w
subtree_has leaf (suc k) n j (suc d) x l h =
    let z : k - d ≡ suc k - suc d = omega arith in
    elim (dec_lt x (2 ^ d)) [
      | yes a ↦
          let q : 2 * n * 2 ^ d + x ≡ n * 2 ^ suc d + x = omega (arith, left_start n d) in
          let r : 2 * j * 2 ^ d + x ≡ j * 2 ^ suc d + x = omega (arith, left_start j d) in
          has_same (subtree leaf (suc k) n j) (2 * n * 2 ^ d + x) (n * 2 ^ suc d + x) (node leaf (k - d) (2 * j * 2 ^ d + x)) (node leaf (suc k - suc d) (j * 2 ^ suc d + x))
          q (ap₂ (λ (a b : ℕ). node leaf a b) z r) (subtree_left leaf k n j _ (subtree_has leaf k (2 * n) (2 * j) d x (omega arith) a))
      | no g ↦
          let q : (2 * n + 1) * 2 ^ d + (x - 2 ^ d) ≡ n * 2 ^ suc d + x = omega (arith, below_right n d) in
          let r : (2 * j + 1) * 2 ^ d + (x - 2 ^ d) ≡ j * 2 ^ suc d + x = omega (arith, below_right j d) in
          has_same (subtree leaf (suc k) n j) ((2 * n + 1) * 2 ^ d + (x - 2 ^ d)) (n * 2 ^ suc d + x)
          (node leaf (k - d) ((2 * j + 1) * 2 ^ d + (x - 2 ^ d))) (node leaf (suc k - suc d) (j * 2 ^ suc d + x))
          q (ap₂ (λ (a b : ℕ). node leaf a b) z r)
          (subtree_right leaf k n j _ (subtree_has leaf k (2 * n + 1) (2 * j + 1) d (x - 2 ^ d) (omega arith) (omega (arith, pow-succ' 2 d))))
    ]

-- in a tree of height h, what stands so below number i of layer l is a number of layer l - layers
pub number_below : (h l i layers offset : ℕ) → l ≤ h → layers ≤ l → node_number h l i * 2 ^ layers + offset ≡ node_number h (l - layers) (i * 2 ^ layers + offset)
unfolding node_number
number_below h l i layers offset a b =
    let e : h - l + layers ≡ h - (l - layers) = omega arith in
    let p : 2 ^ (h - l) * 2 ^ layers ≡ 2 ^ (h - (l - layers)) = sym (pow-add 2 (h - l) layers) ∙ ap (λ (x : ℕ). 2 ^ x) e in
    omega (arith, add-mul (2 ^ (h - l)) i (2 ^ layers))

-- where the leaves from `from` on are layer p's padding, an entry that covers none before has the padding value of its layer
pub spot_padding : (leaf : ℕ → List ℕ) (p from : ℕ) → ((i : ℕ) → from ≤ i → leaf i ≡ pad_value p) → (k n j : ℕ) (e : Entry) (P : Spot leaf k n j e)
    → from ≤ (j * 2 ^ P.layers + P.offset) * 2 ^ (k - P.layers) → e.hash ≡ pad_value (p + (k - P.layers))
spot_padding leaf p from h k n j e P l = P.value ∙ node_padding leaf p from h (k - P.layers) (j * 2 ^ P.layers + P.offset) l

-- what a subtree settles depends only on the leaves below it
pub subtree_same : (f g : ℕ → List ℕ) (k n j : ℕ) → ((i : ℕ) → j * 2 ^ k ≤ i → i < (j + 1) * 2 ^ k → f i ≡ g i) → subtree f k n j ≡ subtree g k n j
unfolding subtree
subtree_same f g zero n j h = ap (one n) (h j (omega arith) (omega arith))
subtree_same f g (suc k) n j h =
    ap₂ (λ (a b : List Entry). a ++ b)
    (ap₂ (λ (a b : List Entry). a ++ b)
    (subtree_same f g k (2 * n) (2 * j) (λ i a b. h i (omega (arith, left_start j k)) (omega (arith, right_end j k, below_right j k, add-mul (2 * j + 1) 1 (2 ^ k), add-mul (2 * j) 1 (2 ^ k), one-mul (2 ^ k)))))
    (subtree_same f g k (2 * n + 1) (2 * j + 1) (λ i a b. h i (omega (arith, left_start j k, below_right j k)) (omega (arith, right_end j k)))))
    (ap (one n) (node_same f g (suc k) j h))

-- ---- each with its family

-- the two children of q's parent and that parent, with the hash of the two
pub record FamilyIn (L : List Entry) (q : ℕ) : Type 0 where
  pub l : List ℕ
  pub r : List ℕ
  pub left : Has (2 * (q / 2)) l L
  pub right : Has (2 * (q / 2) + 1) r L
  pub parent : Has (q / 2) (pair_hash l r) L

-- a family stays one in a longer list
pub family_in : {q : ℕ} (L M : List Entry) → ((e : Entry) → In e L → In e M) → FamilyIn L q → FamilyIn M q
family_in L M f w = record { l = w.l; r = w.r; left = f _ w.left; right = f _ w.right; parent = f _ w.parent }

-- a family, from a parent p that is named otherwise
pub family_of : (L : List Entry) (q p : ℕ) (l r : List ℕ) → q / 2 ≡ p → Has (2 * p) l L → Has (2 * p + 1) r L → Has p (pair_hash l r) L → FamilyIn L q
family_of L q p l r e a b c = record { l = l; r = r; left = rw e a; right = rw e b; parent = rw e c }

-- an entry is the top, or has its family in the subtree
pub subtree_family : (leaf : ℕ → List ℕ) (k n j : ℕ) (e : Entry) → In e (subtree leaf k n j)
    → ((e.at ≡ n) × (e.hash ≡ node leaf k j)) ⊎ FamilyIn (subtree leaf k n j) e.at
unfolding subtree node
subtree_family leaf zero n j e i = inl (one_is n (leaf j) i)
subtree_family leaf (suc k) n j e i =
    let A = subtree leaf k (2 * n) (2 * j) in
    let B = subtree leaf k (2 * n + 1) (2 * j + 1) in
    let S = subtree leaf (suc k) n j in
    let ha : Has (2 * n) (node leaf k (2 * j)) S = subtree_left leaf k n j _ (subtree_top leaf k (2 * n) (2 * j)) in
    let hb : Has (2 * n + 1) (node leaf k (2 * j + 1)) S = subtree_right leaf k n j _ (subtree_top leaf k (2 * n + 1) (2 * j + 1)) in
    let hc : Has n (pair_hash (node leaf k (2 * j)) (node leaf k (2 * j + 1))) S = subtree_top leaf (suc k) n j in
    elim (subtree_cases leaf k n j e i) [
      | inl a ↦ elim (subtree_family leaf k (2 * n) (2 * j) e a)
          [ inl t ↦ inr (family_of S e.at n _ _ (omega (arith, t.0)) ha hb hc) | inr f ↦ inr (family_in A S (subtree_left leaf k n j) f) ]
      | inr r ↦ elim r [
        | inl b ↦ elim (subtree_family leaf k (2 * n + 1) (2 * j + 1) e b)
            [ inl t ↦ inr (family_of S e.at n _ _ (omega (arith, t.0)) ha hb hc) | inr f ↦ inr (family_in B S (subtree_right leaf k n j) f) ]
        | inr t ↦ inl t
      ]
    ]
