-- Where the first position that isn't held stands in a layer, and the first that is held above a position; what a run's header is.
-- Assumes nothing.
use Rattle.std.specs.Prelude.{◌≡◌, refl, Bool, true, false, List, ℕ, zero, suc, ◌+◌, ◌-◌, ◌*◌, ◌/◌, ◌^◌, ◌≤◌, ◌<◌, min, eqb}
use Rattle.std.proofs.Common.{ap, sym, ◌∙◌, inl, inr, arith, div-add-mod', mul-le-mul_right, add-mul, one-mul, pow_mono, pow-add, eqb-true}
use Rattle.std.proofs.Math.Bool.{and-eq-true_iff}
use Rattle.limits.specs.Limits.{longest_run, tallest_tree}
use Rattle.numbers.specs.Numbers.{rule_broken, no_anchor, unusable}
use Rattle.numbers.specs.Tests.{either, not_both, or_one}
use Rattle.tree.specs.Geometry.{height, log2, block_count, node_number, piece_layer, has_layer}
use Rattle.tree.proofs.GeometryLaws.{height_pow, piece_length_form, has_longer, long_file_height, covering_within, covering_top, block_count_some, node_number_root}
use Rattle.store.specs.Store.{usable, file_length, piece_length, blocks_of, height_of, Facts}
use Rattle.store.specs.StoreLaws.{usable_facts, height_most}
use Rattle.cells.specs.Cells.{held_at}
use Rattle.cells.specs.CellsLaws.{lt_or_ge}
use Rattle.settling.specs.Path.{ancestor}
use Rattle.asking.specs.Asking.{layer_asked, next_number, wanted, held_front, lowest, run_length, uncles_needed, proof_for}

-- ---- along a layer

front_yes : (s : List ℕ) (n c : ℕ) → held_at s n ≡ true → held_front s n (suc c) ≡ suc (held_front s (suc n) c)
unfolding held_front
front_yes s n c e = rw e

front_no : (s : List ℕ) (n c : ℕ) → held_at s n ≡ false → held_front s n (suc c) ≡ 0
unfolding held_front
front_no s n c e = rw e

front_none : (s : List ℕ) (n : ℕ) → held_front s n 0 ≡ 0
unfolding held_front
front_none s n = refl

pub front_most : (s : List ℕ) (n c : ℕ) → held_front s n c ≤ c
front_most s n zero = omega (arith, front_none s n)
front_most s n (suc c) =
    elim (either (held_at s n)) [
      | inl e ↦ omega (arith, front_yes s n c e, front_most s (suc n) c)
      | inr e ↦ omega (arith, front_no s n c e)
    ]

pub front_held : (s : List ℕ) (n c j : ℕ) → j < held_front s n c → held_at s (n + j) ≡ true
front_held s n zero j l = let w : ⊥ = omega (arith, front_none s n) in absurd w
front_held s n (suc c) j l =
    elim (either (held_at s n)) [
      | inl e ↦ by j e l (front_yes s n c e) (front_held s (suc n) c)
      | inr e ↦ (let w : ⊥ = omega (arith, front_no s n c e) in absurd w)
    ]
  where
    by : (j : ℕ) → held_at s n ≡ true → j < held_front s n (suc c) → held_front s n (suc c) ≡ suc (held_front s (suc n) c)
        → ((k : ℕ) → k < held_front s (suc n) c → held_at s (suc n + k) ≡ true) → held_at s (n + j) ≡ true
    by zero e l q f = let z : n + 0 ≡ n = omega arith in rw z e
    by (suc k) e l q f = let z : suc n + k ≡ n + suc k = omega arith in rw z at (f k (omega arith))

pub front_stops : (s : List ℕ) (n c : ℕ) → held_front s n c < c → held_at s (n + held_front s n c) ≡ false
front_stops s n zero l = let w : ⊥ = omega arith in absurd w
front_stops s n (suc c) l =
    elim (either (held_at s n)) [
      | inl e ↦
          let q = front_yes s n c e in
          let z : suc n + held_front s (suc n) c ≡ n + held_front s n (suc c) = omega arith in
          rw z at (front_stops s (suc n) c (omega arith))
      | inr e ↦
          let q = front_no s n c e in
          let z : n + held_front s n (suc c) ≡ n = omega arith in
          rw z e
    ]

-- i is where the first one stands that isn't held, if all before it are held and it is not
pub front_is : (s : List ℕ) (n c i : ℕ) → ((j : ℕ) → j < i → held_at s (n + j) ≡ true) → i < c → held_at s (n + i) ≡ false → i ≡ held_front s n c
front_is s n c i all l free =
    elim (lt_or_ge i (held_front s n c)) [
      | inl a ↦ absurd (not_both (front_held s n c i a) free)
      | inr a ↦ elim (lt_or_ge (held_front s n c) i) [
        | inl b ↦ absurd (not_both (all (held_front s n c) b) (front_stops s n c (omega arith)))
        | inr b ↦ omega arith
      ]
    ]

-- all are held
pub front_all : (s : List ℕ) (n c : ℕ) → ((j : ℕ) → j < c → held_at s (n + j) ≡ true) → c ≡ held_front s n c
front_all s n c all =
    elim (lt_or_ge (held_front s n c) c) [
      | inl b ↦ absurd (not_both (all (held_front s n c) b) (front_stops s n c b))
      | inr b ↦ omega (arith, front_most s n c)
    ]

-- one more that is held
pub held_more : (s : List ℕ) (n i : ℕ) → ((j : ℕ) → j < i → held_at s (n + j) ≡ true) → held_at s (n + i) ≡ true
    → (j : ℕ) → j < i + 1 → held_at s (n + j) ≡ true
held_more s n i all h j l =
    elim (lt_or_ge j i) [ inl a ↦ all j a | inr a ↦ (let z : i ≡ j = omega arith in rw z at h) ]

-- ---- upward

needed_yes : (s : List ℕ) (t n : ℕ) → held_at s n ≡ true → uncles_needed s (suc t) n ≡ 0
unfolding uncles_needed
needed_yes s t n e = rw e

needed_no : (s : List ℕ) (t n : ℕ) → held_at s n ≡ false → uncles_needed s (suc t) n ≡ suc (uncles_needed s t (n / 2))
unfolding uncles_needed
needed_no s t n e = rw e

needed_none : (s : List ℕ) (n : ℕ) → uncles_needed s 0 n ≡ 0
unfolding uncles_needed
needed_none s n = refl

ancestor_none : (n : ℕ) → ancestor 0 n ≡ n
unfolding ancestor
ancestor_none n = refl

ancestor_one : (u n : ℕ) → ancestor (suc u) n ≡ ancestor u (n / 2)
unfolding ancestor
ancestor_one u n = refl

pub needed_most : (s : List ℕ) (t n : ℕ) → uncles_needed s t n ≤ t
needed_most s zero n = omega (arith, needed_none s n)
needed_most s (suc t) n =
    elim (either (held_at s n)) [
      | inl e ↦ omega (arith, needed_yes s t n e)
      | inr e ↦ omega (arith, needed_no s t n e, needed_most s t (n / 2))
    ]

pub needed_free : (s : List ℕ) (t n j : ℕ) → j < uncles_needed s t n → held_at s (ancestor j n) ≡ false
needed_free s zero n j l = let w : ⊥ = omega (arith, needed_none s n) in absurd w
needed_free s (suc t) n j l =
    elim (either (held_at s n)) [
      | inl e ↦ (let w : ⊥ = omega (arith, needed_yes s t n e) in absurd w)
      | inr e ↦ by j e l (needed_no s t n e) (needed_free s t (n / 2))
    ]
  where
    by : (j : ℕ) → held_at s n ≡ false → j < uncles_needed s (suc t) n → uncles_needed s (suc t) n ≡ suc (uncles_needed s t (n / 2))
        → ((k : ℕ) → k < uncles_needed s t (n / 2) → held_at s (ancestor k (n / 2)) ≡ false) → held_at s (ancestor j n) ≡ false
    by zero e l q f = rw (ancestor_none n) e
    by (suc k) e l q f = rw (ancestor_one k n) (f k (omega arith))

pub needed_stops : (s : List ℕ) (t n : ℕ) → uncles_needed s t n < t → held_at s (ancestor (uncles_needed s t n) n) ≡ true
needed_stops s zero n l = let w : ⊥ = omega arith in absurd w
needed_stops s (suc t) n l =
    elim (either (held_at s n)) [
      | inl e ↦ rw (needed_yes s t n e, ancestor_none n) e
      | inr e ↦
          let q = needed_no s t n e in
          rw (q, ancestor_one (uncles_needed s t (n / 2)) n) (needed_stops s t (n / 2) (omega arith))
    ]

-- u layers up stands the first held one, if all before it are not held
pub needed_is : (s : List ℕ) (t n u : ℕ) → ((j : ℕ) → j < u → held_at s (ancestor j n) ≡ false) → u < t → held_at s (ancestor u n) ≡ true → u ≡ uncles_needed s t n
needed_is s t n u all l h =
    elim (lt_or_ge u (uncles_needed s t n)) [
      | inl a ↦ absurd (not_both h (needed_free s t n u a))
      | inr a ↦ elim (lt_or_ge (uncles_needed s t n) u) [
        | inl b ↦ absurd (not_both (needed_stops s t n (omega arith)) (all (uncles_needed s t n) b))
        | inr b ↦ omega arith
      ]
    ]

pub needed_all : (s : List ℕ) (t n : ℕ) → ((j : ℕ) → j < t → held_at s (ancestor j n) ≡ false) → t ≡ uncles_needed s t n
needed_all s t n all =
    elim (lt_or_ge (uncles_needed s t n) t) [
      | inl b ↦ absurd (not_both (needed_stops s t n b) (all (uncles_needed s t n) b))
      | inr b ↦ omega (arith, needed_most s t n)
    ]

pub free_more : (s : List ℕ) (n u : ℕ) → ((j : ℕ) → j < u → held_at s (ancestor j n) ≡ false) → held_at s (ancestor u n) ≡ false
    → (j : ℕ) → j < u + 1 → held_at s (ancestor j n) ≡ false
free_more s n u all h j l =
    elim (lt_or_ge j u) [ inl a ↦ all j a | inr a ↦ (let z : u ≡ j = omega arith in rw z at h) ]

pub up_one : (u n x : ℕ) → x ≡ ancestor u n → x / 2 ≡ ancestor (u + 1) n
up_one u n x e = let z : u + 1 ≡ suc u = omega arith in rw (e, z) (sym (Rattle.settling.specs.AncestorLaws.ancestor_suc u n))

-- ---- proof layers

pub proof_none : (k : ℕ) → proof_for k 0 ≡ 0
unfolding proof_for
proof_none k = refl

pub proof_none_at : (k u : ℕ) → u ≡ 0 → proof_for k u ≡ 0
proof_none_at k u e = rw e (proof_none k)

pub proof_some : (k u : ℕ) → (u ≡ 0 → ⊥) → proof_for k u ≡ k + (u - 1)
unfolding proof_for
proof_some k zero ne = absurd (ne refl)
proof_some k (suc u) ne = omega arith

-- they give u uncles, where the run has two hashes at least,
pub proof_gives : (k u : ℕ) → 1 ≤ k → proof_for k u - (k - 1) ≡ u
unfolding proof_for
proof_gives k zero l = omega arith
proof_gives k (suc u) l = omega arith

-- and fewer give fewer
pub proof_fewest : (k u q : ℕ) → 1 ≤ k → q < proof_for k u → q - (k - 1) < u
unfolding proof_for
proof_fewest k zero q l a = let w : ⊥ = omega arith in absurd w
proof_fewest k (suc u) q l a = omega arith

pub proof_most : (k u : ℕ) → proof_for k u ≤ k + u
unfolding proof_for
proof_most k zero = omega arith
proof_most k (suc u) = omega arith

-- ---- a run

-- a power of two, no more than the whole layer: what a base run of layer l is in a tree of height h
pub record RunFacts (h l : ℕ) : Type 0 where
  pub power : 2 ^ log2 (run_length h l) ≡ run_length h l
  pub two : 2 ≤ run_length h l
  pub most : run_length h l ≤ longest_run
  pub within : l + log2 (run_length h l) ≤ h
  pub some : 1 ≤ log2 (run_length h l)
  pub whole : 2 ^ (h - (l + log2 (run_length h l))) * run_length h l ≡ 2 ^ (h - l)

length_is : (h l : ℕ) → (k : ℕ) × (k ≤ h - l) × (k ≤ 13) × (run_length h l ≡ 2 ^ k) × (l < h → 1 ≤ k)
unfolding run_length
length_is h l =
    elim (lt_or_ge (h - l) 13) [
      | inl a ↦
          let w : 2 ^ (h - l) ≤ 2 ^ 13 = pow_mono {i = h - l} {j = 13} (omega arith) in
          let e : min 8192 (2 ^ (h - l)) ≡ 2 ^ (h - l) = omega arith in
          (h - l, omega arith, omega arith, e, λ b. omega arith)
      | inr a ↦
          let w : 2 ^ 13 ≤ 2 ^ (h - l) = pow_mono {i = 13} {j = h - l} a in
          let e : min 8192 (2 ^ (h - l)) ≡ 2 ^ 13 = omega arith in
          (13, a, omega arith, e, λ b. omega arith)
    ]

pub run_facts : (h l : ℕ) → l < h → RunFacts h l
run_facts h l b =
    let K = length_is h l in
    by K.0 K.1 K.2 K.3 (K.4 b)
  where
    by : (k : ℕ) → k ≤ h - l → k ≤ 13 → run_length h l ≡ 2 ^ k → 1 ≤ k → RunFacts h l
    by k a m e one =
        let q : log2 (run_length h l) ≡ k = ap height e ∙ height_pow k in
        let w : 2 ^ k ≤ 2 ^ 13 = pow_mono {i = k} {j = 13} m in
        let v : 2 ^ 1 ≤ 2 ^ k = pow_mono {i = 1} {j = k} one in
        let x : h - (l + k) + k ≡ h - l = omega arith in
        record {
          power = rw (q, e);
          two = omega arith;
          most = omega arith;
          within = omega arith;
          some = omega arith;
          whole = rw (q, e) (sym (pow-add 2 (h - (l + k)) k) ∙ ap (λ (y : ℕ). 2 ^ y) x);
        }

-- run j of the layer, where its first position is one of the layer's
module _ (h l j : ℕ) (b : l < h) (i : j * run_length h l < 2 ^ (h - l)) where
  -- its top is a position of its layer,
  pub top_in : j < 2 ^ (h - (l + log2 (run_length h l)))
  top_in =
      let R = run_facts h l b in
      elim (lt_or_ge j (2 ^ (h - (l + log2 (run_length h l))))) [
        | inl a ↦ a
        | inr a ↦
            let w : 2 ^ (h - (l + log2 (run_length h l))) * run_length h l ≤ j * run_length h l = mul-le-mul_right (run_length h l) a in
            let v : ⊥ = omega (arith, R.whole) in
            absurd v
      ]

  -- and it ends within the layer
  pub run_ends : j * run_length h l + run_length h l ≤ 2 ^ (h - l)
  run_ends =
      let R = run_facts h l b in
      let w : (j + 1) * run_length h l ≤ 2 ^ (h - (l + log2 (run_length h l))) * run_length h l = mul-le-mul_right (run_length h l) (omega (arith, top_in)) in
      omega (arith, R.whole, add-mul j 1 (run_length h l), one-mul (run_length h l))

-- ---- the layers that may be asked for

pub record Asked (s : List ℕ) (l : ℕ) : Type 0 where
  pub facts : Facts s
  pub layer : layer_asked s l ≡ true
  pub root : held_at s 1 ≡ true

pub number_9 : (s : List ℕ) (l : ℕ) → usable s ≡ false → next_number s l ≡ unusable
unfolding next_number
number_9 s l p = rw p

pub number_3 : (s : List ℕ) (l : ℕ) → usable s ≡ true → layer_asked s l ≡ false → next_number s l ≡ rule_broken
unfolding next_number
number_3 s l p q = rw (p, q)

pub number_6 : (s : List ℕ) (l : ℕ) → usable s ≡ true → layer_asked s l ≡ true → held_at s 1 ≡ false → next_number s l ≡ no_anchor
unfolding next_number
number_6 s l p q r = rw (p, q, r)

pub says_number : (s : List ℕ) (l : ℕ) → usable s ≡ true → layer_asked s l ≡ true → held_at s 1 ≡ true → next_number s l ≡ 0
unfolding next_number
says_number s l p q r = rw (p, q, r)

pub number_says : (s : List ℕ) (l : ℕ) → next_number s l ≡ 0 → Asked s l
number_says s l z = by (usable s) (layer_asked s l) (held_at s 1) refl refl refl
  where
    by : (a b c : Bool) → usable s ≡ a → layer_asked s l ≡ b → held_at s 1 ≡ c → Asked s l
    by true true true p q r = record { facts = usable_facts s p; layer = q; root = r }
    by true true false p q r = let w : ⊥ = omega (arith, sym z ∙ number_6 s l p q r) in absurd w
    by true false c p q r = let w : ⊥ = omega (arith, sym z ∙ number_3 s l p q) in absurd w
    by false b c p q r = let w : ⊥ = omega (arith, sym z ∙ number_9 s l p) in absurd w

-- such a layer is one of the tree's
pub asked_low : (s : List ℕ) (l : ℕ) → Facts s → layer_asked s l ≡ true → l ≤ height_of s
unfolding layer_asked height_of blocks_of
asked_low s l f e =
    elim (or_one (eqb l 0) _ e) [
      | inl a ↦ omega (arith, eqb-true l 0 a)
      | inr a ↦
          let w = (and-eq-true_iff (eqb l (piece_layer (piece_length s))) (has_layer (file_length s) (piece_length s))).0 a in
          let p = piece_length_form (piece_length s) f.piece in
          let g = has_longer (file_length s) (piece_length s) w.1 in
          let d = long_file_height (file_length s) (piece_layer (piece_length s)) (omega (arith, p.1)) in
          omega (arith, eqb-true l (piece_layer (piece_length s)) w.0)
    ]

pub wanted_within : (s : List ℕ) (l : ℕ) → l ≤ height_of s → wanted s l ≤ 2 ^ (height_of s - l)
unfolding wanted height_of
wanted_within s l a = covering_within (blocks_of s) l a

pub wanted_top : (s : List ℕ) → Facts s → wanted s (height_of s) ≡ 1
unfolding wanted height_of blocks_of
wanted_top s f = covering_top (block_count (file_length s)) (block_count_some (file_length s) f.some)

pub height_small : (s : List ℕ) → Facts s → height_of s ≤ tallest_tree
unfolding height_of blocks_of
height_small s f = height_most (file_length s) f.most

layer_start : (h l j : ℕ) → node_number h l 0 + j ≡ node_number h l j
unfolding node_number
layer_start h l j = omega arith

-- before the lowest all are held, and it is not
pub lowest_held : (s : List ℕ) (l j : ℕ) → j < lowest s l → held_at s (node_number (height_of s) l j) ≡ true
unfolding lowest
lowest_held s l j a = rw (layer_start (height_of s) l j) at (front_held s (node_number (height_of s) l 0) (wanted s l) j a)

pub lowest_free : (s : List ℕ) (l : ℕ) → lowest s l < wanted s l → held_at s (node_number (height_of s) l (lowest s l)) ≡ false
unfolding lowest
lowest_free s l a =
    rw (layer_start (height_of s) l (held_front s (node_number (height_of s) l 0) (wanted s l))) at (front_stops s (node_number (height_of s) l 0) (wanted s l) a)

-- a layer of which something is wanted and not held lies below the root
pub asked_below : (s : List ℕ) (l : ℕ) → Asked s l → lowest s l < wanted s l → l < height_of s
asked_below s l A a =
    let low = asked_low s l A.facts A.layer in
    elim (lt_or_ge l (height_of s)) [
      | inl b ↦ b
      | inr b ↦
          let e : l ≡ height_of s = omega arith in
          let a' : lowest s (height_of s) < wanted s (height_of s) = rw e at a in
          let z : lowest s (height_of s) ≡ 0 = omega (arith, wanted_top s A.facts) in
          let q : node_number (height_of s) (height_of s) (lowest s (height_of s)) ≡ 1 = ap (node_number (height_of s) (height_of s)) z ∙ node_number_root (height_of s) in
          absurd (not_both A.root (rw q at (lowest_free s (height_of s) a')))
    ]

-- the run asked for is one of the layer's
pub asked_run : (s : List ℕ) (l : ℕ) → Asked s l → lowest s l < wanted s l → lowest s l / run_length (height_of s) l * run_length (height_of s) l < 2 ^ (height_of s - l)
asked_run s l A a =
    let low = asked_low s l A.facts A.layer in
    let d = div-add-mod' (lowest s l) (run_length (height_of s) l) in
    omega (arith, wanted_within s l low)

pub up_none : (n : ℕ) → n ≡ ancestor 0 n
up_none n = sym (ancestor_none n)
