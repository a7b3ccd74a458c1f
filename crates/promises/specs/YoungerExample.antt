-- A file and an earlier one, worked by hand. Five blocks yesterday, seven today: blocks 0 to 3 lie under position 0 of layer 2 in both trees,
-- block 4 is leaf 4 in both; over it yesterday's tree has padding, where today's has blocks 5 and 6. And a file of one block, whose leaf is the
-- root: every beginning of it is answered 0 from the opening on, and no two strings can be shown instead.
-- Assumes nothing.
use Rattle.std.specs.Prelude.{◌≡◌, true, List, [], ◌⊎◌, ℕ, zero, suc, ◌+◌, ◌*◌, ◌/◌, ◌^◌, ◌≤◌, ◌<◌, length}
use Rattle.std.proofs.Math.Path.{refl, ap}
use Rattle.std.proofs.Common.{sym, ◌∙◌, inl, inr, arith, one-mul, add-mul, lit<, lit≤, pow_pos}
use Rattle.std.proofs.Math.Nat.{pow-succ'}
use Rattle.numbers.specs.Numbers.{done, differs}
use Rattle.sha256.specs.Sha256.{pair_hash}
use Rattle.sha256.specs.declared.Hashed.{Hashed}
use Rattle.tree.specs.Geometry.{ceil_div, block_count, height_from, height, covering}
use Rattle.tree.specs.Values.{pad_value, pieces_root}
use Rattle.store.specs.Store.{usable, file_length, facts_root, blocks_of, height_of, held_answer}
use Rattle.extends.specs.Extends.{known, both, placed, earlier, earlier_root, last_hash, extends_answer}
use Rattle.words.specs.Held.{Holds}
use Rattle.words.specs.History.{OurStore}
use Rattle.words.specs.File.{For}
use Rattle.words.specs.Younger.{first_bytes, over_end, Peak, Needed, Comparable}
use Rattle.knowledge.specs.OursMeet.{ours_meet}
use Rattle.knowledge.specs.Younger.{first_extends}
use Rattle.promises.specs.Younger.{extends_7, extends_0, extends_done}

-- the hashes that are needed of five whole blocks: two
pub five_peaks : (l i : ℕ) → Peak 81920 l i → ((l ≡ 2) × (i ≡ 0)) ⊎ ((l ≡ 0) × (i ≡ 4))
five_peaks zero i p = let a = p.whole in let b = p.top in inr (refl, omega arith)
five_peaks (suc zero) i p = let a = p.whole in let b = p.top in absurd (omega arith)
five_peaks (suc (suc zero)) i p = let a = p.whole in inl (refl, omega arith)
five_peaks (suc (suc (suc l))) i p =
    let a = p.whole in
    let e : 2 ^ suc (suc (suc l)) ≡ 8 * 2 ^ l = omega (arith, pow-succ' 2 (suc (suc l)), pow-succ' 2 (suc l), pow-succ' 2 l) in
    let d : (i + 1) * 2 ^ suc (suc (suc l)) ≡ i * 2 ^ suc (suc (suc l)) + 2 ^ suc (suc (suc l)) =
    add-mul i 1 (2 ^ suc (suc (suc l))) ∙ ap (λ (x : ℕ). i * 2 ^ suc (suc (suc l)) + x) (one-mul (2 ^ suc (suc (suc l)))) in
    absurd (omega (arith, pow_pos l))

-- yesterday's root, of what is held over blocks 0 to 3 and over block 4
abbrev pub five_root : List ℕ → List ℕ → List ℕ
five_root a b = pair_hash a (pair_hash (pair_hash b (pad_value 0)) (pad_value 1))

module _ (s a b : List ℕ) (ha : Holds s 2 0 a) (hb : Holds s 0 4 b) where
  abbrev x : Hashed
  x = held_answer s 2 0

  abbrev y : Hashed
  y = held_answer s 0 4

  two_held : Needed s 81920
  two_held =
      record {
        leaf = λ r. absurd (r refl);
        peaks = λ l i p. elim (five_peaks l i p) [ inl e ↦ (a, rw (e.0, e.1) ha) | inr e ↦ (b, rw (e.0, e.1) hb) ];
      }

  tree_is : (last : List ℕ) → earlier_root s 81920 last ≡ both x (both (both y (known (pad_value 0))) (known (pad_value 1)))
  unfolding earlier_root earlier placed height height_from block_count ceil_div covering
  tree_is last = refl

  -- they lead to the root over them, with padding where yesterday had no block
  pub five_root_lem : (last : List ℕ) → (earlier_root s 81920 last).hash ≡ five_root a b
  unfolding both
  five_root_lem last = ap (λ (r : Hashed). r.hash) (tree_is last) ∙ rw (ha.given, hb.given, ha.hash, hb.hash)

  module _ (u : usable s ≡ true) (n : file_length s ≡ 114688) where
    compared : Comparable s 81920 []
    compared = record { store = u; range = (lit< tt, rw n (lit≤ tt)); size = refl }

    -- so yesterday's root is answered 0;
    pub five_to_seven : extends_answer s 81920 (five_root a b) [] ≡ done 81920
    five_to_seven =
        extends_done s 81920 (five_root a b) []
        ((extends_0 s 81920 (five_root a b) []).1 (compared, two_held, record { held = λ r. absurd (r refl); value = five_root_lem (last_hash 81920 []) }))

    -- and any other root 7
    pub other_than_five : (root : List ℕ) → (five_root a b ≡ root → ⊥) → (extends_answer s 81920 root []).number ≡ differs
    other_than_five root d = (extends_7 s 81920 root []).1 (compared, two_held, λ L. d (sym (five_root_lem (last_hash 81920 [])) ∙ L.value))

-- ---- a file of one block

single : (n : ℕ) → 1 ≤ n → n ≤ 16384 → block_count n ≡ 1
unfolding block_count ceil_div
single n a b = omega arith

low : height 1 ≡ 0
unfolding height height_from
low = refl

one_block : (s : List ℕ) (n : ℕ) → 1 ≤ n → n ≤ 16384 → file_length s ≡ n → height_of s ≡ 0
unfolding height_of blocks_of
one_block s n a b e = ap height (ap block_count e ∙ single n a b) ∙ low

no_peak : (n l i : ℕ) → n ≤ 16384 → Peak n l i → (l ≡ 0) × (i ≡ 0)
no_peak n zero i b p = let a = p.whole in (refl, omega arith)
no_peak n (suc l) i b p =
    let a = p.whole in
    let d : (i + 1) * 2 ^ suc l ≡ i * 2 ^ suc l + 2 ^ suc l = add-mul i 1 (2 ^ suc l) ∙ ap (λ (x : ℕ). i * 2 ^ suc l + x) (one-mul (2 ^ suc l)) in
    absurd (omega (arith, pow-succ' 2 l, pow_pos l))

-- every beginning of it is answered 0
pub one_block_begins : {s : List ℕ} (G : List ℕ) → OurStore s → For G s → length G ≤ 16384 → (n : ℕ) → 0 < n → n ≤ length G
    → extends_answer s n (pieces_root (first_bytes G n)) (over_end G n) ≡ done n
one_block_begins {s} G o w short n some most =
    let h = one_block s (length G) (omega arith) short w.long in
    elim (first_extends G o w n some most (root_alone h)) [
      | inl x ↦ (let v : ⊥ = omega (arith, x.low, h) in absurd v)
      | inr e ↦ e
    ]
  where
    root_alone : height_of s ≡ 0 → Needed s n
    root_alone h =
        let r : Holds s 0 0 (facts_root s) = rw h at (ours_meet o).root in
        record {
          leaf = λ q. (let z : n / 16384 ≡ 0 = omega arith in (facts_root s, rw z r));
          peaks = λ l i p. (let z = no_peak n l i (omega arith) p in (facts_root s, rw (z.0, z.1) r));
        }
