-- A file and an earlier one, over the history of a store: only 6 can change, and exactly once the hashes needed are held; what has to be asked or
-- loaded so that they are.
-- Assumes nothing.
use Rattle.std.specs.Prelude.{◌≡◌, refl, true, List, ◌↔◌, ℕ, zero, suc, ◌+◌, ◌-◌, ◌*◌, ◌/◌, ◌^◌, ◌≤◌, ◌<◌}
use Rattle.std.proofs.Common.{ap, ap₂, sym, ◌∙◌, true≢false, inr, arith, mul_assoc, mul_comm, mul-le-mul_right, add-mul, one-mul, pow_pos, pow-add}
use Rattle.std.proofs.Math.Decide.{dec_lt, dec_le, ℕ_discrete}
use Rattle.std.proofs.Math.Pow.{pow-lt}
use Rattle.numbers.specs.Numbers.{no_anchor}
use Rattle.sha256.specs.Sha256.{sha256, pair_hash}
use Rattle.sha256.specs.declared.Hashed.{Hashed}
use Rattle.tree.specs.Geometry.{block_length, block_count, height, covering, piece_layer, Padding}
use Rattle.tree.proofs.GeometryLaws.{block_within, left_start, right_end, piece_length_form}
use Rattle.store.specs.Store.{usable, file_length, piece_length, blocks_of, height_of, held_answer, Facts}
use Rattle.store.specs.StoreLaws.{usable_facts, facts_usable, facts_leaves}
use Rattle.pieces.specs.Pieces.{layer_of_pieces, layer_number, layer_after}
use Rattle.asking.specs.Asking.{next_answer}
use Rattle.extends.specs.Extends.{whole_blocks, rest_size, both, earlier, earlier_root, over_size, last_hash, extends_number, extends_answer}
use Rattle.extends.proofs.ExtendsLaws.{earlier_whole, earlier_past, earlier_last, earlier_pair, both_known, both_says, whole_count}
use Rattle.words.specs.Held.{Holds, Position}
use Rattle.words.specs.FourClauses.{FourClauses}
use Rattle.words.specs.Pieces.{LayerFormed}
use Rattle.words.specs.History.{Steps, OurStore}
use Rattle.words.specs.Asking.{HoldsFrom}
use Rattle.words.specs.Younger.{Peak, Needed, Comparable, Leads, ExtendsGives, is_9, is_3, is_4, is_6, is_7, is_0}
use Rattle.knowledge.specs.Grows.{Grown, steps_grow, grown_layer}
use Rattle.knowledge.specs.Again.{knowledge_only_grows}
use Rattle.knowledge.specs.OwnBytes.{ours_have}
use Rattle.knowledge.specs.OursMeet.{ours_meet}
use Rattle.knowledge.specs.JudgedWhen.{layer_0}
use Rattle.knowledge.specs.HeldAfter.{layer_held_after, layer_settles_where}
use Rattle.knowledge.specs.NextRequest.{nothing_exactly_when}
use Rattle.knowledge.specs.Peaks.{peaks_exactly}
use Rattle.knowledge.specs.YoungerNumbers.{number_is, extends_9, extends_3, extends_4, extends_6, extends_7, extends_0, extends_gives}

-- ---- the root worked out stays

-- the same hash, with the same number
record Kept (x y : Hashed) : Type 0 where
  pub there : y.number ≡ 0
  pub hash : y.hash ≡ x.hash

module _ (s t : List ℕ) (n : ℕ) (last : List ℕ) (g : (l i : ℕ) (v : List ℕ) → Holds s l i v → Holds t l i v) where
  -- both are the same case
  case : {x y z : Hashed} → x ≡ y → x ≡ z → y.number ≡ 0 → Kept y z
  case a b o = record { there = ap (λ (r : Hashed). r.number) (sym b ∙ a) ∙ o; hash = ap (λ (r : Hashed). r.hash) (sym b ∙ a) }

  whole_kept : (l i : ℕ) → i < whole_blocks n / 2 ^ l → (earlier s n last l i).number ≡ 0 → Kept (earlier s n last l i) (earlier t n last l i)
  whole_kept l i a z =
      let e = earlier_whole s n last l i a in
      let f = earlier_whole t n last l i a in
      let h = g l i (held_answer s l i).hash (record { given = ap (λ (r : Hashed). r.number) e ∙ z; hash = refl }) in
      record {
        there = sym (ap (λ (r : Hashed). r.number) f) ∙ h.given;
        hash = sym (ap (λ (r : Hashed). r.hash) f) ∙ h.hash ∙ ap (λ (r : Hashed). r.hash) e;
      }

  pair_kept : (l i : ℕ) → whole_blocks n / 2 ^ suc l ≤ i → i < covering (block_count n) (suc l)
      → ((earlier s n last l (2 * i)).number ≡ 0 → Kept (earlier s n last l (2 * i)) (earlier t n last l (2 * i)))
      → ((earlier s n last l (2 * i + 1)).number ≡ 0 → Kept (earlier s n last l (2 * i + 1)) (earlier t n last l (2 * i + 1)))
      → (earlier s n last (suc l) i).number ≡ 0 → Kept (earlier s n last (suc l) i) (earlier t n last (suc l) i)
  pair_kept l i a b L R z =
      let q : suc l - 1 ≡ l = omega arith in
      let e : both (earlier s n last l (2 * i)) (earlier s n last l (2 * i + 1)) ≡ earlier s n last (suc l) i = rw q at (earlier_pair s n last (suc l) i a b (λ y. omega arith)) in
      let f : both (earlier t n last l (2 * i)) (earlier t n last l (2 * i + 1)) ≡ earlier t n last (suc l) i = rw q at (earlier_pair t n last (suc l) i a b (λ y. omega arith)) in
      let P = both_says (earlier s n last l (2 * i)) (earlier s n last l (2 * i + 1)) (ap (λ (r : Hashed). r.number) e ∙ z) in
      let x = L P.left in
      let y = R P.right in
      let k = both_known (earlier t n last l (2 * i)) (earlier t n last l (2 * i + 1)) x.there y.there in
      record {
        there = ap (λ (r : Hashed). r.number) (sym f ∙ k);
        hash = ap (λ (r : Hashed). r.hash) (sym f ∙ k) ∙ ap₂ pair_hash x.hash y.hash ∙ sym P.hash ∙ ap (λ (r : Hashed). r.hash) e;
      }

  earlier_kept : (l i : ℕ) → (earlier s n last l i).number ≡ 0 → Kept (earlier s n last l i) (earlier t n last l i)
  earlier_kept zero i z =
      elim (dec_lt i (whole_blocks n / 2 ^ 0)) [
        | yes a ↦ whole_kept 0 i a z
        | no a ↦ elim (dec_lt i (covering (block_count n) 0)) [
          | yes b ↦ case (earlier_last s n last 0 i (omega arith) b refl) (earlier_last t n last 0 i (omega arith) b refl) z
          | no b ↦ case (earlier_past s n last 0 i (omega arith) (omega arith)) (earlier_past t n last 0 i (omega arith) (omega arith)) z
        ]
      ]
  earlier_kept (suc l) i z =
      elim (dec_lt i (whole_blocks n / 2 ^ suc l)) [
        | yes a ↦ whole_kept (suc l) i a z
        | no a ↦ elim (dec_lt i (covering (block_count n) (suc l))) [
          | yes b ↦ pair_kept l i (omega arith) b (earlier_kept l (2 * i)) (earlier_kept l (2 * i + 1)) z
          | no b ↦ case (earlier_past s n last (suc l) i (omega arith) (omega arith)) (earlier_past t n last (suc l) i (omega arith) (omega arith)) z
        ]
      ]

  root_kept : (earlier_root s n last).number ≡ 0 → Kept (earlier_root s n last) (earlier_root t n last)
  unfolding earlier_root
  root_kept z = earlier_kept (height (block_count n)) 0 z

-- what is needed stays held
pub needed_kept : (s t : List ℕ) (n : ℕ) → ((l i : ℕ) (v : List ℕ) → Holds s l i v → Holds t l i v) → Needed s n → Needed t n
needed_kept s t n g N =
    record {
      leaf = λ r. let k = N.leaf r in (k.0, g 0 (whole_blocks n) k.0 k.1);
      peaks = λ l i p. let k = N.peaks l i p in (k.0, g l i k.0 k.1);
    }

-- ---- the number stays

-- one number, one answer
same_answer : (s t : List ℕ) (n : ℕ) (root block : List ℕ) → extends_number t n root block ≡ extends_number s n root block → extends_answer t n root block ≡ extends_answer s n root block
unfolding extends_answer
same_answer s t n root block e = rw e

module _ {s t : List ℕ} (n : ℕ) (root block : List ℕ) (u : usable s ≡ true) (h : Steps s t) where
  G : Grown s t
  G = steps_grow (usable_facts s u) h

  ut : usable t ≡ true
  ut = facts_usable t G.facts

  grows : (l i : ℕ) (v : List ℕ) → Holds s l i v → Holds t l i v
  grows = knowledge_only_grows h

  sizes : over_size (file_length t) n ≡ over_size (file_length s) n
  sizes = ap (λ (x : ℕ). over_size x n) G.same.file

  comparable : Comparable s n block → Comparable t n block
  comparable C = record { store = ut; range = (C.range.0, omega (arith, C.range.1, G.same.file)); size = C.size ∙ sym sizes }

  value_kept : Needed s n → (earlier_root t n (last_hash n block)).hash ≡ (earlier_root s n (last_hash n block)).hash
  value_kept N = (root_kept s t n (last_hash n block) grows ((peaks_exactly s n (last_hash n block)).1 N.peaks)).hash

  leads_on : Needed s n → Leads s n root block → Leads t n root block
  leads_on N L = record { held = λ r. grows 0 (whole_blocks n) (sha256 block) (L.held r); value = value_kept N ∙ L.value }

  leads_back : Needed s n → Leads t n root block → Leads s n root block
  leads_back N L =
      record {
        held = λ r.
            (let k = N.leaf r in
            record { given = k.1.given; hash = k.1.hash ∙ sym (grows 0 (whole_blocks n) k.0 k.1).hash ∙ (L.held r).hash });
        value = sym (value_kept N) ∙ L.value;
      }

  stays : (m : ℕ) → ExtendsGives m → (extends_answer s n root block).number ≡ m → (m ≡ no_anchor → ⊥) → (extends_answer t n root block).number ≡ m
  stays m is_9 e k = absurd (true≢false (sym u ∙ (extends_9 s n root block).0 e))
  stays m is_3 e k =
      (extends_3 t n root block).1 (ut, λ r. ((extends_3 s n root block).0 e).1 (r.0, omega (arith, r.1, G.same.file)))
  stays m is_4 e k =
      let y = (extends_4 s n root block).0 e in
      (extends_4 t n root block).1 (ut, (y.1.0, omega (arith, y.1.1, G.same.file)), λ q. y.2 (q ∙ sizes))
  stays m is_6 e k = absurd (k refl)
  stays m is_7 e k =
      let y = (extends_7 s n root block).0 e in
      (extends_7 t n root block).1 (comparable y.0, needed_kept s t n grows y.1, λ L. y.2 (leads_back y.1 L))
  stays m is_0 e k =
      let y = (extends_0 s n root block).0 e in
      (extends_0 t n root block).1 (comparable y.0, needed_kept s t n grows y.1, leads_on y.1 y.2)

  number_stays : ((extends_answer s n root block).number ≡ no_anchor → ⊥) → (extends_answer t n root block).number ≡ (extends_answer s n root block).number
  number_stays k = stays (extends_answer s n root block).number (extends_gives s n root block) refl k

  -- AN ANSWER OTHER THAN 6 STAYS,
  pub extends_stays : ((extends_answer s n root block).number ≡ no_anchor → ⊥) → extends_answer t n root block ≡ extends_answer s n root block
  extends_stays k = same_answer s t n root block (sym (number_is t n root block) ∙ number_stays k ∙ number_is s n root block)

  held_now : Comparable t n block → ((extends_answer t n root block).number ≡ no_anchor → ⊥) → (m : ℕ) → ExtendsGives m → (extends_answer t n root block).number ≡ m → Needed t n
  held_now C d m is_9 q = absurd (true≢false (sym ut ∙ (extends_9 t n root block).0 q))
  held_now C d m is_3 q = absurd (((extends_3 t n root block).0 q).1 C.range)
  held_now C d m is_4 q = absurd (((extends_4 t n root block).0 q).2 C.size)
  held_now C d m is_6 q = absurd (d q)
  held_now C d m is_7 q = ((extends_7 t n root block).0 q).1
  held_now C d m is_0 q = ((extends_0 t n root block).0 q).1

  -- AND 6 CHANGES EXACTLY ONCE THE HASHES NEEDED ARE HELD
  pub extends_changes : ((extends_answer t n root block).number ≡ (extends_answer s n root block).number → ⊥) ↔ (((extends_answer s n root block).number ≡ no_anchor) × Needed t n)
  extends_changes = (
    λ d.
        elim (ℕ_discrete (extends_answer s n root block).number no_anchor) [
          | no k ↦ absurd (d (number_stays k))
          | yes e ↦ (
            e,
            held_now (comparable ((extends_6 s n root block).0 e).0) (λ q. d (q ∙ sym e)) (extends_answer t n root block).number (extends_gives t n root block) refl,
          )
        ],
    λ y q. ((extends_6 t n root block).0 (q ∙ y.0)).1 y.1,
  )

-- ---- which hashes are enough

-- a whole position lies in the tree
module _ (s : List ℕ) (w : ℕ) (m : w ≤ 2 ^ height_of s) (l i : ℕ) (b : (i + 1) * 2 ^ l ≤ w) where
  one_more : (i + 1) * 2 ^ l ≡ i * 2 ^ l + 2 ^ l
  one_more = add-mul i 1 (2 ^ l) ∙ ap (λ (x : ℕ). i * 2 ^ l + x) (one-mul (2 ^ l))

  whole_low : l ≤ height_of s
  whole_low = by (dec_le l (height_of s))
    where
      by : Dec (l ≤ height_of s) → l ≤ height_of s
      by (yes a) = a
      by (no a) = let c : 2 ^ height_of s < 2 ^ l = pow-lt (omega arith) in absurd (omega (arith, one_more))

  whole_inside : i < 2 ^ (height_of s - l)
  whole_inside = by (dec_lt i (2 ^ (height_of s - l)))
    where
      by : Dec (i < 2 ^ (height_of s - l)) → i < 2 ^ (height_of s - l)
      by (yes a) = a
      by (no a) =
          let v : 2 ^ (height_of s - l) * 2 ^ l ≤ i * 2 ^ l = mul-le-mul_right (2 ^ l) (omega arith) in
          let e : 2 ^ (height_of s - l) * 2 ^ l ≡ 2 ^ height_of s = sym (pow-add 2 (height_of s - l) l) ∙ ap (λ (x : ℕ). 2 ^ x) (omega (arith, whole_low)) in
          absurd (omega (arith, one_more, pow_pos l))

-- over held leaves every whole position is held, in a store of ours
whole_held : (s : List ℕ) (w : ℕ) → FourClauses s → w ≤ 2 ^ height_of s → ((i : ℕ) → i < w → (v : List ℕ) × Holds s 0 i v)
    → (l i : ℕ) → (i + 1) * 2 ^ l ≤ w → (v : List ℕ) × Holds s l i v
whole_held s w f m k zero i b = k i (omega arith)
whole_held s w f m k (suc l) i b =
    let x = whole_held s w f m k l (2 * i) (omega (arith, right_end i l, add-mul (2 * i + 1) 1 (2 ^ l), one-mul (2 ^ l))) in
    let y = whole_held s w f m k l (2 * i + 1) (omega (arith, right_end i l)) in
    (pair_hash x.0 y.0, f.above l i x.0 y.0 (whole_low s w m (suc l) i b) x.1 y.1)

-- a shorter file has no more whole blocks
fewer : (n m : ℕ) → n ≤ m → whole_blocks n ≤ whole_blocks m
fewer n m l = omega arith

whole_blocks_lem : (s : List ℕ) (n : ℕ) → n ≤ file_length s → whole_blocks n ≤ blocks_of s
unfolding blocks_of
whole_blocks_lem s n l = omega (arith, fewer n (file_length s) l, whole_count (file_length s))

pub last_blocks : (s : List ℕ) (n : ℕ) → n ≤ file_length s → (rest_size n ≡ 0 → ⊥) → whole_blocks n < blocks_of s
unfolding blocks_of
last_blocks s n l r = block_within (file_length s) (whole_blocks n) (omega arith)

-- THE LEAVES ARE ENOUGH, in a store of ours
pub leaves_enough : {s : List ℕ} → OurStore s → ((i : ℕ) → i < blocks_of s → (v : List ℕ) × Holds s 0 i v) → (n : ℕ) → n ≤ file_length s → Needed s n
leaves_enough {s} o k n most =
    record {
      leaf = λ r. k (whole_blocks n) (last_blocks s n most r);
      peaks = λ l i p.
          whole_held s (whole_blocks n) (ours_meet o) (omega (arith, whole_blocks_lem s n most, facts_leaves s (ours_have o).chained.facts))
          (λ j b. k j (omega (arith, whole_blocks_lem s n most))) l i p.whole;
    }

-- a leaf below the blocks is not padding
not_past : (b i : ℕ) → i < b → Padding b 0 i → ⊥
unfolding Padding
not_past b i l p = omega arith

-- where there is nothing to ask of layer 0 they are held
all_leaves : (s : List ℕ) → Facts s → (next_answer s 0).number ≡ 0 → (next_answer s 0).asks ≡ 0 → (i : ℕ) → i < blocks_of s → (v : List ℕ) × Holds s 0 i v
all_leaves s f z a i b =
    (nothing_exactly_when s 0 z).0 a i
    (record {
      position = record { low = omega arith; inside = let e : height_of s - 0 ≡ height_of s = omega arith in rw e (omega (arith, facts_leaves s f)) };
      full = not_past (blocks_of s) i b;
    })

-- a peak of whole pieces lies in the piece layer or above it
peak_high : (n p k l i : ℕ) → whole_blocks n ≡ k * 2 ^ p → Peak n l i → p ≤ l
peak_high n p k l i e P = by (dec_le p l)
  where
    m : ℕ
    m = k * 2 ^ (p - suc l)

    parts : suc l ≤ p → k * 2 ^ p ≡ k * 2 ^ (p - suc l) * 2 ^ suc l
    parts g =
        let q : p ≡ p - suc l + suc l = omega arith in
        ap (λ (x : ℕ). k * 2 ^ x) q ∙ ap (λ (x : ℕ). k * x) (pow-add 2 (p - suc l) (suc l)) ∙ sym (mul_assoc k (2 ^ (p - suc l)) (2 ^ suc l))

    halves : suc l ≤ p → Dec (i + 1 ≤ 2 * (k * 2 ^ (p - suc l))) → i + 1 ≤ 2 * (k * 2 ^ (p - suc l))
    halves g (yes a) = a
    halves g (no a) =
        let m = k * 2 ^ (p - suc l) in
        let u : (2 * (k * 2 ^ (p - suc l)) + 1) * 2 ^ l ≤ (i + 1) * 2 ^ l = mul-le-mul_right (2 ^ l) (omega arith) in
        absurd (omega (arith, e, parts g, P.whole, left_start m l, add-mul (2 * m) 1 (2 ^ l), one-mul (2 ^ l), pow_pos l))

    by : Dec (p ≤ l) → p ≤ l
    by (yes a) = a
    by (no a) =
        let g : suc l ≤ p = omega arith in
        let b = halves g (dec_le (i + 1) (2 * (k * 2 ^ (p - suc l)))) in
        let u : (i / 2 + 1) * 2 ^ suc l ≤ k * 2 ^ (p - suc l) * 2 ^ suc l = mul-le-mul_right (2 ^ suc l) (omega arith) in
        absurd (omega (arith, e, parts g, P.top))

same_pieces : (s t : List ℕ) → piece_length t ≡ piece_length s → layer_of_pieces t ≡ layer_of_pieces s
unfolding layer_of_pieces
same_pieces s t e = ap piece_layer e

-- THE PIECE LAYER IS ENOUGH for whole pieces, in any store
pub layer_enough : (s : List ℕ) → Facts s → HoldsFrom s (layer_of_pieces s) → (n k : ℕ) → n ≤ file_length s → n ≡ piece_length s * k → Needed s n
unfolding layer_of_pieces
layer_enough s f H n k most e =
    record {
      leaf = λ r. absurd (r pieces.1);
      peaks = λ l i P.
          H l i (peak_high n (piece_layer (piece_length s)) k l i pieces.0 P)
          (record { low = whole_low s (whole_blocks n) enough l i P.whole; inside = whole_inside s (whole_blocks n) enough l i P.whole });
    }
  where
    enough : whole_blocks n ≤ 2 ^ height_of s
    enough = omega (arith, whole_blocks_lem s n most, facts_leaves s f)

    form : n ≡ block_length * (k * 2 ^ piece_layer (piece_length s))
    form =
        let P = 2 ^ piece_layer (piece_length s) in
        e
        ∙ ap (λ (x : ℕ). x * k) (piece_length_form (piece_length s) f.piece).1
        ∙ mul_assoc block_length P k
        ∙ ap (λ (x : ℕ). block_length * x) (mul_comm P k)

    pieces : (whole_blocks n ≡ k * 2 ^ piece_layer (piece_length s)) × (rest_size n ≡ 0)
    pieces = (omega (arith, form), omega (arith, form))

-- ---- so it is never 6

-- after "nothing to ask" of layer 0,
pub never_6_asked : {s t : List ℕ} → OurStore s → (next_answer s 0).number ≡ 0 → (next_answer s 0).asks ≡ 0 → Steps s t
    → (n : ℕ) (root block : List ℕ) → (extends_answer t n root block).number ≡ no_anchor → ⊥
never_6_asked {s} {t} o z a h n root block e =
    let f = (ours_have o).chained.facts in
    let y = (extends_6 t n root block).0 e in
    let N = leaves_enough o (all_leaves s f z a) n (omega (arith, y.0.range.1, (steps_grow f h).same.file)) in
    y.1 (needed_kept s t n (knowledge_only_grows h) N)

-- and, of whole pieces, with the piece layer loaded
pub never_6_loaded : {t : List ℕ} (s layer : List ℕ) → layer_number s layer ≡ 0 → Steps (layer_after s layer) t
    → (n k : ℕ) → n ≡ piece_length s * k → (root block : List ℕ) → (extends_answer t n root block).number ≡ no_anchor → ⊥
never_6_loaded {t} s layer z h n k q root block e =
    let F = ((layer_0 s layer).0 z).0 in
    let f = usable_facts s F.store in
    let g = grown_layer s layer f in
    let H : HoldsFrom (layer_after s layer) (layer_of_pieces (layer_after s layer)) = λ l i p c. held_from F g l i p c in
    let y = (extends_6 t n root block).0 e in
    let N = layer_enough (layer_after s layer) g.facts H n k (omega (arith, y.0.range.1, (steps_grow g.facts h).same.file)) (q ∙ ap (λ (x : ℕ). x * k) (sym g.same.piece)) in
    y.1 (needed_kept (layer_after s layer) t n (knowledge_only_grows h) N)
  where
    held_from : LayerFormed s layer → Grown s (layer_after s layer) → (l i : ℕ) → layer_of_pieces (layer_after s layer) ≤ l → Position (height_of (layer_after s layer)) l i
        → (v : List ℕ) × Holds (layer_after s layer) l i v
    held_from F g l i p c =
        let x = (layer_settles_where s layer F l i).1 (omega (arith, p, same_pieces s (layer_after s layer) g.same.piece), omega (arith, c.low, g.same.layers), rw g.same.layers at c.inside) in
        (x.0, (layer_held_after s layer z l i x.0).1 (inr x.1))
