-- What halving gives, as a layer; and a file's number from its layer.
-- Assumes nothing.
use Rattle.bencode.specs.Scalar.{part}
use Rattle.std.specs.Prelude.{◌≡◌, refl, Bool, true, false, cond, List, ℕ, ◌+◌, ◌-◌, ◌*◌, ◌≤◌, ◌<◌, length, take, drop, get_or, Option, Some, None, Result, Ok, Err, ⊤}
use Rattle.std.proofs.Common.{sym, ap, ◌∙◌, inl, inr, arith, eq-eqb, ne_eqb}
use Rattle.limits.specs.Limits.{longest_file}
use Rattle.octets.specs.Octets.{cut, same}
use Rattle.octets.specs.OctetsLaws.{cut_length}
use Rattle.numbers.specs.Numbers.{layers_amiss, layer_differs}
use Rattle.std.specs.Result.{result_err}
use Rattle.std.specs.Option.{option_or}
use Rattle.numbers.specs.Refusals.{number_of, code_of, refused_is_some}
use Rattle.numbers.specs.declared.Refused.{Refused}
use Rattle.numbers.specs.declared.Refused.TheVariants.{NoMessage, OtherRoot, RuleBroken, WrongSize, WrongPadding, NoAnchor, Differs, Conflict, Unusable, FactsOutOfRange, NoRoom, NotHeld, TorrentTooLarge, NotStrict, NestedTooDeeply, KeyMissing, OtherVersion, PieceLengthOutOfRange, WrongTree, TwoLengths, LayersAmiss, LayerDiffers, NoSuchPart, FrameTooLong, HalvesDiffer, NotSaved}
use Rattle.tree.specs.Geometry.{block_count, covering, height, is_piece_length, piece_layer, piece_count, has_layer}
use Rattle.tree.proofs.GeometryLaws.{ceil_least, covering_most, pieces_covering, piece_length_form}
use Rattle.tree.specs.Values.{layer_root}
use Rattle.bencode.specs.Scalar.{read_string}
use Rattle.bencode.specs.EndsLaws.{string_ends}
use Rattle.bencode.specs.declared.part.Part.{Part}
use Rattle.bencode.specs.Parts.{find_key}
use Rattle.sorting.proofs.Telling.{part_is}
use Rattle.sorting.specs.Sorting.{SearchedFor}
use Rattle.layers.specs.Layers.{Inside, string_in, layer_at, Indexed, of_layer, number_by_layer, number_if, lower}
use Rattle.layers.proofs.Searching.{indexed_found, indexed_none}

module _ (s keys : List ℕ) (count : ℕ) (x : Indexed s keys count) (key : List ℕ) (r : ℕ) (w : SearchedFor s keys count key r) where
  pub found_here : r < count → layer_at s key ≡ read_string (get_or keys r 0 + 32) (drop (get_or keys r 0 + 32) s)
  found_here h = elim w [ inl p ↦ indexed_found s keys count x key r h p.1 | inr p ↦ let e = p.0 in let z : ⊥ = omega arith in absurd z ]

  pub found_nowhere : count ≤ r → layer_at s key ≡ None
  found_nowhere h = elim w [ inl p ↦ let e = p.0 in let z : ⊥ = omega arith in absurd z | inr p ↦ indexed_none s keys count x key p.1 ]

-- a layer that is found lies within the bytes
pub layer_inside : (s key : List ℕ) → Inside (length s) (layer_at s key)
unfolding layer_at
layer_inside s key = by_found (find_key key 0 s)
  where
    by_string : (a : ℕ) (w : Option Part) → read_string a (drop a s) ≡ w → Inside (length s) w
    by_string a None e = tt
    by_string a (Some w) e = let p = string_ends a s w.start w.end e in (p.1, p.2)

    by_found : (w : Option Part) → Inside (length s) (string_in s w)
    by_found None = tt
    by_found (Some w) = by_string w.start (read_string w.start (drop w.start s)) refl

-- ---- a file longer than the piece length

module _ (plen n : ℕ) (p : is_piece_length plen ≡ true) (h : has_layer n plen ≡ true) where
  pub pieces_few : n ≤ longest_file → piece_count n plen ≤ longest_file
  pieces_few l =
      let form = (piece_length_form plen p).1 in
      let c : piece_count n plen ≡ covering (block_count n) (piece_layer plen) = ap (piece_count n) form ∙ pieces_covering n (piece_layer plen) in
      let few = covering_most (block_count n) (piece_layer plen) in
      let blocks = blocks_few in
      omega arith
    where
      blocks_few : block_count n ≤ n
      blocks_few = unfold block_count in ceil_least n 16384 n (omega arith) (omega arith)

-- ---- a file's number from its layer

module _ (s : List ℕ) (plen n : ℕ) (root : List ℕ) (w : Option Part) (a b : ℕ) (e : w ≡ part a b) where
  pub of_size : (c : ℕ) → c ≡ piece_count n plen → (b - a ≡ 32 * c → ⊥) → of_layer s plen n root w ≡ layers_amiss
  of_size c q d = ap (of_layer s plen n root) e ∙ simp (ne_eqb (b - a) (32 * piece_count n plen) (λ z. d (z ∙ ap (λ (x : ℕ). 32 * x) (sym q))))

  module _ (c : ℕ) (q : c ≡ piece_count n plen) (d : b - a ≡ 32 * c) (r : Bool) (g : r ≡ same (layer_root (take (b - a) (drop a s)) (piece_layer plen) (height (block_count n))) root) where
    by_root : of_layer s plen n root w ≡ cond r 0 layer_differs
    unfolding cut
    by_root = ap (of_layer s plen n root) e ∙ rw (eq-eqb (b - a) (32 * piece_count n plen) (d ∙ ap (λ (x : ℕ). 32 * x) q), sym g) refl

    pub of_root : r ≡ true → of_layer s plen n root w ≡ 0
    of_root h = by_root ∙ rw h refl

    pub of_other : r ≡ false → of_layer s plen n root w ≡ layer_differs
    of_other h = by_root ∙ rw h refl

module _ (s : List ℕ) (plen n : ℕ) (root : List ℕ) where
  pub number_none : has_layer n plen ≡ false → number_by_layer s plen n root ≡ 0
  unfolding number_by_layer
  number_none h = rw h refl

  pub number_layer : has_layer n plen ≡ true → (w : Option Part) → w ≡ layer_at s root → number_by_layer s plen n root ≡ of_layer s plen n root w
  unfolding number_by_layer
  number_layer h w e = rw h (ap (of_layer s plen n root) (sym e))

-- a file's root as the code cuts it from the tree
module _ (t : List ℕ) (r : ℕ) where
  pub root_slice : r + 32 ≤ length t → length (take (r + 32 - r) (drop r t)) ≡ 32
  root_slice h = ap length (part_is t r) ∙ cut_length t r 32 h

  pub number_here : (l : List ℕ) (plen n : ℕ) (w : Option Part) (m : ℕ) → has_layer n plen ≡ true → w ≡ layer_at l (take (r + 32 - r) (drop r t)) → m ≡ of_layer l plen n (take (r + 32 - r) (drop r t)) w
      → m ≡ number_by_layer l plen n (cut t r 32)
  number_here l plen n w m h e f = f ∙ sym (number_layer l plen n (take (r + 32 - r) (drop r t)) h w e) ∙ ap (number_by_layer l plen n) (part_is t r)

-- no other refusal has the number of this one
amiss_alone : (why : Refused) → number_of why ≡ layers_amiss → why ≡ LayersAmiss
amiss_alone NoMessage h = absurd (omega (arith, h))
amiss_alone OtherRoot h = absurd (omega (arith, h))
amiss_alone RuleBroken h = absurd (omega (arith, h))
amiss_alone WrongSize h = absurd (omega (arith, h))
amiss_alone WrongPadding h = absurd (omega (arith, h))
amiss_alone NoAnchor h = absurd (omega (arith, h))
amiss_alone Differs h = absurd (omega (arith, h))
amiss_alone Conflict h = absurd (omega (arith, h))
amiss_alone Unusable h = absurd (omega (arith, h))
amiss_alone FactsOutOfRange h = absurd (omega (arith, h))
amiss_alone NoRoom h = absurd (omega (arith, h))
amiss_alone NotHeld h = absurd (omega (arith, h))
amiss_alone TorrentTooLarge h = absurd (omega (arith, h))
amiss_alone NotStrict h = absurd (omega (arith, h))
amiss_alone NestedTooDeeply h = absurd (omega (arith, h))
amiss_alone KeyMissing h = absurd (omega (arith, h))
amiss_alone OtherVersion h = absurd (omega (arith, h))
amiss_alone PieceLengthOutOfRange h = absurd (omega (arith, h))
amiss_alone WrongTree h = absurd (omega (arith, h))
amiss_alone TwoLengths h = absurd (omega (arith, h))
amiss_alone LayersAmiss h = refl
amiss_alone LayerDiffers h = absurd (omega (arith, h))
amiss_alone NoSuchPart h = absurd (omega (arith, h))
amiss_alone FrameTooLong h = absurd (omega (arith, h))
amiss_alone HalvesDiffer h = absurd (omega (arith, h))
amiss_alone NotSaved h = absurd (omega (arith, h))

-- two numbers
module _ (w n : ℕ) where
  pub lower_amiss : w ≡ layers_amiss → lower w n ≡ w
  unfolding lower
  lower_amiss e = rw (eq-eqb w layers_amiss e) refl

  module _ (o : w ≡ layers_amiss → ⊥) where
    pub lower_none : n ≡ 0 → lower w n ≡ w
    unfolding lower
    lower_none e = rw (ne_eqb w layers_amiss o, eq-eqb n 0 e) refl

    pub lower_other : (n ≡ 0 → ⊥) → lower w n ≡ n
    unfolding lower
    lower_other e = rw (ne_eqb w layers_amiss o, ne_eqb n 0 e) refl

-- the same of refusals
pub lower_none_yet : (w : Option Refused) → w ≡ None → (here : Result ⊤ Refused) (r : Option Refused) → r ≡ result_err here → number_if r ≡ lower (number_if w) (code_of here)
lower_none_yet w e here r q = rw (e, q) (by_here here)
  where
    by_here : (here : Result ⊤ Refused) → number_if (result_err here) ≡ lower 0 (code_of here)
    by_here (Ok _) = sym (lower_none 0 0 (λ z. omega (arith, z)) refl)
    by_here (Err why) = sym (lower_other 0 (number_of why) (λ z. omega (arith, z)) (refused_is_some why))

pub lower_first : (w : Option Refused) (why : Refused) → w ≡ Some why → why ≡ LayersAmiss → (n : ℕ) → number_of why ≡ lower (number_if w) n
lower_first w why e q n = ap number_if (sym e) ∙ sym (lower_amiss (number_if w) n (ap number_if e ∙ ap number_of q))

pub lower_later : (w : Option Refused) (why : Refused) → w ≡ Some why → (why ≡ LayersAmiss → ⊥) → (here : Result ⊤ Refused) (a r : Option Refused) → a ≡ result_err here → r ≡ option_or a (Some why)
    → number_if r ≡ lower (number_if w) (code_of here)
lower_later w why e o here a r q s = rw (e, s, q) (by_here here)
  where
    by_here : (here : Result ⊤ Refused) → number_if (option_or (result_err here) (Some why)) ≡ lower (number_of why) (code_of here)
    by_here (Ok _) = sym (lower_none (number_of why) 0 (λ z. o (amiss_alone why z)) refl)
    by_here (Err other) = sym (lower_other (number_of why) (number_of other) (λ z. o (amiss_alone why z)) (refused_is_some other))
