-- A record is written part behind part: what is put right behind what was put is both put at once.
-- Assumes nothing.
use Rattle.bencode.specs.Scalar.{part}
use Rattle.std.specs.Prelude.{◌≡◌, refl, true, false, List, ◌++◌, ℕ, suc, ◌+◌, ◌-◌, ◌*◌, ◌≤◌, ◌<◌, length, take, drop, get_or, Option, Some, None}
use Rattle.std.proofs.Common.{sym, ap, ◌∙◌, arith, add-one, length-append, lt-ltb, le-ltb}
use Rattle.limits.specs.Limits.{largest_torrent}
use Rattle.octets.specs.Octets.{cut, be, pasted}
use Rattle.octets.specs.OctetsLaws.{be_octets, pasted_length, pasted_append, pasted_none}
use Rattle.tree.specs.Geometry.{has_layer}
use Rattle.bencode.specs.declared.part.Part.{Part}
use Rattle.sorting.proofs.Telling.{part_is}
use Rattle.filetree.specs.Tree.{max_elements}
use Rattle.layers.specs.Layers.{Inside, layer_at, root_bytes, layer_string, start_of, size_of}
use Rattle.layers.proofs.Finding.{layer_inside}
use Rattle.catalogue.specs.Catalogue.{part_bytes, head_bytes}
use Rattle.catalogue.specs.Asks.{array_element, array_elements, record_from, RecordRight, Forward}
use Rattle.catalogue.proofs.CatalogueLaws.{part_length, array_element_length, array_length, head_length, root_length}
use Rattle.catalogue.specs.declared.record.Record.{Record}

-- b behind a
module _ (s t u a b : List ℕ) (at n : ℕ) (p : t ≡ pasted s at a) (q : u ≡ pasted t (at + n) b) (e : length a ≡ n) (h : at + n + length b ≤ length s) where
  pub then_pasted : u ≡ pasted s at (a ++ b)
  then_pasted = q ∙ rw (p, sym e) (pasted_append s at a b (rw e h))

pub put_length : (s t a : List ℕ) (at n : ℕ) → t ≡ pasted s at a → length a ≡ n → at + n ≤ length s → length t ≡ length s
put_length s t a at n p e h = ap length p ∙ pasted_length s at a (rw e h)

pub part_written : (s t u : List ℕ) (at start size : ℕ) → at + 8 ≤ length s → t ≡ pasted s at (be 4 start) → u ≡ pasted t (at + 4) (be 4 size) → u ≡ pasted s at (part_bytes start size)
part_written s t u at start size h p q = then_pasted s t u (be 4 start) (be 4 size) at 4 p q (be_octets 4 start).size (omega (arith, (be_octets 4 size).size))

-- ---- the elements of a path

module _ (base : ℕ) (path : List ℕ) (n k : ℕ) where
  pub element_some : k < n → array_element base path n k ≡ part_bytes (base + get_or path (2 * k) 0) (get_or path (2 * k + 1) 0 - get_or path (2 * k) 0)
  unfolding array_element
  element_some h = rw (lt-ltb k n h) refl

  pub element_none : n ≤ k → array_element base path n k ≡ be 8 0
  unfolding array_element
  element_none h = rw (le-ltb k n h) refl

pub elements_start : (out : List ℕ) (base : ℕ) (path : List ℕ) (at n : ℕ) → out ≡ pasted out at (array_elements base path n 0)
unfolding array_elements
elements_start out base path at n = sym (pasted_none out at)

module _ (out₀ out : List ℕ) (base : ℕ) (path : List ℕ) (at n k : ℕ) (h : at + 8 * max_elements ≤ length out₀) (p : out ≡ pasted out₀ at (array_elements base path n k)) where
  pub elements_room : k ≤ max_elements → length out ≡ length out₀
  elements_room l = put_length out₀ out (array_elements base path n k) at (8 * k) p (array_length base path n k) (omega arith)

  pub elements_more : (out' : List ℕ) → k < max_elements → out' ≡ pasted out (at + 8 * k) (array_element base path n k) → out' ≡ pasted out₀ at (array_elements base path n (k + 1))
  elements_more out' l q =
      let e : array_elements base path n (k + 1) ≡ array_elements base path n k ++ array_element base path n k = ap (array_elements base path n) (add-one k) ∙ elements_suc in
      then_pasted out₀ out out' (array_elements base path n k) (array_element base path n k) at (8 * k) p q (array_length base path n k) (omega (arith, array_element_length base path n k))
      ∙ ap (pasted out₀ at) (sym e)
    where
      elements_suc : array_elements base path n (suc k) ≡ array_elements base path n k ++ array_element base path n k
      elements_suc = unfold array_elements in refl

  pub elements_all : k ≤ max_elements → max_elements ≤ k → out ≡ pasted out₀ at (array_elements base path n max_elements)
  elements_all l g = let e : k ≡ max_elements = omega arith in p ∙ ap (λ (m : ℕ). pasted out₀ at (array_elements base path n m)) e

-- ---- the head, its layer first

module _ (s t : List ℕ) (at base : ℕ) (layer : Option Part) where
  pub no_layer_written : layer ≡ None → t ≡ pasted s at (part_bytes 0 0) → t ≡ pasted s at (part_bytes (start_of base layer) (size_of layer))
  no_layer_written e p = rw e p

  pub layer_written : (a b : ℕ) → layer ≡ part a b → t ≡ pasted s at (part_bytes (base + a) (b - a)) → t ≡ pasted s at (part_bytes (start_of base layer) (size_of layer))
  layer_written a b e p = rw e p

pub layer_forward : (base : ℕ) (layer : Option Part) (a b : ℕ) → layer ≡ part a b → Forward base layer → (a ≤ b) × (base + b ≤ largest_torrent)
layer_forward base layer a b e p = rw e at p

module _ (s : List ℕ) (at base n : ℕ) (root : List ℕ) (layer : Option Part) (elements : ℕ) (r : length root ≡ 32) (h : at + 56 ≤ length s)
    (t₁ : List ℕ) (p₁ : t₁ ≡ pasted s at (be 8 n)) where
  module _ (t₂ : List ℕ) (p₂ : t₂ ≡ pasted t₁ (at + 8) root) where
    two : t₂ ≡ pasted s at (be 8 n ++ root)
    two = then_pasted s t₁ t₂ (be 8 n) root at 8 p₁ p₂ (be_octets 8 n).size (omega arith)

    module _ (t₃ : List ℕ) (p₃ : t₃ ≡ pasted t₂ (at + 40) (part_bytes (start_of base layer) (size_of layer))) where
      three : t₃ ≡ pasted s at (be 8 n ++ root ++ part_bytes (start_of base layer) (size_of layer))
      three =
          then_pasted s t₂ t₃ (be 8 n ++ root) (part_bytes (start_of base layer) (size_of layer)) at 40 two p₃ (length-append (be 8 n) root ∙ omega (arith, (be_octets 8 n).size))
          (omega (arith, part_length (start_of base layer) (size_of layer)))

      module _ (t₄ : List ℕ) (p₄ : t₄ ≡ pasted t₃ (at + 48) (be 4 elements)) where
        abbrev a : List ℕ
        a = be 8 n ++ root ++ part_bytes (start_of base layer) (size_of layer)

        length_a : length a ≡ 48
        length_a =
            length-append (be 8 n ++ root) (part_bytes (start_of base layer) (size_of layer))
            ∙ omega (arith, length-append (be 8 n) root, (be_octets 8 n).size, part_length (start_of base layer) (size_of layer))

        four : t₄ ≡ pasted s at (a ++ be 4 elements)
        four = then_pasted s t₃ t₄ a (be 4 elements) at 48 three p₄ length_a (omega (arith, (be_octets 4 elements).size))

        pub head_written : (t₅ : List ℕ) → t₅ ≡ pasted t₄ (at + 52) (be 4 0) → t₅ ≡ pasted s at (head_bytes base n root layer elements)
        unfolding head_bytes
        head_written t₅ p₅ =
            then_pasted s t₄ t₅ (a ++ be 4 elements) (be 4 0) at 52 four p₅ (length-append a (be 4 elements) ∙ omega (arith, length_a, (be_octets 4 elements).size))
            (omega (arith, (be_octets 4 0).size))

-- ---- the layer

inside_forward : (base end : ℕ) (w : Option Part) → base + end ≤ largest_torrent → Inside end w → Forward base w
inside_forward base end None h p = tt
inside_forward base end (Some w) h p = let x = p.1 in (p.0, omega arith)

module _ (t l : List ℕ) (base plen n r : ℕ) (h : base + length l ≤ largest_torrent) where
  pub layer_long : has_layer n plen ≡ true → (w : Option Part) → w ≡ layer_at l (take (r + 32 - r) (drop r t)) → (w ≡ layer_string l plen n (cut t r 32)) × Forward base w
  unfolding layer_string
  layer_long e w q = (rw e (q ∙ ap (layer_at l) (part_is t r)), rw q (inside_forward base (length l) (layer_at l (take (r + 32 - r) (drop r t))) h (layer_inside l (take (r + 32 - r) (drop r t)))))

  pub layer_short : has_layer n plen ≡ false → (None ≡ layer_string l plen n (cut t r 32)) × Forward base None
  unfolding layer_string
  layer_short e = (rw e refl, tt)

-- ---- the record

module _ (t l path out₀ : List ℕ) (f : Record) (w : RecordRight (length t) (length l) (length out₀) path f)
    (out₁ root : List ℕ) (layer : Option Part) (er : root ≡ root_bytes t f.length f.root) (el : layer ≡ layer_string l f.list.plen f.length (cut t f.root 32)) (p : out₁ ≡ pasted out₀ f.at (head_bytes f.list.layers f.length root layer f.elements)) where
  root_size : length root ≡ 32
  root_size = ap length er ∙ root_length t f.length f.root w.root_within

  pub record_written : (out₂ : List ℕ) → out₂ ≡ pasted out₁ (f.at + 56) (array_elements f.list.tree path f.elements max_elements) → out₂ ≡ pasted out₀ f.at (record_from t l path f)
  unfolding record_from
  record_written out₂ q =
      let h = w.fits in
      then_pasted out₀ out₁ out₂ (head_bytes f.list.layers f.length root layer f.elements) (array_elements f.list.tree path f.elements max_elements) f.at 56 p q (head_length f.list.layers f.length root layer f.elements root_size)
      (omega (arith, array_length f.list.tree path f.elements max_elements))
      ∙ rw (er, el) refl
