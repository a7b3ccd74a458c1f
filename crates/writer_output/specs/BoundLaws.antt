-- How long the parts can get: no sum of sizes leaves 64 bits.
-- Assumes nothing.
use Rattle.std.specs.Prelude.{◌≡◌, Bool, true, cond, ◌&&◌, ℕ, zero, suc, ◌+◌, ◌-◌, ◌*◌, ◌/◌, ◌%◌, ◌^◌, ◌≤◌, ◌<◌, drop, get_or, eqb, ltb, leb, List, [], ◌∷◌, ◌++◌, map}
use Rattle.std.proofs.Math.Path.{refl}
use Rattle.std.proofs.Common.{sym, ap, ◌∙◌, inl, inr, pow-suc, add-one, arith, eqb-true, ltb-false, leb-true}
use Rattle.std.proofs.Math.Bool.{false, and-eq-true_iff}
use Rattle.std.proofs.Math.ListN.{length, length-append, length-drop, length-replicate}
use Rattle.std.proofs.lemmas.Bool.{eqb-false}
use Rattle.octets.specs.Octets.{cut, number_at}
use Rattle.octets.specs.OctetsLaws.{cut_size}
use Rattle.octets.proofs.Digits.{digit_below}
use Rattle.bencode.specs.Grammar.{letter_d, letter_e, digit_zero, decimal_in, decimal, encode_string, encode, KeyBefore, none, after}
use Rattle.meaning.specs.Counting.{Member}
use Rattle.writer_meaning.specs.Content.{Item, Layer, properties, layers_given}
use Rattle.writer_meaning.specs.Written.{shared, opened, closed, file_bytes, tree_bytes}
use Rattle.writer_lists.specs.Lists.{element_end, elements_fit, elements_in, path_at, part_at, item_at}
use Rattle.writer_lists.specs.ListsLaws.{path_right}
use Rattle.writer_output.specs.PutLaws.{string_length}
use Rattle.writer_order.specs.Order.{InForm, AllInForm, most_files}
use Rattle.writer_output.specs.Files.{properties_bytes}
use Rattle.writer_output.specs.FilesLaws.{empty_length, full_length}
use Rattle.writer_output.specs.Layers.{repeats, layer_entry, layers_bytes, layer_of}
use Rattle.writer_output.specs.LayersLaws.{given_none, given_some}
use Rattle.writer_output.specs.Whole.{info_bytes, rest_bytes}
use Rattle.writer_output.specs.WholeLaws.{info_length, rest_length}

-- ---- numbers and strings

digits_most : (steps n : ℕ) → length (decimal_in steps n) ≤ steps
unfolding decimal_in
digits_most zero n = omega arith
digits_most (suc steps) n = by_size (ltb n 10) (digits_most steps (n / 10))
  where
    by_size : (t : Bool) → length (decimal_in steps (n / 10)) ≤ steps
        → length (cond t ((digit_zero + n) ∷ []) (decimal_in steps (n / 10) ++ (digit_zero + n % 10) ∷ [])) ≤ suc steps
    by_size true h = omega arith
    by_size false h = let a = length-append (decimal_in steps (n / 10)) ((digit_zero + n % 10) ∷ []) in omega arith

digits_short : (k steps n : ℕ) → n < 10 ^ suc k → length (decimal_in steps n) ≤ suc k
unfolding decimal_in
digits_short k zero n h = omega arith
digits_short zero (suc steps) n h = by_size (ltb n 10) refl
  where
    by_size : (t : Bool) → ltb n 10 ≡ t → length (cond t ((digit_zero + n) ∷ []) (decimal_in steps (n / 10) ++ (digit_zero + n % 10) ∷ [])) ≤ 1
    by_size true e = omega arith
    by_size false e = let z = ltb-false n 10 e in absurd (omega arith)
digits_short (suc k) (suc steps) n h = by_size (ltb n 10) (digits_short k steps (n / 10) less)
  where
    less : n / 10 < 10 ^ suc k
    less = let p : n < 10 ^ suc k * 10 = rw pow-suc at h in omega arith

    by_size : (t : Bool) → length (decimal_in steps (n / 10)) ≤ suc k
        → length (cond t ((digit_zero + n) ∷ []) (decimal_in steps (n / 10) ++ (digit_zero + n % 10) ∷ [])) ≤ suc (suc k)
    by_size true g = omega arith
    by_size false g = let a = length-append (decimal_in steps (n / 10)) ((digit_zero + n % 10) ∷ []) in omega arith

-- a number of 64 bits has at most 20 digits
pub decimal_most : (n : ℕ) → n < 2 ^ 64 → length (decimal n) ≤ 20
decimal_most n h = digits_short 19 (suc n) n (omega arith)

string_most : (b : List ℕ) → length (encode_string b) ≤ 2 * length b + 2
string_most b = let d = digits_most (suc (length b)) (length b) in omega (arith, string_length b)

-- ---- paths

opened_step : (e : List ℕ) (p : List (List ℕ)) → length (opened (e ∷ p)) ≡ length (encode_string e) + (1 + length (opened p))
unfolding opened
opened_step e p = length-append (encode_string e) (letter_d ∷ opened p) ∙ omega arith

opened_some : (p : List (List ℕ)) → length p ≤ length (opened p)
opened_some [] = omega arith
opened_some (e ∷ p) = omega (arith, opened_step e p, opened_some p)

opened_fewer : (k : ℕ) (p : List (List ℕ)) → length (opened (drop k p)) ≤ length (opened p)
opened_fewer zero p = omega arith
opened_fewer (suc k) [] = omega arith
opened_fewer (suc k) (e ∷ p) = omega (arith, opened_step e p, opened_fewer k p)

opened_most : (steps : ℕ) (s : List ℕ) → elements_fit steps s ≡ true → length (opened (elements_in steps s)) ≤ 2 * length s
unfolding elements_fit elements_in
opened_most zero s h = unfold opened in omega arith
opened_most (suc steps) s h = by_empty (eqb (length s) 0) h (λ f. opened_most steps (drop (element_end s) s) f)
  where
    by_empty : (t : Bool)
        → cond t true (leb 4 (length s) && (leb (element_end s) (length s) && elements_fit steps (drop (element_end s) s))) ≡ true
        → (elements_fit steps (drop (element_end s) s) ≡ true → length (opened (elements_in steps (drop (element_end s) s))) ≤ 2 * length
        (drop (element_end s) s))
        → length (opened (cond t [] (cut s 4 (number_at s 0 4) ∷ elements_in steps (drop (element_end s) s)))) ≤ 2 * length s
    by_empty true f more = unfold opened in omega arith
    by_empty false f more =
        let a = (and-eq-true_iff (leb 4 (length s)) (leb (element_end s) (length s) && elements_fit steps (drop (element_end s) s))).0 f in
        let b = (and-eq-true_iff (leb (element_end s) (length s)) (elements_fit steps (drop (element_end s) s))).0 a.1 in
        let z = leb-true (element_end s) (length s) b.0 in
        let m = more b.1 in
        let e = string_most (cut s 4 (number_at s 0 4)) in
        let c : length (cut s 4 (number_at s 0 4)) ≤ number_at s 0 4 = omega (arith, cut_size s 4 (number_at s 0 4)) in
        omega (arith, opened_step (cut s 4 (number_at s 0 4)) (elements_in steps (drop (element_end s) s)), length-drop (element_end s) s)

-- ---- records of bytes

number_below : (s : List ℕ) → ((i : ℕ) → get_or s i 0 < 256) → (at k : ℕ) → number_at s at k < 256 ^ k
unfolding number_at
number_below s b at zero = omega arith
number_below s b at (suc k) =
    rw (sym (add-one k)) (digit_below (number_at s at k) (get_or s (at + k) 0) k (number_below s b at k) (b (at + k)))

layers_step : (j : KeyBefore) (l : Layer) (ls : List Layer)
    → length (layers_bytes j (l ∷ ls)) ≡ length (layer_entry j l) + length (layers_bytes (after l.0) ls)
unfolding layers_bytes
layers_step j l ls = length-append (layer_entry j l) (layers_bytes (after l.0) ls)

module _ (list text : List ℕ) (b : (i : ℕ) → get_or list i 0 < 256) where
  part_most : (at : ℕ) → length (part_at list text at) < 2 ^ 32
  part_most at = let n = number_below list b (at + 4) 4 in omega (arith, cut_size text (number_at list at 4) (number_at list (at + 4) 4))

  path_most : (place : ℕ) → InForm list text place → length (opened (item_at list text place).path) < 2 ^ 33
  path_most place f =
      let m = opened_most (length (path_at list text place)) (path_at list text place) (path_right list text place f.1).1 in let n =
      part_most (place + 48) in bound (omega arith)
    where
      bound : length (opened (elements_in (length (path_at list text place)) (path_at list text place))) < 2 ^ 33
          → length (opened (item_at list text place).path) < 2 ^ 33
      bound x = unfold item_at in x

  properties_most : (place : ℕ) → length (properties_bytes (item_at list text place).size (item_at list text place).root) ≤ 120
  properties_most place = by_size (eqb (item_at list text place).size 0) refl
    where
      size_most : (item_at list text place).size < 2 ^ 64
      size_most = unfold item_at in number_below list b place 8

      root_most : length (item_at list text place).root ≤ 32
      root_most = unfold item_at in omega (arith, cut_size list (place + 8) 32)

      by_size : (t : Bool) → eqb (item_at list text place).size 0 ≡ t
          → length (properties_bytes (item_at list text place).size (item_at list text place).root) ≤ 120
      by_size true e =
          let d = decimal_most (item_at list text place).size size_most in omega
          (arith, empty_length (item_at list text place).size (item_at list text place).root (eqb-true _ 0 e))
      by_size false e =
          let d = decimal_most (item_at list text place).size size_most in
          let r = root_most in
          let s = string_most (item_at list text place).root in
          omega (arith, full_length (item_at list text place).size (item_at list text place).root (eqb-false _ 0 e))

  fewer : (p : ℕ) (ps : List ℕ) → AllInForm list text (p ∷ ps) → AllInForm list text ps
  unfolding Member
  fewer p ps f q m = f q (inr m)

  first : (p : ℕ) (ps : List ℕ) → AllInForm list text (p ∷ ps) → InForm list text p
  unfolding Member
  first p ps f = f p (inl refl)

  -- a file, and the nodes that it leaves open
  file_most : (p : List (List ℕ)) (place : ℕ) → InForm list text place
      → length (file_bytes p (item_at list text place).path (properties (item_at list text place))) + length (item_at list text place).path ≤
      length p + 2 ^ 35
  file_most p place f =
      let q = (item_at list text place).path in
      let c = closed (length p - shared p q) in
      let o = opened (drop (shared p q) q) in
      let v = encode_string [] ++ encode (properties (item_at list text place)) in
      let a = length-append c (o ++ v) in
      let d = length-append o v in
      let r = length-replicate {A = ℕ} (length p - shared p q) letter_e in
      let m = path_most place f in
      let n = properties_most place in
      omega (arith, opened_fewer (shared p q) q, opened_some q)

  tree_most : (ps : List ℕ) → AllInForm list text ps → (p : List (List ℕ))
      → length (tree_bytes p (map (item_at list text) ps)) ≤ suc (length p) + length ps * 2 ^ 35
  unfolding tree_bytes
  tree_most [] f p = let r = length-replicate {A = ℕ} (suc (length p)) letter_e in omega arith
  tree_most (place ∷ ps) f p =
      let a = file_most p place (first place ps f) in
      let m = tree_most ps (fewer place ps f) (item_at list text place).path in
      let c = length-append (file_bytes p (item_at list text place).path (properties (item_at list text place)))
      (tree_bytes (item_at list text place).path (map (item_at list text) ps)) in
      omega arith

  entry_most : (j : KeyBefore) (place : ℕ) → length (layer_entry j (layer_of (item_at list text place))) ≤ 2 ^ 35
  entry_most j place = by_key (repeats j (item_at list text place).root)
    where
      root_most : length (item_at list text place).root ≤ 32
      root_most = unfold item_at in omega (arith, cut_size list (place + 8) 32)

      layer_most : length (item_at list text place).layer < 2 ^ 32
      layer_most = unfold item_at in part_most (place + 40)

      by_key : (t : Bool)
          → length (cond t [] (encode_string (item_at list text place).root ++ encode_string (item_at list text place).layer)) ≤ 2 ^ 35
      by_key true = omega arith
      by_key false =
          let r = root_most in
          let l = layer_most in
          let a = length-append (encode_string (item_at list text place).root) (encode_string (item_at list text place).layer) in
          omega (arith, string_most (item_at list text place).root, string_most (item_at list text place).layer)

  layers_most : (ps : List ℕ) (j : KeyBefore) → length (layers_bytes j (layers_given (map (item_at list text) ps))) ≤ 1 + length ps * 2 ^ 35
  layers_most [] j = unfold layers_given layers_bytes in omega arith
  layers_most (place ∷ ps) j = by_layer (eqb (length (item_at list text place).layer) 0) refl (λ k. layers_most ps k)
    where
      x : Item
      x = item_at list text place

      xs : List Item
      xs = map (item_at list text) ps

      by_layer : (t : Bool) → eqb (length x.layer) 0 ≡ t
          → ((k : KeyBefore) → length (layers_bytes k (layers_given xs)) ≤ 1 + length ps * 2 ^ 35)
          → length (layers_bytes j (layers_given (x ∷ xs))) ≤ 1 + suc (length ps) * 2 ^ 35
      by_layer true q more =
          let m = more j in omega (arith, ap (λ (ls : List Layer). length (layers_bytes j ls)) (given_none x xs (eqb-true _ 0 q)))
      by_layer false q more =
          let m = more (after x.root) in
          omega (
            arith,
            ap (λ (ls : List Layer). length (layers_bytes j ls)) (given_some x xs (eqb-false _ 0 q)),
            layers_step j (layer_of x)
                (layers_given xs),
            entry_most j place,
          )

  -- ---- the two parts

  pub info_most : (plen : ℕ) (name ps : List ℕ) → AllInForm list text ps → length ps ≤ most_files → plen < 2 ^ 64 → length name < 2 ^ 63
      → length (info_bytes plen name (map (item_at list text) ps)) < 2 ^ 63 + 2 ^ 62
  info_most plen name ps f h k l =
      let t = tree_most ps f [] in
      let d = decimal_most plen k in
      let n = decimal_most (length name) (omega arith) in
      omega (arith, info_length plen name (map (item_at list text) ps), string_length name)

  pub rest_most : (ps : List ℕ) → length ps ≤ most_files → length (rest_bytes (map (item_at list text) ps)) < 2 ^ 62
  rest_most ps h = let m = layers_most ps none in omega (arith, rest_length (map (item_at list text) ps))
