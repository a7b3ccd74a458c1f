-- What is written from left to right is the encoding of the layers, and one record after the other gives it.
-- Assumes nothing.
use Rattle.std.specs.Prelude.{◌≡◌, Bool, true, false, cond, ◌&&◌, List, [], ◌∷◌, ◌++◌, map, ℕ, ◌+◌, ◌-◌, ◌^◌, ◌≤◌, ◌<◌, length, take, drop, get_or, ltb, Option, Some, None}
use Rattle.std.proofs.Math.Path.{refl}
use Rattle.std.proofs.Common.{sym, ap, ap₂, ◌∙◌, subst, append_assoc, arith, add-one, length-append, drop_of_length-le, drop-cons}
use Rattle.std.proofs.Math.Bool.{and-eq-true_iff}
use Rattle.octets.specs.Octets.{cut, same, number_at}
use Rattle.octets.specs.OctetsLaws.{same_true, cut_length}
use Rattle.bencode.specs.Grammar.{letter_e, encode_string, string, Entries, no_entries, entry, encode_entries, none, after}
use Rattle.writer_meaning.specs.Content.{Item, Layer, with_layer, layers_given, layer_put, layers_of_all}
use Rattle.writer_lists.specs.Lists.{record_size, part_fits, path_at, elements_fit, form_at, item_at}
use Rattle.writer_lists.specs.ListsLaws.{slice_end}
use Rattle.writer_order.specs.Order.{InForm, AllInForm}
use Rattle.writer_order.specs.OrderLaws.{placed_index}
use Rattle.writer_order.specs.CompareLaws.{root_slice}
use Rattle.writer_output.specs.Put.{Put}
use Rattle.writer_output.specs.PutLaws.{put_none, put_append, Going, going_start, going_more, going_last, going_room}
use Rattle.writer_output.specs.Layers.{repeats, layer_entry, layers_bytes, layer_of, root_seen, Inside}

-- ---- the encoding

-- entries without the first, if it has this key
abbrev without : List ℕ → Entries → Entries
without k no_entries = no_entries
without k (entry j v es) = cond (same k j) es (entry j v es)

put_first : (l : Layer) (es : Entries) → layer_put l es ≡ entry l.0 (string l.1) (without l.0 es)
unfolding layer_put
put_first l no_entries = refl
put_first l (entry k v es) = by_key (same l.0 k) refl
  where
    by_key : (t : Bool) → same l.0 k ≡ t
        → cond t (entry k (string l.1) es) (entry l.0 (string l.1) (entry k v es)) ≡ entry l.0 (string l.1)
        (cond t es (entry k v es))
    by_key true e = rw (sym (same_true l.0 k e)) refl
    by_key false e = refl

after_root : (j : List ℕ) (ls : List Layer) → layers_bytes (after j) ls ≡ encode_entries (without j (layers_of_all ls))
unfolding layers_bytes layers_of_all encode_entries
after_root j [] = refl
after_root j (l ∷ ls) = rw (put_first l (layers_of_all ls), after_root l.0 ls) (by_key (same j l.0))
  where
    by_key : (t : Bool) → cond t [] (encode_string l.0 ++ encode_string l.1) ++ encode_entries (without l.0 (layers_of_all ls))
        ≡ encode_entries (cond t (without l.0 (layers_of_all ls)) (entry l.0 (string l.1) (without l.0 (layers_of_all ls))))
    by_key true = refl
    by_key false = append_assoc (encode_string l.0) (encode_string l.1) (encode_entries (without l.0 (layers_of_all ls)))

pub layers_encoded : (ls : List Layer) → layers_bytes none ls ≡ encode_entries (layers_of_all ls)
unfolding layers_bytes layers_of_all encode_entries
layers_encoded [] = refl
layers_encoded (l ∷ ls) =
    rw (put_first l (layers_of_all ls), after_root l.0 ls)
    (append_assoc (encode_string l.0) (encode_string l.1) (encode_entries (without l.0 (layers_of_all ls))))

-- ---- the layer of a record

three_true : (a b c : Bool) → a && (b && c) ≡ true → b ≡ true
three_true a b c e = ((and-eq-true_iff b c).0 ((and-eq-true_iff a (b && c)).0 e).1).0

module _ (list text : List ℕ) (place a b : ℕ) (f : InForm list text place) (ea : a ≡ number_at list (place + 40) 4)
    (eb : b ≡ number_at list (place + 40 + 4) 4) where
  layer_right : part_fits list text (place + 40) ≡ true
  layer_right =
      three_true (ltb (number_at list place 8) (2 ^ 63)) (part_fits list text (place + 40))
      (part_fits list text (place + 48) && elements_fit (length (path_at list text place)) (path_at list text place))
      (unfold form_at in f.1)

  pub layer_end : a + b ≤ length text
  layer_end = slice_end list text (place + 40) a b layer_right ea eb

  layer_cut : cut text a b ≡ (item_at list text place).layer
  layer_cut = ap₂ (λ (x y : ℕ). cut text x y) ea eb ∙ (unfold item_at in refl)

  pub layer_slice : take (a + b - a) (drop a text) ≡ (item_at list text place).layer
  layer_slice = let z : a + b - a ≡ b = omega arith in rw z (sliced layer_cut)
    where
      sliced : cut text a b ≡ (item_at list text place).layer → take b (drop a text) ≡ (item_at list text place).layer
      sliced x = unfold cut in x

  pub layer_length : length (item_at list text place).layer ≡ b
  layer_length = ap (λ (l : List ℕ). length l) (sym layer_cut) ∙ cut_length text a b layer_end

-- ---- one entry

cut_slice : (list : List ℕ) (place : ℕ) → take (place + 40 - (place + 8)) (drop (place + 8) list) ≡ cut list (place + 8) 32
unfolding cut
cut_slice list place = let z : place + 40 - (place + 8) ≡ 32 = omega arith in rw z refl

-- a root was seen: the two roots are compared
pub root_compared : (list : List ℕ) (place p : ℕ) (t : Bool)
    → t ≡ same (take (p + 40 - (p + 8)) (drop (p + 8) list)) (take (place + 40 - (place + 8)) (drop (place + 8) list))
    → t ≡ repeats (root_seen list (Some p)) (cut list (place + 8) 32)
root_compared list place p t e = e ∙ ap₂ same (cut_slice list p) (cut_slice list place)

module _ (list text : List ℕ) (place : ℕ) (last : Option ℕ) where
  abbrev x : Item
  x = item_at list text place

  root_is : cut list (place + 8) 32 ≡ (item_at list text place).root
  root_is = unfold item_at in refl

  -- the root repeats: nothing is written
  pub put_repeated : (t : Bool) → t ≡ repeats (root_seen list last) (cut list (place + 8) 32) → t ≡ true → (s : List ℕ) (at : ℕ)
      → Put s at (layer_entry (root_seen list last) (layer_of (item_at list text place))) s at
  put_repeated t e f s at = rw (sym (ap (repeats (root_seen list last)) root_is) ∙ sym e ∙ f) (put_none s at)

  -- it does not: both strings are
  entry_new : (t : Bool) → t ≡ repeats (root_seen list last) (cut list (place + 8) 32) → t ≡ false
      → layer_entry (root_seen list last) (layer_of (item_at list text place)) ≡ encode_string (item_at list text place).root ++
      encode_string (item_at list text place).layer
  entry_new t e f = rw (sym (ap (repeats (root_seen list last)) root_is) ∙ sym e ∙ f) refl

  pub entry_length : (t : Bool) → t ≡ repeats (root_seen list last) (cut list (place + 8) 32) → t ≡ false
      → length (layer_entry (root_seen list last) (layer_of (item_at list text place))) ≡ length
      (encode_string (take (place + 40 - (place + 8)) (drop (place + 8) list))) + length (encode_string (item_at list text place).layer)
  entry_length t e f =
      ap (λ (l : List ℕ). length l) (entry_new t e f)
      ∙ length-append (encode_string (item_at list text place).root) (encode_string (item_at list text place).layer)
      ∙ ap (λ (l : List ℕ). length (encode_string l) + length (encode_string (item_at list text place).layer))
      (sym (root_slice list text place))

  pub put_entry : (t : Bool) → t ≡ repeats (root_seen list last) (cut list (place + 8) 32) → t ≡ false → (layer : List ℕ)
      → layer ≡ (item_at list text place).layer
      → (s u v : List ℕ) (at m r : ℕ) → Put s at (encode_string (take (place + 40 - (place + 8)) (drop (place + 8) list))) u m
      → Put u m (encode_string layer) v r → length u ≡ length s
      → Put s at (layer_entry (root_seen list last) (layer_of (item_at list text place))) v r
  put_entry t e f layer g s u v at m r p q k =
      rw (entry_new t e f)
      (put_append s u v at m r (encode_string (item_at list text place).root) (encode_string (item_at list text place).layer)
      (subst (λ (l : List ℕ). Put s at (encode_string l) u m) (root_slice list text place) p)
      (subst (λ (l : List ℕ). Put u m (encode_string l) v r) g q)
      k)

-- ---- all entries

some_is : {p q : ℕ} → ◌≡◌ {A = Option ℕ} (Some p) (Some q) → p ≡ q
some_is e = cc

-- i records are passed; the last entry has the root of the record at `last`
pub record Listing (s : List ℕ) (at : ℕ) (list text order t : List ℕ) (now : ℕ) (last : Option ℕ) (i : ℕ) : Type 0 where
  pub counted : i ≤ length order
  pub inside : Inside list last
  pub going : Going s at (layers_bytes none (layers_given (map (item_at list text) order)))
      (layers_bytes (root_seen list last) (layers_given (map (item_at list text) (drop i order)))) t now

pub listing_start : (s : List ℕ) (at : ℕ) (list text order : List ℕ) → Listing s at list text order s at None 0
listing_start s at list text order =
    record {
      counted = omega arith;
      inside = λ p e. cc;
      going = going_start s at
          (layers_bytes none (layers_given (map (item_at list text) order)));
    }

pub given_none : (x : Item) (xs : List Item) → length x.layer ≡ 0 → layers_given (x ∷ xs) ≡ layers_given xs
unfolding layers_given
given_none x xs e = by_layer x.layer e
  where
    by_layer : (l : List ℕ) → length l ≡ 0 → with_layer x l (layers_given xs) ≡ layers_given xs
    by_layer [] q = refl
    by_layer (b ∷ bs) q = absurd (omega arith)

pub given_some : (x : Item) (xs : List Item) → (length x.layer ≡ 0 → ⊥) → layers_given (x ∷ xs) ≡ layer_of x ∷ layers_given xs
unfolding layers_given
given_some x xs e = by_layer x.layer refl e
  where
    by_layer : (l : List ℕ) → x.layer ≡ l → (length l ≡ 0 → ⊥) → with_layer x l (layers_given xs) ≡ layer_of x ∷ layers_given xs
    by_layer [] p q = absurd (q refl)
    by_layer (b ∷ bs) p q = ap (λ (l : List ℕ). (x.root, l) ∷ layers_given xs) (sym p)

-- the next record
module _ {s : List ℕ} {at : ℕ} {list text order t : List ℕ} {now : ℕ} {last : Option ℕ} {i : ℕ}
    (g : Listing s at list text order t now last i) (h : i < length order) (f : AllInForm list text order) (place : ℕ)
    (e : place ≡ get_or order i 0)
    (b : ℕ) (eb : b ≡ number_at list (place + 40 + 4) 4) where
  has_form : InForm list text place
  has_form = placed_index list text order i place f h e

  rest : drop i order ≡ place ∷ drop (i + 1) order
  rest = drop-cons order i 0 h ∙ ap₂ (λ (x n : ℕ). x ∷ drop n order) (sym e) (sym (add-one i))

  size_is : length (item_at list text place).layer ≡ b
  size_is = layer_length list text place (number_at list (place + 40) 4) b has_form refl eb

  -- it has no layer
  pub listing_skip : b ≡ 0 → Listing s at list text order t now last (i + 1)
  listing_skip z =
      record {
        counted = omega arith;
        inside = g.inside;
        going =
            subst (λ (ls : List Layer). Going s at (layers_bytes none (layers_given (map (item_at list text) order)))
            (layers_bytes (root_seen list last) ls) t now)
            (ap (λ (l : List ℕ). layers_given (map (item_at list text) l)) rest ∙ given_none (item_at list text place)
            (map (item_at list text) (drop (i + 1) order)) (size_is ∙ z))
            g.going;
      }

  -- it has one
  module _ (z : b ≡ 0 → ⊥) where
    abbrev later : List ℕ
    later = layers_bytes (after (item_at list text place).root) (layers_given (map (item_at list text) (drop (i + 1) order)))

    next_layer : Going s at (layers_bytes none (layers_given (map (item_at list text) order)))
        (layer_entry (root_seen list last) (layer_of (item_at list text place)) ++ later) t now
    next_layer =
        subst (λ (l : List ℕ). Going s at (layers_bytes none (layers_given (map (item_at list text) order))) l t now)
        (ap (layers_bytes (root_seen list last))
        (ap (λ (l : List ℕ). layers_given (map (item_at list text) l)) rest ∙ given_some (item_at list text place)
        (map (item_at list text) (drop (i + 1) order)) (λ q. z (sym size_is ∙ q)))
        ∙ (unfold layers_bytes in refl))
        g.going

    pub layer_room : (n : ℕ) → at + length (layers_bytes none (layers_given (map (item_at list text) order))) < n
        → now + length (layer_entry (root_seen list last) (layer_of (item_at list text place))) < n
    layer_room n l =
        going_room s at (layers_bytes none (layers_given (map (item_at list text) order)))
        (layer_entry (root_seen list last) (layer_of (item_at list text place))) later t now n next_layer l

    pub listing_more : (u : List ℕ) (r : ℕ) → Put t now (layer_entry (root_seen list last) (layer_of (item_at list text place))) u r
        → length u ≡ length t → Listing s at list text order u r (Some place) (i + 1)
    listing_more u r p k =
        record {
          counted = omega arith;
          inside = λ p q. subst (λ (n : ℕ). n + record_size ≤ length list) (some_is q) has_form.0;
          going =
              subst (λ (k : List ℕ). Going s at (layers_bytes none (layers_given (map (item_at list text) order)))
              (layers_bytes (after k) (layers_given (map (item_at list text) (drop (i + 1) order)))) u r)
              (sym (root_is list text place last))
              (going_more s at (layers_bytes none (layers_given (map (item_at list text) order)))
              (layer_entry (root_seen list last) (layer_of (item_at list text place))) later t u now r next_layer p k);
        }

-- all records are passed
module _ {s : List ℕ} {at : ℕ} {list text order t : List ℕ} {now : ℕ} {last : Option ℕ} {i : ℕ}
    (g : Listing s at list text order t now last i) (h : length order ≤ i) where
  last_byte : Going s at (layers_bytes none (layers_given (map (item_at list text) order))) ((letter_e ∷ []) ++ []) t now
  last_byte =
      subst (λ (l : List ℕ). Going s at (layers_bytes none (layers_given (map (item_at list text) order))) l t now)
      (ap (λ (l : List ℕ). layers_bytes (root_seen list last) (layers_given (map (item_at list text) l)))
      (drop_of_length-le order {i = i} h) ∙ (unfold layers_given layers_bytes in refl))
      g.going

  pub end_room : (n : ℕ) → at + length (layers_bytes none (layers_given (map (item_at list text) order))) < n → now + 1 < n
  end_room n l = going_room s at (layers_bytes none (layers_given (map (item_at list text) order))) (letter_e ∷ []) [] t now n last_byte l

  pub listing_end : (u : List ℕ) (r : ℕ) → Put t now (letter_e ∷ []) u r
      → Put s at (layers_bytes none (layers_given (map (item_at list text) order))) u r
  listing_end u r p = going_last s at (layers_bytes none (layers_given (map (item_at list text) order))) (letter_e ∷ []) t u now r last_byte p
