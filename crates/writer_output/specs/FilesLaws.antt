-- The bytes of a file, part by part, and of the tree, file by file.
-- Assumes nothing.
use Rattle.std.specs.Prelude.{◌≡◌, Bool, true, false, List, [], ◌∷◌, ◌++◌, map, ℕ, ◌+◌, ◌-◌, ◌≤◌, ◌<◌, length, take, drop, get_or, eqb}
use Rattle.std.proofs.Math.Path.{refl}
use Rattle.std.proofs.Common.{sym, ap, ap₂, ◌∙◌, subst, append_assoc, arith, add-one, length-append, drop_of_length-le, drop-cons, eq-eqb, ne_eqb, eqb-true}
use Rattle.std.proofs.lemmas.List.{length-replicate}
use Rattle.std.proofs.lemmas.Bool.{eqb-false}
use Rattle.octets.specs.Octets.{cut, number_at}
use Rattle.bencode.specs.Grammar.{letter_e, decimal, decimal_in, encode_string, Value, encode}
use Rattle.meaning.specs.Keys.{key_length, key_pieces_root}
use Rattle.writer_meaning.specs.Content.{properties}
use Rattle.writer_meaning.specs.Written.{opened, closed, file_bytes, tree_bytes}
use Rattle.writer_lists.specs.Lists.{elements_fit, elements_in, item_at}
use Rattle.writer_lists.specs.ListsLaws.{path_right, slice_end, slice_fits, slice_path}
use Rattle.writer_order.specs.Order.{InForm, AllInForm}
use Rattle.writer_order.specs.OrderLaws.{placed_index}
use Rattle.writer_output.specs.Put.{Put}
use Rattle.writer_output.specs.PutLaws.{put_three, Going, going_start, going_more, going_last, going_room, going_place}
use Rattle.writer_output.specs.Path.{path_in, left_in, Standing, SharedTo}
use Rattle.writer_output.specs.PathLaws.{standing_start}
use Rattle.writer_output.specs.Files.{properties_bytes, file_in}

-- ---- the properties. `0:d6:lengthi`, `ee`, `e11:pieces root`

abbrev word_length : List ℕ
word_length = 48 ∷ 58 ∷ 100 ∷ 54 ∷ 58 ∷ 108 ∷ 101 ∷ 110 ∷ 103 ∷ 116 ∷ 104 ∷ 105 ∷ []

abbrev word_ends : List ℕ
word_ends = 101 ∷ 101 ∷ []

abbrev word_root : List ℕ
word_root = 101 ∷ 49 ∷ 49 ∷ 58 ∷ 112 ∷ 105 ∷ 101 ∷ 99 ∷ 101 ∷ 115 ∷ 32 ∷ 114 ∷ 111 ∷ 111 ∷ 116 ∷ []

empty_key : encode_string [] ≡ 48 ∷ 58 ∷ []
unfolding decimal_in
empty_key = refl

length_key : encode_string key_length ≡ 54 ∷ 58 ∷ key_length
unfolding decimal_in
length_key = refl

root_key : encode_string key_pieces_root ≡ 49 ∷ 49 ∷ 58 ∷ key_pieces_root
unfolding decimal_in
root_key = refl

pub properties_empty : (n : ℕ) (r : List ℕ) → n ≡ 0 → properties_bytes n r ≡ word_length ++ (decimal n ++ word_ends)
unfolding encode
properties_empty n r e = rw (eq-eqb n 0 e, empty_key, length_key) (simp append_assoc)

pub properties_full : (n : ℕ) (r : List ℕ) → (n ≡ 0 → ⊥)
    → properties_bytes n r ≡ word_length ++ (decimal n ++ (word_root ++ (encode_string r ++ (letter_e ∷ []))))
unfolding encode
properties_full n r e =
    rw (ne_eqb n 0 e, empty_key, length_key, root_key)
    (ap (λ (l : List ℕ). word_length ++ l) (append_assoc (decimal n) (letter_e ∷ [])
    (49 ∷ 49 ∷ 58 ∷ key_pieces_root ++ (encode_string r ++ (letter_e ∷ [])))))

-- how long they are
pub empty_length : (n : ℕ) (r : List ℕ) → n ≡ 0 → length (properties_bytes n r) ≡ 12 + (length (decimal n) + 2)
empty_length n r e = rw (properties_empty n r e) (simp length-append (omega arith))

pub full_length : (n : ℕ) (r : List ℕ) → (n ≡ 0 → ⊥)
    → length (properties_bytes n r) ≡ 12 + (length (decimal n) + (15 + (length (encode_string r) + 1)))
full_length n r e = rw (properties_full n r e) (simp length-append (omega arith))

pub properties_least : (n : ℕ) (r : List ℕ) → 12 + (length (decimal n) + 2) ≤ length (properties_bytes n r)
properties_least n r = by_size (eqb n 0) refl
  where
    by_size : (t : Bool) → eqb n 0 ≡ t → 12 + (length (decimal n) + 2) ≤ length (properties_bytes n r)
    by_size true q = omega (arith, empty_length n r (eqb-true n 0 q))
    by_size false q = omega (arith, full_length n r (eqb-false n 0 q))

pub put_empty : (s t u v : List ℕ) (at a b c n : ℕ) (r : List ℕ) → n ≡ 0 → Put s at word_length t a → Put t a (decimal n) u b
    → Put u b word_ends v c → length t ≡ length s → length u ≡ length t
    → Put s at (properties_bytes n r) v c
put_empty s t u v at a b c n r e x y z k l =
    rw (properties_empty n r e) (put_three s t u v at a b c word_length (decimal n) word_ends x y z k l)

pub put_full : (s t u v w f : List ℕ) (at a b c d g n : ℕ) (r : List ℕ) → (n ≡ 0 → ⊥) → Put s at word_length t a → Put t a (decimal n) u b
    → Put u b word_root v c → Put v c (encode_string r) w d → Put w d (letter_e ∷ []) f g
    → length t ≡ length s → length u ≡ length t → length v ≡ length u → length w ≡ length v → Put s at (properties_bytes n r) f g
put_full s t u v w f at a b c d g n r e x y z p q k l m o =
    rw (properties_full n r e)
    (put_three s t u f at a b g word_length (decimal n) (word_root ++ (encode_string r ++ (letter_e ∷ []))) x y
    (put_three u v w f b c d g word_root (encode_string r) (letter_e ∷ []) z p q m o) k l)

-- ---- a file behind another

module _ (p q : List ℕ) (at : ℕ) (v : Value) (w : SharedTo p q at) where
  file_parts : file_bytes (path_in p) (path_in q) v ≡ closed (length (left_in p at)) ++ (opened (left_in q at) ++ (encode_string [] ++ encode v))
  file_parts = rw (w.closes, w.opens) refl

  pub file_length_lem : length (file_bytes (path_in p) (path_in q) v) ≡ length (left_in p at) +
      (length (opened (left_in q at)) + length (encode_string [] ++ encode v))
  file_length_lem =
      ap (λ (l : List ℕ). length l) file_parts
      ∙ length-append (closed (length (left_in p at))) (opened (left_in q at) ++ (encode_string [] ++ encode v))
      ∙ ap₂ (λ (a b : ℕ). a + b) (length-replicate {A = ℕ} (length (left_in p at)) letter_e)
      (length-append (opened (left_in q at)) (encode_string [] ++ encode v))

  pub put_parts : (s t u o : List ℕ) (a b c d : ℕ) → Put s a (closed (length (left_in p at))) t b → Put t b (opened (left_in q at)) u c
      → Put u c (encode_string [] ++ encode v) o d → length t ≡ length s → length u ≡ length t
      → Put s a (file_bytes (path_in p) (path_in q) v) o d
  put_parts s t u o a b c d x y z k l =
      rw file_parts (put_three s t u o a b c d (closed (length (left_in p at))) (opened (left_in q at)) (encode_string [] ++ encode v) x y z k
      l)

-- the length and the root of a record, as they are read
pub properties_read : (list : List ℕ) (place n : ℕ) → n ≡ number_at list place 8
    → properties_bytes n (take (place + 40 - (place + 8)) (drop (place + 8) list)) ≡ encode_string [] ++ encode
    (properties (file_in list place))
unfolding cut
properties_read list place n e = let z : place + 40 - (place + 8) ≡ 32 = omega arith in rw (z, e) refl

pub put_read : (list : List ℕ) (place n : ℕ) → n ≡ number_at list place 8 → (s t : List ℕ) (at r : ℕ)
    → Put s at (properties_bytes n (take (place + 40 - (place + 8)) (drop (place + 8) list))) t r
    → Put s at (encode_string [] ++ encode (properties (file_in list place))) t r
put_read list place n e s t at r p = rw (sym (properties_read list place n e)) p

-- ---- the tree

-- the path of the file before, as a part of the text
abbrev pub path_part : List ℕ → ℕ → ℕ → List ℕ
path_part text start size = take (start + size - start) (drop start text)

-- i files are written, the last of them with the path at `start`
pub record Growing (s : List ℕ) (at : ℕ) (list text order t : List ℕ) (now start size i : ℕ) : Type 0 where
  pub counted : i ≤ length order
  pub inside : start + size ≤ length text
  pub standing : Standing (path_part text start size) 0
  pub going : Going s at (tree_bytes [] (map (item_at list text) order))
      (tree_bytes (path_in (path_part text start size)) (map (item_at list text) (drop i order))) t now

pub growing_start : (s : List ℕ) (at : ℕ) (list text order : List ℕ) → Growing s at list text order s at 0 0 0
unfolding elements_in elements_fit
growing_start s at list text order =
    record {
      counted = omega arith;
      inside = omega arith;
      standing = standing_start [] refl;
      going = going_start s at (tree_bytes [] (map (item_at list text) order));
    }

-- the next record, and its path as a part of the text
module _ {s : List ℕ} {at : ℕ} {list text order t : List ℕ} {now start size i : ℕ} (g : Growing s at list text order t now start size i)
    (h : i < length order) (f : AllInForm list text order) (place : ℕ) (e : place ≡ get_or order i 0)
    (a b : ℕ) (ea : a ≡ number_at list (place + 48) 4) (eb : b ≡ number_at list (place + 48 + 4) 4) where
  has_form : InForm list text place
  has_form = placed_index list text order i place f h e

  pub part_end : a + b ≤ length text
  part_end = slice_end list text (place + 48) a b (path_right list text place has_form.1).0 ea eb

  pub part_standing : Standing (path_part text a b) 0
  part_standing = standing_start (path_part text a b) (slice_fits list text place a b has_form.1 ea eb)

  abbrev file : List ℕ
  file = file_bytes (path_in (path_part text start size)) (path_in (path_part text a b)) (properties (file_in list place))

  abbrev later : List ℕ
  later = tree_bytes (path_in (path_part text a b)) (map (item_at list text) (drop (i + 1) order))

  next_file : Going s at (tree_bytes [] (map (item_at list text) order)) (file ++ later) t now
  next_file = subst (λ (l : List ℕ). Going s at (tree_bytes [] (map (item_at list text) order)) l t now) step g.going
    where
      rest : drop i order ≡ place ∷ drop (i + 1) order
      rest = drop-cons order i 0 h ∙ ap₂ (λ (x n : ℕ). x ∷ drop n order) (sym e) (sym (add-one i))

      one : tree_bytes (path_in (path_part text start size)) (map (item_at list text) (place ∷ drop (i + 1) order))
          ≡ file_bytes (path_in (path_part text start size)) (item_at list text place).path (properties (item_at list text place)) ++ tree_bytes
          (item_at list text place).path (map (item_at list text) (drop (i + 1) order))
      one = unfold tree_bytes in refl

      same_properties : properties (item_at list text place) ≡ properties (file_in list place)
      same_properties = unfold item_at in refl

      step : tree_bytes (path_in (path_part text start size)) (map (item_at list text) (drop i order)) ≡ file ++ later
      step =
          ap (λ (l : List ℕ). tree_bytes (path_in (path_part text start size)) (map (item_at list text) l)) rest
          ∙ one
          ∙ ap₂ (λ (q : List (List ℕ)) (v : Value). file_bytes (path_in (path_part text start size)) q v ++ tree_bytes q
          (map (item_at list text) (drop (i + 1) order))) (sym (slice_path list text place a b ea eb)) same_properties

  pub file_room : (n : ℕ) → at + length (tree_bytes [] (map (item_at list text) order)) < n
      → now + length (file_bytes (path_in (path_part text start size)) (path_in (path_part text a b)) (properties (file_in list place))) < n
  file_room n l = going_room s at (tree_bytes [] (map (item_at list text) order)) file later t now n next_file l

  pub growing_more : (u : List ℕ) (r : ℕ)
      → Put t now (file_bytes (path_in (path_part text start size)) (path_in (path_part text a b)) (properties (file_in list place))) u r
      → length u ≡ length t
      → Growing s at list text order u r a b (i + 1)
  growing_more u r p k =
      record {
        counted = omega arith;
        inside = part_end;
        standing = part_standing;
        going = going_more s at (tree_bytes [] (map (item_at list text) order)) file later t u now r next_file p k;
      }

-- all files are written: the nodes of the last are closed, and the tree
module _ {s : List ℕ} {at : ℕ} {list text order t : List ℕ} {now start size i : ℕ} (g : Growing s at list text order t now start size i)
    (h : length order ≤ i) where
  last_nodes : Going s at (tree_bytes [] (map (item_at list text) order))
      ((letter_e ∷ []) ++ closed (length (left_in (path_part text start size) 0))) t now
  last_nodes =
      subst (λ (l : List ℕ). Going s at (tree_bytes [] (map (item_at list text) order)) l t now)
      (ap (λ (l : List ℕ). tree_bytes (path_in (path_part text start size)) (map (item_at list text) l)) (drop_of_length-le order {i = i} h)
      ∙ none) g.going
    where
      none : tree_bytes (path_in (path_part text start size)) [] ≡ (letter_e ∷ []) ++ closed (length (left_in (path_part text start size) 0))
      none = unfold tree_bytes in refl

  pub last_room : (n : ℕ) → at + length (tree_bytes [] (map (item_at list text) order)) < n → now + 1 < n
  last_room n l =
      going_room s at (tree_bytes [] (map (item_at list text) order)) (letter_e ∷ []) (closed (length (left_in (path_part text start size) 0))) t
      now n last_nodes l

  module _ (u : List ℕ) (r : ℕ) (p : Put t now (letter_e ∷ []) u r) (k : length u ≡ length t) where
    last_closed : Going s at (tree_bytes [] (map (item_at list text) order)) (closed (length (left_in (path_part text start size) 0))) u r
    last_closed =
        going_more s at (tree_bytes [] (map (item_at list text) order)) (letter_e ∷ []) (closed (length (left_in (path_part text start size) 0)))
        t u now r last_nodes p k

    pub closed_room : (n : ℕ) → at + length (tree_bytes [] (map (item_at list text) order)) < n
        → r + length (left_in (path_part text start size) 0) < n
    closed_room n l =
        let e = going_place s at (tree_bytes [] (map (item_at list text) order)) (closed (length (left_in (path_part text start size) 0))) u r
        last_closed in
        omega (arith, length-replicate {A = ℕ} (length (left_in (path_part text start size) 0)) letter_e)

    pub growing_end : (v : List ℕ) (q : ℕ) → Put u r (closed (length (left_in (path_part text start size) 0))) v q
        → Put s at (tree_bytes [] (map (item_at list text) order)) v q
    growing_end v q x =
        going_last s at (tree_bytes [] (map (item_at list text) order)) (closed (length (left_in (path_part text start size) 0))) u v r q
        last_closed x
