-- A file's dictionary and the tokens of the tree, at a position of the torrent s: each definition of specs/ as the code meets it.
-- Assumes nothing.
use Rattle.bencode.specs.Scalar.{whole, part}
use Rattle.std.specs.Prelude.{◌≡◌, refl, Bool, true, false, ◌&&◌, ◌||◌, not, List, [], ◌∷◌, ℕ, suc, ◌+◌, ◌-◌, ◌≤◌, ◌<◌, length, get_or, take, drop, eqb, Option, Some, None, Ok, Result}
use Rattle.bencode.specs.declared.walk.Amiss.{Amiss}
use Rattle.std.proofs.Common.{sym, ap, ◌∙◌, arith, eq-eqb, ne_eqb, le-leb}
use Rattle.std.proofs.Math.Bool.{and-false}
use Rattle.std.proofs.lemmas.Bool.{false≢true, lt-leb}
use Rattle.meaning.specs.Keys.{key_length, key_pieces_root}
use Rattle.octets.specs.Octets.{cut, same}
use Rattle.octets.specs.OctetsLaws.{cut_length, same_ne, drop_step}
use Rattle.limits.specs.Limits.{longest_file, max_levels}
use Rattle.bencode.specs.Grammar.{letter_e}
use Rattle.bencode.specs.Scalar.{read_string}
use Rattle.bencode.specs.Walk.{walk_value}
use Rattle.bencode.specs.Parts.{is_dictionary, find_key}
use Rattle.bencode.specs.EndsLaws.{string_ends}
use Rattle.bencode.specs.declared.part.Part.{Part}
use Rattle.bencode.specs.declared.scalar.Integer.{Integer}
use Rattle.bencode.proofs.Reading.{drop_end}
use Rattle.filetree.specs.File.{length_of, root_of, length_in, root_in, file_length, file_root, empty_file, full_file, with_length, file_at}
use Rattle.meaning.specs.Torrent.{without, dot, dots, slash, element_right}
use Rattle.filetree.specs.Token.{ends_here, behind_file, past_file, with_file, file_token, first_key, node_token, key_token, token_at, opened_token, closed_token, leaf_token}
use Rattle.filetree.specs.declared.file.File.{File}

-- ---- lengths and roots

pub length_minus : (i : Option Integer) (m : Bool) (n k : ℕ) → i ≡ whole m n k → m ≡ true → length_of i ≡ None
length_minus i m n k e h = rw (e, h) refl

pub length_fits : (i : Option Integer) (m : Bool) (n k : ℕ) → i ≡ whole m n k → m ≡ false → n ≤ longest_file → length_of i ≡ Some n
length_fits i m n k e h l = rw (e, h) (simp (le-leb n longest_file l))

pub length_long : (i : Option Integer) (m : Bool) (n k : ℕ) → i ≡ whole m n k → m ≡ false → longest_file < n → length_of i ≡ None
length_long i m n k e h l = rw (e, h) (simp (lt-leb n longest_file l))

pub root_right : (b : Option Part) (x y : ℕ) → b ≡ part x y → y - x ≡ 32 → root_of b ≡ Some x
root_right b x y e h = rw e (simp (eq-eqb (y - x) 32 h))

pub root_wrong : (b : Option Part) (x y : ℕ) → b ≡ part x y → (y - x ≡ 32 → ⊥) → root_of b ≡ None
root_wrong b x y e h = rw e (simp (ne_eqb (y - x) 32 h))

module _ (s : List ℕ) (at : ℕ) where
  pub length_of_lem : (w : Option Part) → find_key key_length at (drop at s) ≡ w → file_length s at ≡ length_in s w
  unfolding file_length
  length_of_lem w e = ap (length_in s) e

  pub root_of_lem : (w : Option Part) → find_key key_pieces_root at (drop at s) ≡ w → file_root s at ≡ root_in s w
  unfolding file_root
  root_of_lem w e = ap (root_in s) e

  pub file_no_length : file_length s at ≡ None → file_at s at ≡ None
  unfolding file_at
  file_no_length e = rw e refl

  pub file_empty : (n : ℕ) → file_length s at ≡ Some n → n ≡ 0 → (w : Option Part) → find_key key_pieces_root at (drop at s) ≡ w → file_at s at ≡ empty_file w
  unfolding file_at
  file_empty n e z w f = ap (with_length s at) e ∙ simp (eq-eqb n 0 z) (ap empty_file f)

  pub file_full : (n : ℕ) → file_length s at ≡ Some n → (n ≡ 0 → ⊥) → (w : Option ℕ) → file_root s at ≡ w → file_at s at ≡ full_file n w
  unfolding file_at
  file_full n e z w f = ap (with_length s at) e ∙ simp (ne_eqb n 0 z) (ap (full_file n) f)

-- ---- path elements

-- a byte and those behind it
cut_first : (s : List ℕ) (at n m : ℕ) → m ≡ suc n → at < length s → cut s at m ≡ get_or s at 0 ∷ cut s (at + 1) n
unfolding cut
cut_first s at n m e h = rw e (ap (λ (l : List ℕ). take (suc n) l) (drop_step s at h))

-- no byte of it is forbidden
abbrev pub allowed : List ℕ → Bool
allowed e = without slash e && without 0 e

-- one byte that is forbidden, or is not, with the tests of those behind it
one_forbidden : (a b x y : Bool) → a || b ≡ true → (not a && x) && (not b && y) ≡ false
one_forbidden true b x y e = refl
one_forbidden false true x y e = and-false x
one_forbidden false false x y e = absurd (false≢true e)

none_forbidden : (a b x y : Bool) → a || b ≡ false → (not a && x) && (not b && y) ≡ x && y
none_forbidden true b x y e = absurd (false≢true (sym e))
none_forbidden false true x y e = absurd (false≢true (sym e))
none_forbidden false false x y e = refl

-- the bytes from i on
module _ (s : List ℕ) (start size i : ℕ) where
  abbrev onward : ℕ → List ℕ
  onward j = cut s (start + j) (size - j)

  pub bytes_start : i ≡ 0 → allowed (cut s start size) ≡ allowed (onward i)
  bytes_start z = let e : start + i ≡ start = omega arith in let f : size - i ≡ size = omega arith in rw (e, f) refl

  pub bytes_end : size ≤ i → allowed (onward i) ≡ true
  bytes_end h = let z : size - i ≡ 0 = omega arith in rw z (unfold cut without in refl)

  module _ (inside : start + size ≤ length s) (h : i < size) where
    first_onward : onward i ≡ get_or s (start + i) 0 ∷ onward (i + 1)
    first_onward =
        let e : start + i + 1 ≡ start + (i + 1) = omega arith in
        cut_first s (start + i) (size - (i + 1)) (size - i) (omega arith) (omega arith) ∙ ap (λ (k : ℕ). get_or s (start + i) 0 ∷ cut s k (size - (i + 1))) e

    pub bytes_stop : eqb (get_or s (start + i) 0) slash || eqb (get_or s (start + i) 0) 0 ≡ true → allowed (onward i) ≡ false
    unfolding without
    bytes_stop e = ap allowed first_onward ∙ one_forbidden (eqb (get_or s (start + i) 0) slash) (eqb (get_or s (start + i) 0) 0) (without slash (onward (i + 1))) (without 0 (onward (i + 1))) e

    pub bytes_on : eqb (get_or s (start + i) 0) slash || eqb (get_or s (start + i) 0) 0 ≡ false → allowed (onward i) ≡ allowed (onward (i + 1))
    unfolding without
    bytes_on e = ap allowed first_onward ∙ none_forbidden (eqb (get_or s (start + i) 0) slash) (eqb (get_or s (start + i) 0) 0) (without slash (onward (i + 1))) (without 0 (onward (i + 1))) e

-- whether it is `.` or `..`
abbrev pub dotted : List ℕ → Bool
dotted e = same e dot || same e dots

module _ (s : List ℕ) (start size : ℕ) (inside : start + size ≤ length s) where
  abbrev content : List ℕ
  content = cut s start size

  pub dots_one : size ≡ 1 → eqb (get_or s start 0) 46 ≡ dotted content
  dots_one e = by_byte (eqb (get_or s start 0) 46) ∙ sym one
    where
      one : dotted content ≡ (eqb (get_or s start 0) 46 && true) || (eqb (get_or s start 0) 46 && false)
      one = ap dotted (cut_first s start 0 size e (omega arith)) ∙ unfold cut same in refl

      by_byte : (b : Bool) → b ≡ (b && true) || (b && false)
      by_byte true = refl
      by_byte false = refl

  pub dots_other : (size ≡ 1 → ⊥) → (size ≡ 2 → ⊥) → dotted content ≡ false
  dots_other h g = rw (same_ne content dot (λ e. h (sym (cut_length s start size inside) ∙ ap length e)), same_ne content dots (λ e. g (sym (cut_length s start size inside) ∙ ap length e))) refl

  module _ (e : size ≡ 2) where
    two : dotted content ≡ (eqb (get_or s start 0) 46 && false) || (eqb (get_or s start 0) 46 && (eqb (get_or s (start + 1) 0) 46 && true))
    two =
        ap dotted (cut_first s start 1 size e (omega arith) ∙ ap (λ (l : List ℕ). get_or s start 0 ∷ l) (cut_first s (start + 1) 0 1 refl (omega arith)))
        ∙ unfold cut same in refl

    pub dots_first : (get_or s start 0 ≡ 46 → ⊥) → dotted content ≡ false
    dots_first h = two ∙ rw (ne_eqb (get_or s start 0) 46 h) refl

    pub dots_two : get_or s start 0 ≡ 46 → eqb (get_or s (start + 1) 0) 46 ≡ dotted content
    dots_two h = sym (two ∙ rw (eq-eqb (get_or s start 0) 46 h) (by_byte (eqb (get_or s (start + 1) 0) 46)))
      where
        by_byte : (b : Bool) → b && true ≡ b
        by_byte true = refl
        by_byte false = refl

  pub element_none : size ≡ 0 → element_right content ≡ false
  element_none e = rw e (unfold cut element_right in refl)

  module _ (h : size ≡ 0 → ⊥) where
    by_bytes : (e : List ℕ) → (length e ≡ 0 → ⊥) → element_right e ≡ not (same e dot) && not (same e dots) && without slash e && without 0 e
    unfolding element_right
    by_bytes [] h = absurd (h refl)
    by_bytes (c ∷ cs) h = refl

    elements_test : element_right content ≡ not (same content dot) && not (same content dots) && without slash content && without 0 content
    elements_test = by_bytes content (λ e. h (sym (cut_length s start size inside) ∙ e))

    pub element_dotted : dotted content ≡ true → element_right content ≡ false
    element_dotted e = elements_test ∙ one_of (same content dot) (same content dots) (without slash content) (without 0 content) e
      where
        one_of : (a b x y : Bool) → a || b ≡ true → not a && not b && x && y ≡ false
        one_of true b x y e = refl
        one_of false true x y e = refl
        one_of false false x y e = absurd (false≢true e)

    pub element_other : dotted content ≡ false → element_right content ≡ allowed content
    element_other e = elements_test ∙ none_of (same content dot) (same content dots) (without slash content) (without 0 content) e
      where
        none_of : (a b x y : Bool) → a || b ≡ false → not a && not b && x && y ≡ x && y
        none_of true b x y e = absurd (false≢true (sym e))
        none_of false true x y e = absurd (false≢true (sym e))
        none_of false false x y e = refl

-- ---- tokens

-- a key lies in the bytes
pub key_inside : (s : List ℕ) (at a b : ℕ) → read_string at (drop at s) ≡ part a b → (a ≤ b) × (a + (b - a) ≤ length s)
key_inside s at a b e = let p = string_ends at s a b e in let x = p.1 in let y = p.2 in (x, omega arith)

module _ (s : List ℕ) (i : ℕ) where
  pub ends_none : length s ≤ i → ends_here (drop i s) ≡ false
  unfolding ends_here
  ends_none h = rw (drop_end s i h) refl

  pub ends_byte : i < length s → ends_here (drop i s) ≡ eqb (get_or s i 0) letter_e
  unfolding ends_here
  ends_byte h = rw (drop_step s i h) refl

module _ (s : List ℕ) (a b n r at : ℕ) where
  pub past_wrong : (w : Result ℕ Amiss) → walk_value max_levels at (drop at s) ≡ w → past_file s a b n r at ≡ behind_file s a b n r w
  unfolding past_file
  past_wrong w e = ap (behind_file s a b n r) e

  pub past_end : (k : ℕ) → walk_value max_levels at (drop at s) ≡ Ok k → ends_here (drop k s) ≡ true → past_file s a b n r at ≡ leaf_token a b n r (k + 1)
  past_end k e h = past_wrong (Ok k) e ∙ rw h refl

  pub past_more : (k : ℕ) → walk_value max_levels at (drop at s) ≡ Ok k → ends_here (drop k s) ≡ false → past_file s a b n r at ≡ None
  past_more k e h = past_wrong (Ok k) e ∙ rw h refl

pub token_file : (s : List ℕ) (a b at : ℕ) (w : Option File) → file_at s at ≡ w → file_token s a b at ≡ with_file s a b at w
unfolding file_token
token_file s a b at w e = ap (with_file s a b at) e

module _ (s : List ℕ) (a b : ℕ) (k : Option Part) (x y : ℕ) where
  pub key_empty : k ≡ part x y → x ≡ y → first_key s a b k ≡ file_token s a b y
  key_empty e h = ap (first_key s a b) e ∙ simp (eq-eqb x y h)

  pub key_full : k ≡ part x y → (x ≡ y → ⊥) → first_key s a b k ≡ opened_token a b
  key_full e h = ap (first_key s a b) e ∙ simp (ne_eqb x y h)

module _ (s : List ℕ) (a b : ℕ) where
  pub node_other : is_dictionary (drop b s) ≡ false → node_token s a b ≡ None
  unfolding node_token
  node_other e = rw e refl

  pub node_empty : is_dictionary (drop b s) ≡ true → ends_here (drop (b + 1) s) ≡ true → node_token s a b ≡ None
  unfolding node_token
  node_empty e f = rw (e, f) refl

  pub node_full : is_dictionary (drop b s) ≡ true → ends_here (drop (b + 1) s) ≡ false → node_token s a b ≡ first_key s a b (read_string (b + 1) (drop (b + 1) s))
  unfolding node_token
  node_full e f = rw (e, f) refl

module _ (s : List ℕ) (at : ℕ) where
  pub token_closed : ends_here (drop at s) ≡ true → token_at s at ≡ closed_token
  unfolding token_at
  token_closed e = rw e refl

  pub token_key : ends_here (drop at s) ≡ false → (k : Option Part) → read_string at (drop at s) ≡ k → token_at s at ≡ key_token s k
  unfolding token_at
  token_key e k f = rw e (ap (key_token s) f)

  module _ (e : ends_here (drop at s) ≡ false) (a b : ℕ) (f : read_string at (drop at s) ≡ part a b) where
    pub token_other : element_right (cut s a (b - a)) ≡ false → token_at s at ≡ None
    token_other h = token_key e (part a b) f ∙ rw h refl

    pub token_node : element_right (cut s a (b - a)) ≡ true → token_at s at ≡ node_token s a b
    token_node h = token_key e (part a b) f ∙ rw h refl
