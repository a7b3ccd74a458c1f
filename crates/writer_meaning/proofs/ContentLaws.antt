-- What the tests of a content leave: each file can be written, and no two meet.
-- Assumes nothing.
use Rattle.std.specs.Prelude.{◌≡◌, Bool, true, cond, ◌&&◌, ◌||◌, not, List, [], ◌∷◌, ℕ, ◌≤◌, length, eqb, ltb}
use Rattle.std.proofs.Math.Path.{refl}
use Rattle.std.proofs.Common.{sym, eqb-true, ltb-false, le-leb, eq-eqb}
use Rattle.std.proofs.Math.Bool.{false}
use Rattle.std.proofs.lemmas.Bool.{false≢true, not-false}
use Rattle.limits.specs.Limits.{longest_file}
use Rattle.octets.specs.Octets.{same, zero_hash}
use Rattle.octets.specs.OctetsLaws.{same_true}
use Rattle.bencode.specs.Grammar.{integer, string, dictionary, no_entries, entry}
use Rattle.bencode.specs.Parts.{present, lookup}
use Rattle.meaning.specs.Keys.{key_length, key_pieces_root}
use Rattle.meaning.specs.Torrent.{element_right, file_right, File, file_value, entries_of}
use Rattle.writer_meaning.specs.Content.{Item, properties}
use Rattle.writer_meaning.specs.Number.{some, begins, no_elements, wrong_item, one_path, meet}
use Rattle.writer_meaning.proofs.SomeLaws.{or_none}
use Rattle.writer_meaning.proofs.TreeLaws.{AllRight, PathRight, ItemRight, Apart, ApartFrom, file_written}

-- a file as the reader gives it
abbrev pub file_of_item : Item → File
file_of_item x = record { size = x.size; root = x.root; path = x.path }

all_right : (p : List (List ℕ)) → some (λ (e : List ℕ). not (element_right e)) p ≡ false → AllRight p
unfolding some AllRight
all_right [] h = tt
all_right (e ∷ p) h = let n = or_none (not (element_right e)) (some (λ (f : List ℕ). not (element_right f)) p) h in (not-false (element_right e) n.0, all_right p n.1)

path_right : (p : List (List ℕ)) → no_elements p ≡ false → AllRight p → PathRight p
path_right [] h a = absurd (false≢true (sym h))
path_right (e ∷ p) h a = unfold PathRight in a

-- what is left of the four tests
pub record ItemPassed (x : Item) : Type 0 where
  pub elements : PathRight x.path
  pub in_range : x.size ≤ longest_file
  pub no_root : x.size ≡ 0 → x.root ≡ zero_hash

and_not : (a b : Bool) → a && not b ≡ false → a ≡ true → b ≡ true
and_not true true h e = refl
and_not true false h e = absurd (false≢true (sym h))
and_not false b h e = absurd (false≢true e)

pub passed : (x : Item) → wrong_item x ≡ false → ItemPassed x
passed x h =
    let a = no_elements x.path in
    let b = some (λ (e : List ℕ). not (element_right e)) x.path in
    let c = ltb longest_file x.size in
    let d = eqb x.size 0 && not (same x.root zero_hash) in
    let p = or_none (a || b || c) d h in
    let q = or_none (a || b) c p.0 in
    let r = or_none a b q.0 in
    record {
      elements = path_right x.path r.0 (all_right x.path r.1);
      in_range = ltb-false longest_file x.size q.1;
      no_root = λ z. same_true x.root zero_hash (and_not (eqb x.size 0) (same x.root zero_hash) p.1 (eq-eqb x.size 0 z));
    }

-- its properties are right, and say what it is
pub properties_right : (x : Item) → x.size ≤ longest_file → length x.root ≡ 32 → file_right (properties x) ≡ true
properties_right x h e = by_size (eqb x.size 0) refl
  where
    by_size : (t : Bool) → eqb x.size 0 ≡ t
        → file_right (cond t (dictionary (entry key_length (integer false x.size) no_entries)) (dictionary (entry key_length (integer false x.size) (entry key_pieces_root (string x.root) no_entries)))) ≡ true
    by_size true q = unfold file_right in unfold lookup in unfold same in rw (q, le-leb x.size longest_file h) refl
    by_size false q = unfold file_right in unfold lookup in unfold same in rw (q, le-leb x.size longest_file h, eq-eqb (length x.root) 32 e) refl

pub written_is : (x : Item) → (x.size ≡ 0 → x.root ≡ zero_hash) → file_written x ≡ file_of_item x
written_is x h = by_size (eqb x.size 0) refl
  where
    by_size : (t : Bool) → eqb x.size 0 ≡ t
        → file_value x.path (entries_of (present (cond t (dictionary (entry key_length (integer false x.size) no_entries)) (dictionary (entry key_length (integer false x.size) (entry key_pieces_root (string x.root) no_entries))))))
        ≡ file_of_item x
    by_size true q = unfold lookup in unfold same in rw (h (eqb-true x.size 0 q)) refl
    by_size false q = unfold lookup in unfold same in refl

pub item_right : (x : Item) → ItemPassed x → length x.root ≡ 32 → ItemRight x
item_right x p e = record { path_right = p.elements; file_right_lem = properties_right x p.in_range e }

-- ---- no two meet

apart_from : (x : Item) (xs : List Item) → some (one_path x) xs ≡ false → meet xs ≡ false → ApartFrom x.path xs
unfolding some meet ApartFrom
apart_from x [] h m = tt
apart_from x (y ∷ ys) h m =
    let a = or_none (one_path x y) (some (one_path x) ys) h in
    let b = or_none (begins x.path y.path) (begins y.path x.path) a.0 in
    let c = or_none (some (one_path y) ys) (meet ys) m in
    (b.0, b.1, apart_from y ys c.0 c.1)

pub apart_files : (xs : List Item) → meet xs ≡ false → Apart xs
unfolding meet Apart
apart_files [] m = tt
apart_files (x ∷ xs) m = let c = or_none (some (one_path x) xs) (meet xs) m in apart_from x xs c.0 c.1
