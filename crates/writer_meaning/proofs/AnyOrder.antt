-- Two lists with the same files, in whatever order, get the same number and the same torrent.
-- Assumes nothing.
use Rattle.std.specs.Prelude.{◌≡◌, Bool, true, false, ◌||◌, ◌&&◌, not, List, [], ◌∷◌, ◌++◌, ℕ, suc, ◌+◌, length, eqb}
use Rattle.std.proofs.Math.Path.{refl}
use Rattle.std.proofs.Common.{sym, ap, ap₂, ◌∙◌, inl, inr, arith, length-append}
use Rattle.std.proofs.Math.Bool.{or_comm}
use Rattle.std.proofs.lemmas.Bool.{false≢true}
use Rattle.octets.specs.Octets.{same}
use Rattle.octets.specs.OctetsLaws.{same_refl}
use Rattle.bencode.specs.Grammar.{letter_d, integer, string, dictionary, Entries, no_entries, entry, encode_string, encode, encode_entries}
use Rattle.meaning.specs.Counting.{Member}
use Rattle.meaning.specs.Keys.{key_info, key_file_tree, key_piece_length, key_meta_version, key_piece_layers}
use Rattle.sorting.specs.SortedBy.{sorted_by, Permuted, none, keep, swap, then}
use Rattle.sorting.specs.PermutedLaws.{permuted_self}
use Rattle.sorting.specs.SortedByLaws.{sorted_same}
use Rattle.writer_meaning.specs.Content.{Item, item_before, in_tree_order, layer_before, with_layer, layers_given, layers_of_all, tree_of_all, key_name, info_written, torrent_of}
use Rattle.writer_meaning.specs.Number.{some, begins, too_deep, wrong_item, one_path, meet, nothing, one_root, misfit, gives_other, content_number}
use Rattle.writer_meaning.proofs.SomeLaws.{or_none, none_passes, some_permuted, pair_permuted}
use Rattle.writer_meaning.proofs.OrderLaws.{path_either, path_one_way, path_behind, layer_either, layer_one_way, layer_behind}
use Rattle.writer_meaning.proofs.SizeLaws.{tree_size_any_order}

-- ---- the layers

pub given_permuted : (xs ys : List Item) → Permuted xs ys → Permuted (layers_given xs) (layers_given ys)
unfolding layers_given
given_permuted xs ys none = none
given_permuted xs ys (keep x {xs = us} {ys = vs} p) = by_layer x.layer (given_permuted us vs p)
  where
    by_layer : (l : List ℕ) → Permuted (layers_given us) (layers_given vs) → Permuted (with_layer x l (layers_given us)) (with_layer x l (layers_given vs))
    by_layer [] q = q
    by_layer (b ∷ bs) q = keep (x.root, b ∷ bs) q
given_permuted xs ys (swap x y zs) = by_layers x.layer y.layer
  where
    by_layers : (l m : List ℕ) → Permuted (with_layer x l (with_layer y m (layers_given zs))) (with_layer y m (with_layer x l (layers_given zs)))
    by_layers [] m = permuted_self (with_layer y m (layers_given zs))
    by_layers (b ∷ bs) [] = permuted_self ((x.root, b ∷ bs) ∷ layers_given zs)
    by_layers (b ∷ bs) (c ∷ cs) = swap (x.root, b ∷ bs) (y.root, c ∷ cs) (layers_given zs)
given_permuted xs ys (then {ys = ms} p q) = then (given_permuted xs ms p) (given_permuted ms ys q)

abbrev pub layers_written : List Item → Entries
layers_written xs = layers_of_all (sorted_by layer_before (layers_given xs))

pub layers_any_order : (xs ys : List Item) → Permuted xs ys → layers_written xs ≡ layers_written ys
layers_any_order xs ys p =
    ap layers_of_all (sorted_same layer_before layer_one_way layer_behind (layers_given xs) (layers_given ys) (given_permuted xs ys p) (λ a b m n. layer_either a b))

-- ---- the size

-- the tree's bytes count for themselves
frame_length : (plen : ℕ) (name : List ℕ) (t u ls : Entries) → length (encode (dictionary t)) ≡ length (encode (dictionary u))
    → length (encode (dictionary (entry key_info (dictionary (info_written plen name t)) (entry key_piece_layers (dictionary ls) no_entries))))
    ≡ length (encode (dictionary (entry key_info (dictionary (info_written plen name u)) (entry key_piece_layers (dictionary ls) no_entries))))
frame_length plen name t u ls e = rw (whole t, whole u) (ap suc (omega (arith, inside)))
  where
    rest : List ℕ
    rest = encode_entries (entry key_piece_layers (dictionary ls) no_entries)

    behind : List ℕ
    behind = encode_entries (entry key_meta_version (integer false 2) (entry key_name (string name) (entry key_piece_length (integer false plen) no_entries)))

    info : Entries → List ℕ
    info es = letter_d ∷ (encode_string key_file_tree ++ (encode (dictionary es) ++ behind))

    whole : (es : Entries) → encode (dictionary (entry key_info (dictionary (info_written plen name es)) (entry key_piece_layers (dictionary ls) no_entries))) ≡ letter_d ∷ (encode_string key_info ++ (info es ++ rest))
    whole es = unfold encode in refl

    info_length : (es : Entries) → length (info es) ≡ suc (length (encode_string key_file_tree) + (length (encode (dictionary es)) + length behind))
    info_length es = ap suc (length-append (encode_string key_file_tree) (encode (dictionary es) ++ behind) ∙ ap (λ (n : ℕ). length (encode_string key_file_tree) + n) (length-append (encode (dictionary es)) behind))

    around : (es : Entries) → length (encode_string key_info ++ (info es ++ rest)) ≡ length (encode_string key_info) + (length (info es) + length rest)
    around es = length-append (encode_string key_info) (info es ++ rest) ∙ ap (λ (n : ℕ). length (encode_string key_info) + n) (length-append (info es) rest)

    inside : length (encode_string key_info ++ (info t ++ rest)) ≡ length (encode_string key_info ++ (info u ++ rest))
    inside = around t ∙ ap (λ (n : ℕ). length (encode_string key_info) + (n + length rest)) (info_length t ∙ ap (λ (n : ℕ). suc (length (encode_string key_file_tree) + (n + length behind))) e ∙ sym (info_length u)) ∙ sym (around u)

pub size_any_order : (plen : ℕ) (name : List ℕ) (xs ys : List Item) → Permuted xs ys
    → length (encode (dictionary (torrent_of plen name xs))) ≡ length (encode (dictionary (torrent_of plen name ys)))
unfolding torrent_of
size_any_order plen name xs ys p =
    rw (layers_any_order xs ys p)
    (frame_length plen name (tree_of_all (in_tree_order xs)) (tree_of_all (in_tree_order ys)) (layers_written ys) (tree_size_any_order xs ys p))

-- ---- the tests

or_four : (a b c d : Bool) → (a || b) || (c || d) ≡ (a || c) || (b || d)
or_four true b c d = refl
or_four false true true d = refl
or_four false true false d = refl
or_four false false c d = refl

pub meet_permuted : (xs ys : List Item) → Permuted xs ys → meet xs ≡ meet ys
unfolding meet some
meet_permuted xs ys none = refl
meet_permuted xs ys (keep x {xs = us} {ys = vs} p) = ap₂ (λ (a b : Bool). a || b) (some_permuted (one_path x) us vs p) (meet_permuted us vs p)
meet_permuted xs ys (swap x y zs) =
    ap (λ (a : Bool). (a || some (one_path x) zs) || (some (one_path y) zs || meet zs)) (or_comm (begins x.path y.path) (begins y.path x.path))
    ∙ or_four (one_path y x) (some (one_path x) zs) (some (one_path y) zs) (meet zs)
meet_permuted xs ys (then {ys = ms} p q) = meet_permuted xs ms p ∙ meet_permuted ms ys q

nothing_permuted : (xs ys : List Item) → Permuted xs ys → nothing xs ≡ nothing ys
nothing_permuted xs ys none = refl
nothing_permuted xs ys (keep x p) = refl
nothing_permuted xs ys (swap x y zs) = refl
nothing_permuted xs ys (then {ys = ms} p q) = nothing_permuted xs ms p ∙ nothing_permuted ms ys q

-- ---- the two theorems

pub number_any_order : (plen : ℕ) (name : List ℕ) (xs ys : List Item) → Permuted xs ys → content_number plen name xs ≡ content_number plen name ys
unfolding content_number
number_any_order plen name xs ys p =
    rw (
      size_any_order plen name xs ys p,
      some_permuted too_deep xs ys p,
      nothing_permuted xs ys p,
      some_permuted wrong_item xs ys p,
      meet_permuted xs ys p,
      pair_permuted (λ (x y : Item). one_root x y && not (eqb x.size y.size)) xs ys p,
      some_permuted (misfit plen) xs ys p,
      some_permuted (gives_other plen) xs ys p,
      pair_permuted (λ (x y : Item). one_root x y && not (same x.layer y.layer)) xs ys p,
    ) refl

-- a path begins itself
pub begins_self : (p : List (List ℕ)) → begins p p ≡ true
unfolding begins
begins_self [] = refl
begins_self (e ∷ p) = rw (same_refl e) (begins_self p)

-- none of files that do not meet a path has it
apart_from : (w : Item) (us : List Item) (v : Item) → some (one_path w) us ≡ false → Member v us → w.path ≡ v.path → ⊥
apart_from w us v f k s =
    let t = (or_none (begins w.path v.path) (begins v.path w.path) (none_passes (one_path w) us v f k)).0 in
    false≢true (sym t ∙ ap (begins w.path) (sym s) ∙ begins_self w.path)

-- of files whose paths do not meet, two with one path are one
pub one_file : (xs : List Item) (x y : Item) → meet xs ≡ false → Member x xs → Member y xs → x.path ≡ y.path → x ≡ y
unfolding meet Member
one_file [] x y e m n q = absurd m
one_file (z ∷ zs) x y e (inl a) (inl b) q = a ∙ sym b
one_file (z ∷ zs) x y e (inl a) (inr n) q = absurd (apart_from z zs y (or_none (some (one_path z) zs) (meet zs) e).0 n (ap (λ (w : Item). w.path) (sym a) ∙ q))
one_file (z ∷ zs) x y e (inr m) (inl b) q = absurd (apart_from z zs x (or_none (some (one_path z) zs) (meet zs) e).0 m (ap (λ (w : Item). w.path) (sym b) ∙ sym q))
one_file (z ∷ zs) x y e (inr m) (inr n) q = one_file zs x y (or_none (some (one_path z) zs) (meet zs) e).1 m n q

pub files_any_order : (xs ys : List Item) → Permuted xs ys → meet xs ≡ false → in_tree_order xs ≡ in_tree_order ys
files_any_order xs ys p e =
    sorted_same item_before (λ x y. path_one_way x.path y.path) (λ x y z. path_behind x.path y.path z.path) xs ys p
    (λ a b m n f g. one_file xs a b e m n (path_either a.path b.path f g))

pub torrent_any_order : (plen : ℕ) (name : List ℕ) (xs ys : List Item) → Permuted xs ys → meet xs ≡ false → torrent_of plen name xs ≡ torrent_of plen name ys
unfolding torrent_of
torrent_any_order plen name xs ys p e = rw (files_any_order xs ys p e, layers_any_order xs ys p) refl
