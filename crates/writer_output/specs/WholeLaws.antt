-- The two parts are the torrent's encoding; more files than `most_files` make it too large.
-- Assumes nothing.
use Rattle.std.specs.Prelude.{◌≡◌, true, false, ℕ, ◌+◌, ◌-◌, ◌*◌, ◌≤◌, ◌<◌, length, drop, List, [], ◌∷◌, ◌++◌}
use Rattle.std.proofs.Math.Path.{refl, sym, ap}
use Rattle.std.proofs.Common.{ap₂, ◌∙◌, arith, length-append, lt-ltb, append_assoc}
use Rattle.limits.specs.Limits.{largest_torrent}
use Rattle.bencode.specs.Grammar.{letter_d, letter_e, letter_i, decimal, decimal_in, encode_string, dictionary, Entries, no_entries, entry, encode, encode_entries}
use Rattle.bencode.specs.Grammar as G
use Rattle.bencode.specs.CompleteLaws.{decimal_some}
use Rattle.meaning.specs.Keys.{key_info, key_file_tree, key_piece_length, key_meta_version, key_piece_layers}
use Rattle.sorting.specs.SortedBy.{sorted_by, Permuted, then}
use Rattle.sorting.specs.PermutedLaws.{permuted_back, permuted_length}
use Rattle.sorting.specs.SortedByLaws.{sorted_ordered, sorted_permuted, sorted_stays}
use Rattle.writer_meaning.specs.Content.{Item, layer_before, item_before, in_tree_order, properties, tree_of_all, Layer, layers_given, layers_of_all, key_name, info_written, torrent_of}
use Rattle.writer_meaning.specs.Number.{meet, too_large}
use Rattle.writer_meaning.proofs.AnyOrder.{layers_written, given_permuted, layers_any_order, size_any_order, torrent_any_order}
use Rattle.writer_meaning.specs.Written.{shared, opened, closed, file_bytes, tree_bytes}
use Rattle.writer_meaning.proofs.WrittenLaws.{tree_encoded}
use Rattle.writer_meaning.proofs.SizeLaws.{rising, in_order}
use Rattle.writer_order.specs.Order.{root_before, most_files}
use Rattle.writer_order.specs.ClashLaws.{root_one_way, root_behind, given_ordered}
use Rattle.writer_output.specs.Put.{Put}
use Rattle.writer_output.specs.PutLaws.{put_append, put_three, string_length}
use Rattle.writer_output.specs.Layers.{layers_bytes}
use Rattle.writer_output.specs.LayersLaws.{layers_encoded}
use Rattle.writer_output.specs.FilesLaws.{properties_least}
use Rattle.writer_output.specs.Whole.{word_tree, word_name, word_plen, word_layers, info_bytes, rest_bytes}

-- ---- layers of files by root are by root

pub layers_by_root : (xs : List Item) → layers_written xs ≡ layers_of_all (layers_given (sorted_by root_before xs))
layers_by_root xs =
    layers_any_order xs (sorted_by root_before xs) (sorted_permuted root_before xs)
    ∙ ap layers_of_all (sorted_stays layer_before (layers_given (sorted_by root_before xs))
    (given_ordered (sorted_by root_before xs) (sorted_ordered root_before root_one_way root_behind xs)))

-- ---- the whole

key_info_lem : encode_string key_info ≡ 52 ∷ 58 ∷ key_info
unfolding decimal_in
key_info_lem = refl

key_tree : encode_string key_file_tree ≡ 57 ∷ 58 ∷ key_file_tree
unfolding decimal_in
key_tree = refl

key_version : encode_string key_meta_version ≡ 49 ∷ 50 ∷ 58 ∷ key_meta_version
unfolding decimal_in
key_version = refl

version_two : decimal 2 ≡ 50 ∷ []
unfolding decimal_in
version_two = refl

key_name_lem : encode_string key_name ≡ 52 ∷ 58 ∷ key_name
unfolding decimal_in
key_name_lem = refl

key_plen : encode_string key_piece_length ≡ 49 ∷ 50 ∷ 58 ∷ key_piece_length
unfolding decimal_in
key_plen = refl

key_layers : encode_string key_piece_layers ≡ 49 ∷ 50 ∷ 58 ∷ key_piece_layers
unfolding decimal_in
key_layers = refl

-- the parts, whatever stands in them
moved : (t w n v d a b x z : List ℕ)
    → (t ++ (w ++ (n ++ (v ++ ((d ++ a) ++ b))))) ++ (x ++ z) ≡ (t ++ (w ++ (n ++ (v ++ (d ++ (a ++ (b ++ x))))))) ++ z
moved t w n v d a b x z = simp append_assoc

assembled : (t n d l : List ℕ)
    → letter_d ∷ ((52 ∷ 58 ∷ key_info) ++ ((letter_d ∷
    ((57 ∷ 58 ∷ key_file_tree) ++ ((letter_d ∷ t) ++
    ((49 ∷ 50 ∷ 58 ∷ key_meta_version) ++ ((letter_i ∷ ((50 ∷ []) ++ letter_e ∷ [])) ++
    ((52 ∷ 58 ∷ key_name) ++ (n ++ ((49 ∷ 50 ∷ 58 ∷ key_piece_length) ++ ((letter_i ∷ (d ++ letter_e ∷ [])) ++ letter_e ∷ []))))))))) ++
    ((49 ∷ 50 ∷ 58 ∷ key_piece_layers) ++ ((letter_d ∷ l) ++ letter_e ∷ []))))
    ≡ (word_tree ++ (t ++ (word_name ++ (n ++ (word_plen ++ (d ++ word_layers)))))) ++ (l ++ letter_e ∷ [])
assembled t n d l =
    ap (λ (s : List ℕ). word_tree ++ s) (moved t word_name n word_plen d (letter_e ∷ []) (letter_e ∷ [])
    ((49 ∷ 50 ∷ 58 ∷ key_piece_layers) ++ letter_d ∷ []) (l ++ letter_e ∷ []))

torrent_assembled : (plen : ℕ) (name : List ℕ) (tree layers : Entries) (t l : List ℕ) → encode (dictionary tree) ≡ letter_d ∷ t
    → encode_entries layers ≡ l
    → encode (dictionary (entry key_info (dictionary (info_written plen name tree)) (entry key_piece_layers (dictionary layers) no_entries)))
    ≡ (word_tree ++ (t ++ (word_name ++ (encode_string name ++ (word_plen ++ (decimal plen ++ word_layers)))))) ++ (l ++ letter_e ∷ [])
torrent_assembled plen name tree layers t l e f = spread ∙ assembled t (encode_string name) (decimal plen) l
  where
    opened_up : encode (dictionary (entry key_info (dictionary (info_written plen name tree))
        (entry key_piece_layers (dictionary layers) no_entries)))
        ≡ letter_d ∷ (encode_string key_info ++ ((letter_d ∷
        (encode_string key_file_tree ++ (encode (dictionary tree) ++
        (encode_string key_meta_version ++ ((letter_i ∷ (decimal 2 ++ letter_e ∷ [])) ++
        (encode_string key_name ++ (encode_string name ++
        (encode_string key_piece_length ++ ((letter_i ∷ (decimal plen ++ letter_e ∷ [])) ++ letter_e ∷ []))))))))) ++
        (encode_string key_piece_layers ++ ((letter_d ∷ encode_entries layers) ++ letter_e ∷ []))))
    opened_up = unfold encode in refl

    spread : encode (dictionary (entry key_info (dictionary (info_written plen name tree))
        (entry key_piece_layers (dictionary layers) no_entries)))
        ≡ letter_d ∷ ((52 ∷ 58 ∷ key_info) ++ ((letter_d ∷
        ((57 ∷ 58 ∷ key_file_tree) ++ ((letter_d ∷ t) ++
        ((49 ∷ 50 ∷ 58 ∷ key_meta_version) ++ ((letter_i ∷ ((50 ∷ []) ++ letter_e ∷ [])) ++
        ((52 ∷ 58 ∷ key_name) ++ (encode_string name ++
        ((49 ∷ 50 ∷ 58 ∷ key_piece_length) ++ ((letter_i ∷ (decimal plen ++ letter_e ∷ [])) ++ letter_e ∷ []))))))))) ++
        ((49 ∷ 50 ∷ 58 ∷ key_piece_layers) ++ ((letter_d ∷ l) ++ letter_e ∷ []))))
    spread = opened_up ∙ rw (e, f, key_info_lem, key_tree, key_version, version_two, key_name_lem, key_plen, key_layers) refl

-- the torrent of a list is its two parts behind each other
pub torrent_parts : (plen : ℕ) (name : List ℕ) (xs : List Item)
    → encode (dictionary (torrent_of plen name xs)) ≡ info_bytes plen name (in_tree_order xs) ++ rest_bytes (sorted_by root_before xs)
unfolding torrent_of info_bytes rest_bytes
torrent_parts plen name xs =
    torrent_assembled plen name (tree_of_all (in_tree_order xs)) (layers_written xs) (tree_bytes [] (in_tree_order xs))
    (layers_bytes G.none (layers_given (sorted_by root_before xs)))
    (tree_encoded (in_tree_order xs) (rising (in_tree_order xs) (in_order xs)))
    (ap encode_entries (layers_by_root xs) ∙ sym (layers_encoded (layers_given (sorted_by root_before xs))))

pub torrent_length : (plen : ℕ) (name : List ℕ) (xs : List Item)
    → length (encode (dictionary (torrent_of plen name xs))) ≡ length (info_bytes plen name (in_tree_order xs)) + length
    (rest_bytes (sorted_by root_before xs))
torrent_length plen name xs =
    ap (λ (l : List ℕ). length l) (torrent_parts plen name xs) ∙ length-append (info_bytes plen name (in_tree_order xs))
    (rest_bytes (sorted_by root_before xs))

-- ---- 19

file_least : (p q : List (List ℕ)) (x : Item) → 15 ≤ length (file_bytes p q (properties x))
file_least p q x =
    let c = closed (length p - shared p q) in
    let o = opened (drop (shared p q) q) in
    let v = encode_string [] ++ encode (properties x) in
    let a = length-append c (o ++ v) in
    let b = length-append o v in
    let d = decimal_some x.size in
    let e = properties_least x.size x.root in
    omega arith

pub tree_least : (p : List (List ℕ)) (xs : List Item) → 15 * length xs ≤ length (tree_bytes p xs)
unfolding tree_bytes
tree_least p [] = omega arith
tree_least p (x ∷ xs) =
    let a = file_least p x.path x in
    let b = tree_least x.path xs in
    let c = length-append (file_bytes p x.path (properties x)) (tree_bytes x.path xs) in
    omega arith

info_least : (plen : ℕ) (name : List ℕ) (xs : List Item) → length (tree_bytes [] xs) ≤ length (info_bytes plen name xs)
unfolding info_bytes
info_least plen name xs =
    let t = tree_bytes [] xs in
    let r = word_name ++ (encode_string name ++ (word_plen ++ (decimal plen ++ word_layers))) in
    let a = length-append t r in
    let b = length-append word_tree (t ++ r) in
    omega arith

-- more files than that are too large, whatever they are
pub too_many : (plen : ℕ) (name : List ℕ) (xs : List Item) → most_files < length xs → too_large plen name xs ≡ true
too_many plen name xs h =
    let a = torrent_length plen name xs in
    let b = info_least plen name (in_tree_order xs) in
    let c = tree_least [] (in_tree_order xs) in
    let d = permuted_length xs (in_tree_order xs) (sorted_permuted item_before xs) in
    lt-ltb largest_torrent (length (encode (dictionary (torrent_of plen name xs)))) (omega arith)

-- ---- the parts, one behind the other

pub info_length : (plen : ℕ) (name : List ℕ) (xs : List Item)
    → length (info_bytes plen name xs) ≡ 20 +
    (length (tree_bytes [] xs) + (24 + (length (encode_string name) + (16 + (length (decimal plen) + 18)))))
unfolding info_bytes
info_length plen name xs =
    let t = tree_bytes [] xs in
    let n = encode_string name in
    let d = decimal plen in
    let a = length-append word_tree (t ++ (word_name ++ (n ++ (word_plen ++ (d ++ word_layers))))) in
    let b = length-append t (word_name ++ (n ++ (word_plen ++ (d ++ word_layers)))) in
    let c = length-append word_name (n ++ (word_plen ++ (d ++ word_layers))) in
    let e = length-append n (word_plen ++ (d ++ word_layers)) in
    let f = length-append word_plen (d ++ word_layers) in
    let g = length-append d word_layers in
    omega arith

-- there is room for all of them
pub info_room : (plen : ℕ) (name : List ℕ) (xs : List Item) (at n : ℕ) → at + length (info_bytes plen name xs) < n
    → at + (20 + (length (tree_bytes [] xs) + (24 + (length (encode_string name) + (16 + (length (decimal plen) + 18)))))) < n
info_room plen name xs at n h = omega (arith, info_length plen name xs)

module _ (plen : ℕ) (name : List ℕ) (xs : List Item) (s₀ s₁ s₂ s₃ s₄ s₅ s₆ s₇ : List ℕ) (a₀ a₁ a₂ a₃ a₄ a₅ a₆ a₇ : ℕ) where
  pub put_seven : Put s₀ a₀ word_tree s₁ a₁ → Put s₁ a₁ (tree_bytes [] xs) s₂ a₂ → Put s₂ a₂ word_name s₃ a₃
      → Put s₃ a₃ (encode_string name) s₄ a₄
      → Put s₄ a₄ word_plen s₅ a₅ → Put s₅ a₅ (decimal plen) s₆ a₆ → Put s₆ a₆ word_layers s₇ a₇
      → length s₁ ≡ length s₀ → length s₂ ≡ length s₁ → length s₃ ≡ length s₂ → length s₄ ≡ length s₃ → length s₅ ≡ length s₄
      → length s₆ ≡ length s₅
      → Put s₀ a₀ (info_bytes plen name xs) s₇ a₇
  unfolding info_bytes
  put_seven p₁ p₂ p₃ p₄ p₅ p₆ p₇ k₁ k₂ k₃ k₄ k₅ k₆ =
      put_three s₀ s₁ s₂ s₇ a₀ a₁ a₂ a₇ word_tree (tree_bytes [] xs)
      (word_name ++ (encode_string name ++ (word_plen ++ (decimal plen ++ word_layers)))) p₁ p₂
      (put_three s₂ s₃ s₄ s₇ a₂ a₃ a₄ a₇ word_name (encode_string name) (word_plen ++ (decimal plen ++ word_layers)) p₃ p₄
      (put_three s₄ s₅ s₆ s₇ a₄ a₅ a₆ a₇ word_plen (decimal plen) word_layers p₅ p₆ p₇ k₅ k₆) k₃ k₄) k₁ k₂

pub rest_length : (xs : List Item) → length (rest_bytes xs) ≡ length (layers_bytes G.none (layers_given xs)) + 1
unfolding rest_bytes
rest_length xs = length-append (layers_bytes G.none (layers_given xs)) (letter_e ∷ [])

pub put_both : (xs : List Item) (s t u : List ℕ) (at m r : ℕ) → Put s at (layers_bytes G.none (layers_given xs)) t m
    → Put t m (letter_e ∷ []) u r → length t ≡ length s → Put s at (rest_bytes xs) u r
unfolding rest_bytes
put_both xs s t u at m r p q k = put_append s t u at m r (layers_bytes G.none (layers_given xs)) (letter_e ∷ []) p q k

-- ---- the second part without layers

given_none : (ls : List Layer) → length (layers_bytes G.none ls) ≡ 1 → ls ≡ []
unfolding layers_bytes
given_none [] e = refl
given_none (l ∷ ls) e =
    let a = length-append (encode_string l.0 ++ encode_string l.1) (layers_bytes (G.after l.0) ls) in
    let b = length-append (encode_string l.0) (encode_string l.1) in
    let w : ⊥ = omega (arith, string_length l.0, string_length l.1) in
    absurd w

none_given : (ls : List Layer) → length ls ≡ 0 → ls ≡ []
none_given [] e = refl
none_given (l ∷ ls) e = absurd (omega arith)

-- it has two bytes then, and the order does not matter
pub rest_any_order : (xs ys : List Item) → Permuted xs ys → length (rest_bytes xs) ≡ 2 → rest_bytes xs ≡ rest_bytes ys
unfolding rest_bytes
rest_any_order xs ys p e = rw (no_layers, none_given (layers_given ys) as_few) refl
  where
    no_layers : layers_given xs ≡ []
    no_layers = given_none (layers_given xs) (omega (arith, rest_length xs))

    as_few : length (layers_given ys) ≡ 0
    as_few =
        sym (permuted_length (layers_given xs) (layers_given ys) (given_permuted xs ys p)) ∙ ap (λ (l : List Layer). length l) no_layers

-- ---- of files that stand in the two orders: trees are zs, by root are ys

module _ (plen : ℕ) (name : List ℕ) (xs zs ys : List Item) (p : Permuted xs zs) (o : in_tree_order zs ≡ zs) (q : Permuted xs ys)
    (r : sorted_by root_before ys ≡ ys) where
  rest_there : rest_bytes (sorted_by root_before zs) ≡ rest_bytes ys
  unfolding rest_bytes
  rest_there =
      ap (λ (l : List ℕ). l ++ letter_e ∷ []) (layers_encoded (layers_given (sorted_by root_before zs)) ∙ ap encode_entries same_layers ∙ sym
      (layers_encoded (layers_given ys)))
    where
      same_layers : layers_of_all (layers_given (sorted_by root_before zs)) ≡ layers_of_all (layers_given ys)
      same_layers =
          sym (layers_by_root zs) ∙ layers_any_order zs ys (then (permuted_back xs zs p) q) ∙ layers_by_root ys
          ∙ ap (λ (l : List Item). layers_of_all (layers_given l)) r

  parts_there : encode (dictionary (torrent_of plen name zs)) ≡ info_bytes plen name zs ++ rest_bytes ys
  parts_there = torrent_parts plen name zs ∙ ap₂ (λ (a b : List ℕ). a ++ b) (ap (info_bytes plen name) o) rest_there

  -- the size, also of a list that is refused
  pub size_there : length (encode (dictionary (torrent_of plen name xs))) ≡ length (info_bytes plen name zs) + length (rest_bytes ys)
  size_there =
      size_any_order plen name xs zs p ∙ ap (λ (l : List ℕ). length l) parts_there ∙ length-append (info_bytes plen name zs) (rest_bytes ys)

  -- the bytes, where no two files meet
  pub torrent_there : meet xs ≡ false → encode (dictionary (torrent_of plen name xs)) ≡ info_bytes plen name zs ++ rest_bytes ys
  torrent_there m = ap (λ (t : Entries). encode (dictionary t)) (torrent_any_order plen name xs zs p m) ∙ parts_there
