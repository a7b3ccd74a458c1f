-- Each test of a content says what its number says.
-- Assumes nothing.
use Rattle.std.specs.Prelude.{◌≡◌, refl, Bool, true, ◌&&◌, ◌||◌, not, ◌↔◌, eqb, ltb, List, [], ◌∷◌, ◌++◌, ℕ, zero, suc, ◌+◌, ◌*◌}
use Rattle.std.proofs.Common.{sym, ap, ap₂, ◌∙◌, inl, arith, eqb-true, eq-eqb, ne_eqb, ltb-true, ltb-false, lt-ltb, le-ltb}
use Rattle.std.proofs.Math.Bool.{false, and-eq-true_iff}
use Rattle.std.proofs.lemmas.Bool.{false≢true, not-true, eqb-false}
use Rattle.std.proofs.Math.Logic.{inr}
use Rattle.std.proofs.Math.ListN.{length}
use Rattle.numbers.specs.Tests.{or_one}
use Rattle.limits.specs.Limits.{largest_torrent, longest_file, max_levels}
use Rattle.octets.specs.Octets.{same, zero_hash}
use Rattle.octets.specs.OctetsLaws.{same_true, same_refl, same_false, same_eq, same_ne}
use Rattle.tree.specs.Geometry.{block_count, height, piece_layer, piece_count, has_layer}
use Rattle.tree.specs.Values.{layer_root}
use Rattle.bencode.specs.Grammar.{dictionary, encode}
use Rattle.meaning.specs.Counting.{Member}
use Rattle.meaning.specs.Nth.{Nth}
use Rattle.meaning.specs.Torrent.{element_right}
use Rattle.writer_meaning.specs.Content.{Item, torrent_of}
use Rattle.writer_meaning.specs.Number.{some, begins, too_large, too_deep, no_elements, wrong_item, one_path, meet, nothing, one_root, lengths_clash, layer_size, misfit, gives_other, two_layers}
use Rattle.writer_meaning.proofs.SomeLaws.{or_left, or_right, some_there, some_one}
use Rattle.writer_meaning.specs.Refused.{TooLarge, TooDeep, WrongFiles, no_file, no_element, wrong_element, too_long, empty_with_root, one_path_lem, OneRoot, TwoLengths, WrongLayers, wrong_size, not_wanted, LayersDiffer, other_root_lem, two_layers_lem}

-- ---- 19, 21

pub too_large_lem : (plen : ℕ) (name : List ℕ) (xs : List Item) → (too_large plen name xs ≡ true) ↔ TooLarge plen name xs
too_large_lem plen name xs = (ltb-true largest_torrent (length (encode (dictionary (torrent_of plen name xs)))), lt-ltb largest_torrent (length (encode (dictionary (torrent_of plen name xs)))))

pub too_deep_lem : (xs : List Item) → (some too_deep xs ≡ true) ↔ TooDeep xs
too_deep_lem xs = (
  (λ e. let w = some_one too_deep xs e in (w.0, w.1, ltb-true max_levels (length w.0.path + 4) w.2)),
  λ w. some_there too_deep xs w.0 w.1 (lt-ltb max_levels (length w.0.path + 4) w.2),
)

-- ---- 25

-- a path that another begins with
begins_rest : (p q : List (List ℕ)) → begins p q ≡ true → (rest : List (List ℕ)) × (q ≡ p ++ rest)
unfolding begins
begins_rest [] q e = (q, refl)
begins_rest (x ∷ p) [] e = absurd (false≢true e)
begins_rest (x ∷ p) (y ∷ q) e =
    let w = (and-eq-true_iff (same x y) (begins p q)).0 e in
    let r = begins_rest p q w.1 in
    (r.0, ap₂ (λ (a : List ℕ) (l : List (List ℕ)). a ∷ l) (sym (same_true x y w.0)) r.1)

rest_begins : (p rest : List (List ℕ)) → begins p (p ++ rest) ≡ true
unfolding begins
rest_begins [] rest = refl
rest_begins (x ∷ p) rest = rw (same_refl x) (rest_begins p rest)

pub nth_of : {A : Type 0} (xs : List A) (x : A) → Member x xs → (n : ℕ) × Nth xs n x
unfolding Member Nth
nth_of [] x m = absurd m
nth_of (y ∷ ys) x (inl e) = (0, e)
nth_of (y ∷ ys) x (inr m) = let w = nth_of ys x m in (suc w.0, w.1)

of_nth : {A : Type 0} (xs : List A) (n : ℕ) (x : A) → Nth xs n x → Member x xs
unfolding Member Nth
of_nth [] n x q = absurd q
of_nth (y ∷ ys) zero x q = inl q
of_nth (y ∷ ys) (suc n) x q = inr (of_nth ys n x q)

-- two files at two places, of which one's path leads to, or through, where the other's ends
abbrev pub Meeting : List Item → Type 0
Meeting xs = (i : ℕ) × (j : ℕ) × (x : Item) × (y : Item) × Nth xs i x × Nth xs j y × (i ≡ j → ⊥) × (rest : List (List ℕ)) × (y.path ≡ x.path ++ rest)

meeting : (xs : List Item) → meet xs ≡ true → Meeting xs
unfolding meet Nth
meeting [] e = absurd (false≢true e)
meeting (x ∷ xs) e = elim (or_one (some (one_path x) xs) (meet xs) e) [
  | inl p ↦ first (some_one (one_path x) xs p)
  | inr q ↦ let w = meeting xs q in (suc w.0, suc w.1, w.2, w.3, w.4, w.5, (λ z. w.6 (omega arith)), w.7, w.8)
]
  where
    first : ((y : Item) × Member y xs × (one_path x y ≡ true)) → Meeting (x ∷ xs)
    first w = elim (or_one (begins x.path w.0.path) (begins w.0.path x.path) w.2) [
      | inl p ↦ let n = nth_of xs w.0 w.1 in let r = begins_rest x.path w.0.path p in (0, suc n.0, x, w.0, (unfold Nth in refl), (unfold Nth in n.1), (λ z. omega arith), r.0, r.1)
      | inr q ↦ let n = nth_of xs w.0 w.1 in let r = begins_rest w.0.path x.path q in (suc n.0, 0, w.0, x, (unfold Nth in n.1), (unfold Nth in refl), (λ z. omega arith), r.0, r.1)
    ]

pub meets : (xs : List Item) → Meeting xs → meet xs ≡ true
unfolding meet Nth
meets [] w = absurd w.4
meets (u ∷ us) w = by_places w.0 w.1 w.4 w.5 w.6 (meets us)
  where
    x : Item
    x = w.2

    y : Item
    y = w.3

    leads : begins x.path y.path ≡ true
    leads = ap (begins x.path) w.8 ∙ rest_begins x.path w.7

    by_places : (i j : ℕ) → Nth (u ∷ us) i x → Nth (u ∷ us) j y → (i ≡ j → ⊥) → (Meeting us → meet us ≡ true) → some (one_path u) us || meet us ≡ true
    by_places zero zero a b d more = absurd (d refl)
    by_places zero (suc j) a b d more =
        or_left (some (one_path u) us) (meet us) (some_there (one_path u) us y (of_nth us j y (unfold Nth in b)) (or_left (begins u.path y.path) (begins y.path u.path) (ap (λ (z : Item). begins z.path y.path) (sym (unfold Nth in a)) ∙ leads)))
    by_places (suc i) zero a b d more =
        or_left (some (one_path u) us) (meet us) (some_there (one_path u) us x (of_nth us i x (unfold Nth in a)) (or_right (begins u.path x.path) (begins x.path u.path) (ap (λ (z : Item). begins x.path z.path) (sym (unfold Nth in b)) ∙ leads)))
    by_places (suc i) (suc j) a b d more = or_right (some (one_path u) us) (meet us) (more (i, j, x, y, (unfold Nth in a), (unfold Nth in b), (λ z. d (ap suc z)), w.7, w.8))

wrong_of : (xs : List Item) (x : Item) → Member x xs → wrong_item x ≡ true → WrongFiles xs
wrong_of xs x m e = elim (or_one (a || b || c) d e) [
  | inl p ↦ elim (or_one (a || b) c p) [
    | inl q ↦ elim (or_one a b q) [
      | inl u ↦ no_element x m (no_elements_lem x.path u)
      | inr w ↦ let k = some_one (λ (f : List ℕ). not (element_right f)) x.path w in wrong_element x k.0 m k.1 (not-true (element_right k.0) k.2)
    ]
    | inr q ↦ too_long x m (ltb-true longest_file x.size q)
  ]
  | inr p ↦ let w = (and-eq-true_iff (eqb x.size 0) (not (same x.root zero_hash))).0 p in empty_with_root x m (eqb-true x.size 0 w.0) (same_false x.root zero_hash (not-true (same x.root zero_hash) w.1))
]
  where
    a : Bool
    a = no_elements x.path

    b : Bool
    b = some (λ (e : List ℕ). not (element_right e)) x.path

    c : Bool
    c = ltb longest_file x.size

    d : Bool
    d = eqb x.size 0 && not (same x.root zero_hash)

    no_elements_lem : (p : List (List ℕ)) → no_elements p ≡ true → p ≡ []
    no_elements_lem [] q = refl
    no_elements_lem (f ∷ p) q = absurd (false≢true q)

abbrev wrong_test : List Item → Bool
wrong_test xs = nothing xs || some wrong_item xs || meet xs

wrong_item_lem : (xs : List Item) (x : Item) → Member x xs → wrong_item x ≡ true → wrong_test xs ≡ true
wrong_item_lem xs x m e = or_left (nothing xs || some wrong_item xs) (meet xs) (or_right (nothing xs) (some wrong_item xs) (some_there wrong_item xs x m e))

pub wrong_files : (xs : List Item) → (nothing xs || some wrong_item xs || meet xs ≡ true) ↔ WrongFiles xs
wrong_files xs = (from, to)
  where
    from : wrong_test xs ≡ true → WrongFiles xs
    from e = elim (or_one (nothing xs || some wrong_item xs) (meet xs) e) [
      | inl p ↦ elim (or_one (nothing xs) (some wrong_item xs) p) [ inl q ↦ no_file (is_none xs q) | inr q ↦ let w = some_one wrong_item xs q in wrong_of xs w.0 w.1 w.2 ]
      | inr p ↦ let w = meeting xs p in one_path_lem w.0 w.1 w.2 w.3 w.4 w.5 w.6 w.7 w.8
    ]
      where
        is_none : (us : List Item) → nothing us ≡ true → us ≡ []
        is_none [] q = refl
        is_none (u ∷ us) q = absurd (false≢true q)

    to : WrongFiles xs → wrong_test xs ≡ true
    to (no_file e) = or_left (nothing xs || some wrong_item xs) (meet xs) (or_left (nothing xs) (some wrong_item xs) (ap nothing e))
    to (no_element x m e) = wrong_item_lem xs x m (rw e refl)
    to (wrong_element x f m k e) =
        wrong_item_lem xs x m
        (or_left (no_elements x.path || some (λ (g : List ℕ). not (element_right g)) x.path || ltb longest_file x.size) (eqb x.size 0 && not (same x.root zero_hash))
        (or_left (no_elements x.path || some (λ (g : List ℕ). not (element_right g)) x.path) (ltb longest_file x.size)
        (or_right (no_elements x.path) (some (λ (g : List ℕ). not (element_right g)) x.path) (some_there (λ (g : List ℕ). not (element_right g)) x.path f k (rw e refl)))))
    to (too_long x m l) =
        wrong_item_lem xs x m
        (or_left (no_elements x.path || some (λ (g : List ℕ). not (element_right g)) x.path || ltb longest_file x.size) (eqb x.size 0 && not (same x.root zero_hash))
        (or_right (no_elements x.path || some (λ (g : List ℕ). not (element_right g)) x.path) (ltb longest_file x.size) (lt-ltb longest_file x.size l)))
    to (empty_with_root x m z r) =
        wrong_item_lem xs x m
        (or_right (no_elements x.path || some (λ (g : List ℕ). not (element_right g)) x.path || ltb longest_file x.size) (eqb x.size 0 && not (same x.root zero_hash))
        (rw (eq-eqb x.size 0 z, same_ne x.root zero_hash r) refl))
    to (one_path_lem i j x y a b d rest e) = or_right (nothing xs || some wrong_item xs) (meet xs) (meets xs (i, j, x, y, a, b, d, rest, e))

-- ---- 26, and one root with two layers

-- a pair of files with one root that a test does not take for the same
pub pair_of : (told : Item → Item → Bool) (xs : List Item) → (some (λ (x : Item). some (λ (y : Item). one_root x y && not (told x y)) xs) xs ≡ true) ↔ ((x : Item) × (y : Item) × OneRoot xs x y × (told x y ≡ false))
pair_of told xs = (from, to)
  where
    from : some (λ (x : Item). some (λ (y : Item). one_root x y && not (told x y)) xs) xs ≡ true → (x : Item) × (y : Item) × OneRoot xs x y × (told x y ≡ false)
    from e =
        let u = some_one (λ (x : Item). some (λ (y : Item). one_root x y && not (told x y)) xs) xs e in
        let x = u.0 in
        let w = some_one (λ (y : Item). one_root x y && not (told x y)) xs u.2 in
        let y = w.0 in
        let a = (and-eq-true_iff (one_root x y) (not (told x y))).0 w.2 in
        let b = (and-eq-true_iff (ltb 0 x.size && ltb 0 y.size) (same x.root y.root)).0 a.0 in
        let c = (and-eq-true_iff (ltb 0 x.size) (ltb 0 y.size)).0 b.0 in
        (x, y, record { one = u.1; other = w.1; one_full = ltb-true 0 x.size c.0; other_full = ltb-true 0 y.size c.1; same_root = same_true x.root y.root b.1 }, not-true (told x y) a.1)

    to : ((x : Item) × (y : Item) × OneRoot xs x y × (told x y ≡ false)) → some (λ (x : Item). some (λ (y : Item). one_root x y && not (told x y)) xs) xs ≡ true
    to w =
        let x = w.0 in
        let y = w.1 in
        let r = w.2 in
        some_there (λ (u : Item). some (λ (v : Item). one_root u v && not (told u v)) xs) xs x r.one
        (some_there (λ (v : Item). one_root x v && not (told x v)) xs y r.other
        (rw (lt-ltb 0 x.size r.one_full, lt-ltb 0 y.size r.other_full, same_eq x.root y.root r.same_root, w.3) refl))

pub two_lengths_lem : (xs : List Item) → (lengths_clash xs ≡ true) ↔ TwoLengths xs
two_lengths_lem xs = (
  (λ e. let w = (pair_of (λ (u v : Item). eqb u.size v.size) xs).0 e in (w.0, w.1, w.2, eqb-false w.0.size w.1.size w.3)),
  λ w. (pair_of (λ (u v : Item). eqb u.size v.size) xs).1 (w.0, w.1, w.2, ne_eqb w.0.size w.1.size w.3),
)

-- ---- 27

pub wrong_layers : (plen : ℕ) (xs : List Item) → (some (misfit plen) xs ≡ true) ↔ WrongLayers plen xs
wrong_layers plen xs = (from, to)
  where
    from : some (misfit plen) xs ≡ true → WrongLayers plen xs
    from e = let w = some_one (misfit plen) xs e in by_size w.0 w.1 (not-true (eqb (length w.0.layer) (layer_size plen w.0)) w.2) (ltb plen w.0.size) refl
      where
        by_size : (x : Item) → Member x xs → eqb (length x.layer) (layer_size plen x) ≡ false → (t : Bool) → ltb plen x.size ≡ t → WrongLayers plen xs
        by_size x m q true s = wrong_size x m (ltb-true plen x.size s) (λ z. eqb-false (length x.layer) (layer_size plen x) q (z ∙ (unfold has_layer in rw s refl)))
        by_size x m q false s = not_wanted x m (ltb-false plen x.size s) (λ z. eqb-false (length x.layer) (layer_size plen x) q (ap (λ (l : List ℕ). length l) z ∙ (unfold has_layer in rw s refl)))

    none_long : (l : List ℕ) → (l ≡ [] → ⊥) → length l ≡ 0 → ⊥
    none_long [] n z = n refl
    none_long (b ∷ bs) n z = omega arith

    to : WrongLayers plen xs → some (misfit plen) xs ≡ true
    to (wrong_size x m l d) =
        some_there (misfit plen) xs x m (unfold has_layer in rw (lt-ltb plen x.size l, ne_eqb (length x.layer) (32 * piece_count x.size plen) d) refl)
    to (not_wanted x m l d) =
        some_there (misfit plen) xs x m (unfold has_layer in rw (le-ltb plen x.size l, ne_eqb (length x.layer) 0 (none_long x.layer d)) refl)

-- ---- 28

pub layers_differ : (plen : ℕ) (xs : List Item) → (some (gives_other plen) xs || two_layers xs ≡ true) ↔ LayersDiffer plen xs
layers_differ plen xs = (from, to)
  where
    from : some (gives_other plen) xs || two_layers xs ≡ true → LayersDiffer plen xs
    from e = elim (or_one (some (gives_other plen) xs) (two_layers xs) e) [
      | inl p ↦ let w = some_one (gives_other plen) xs p in other w.0 w.1 ((and-eq-true_iff (has_layer w.0.size plen) (not (same (layer_root w.0.layer (piece_layer plen) (height (block_count w.0.size))) w.0.root))).0 w.2)
      | inr p ↦ let w = (pair_of (λ (u v : Item). same u.layer v.layer) xs).0 p in two_layers_lem w.0 w.1 w.2 (same_false w.0.layer w.1.layer w.3)
    ]
      where
        other : (x : Item) → Member x xs → ((has_layer x.size plen ≡ true) × (not (same (layer_root x.layer (piece_layer plen) (height (block_count x.size))) x.root) ≡ true)) → LayersDiffer plen xs
        other x m q =
            other_root_lem x m (ltb-true plen x.size (unfold has_layer in q.0))
            (same_false (layer_root x.layer (piece_layer plen) (height (block_count x.size))) x.root (not-true (same (layer_root x.layer (piece_layer plen) (height (block_count x.size))) x.root) q.1))

    to : LayersDiffer plen xs → some (gives_other plen) xs || two_layers xs ≡ true
    to (other_root_lem x m l d) =
        or_left (some (gives_other plen) xs) (two_layers xs)
        (some_there (gives_other plen) xs x m (unfold has_layer in rw (lt-ltb plen x.size l, same_ne (layer_root x.layer (piece_layer plen) (height (block_count x.size))) x.root d) refl))
    to (two_layers_lem x y r d) =
        or_right (some (gives_other plen) xs) (two_layers xs) ((pair_of (λ (u v : Item). same u.layer v.layer) xs).1 (x, y, r, same_ne x.layer y.layer d))
