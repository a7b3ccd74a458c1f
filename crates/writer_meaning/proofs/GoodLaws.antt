-- The number 0 is given exactly for the good contents that are not too large.
-- Assumes nothing.
use Rattle.std.specs.Prelude.{◌≡◌, refl, Bool, cond, ◌&&◌, ◌||◌, List, [], ◌∷◌, ℕ, ◌+◌, ◌<◌, length, eqb}
use Rattle.std.proofs.Common.{sym, ap, ◌∙◌, inl, inr, arith, eqb-true, ltb-false, lt-ltb, le-ltb}
use Rattle.std.proofs.Math.Bool.{true, false, not, false≢true}
use Rattle.std.proofs.lemmas.Bool.{not-false}
use Rattle.limits.specs.Limits.{max_levels}
use Rattle.numbers.specs.Numbers.{torrent_too_large, nested_too_deeply, piece_length_out_of_range, wrong_tree, two_lengths, layers_amiss, layer_differs}
use Rattle.octets.specs.Octets.{same}
use Rattle.octets.specs.OctetsLaws.{same_true, same_eq}
use Rattle.tree.specs.Geometry.{block_count, height, is_piece_length, piece_layer, has_layer}
use Rattle.tree.specs.Values.{layer_root}
use Rattle.meaning.specs.Counting.{Member}
use Rattle.meaning.specs.Torrent.{element_right}
use Rattle.writer_meaning.specs.Content.{Item}
use Rattle.writer_meaning.specs.Number.{some, too_large, too_deep, wrong_item, meet, nothing, one_root, lengths_clash, layer_size, misfit, gives_other, two_layers, content_number}
use Rattle.writer_meaning.proofs.SomeLaws.{or_none, none_passes}
use Rattle.writer_meaning.proofs.TreeLaws.{AllRight, PathRight, path_all}
use Rattle.writer_meaning.proofs.ContentLaws.{ItemPassed, passed}
use Rattle.writer_meaning.proofs.Good.{Good}
use Rattle.writer_meaning.specs.Refused.{TooLarge, TooDeep, OutOfRange, WrongFiles, no_file, no_element, wrong_element, too_long, empty_with_root, one_path_lem, TwoLengths, WrongLayers, wrong_size, not_wanted, LayersDiffer, other_root_lem, two_layers_lem}
use Rattle.writer_meaning.proofs.RefusedLaws.{meets}
use Rattle.writer_meaning.proofs.Exactly.{exactly_0}
use Rattle.tree.proofs.GeometryLaws.{piece_length_form}

-- a number that is not 0 was not given
pub past : (a : Bool) (n x : ℕ) → (n ≡ 0 → ⊥) → cond a n x ≡ 0 → (a ≡ false) × (x ≡ 0)
past true n x h e = absurd (h e)
past false n x h e = (refl, e)

-- what all tests leave
pub record AllPassed (plen : ℕ) (name : List ℕ) (xs : List Item) : Type 0 where
  pub not_large : too_large plen name xs ≡ false
  pub not_deep : some too_deep xs ≡ false
  pub piece : not (is_piece_length plen) ≡ false
  pub tree : nothing xs || some wrong_item xs || meet xs ≡ false
  pub lengths : lengths_clash xs ≡ false
  pub fits : some (misfit plen) xs ≡ false
  pub gives : some (gives_other plen) xs || two_layers xs ≡ false

pub all_passed : (plen : ℕ) (name : List ℕ) (xs : List Item) → content_number plen name xs ≡ 0 → AllPassed plen name xs
unfolding content_number
all_passed plen name xs e =
    let a = past (too_large plen name xs) torrent_too_large _ (λ z. omega arith) e in
    let b = past (some too_deep xs) nested_too_deeply _ (λ z. omega arith) a.1 in
    let c = past (not (is_piece_length plen)) piece_length_out_of_range _ (λ z. omega arith) b.1 in
    let d = past (nothing xs || some wrong_item xs || meet xs) wrong_tree _ (λ z. omega arith) c.1 in
    let f = past (lengths_clash xs) two_lengths _ (λ z. omega arith) d.1 in
    let g = past (some (misfit plen) xs) layers_amiss _ (λ z. omega arith) f.1 in
    let h = past (some (gives_other plen) xs || two_layers xs) layer_differs _ (λ z. omega arith) g.1 in
    record { not_large = a.0; not_deep = b.0; piece = c.0; tree = d.0; lengths = f.0; fits = g.0; gives = h.0 }

-- two non-empty files with one root pass no test that tells them apart
one_of : (told : Item → Item → Bool) (xs : List Item) (x y : Item) → some (λ (u : Item). some (λ (v : Item). one_root u v && not (told u v)) xs) xs ≡ false → Member x xs → Member y xs
    → 0 < x.size → 0 < y.size → x.root ≡ y.root → told x y ≡ true
one_of told xs x y e m n a b r =
    let p = none_passes (λ (u : Item). some (λ (v : Item). one_root u v && not (told u v)) xs) xs x e m in
    let q = none_passes (λ (v : Item). one_root x v && not (told x v)) xs y p n in
    let z : (true && true && true) && not (told x y) ≡ false = rw (lt-ltb 0 x.size a, lt-ltb 0 y.size b, same_eq x.root y.root r) at q in
    not-false (told x y) z

pub good : (plen : ℕ) (name : List ℕ) (xs : List Item) → AllPassed plen name xs → Good plen xs
good plen name xs p =
    record {
      fine = record {
        some_file = λ z. false≢true (sym tree_none.0.0 ∙ ap nothing z);
        shallow = λ x m. ltb-false max_levels (length x.path + 4) (none_passes too_deep xs x p.not_deep m);
        piece_length_lem = not-false (is_piece_length plen) p.piece;
        path_right = λ x m. (each x m).elements;
        in_range = λ x m. (each x m).in_range;
        empty_root = λ x m. (each x m).no_root;
        paths_apart = tree_tests.1;
        one_length = λ x y m n a b r. eqb-true x.size y.size (one_of (λ (u v : Item). eqb u.size v.size) xs x y p.lengths m n a b r);
        layer_fits = λ x m l. size_is x m ∙ (unfold has_layer in rw (lt-ltb plen x.size l) refl);
        no_layer = λ x m l. none_there x.layer (size_is x m ∙ (unfold has_layer in rw (le-ltb plen x.size l) refl));
        one_layer = λ x y m n a b r. same_true x.layer y.layer (one_of (λ (u v : Item). same u.layer v.layer) xs x y layer_tests.1 m n a b r);
      };
      layer_gives = λ x m l. gives_root x m l;
    }
  where
    tree_tests : (nothing xs || some wrong_item xs ≡ false) × (meet xs ≡ false)
    tree_tests = or_none (nothing xs || some wrong_item xs) (meet xs) p.tree

    tree_none : ((nothing xs ≡ false) × (some wrong_item xs ≡ false)) × (meet xs ≡ false)
    tree_none = (or_none (nothing xs) (some wrong_item xs) tree_tests.0, tree_tests.1)

    layer_tests : (some (gives_other plen) xs ≡ false) × (two_layers xs ≡ false)
    layer_tests = or_none (some (gives_other plen) xs) (two_layers xs) p.gives

    each : (x : Item) → Member x xs → ItemPassed x
    each x m = passed x (none_passes wrong_item xs x tree_none.0.1 m)

    size_is : (x : Item) → Member x xs → length x.layer ≡ layer_size plen x
    size_is x m = eqb-true (length x.layer) (layer_size plen x) (not-false (eqb (length x.layer) (layer_size plen x)) (none_passes (misfit plen) xs x p.fits m))

    none_there : (l : List ℕ) → length l ≡ 0 → l ≡ []
    none_there [] e = refl
    none_there (b ∷ bs) e = absurd (omega arith)

    gives_root : (x : Item) → Member x xs → plen < x.size → layer_root x.layer (piece_layer plen) (height (block_count x.size)) ≡ x.root
    gives_root x m l =
        let t = same (layer_root x.layer (piece_layer plen) (height (block_count x.size))) x.root in
        let q = none_passes (gives_other plen) xs x layer_tests.0 m in
        let h : has_layer x.size plen ≡ true = unfold has_layer in lt-ltb plen x.size l in
        let z : true && not t ≡ false = rw h at q in
        same_true (layer_root x.layer (piece_layer plen) (height (block_count x.size))) x.root (not-false t z)

-- ---- and back

pub element_right_lem : (p : List (List ℕ)) (e : List ℕ) → AllRight p → Member e p → element_right e ≡ true
unfolding AllRight Member
element_right_lem [] e r m = absurd m
element_right_lem (f ∷ p) e r (inl q) = ap element_right q ∙ r.0
element_right_lem (f ∷ p) e r (inr m) = element_right_lem p e r.1 m

pub good_number : (plen : ℕ) (name : List ℕ) (xs : List Item) → Good plen xs → (TooLarge plen name xs → ⊥) → content_number plen name xs ≡ 0
good_number plen name xs g l = (exactly_0 plen name xs).1 (l, (not_deep, (in_range, (not_wrong, (one_length, (fits, gives))))))
  where
    not_deep : TooDeep xs → ⊥
    not_deep w = let h = g.fine.shallow w.0 w.1 in let d = w.2 in omega arith

    in_range : OutOfRange plen → ⊥
    in_range w = let f = piece_length_form plen g.fine.piece_length_lem in w (piece_layer plen) f.0 f.1

    not_wrong : WrongFiles xs → ⊥
    not_wrong (no_file e) = g.fine.some_file e
    not_wrong (no_element x m e) = let r : PathRight [] = rw e at (g.fine.path_right x m) in absurd (unfold PathRight in r)
    not_wrong (wrong_element x e m k q) = false≢true (sym q ∙ element_right_lem x.path e (path_all x.path (g.fine.path_right x m)) k)
    not_wrong (too_long x m h) = let r = g.fine.in_range x m in omega arith
    not_wrong (empty_with_root x m z r) = r (g.fine.empty_root x m z)
    not_wrong (one_path_lem i j x y a b d rest e) = false≢true (sym g.fine.paths_apart ∙ meets xs (i, j, x, y, a, b, d, rest, e))

    one_length : TwoLengths xs → ⊥
    one_length w = let r = w.2 in w.3 (g.fine.one_length w.0 w.1 r.one r.other r.one_full r.other_full r.same_root)

    fits : WrongLayers plen xs → ⊥
    fits (wrong_size x m h d) = d (g.fine.layer_fits x m h)
    fits (not_wanted x m h d) = d (g.fine.no_layer x m h)

    gives : LayersDiffer plen xs → ⊥
    gives (other_root_lem x m h d) = d (g.layer_gives x m h)
    gives (two_layers_lem x y r d) = d (g.fine.one_layer x y r.one r.other r.one_full r.other_full r.same_root)
