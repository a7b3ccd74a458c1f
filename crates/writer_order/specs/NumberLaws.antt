-- The number of a content by its tests, one after the other as the code makes them.
-- Assumes nothing.
use Rattle.std.specs.Prelude.{◌≡◌, Bool, true, false, cond, ◌||◌, not, List, [], ◌∷◌, ◌++◌, ℕ, zero, suc, ◌*◌, ◌%◌, ◌≤◌, ◌<◌, length, eqb, ltb}
use Rattle.std.proofs.Math.Path.{refl}
use Rattle.std.proofs.Common.{sym, ap, ◌∙◌, arith, div-add-mod', eqb-true, lt-ltb, le-ltb}
use Rattle.std.proofs.Math.Bool.{and-eq-true_iff}
use Rattle.limits.specs.Limits.{largest_torrent}
use Rattle.numbers.specs.Numbers.{torrent_too_large, nested_too_deeply, piece_length_out_of_range, wrong_tree, two_lengths, layers_amiss, layer_differs}
use Rattle.tree.specs.Geometry.{is_piece_length}
use Rattle.bencode.specs.Grammar.{dictionary, encode}
use Rattle.writer_meaning.specs.Content.{Item, torrent_of}
use Rattle.writer_meaning.specs.Number.{some, too_deep, wrong_item, meet, nothing, lengths_clash, misfit, gives_other, two_layers, content_number}
use Rattle.writer_lists.specs.Lists.{record_size, item_at, form_up_to, items_up_to, record_count, list_form, content_of}
use Rattle.writer_order.specs.Roots.{root_number}

-- ---- a list has a file exactly if it has a byte

nothing_behind : (xs : List Item) (x : Item) → nothing (xs ++ x ∷ []) ≡ false
nothing_behind [] x = refl
nothing_behind (y ∷ ys) x = refl

pub no_bytes : (list text : List ℕ) → length list ≡ 0 → nothing (content_of list text) ≡ true
unfolding content_of
no_bytes list text e = ap (λ (n : ℕ). nothing (items_up_to list text n)) none ∙ first
  where
    none : record_count list ≡ 0
    none = rw e refl

    first : nothing (items_up_to list text 0) ≡ true
    first = unfold items_up_to in refl

pub some_bytes : (list text : List ℕ) → list_form list text ≡ true → (length list ≡ 0 → ⊥) → nothing (content_of list text) ≡ false
unfolding content_of list_form
some_bytes list text h n = by_count (record_count list) refl
  where
    whole : length list % record_size ≡ 0
    whole =
        eqb-true (length list % record_size) 0 ((and-eq-true_iff (eqb (length list % record_size) 0) (form_up_to list text (record_count list))).0
        h).0

    by_count : (k : ℕ) → record_count list ≡ k → nothing (items_up_to list text (record_count list)) ≡ false
    by_count zero e = absurd (n (let d = div-add-mod' (length list) record_size in omega (arith, whole)))
    by_count (suc k) e = ap (λ (m : ℕ). nothing (items_up_to list text m)) e ∙ last
      where
        last : nothing (items_up_to list text (suc k)) ≡ false
        last = unfold items_up_to in nothing_behind (items_up_to list text k) (item_at list text (record_size * k))

-- ---- the chain of tests

module _ (plen : ℕ) (name : List ℕ) (xs : List Item) (size : ℕ) (e : size ≡ length (encode (dictionary (torrent_of plen name xs)))) where
  number_is : content_number plen name xs
      ≡ cond (ltb largest_torrent size) torrent_too_large
      (cond (some too_deep xs) nested_too_deeply
      (cond (not (is_piece_length plen)) piece_length_out_of_range
      (cond (nothing xs || some wrong_item xs || meet xs) wrong_tree
      (root_number plen xs))))
  unfolding content_number
  number_is = rw e refl

  pub is_large : largest_torrent < size → torrent_too_large ≡ content_number plen name xs
  is_large h = sym (number_is ∙ rw (lt-ltb largest_torrent size h) refl)

  module _ (a : size ≤ largest_torrent) where
    pub is_deep : some too_deep xs ≡ true → nested_too_deeply ≡ content_number plen name xs
    is_deep h = sym (number_is ∙ rw (le-ltb largest_torrent size a, h) refl)

    module _ (b : some too_deep xs ≡ false) where
      pub is_out_of_range : is_piece_length plen ≡ false → piece_length_out_of_range ≡ content_number plen name xs
      is_out_of_range h = sym (number_is ∙ rw (le-ltb largest_torrent size a, b, h) refl)

      module _ (c : is_piece_length plen ≡ true) where
        wrong_is : nothing xs || some wrong_item xs || meet xs ≡ true → wrong_tree ≡ content_number plen name xs
        wrong_is h = sym (number_is ∙ rw (le-ltb largest_torrent size a, b, c, h) refl)

        pub has_none : nothing xs ≡ true → wrong_tree ≡ content_number plen name xs
        has_none h = wrong_is (any_of (nothing xs) (some wrong_item xs) (meet xs) h)
          where
            any_of : (x y z : Bool) → x ≡ true → x || y || z ≡ true
            any_of x y z h = rw h refl

        module _ (d : nothing xs ≡ false) where
          pub is_meeting : meet xs ≡ true → wrong_tree ≡ content_number plen name xs
          is_meeting h = wrong_is (any_of (nothing xs) (some wrong_item xs) (meet xs) h)
            where
              any_of : (x y z : Bool) → z ≡ true → x || y || z ≡ true
              any_of true y z h = refl
              any_of false true z h = refl
              any_of false false z h = h

          module _ (f : meet xs ≡ false) where
            pub has_wrong : some wrong_item xs ≡ true → wrong_tree ≡ content_number plen name xs
            has_wrong h = wrong_is (rw (d, h) refl)

            pub by_roots : some wrong_item xs ≡ false → (n : ℕ) → n ≡ root_number plen xs → n ≡ content_number plen name xs
            by_roots g n h = h ∙ sym (number_is ∙ rw (le-ltb largest_torrent size a, b, c, d, g, f) refl)

-- ---- 26 to 28

module _ (plen : ℕ) (xs : List Item) where
  pub has_lengths : lengths_clash xs ≡ true → two_lengths ≡ root_number plen xs
  has_lengths h = rw h refl

  module _ (a : lengths_clash xs ≡ false) where
    pub has_misfit : some (misfit plen) xs ≡ true → layers_amiss ≡ root_number plen xs
    has_misfit h = rw (a, h) refl

    module _ (b : some (misfit plen) xs ≡ false) where
      pub layers_differ : some (gives_other plen) xs || two_layers xs ≡ true → layer_differs ≡ root_number plen xs
      layers_differ h = rw (a, b, h) refl

      pub nothing_wrong : some (gives_other plen) xs || two_layers xs ≡ false → 0 ≡ root_number plen xs
      nothing_wrong h = rw (a, b, h) refl
