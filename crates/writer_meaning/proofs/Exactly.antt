-- Each number of a content is given exactly if what it says holds and what the lower ones say does not; 20, 22 and 23 never.
-- Assumes nothing.
use Rattle.std.specs.Prelude.{◌≡◌, Bool, true, false, ◌||◌, not, ◌↔◌, List, ℕ}
use Rattle.std.proofs.Math.Path.{refl}
use Rattle.std.proofs.Common.{sym, ap, ◌∙◌}
use Rattle.std.proofs.lemmas.Bool.{false≢true}
use Rattle.numbers.specs.Numbers.{torrent_too_large, nested_too_deeply, piece_length_out_of_range, wrong_tree, two_lengths, layers_amiss, layer_differs}
use Rattle.numbers.specs.Tests.{says_not, in_turn, both, alone}
use Rattle.numbers.specs.Chain.{Chain, last, fault, decided, exactly_of}
use Rattle.tree.specs.Geometry.{is_piece_length, piece_layer}
use Rattle.tree.proofs.GeometryLaws.{piece_length_form, piece_length_accepted}
use Rattle.writer_meaning.specs.Content.{Item}
use Rattle.writer_meaning.specs.Number.{some, too_large, too_deep, wrong_item, meet, nothing, lengths_clash, misfit, gives_other, two_layers, content_number}
use Rattle.writer_meaning.specs.Refused.{TooLarge, TooDeep, OutOfRange, WrongFiles, TwoLengths, WrongLayers, LayersDiffer}
use Rattle.writer_meaning.proofs.RefusedLaws.{too_large_lem, too_deep_lem, wrong_files, two_lengths_lem, wrong_layers, layers_differ}

out_of_range : (plen : ℕ) → (not (is_piece_length plen) ≡ true) ↔ OutOfRange plen
out_of_range plen = (from, to)
  where
    from : not (is_piece_length plen) ≡ true → OutOfRange plen
    from e p h q = false≢true (sym (is_false (is_piece_length plen) e) ∙ ap is_piece_length q ∙ piece_length_accepted p h)
      where
        is_false : (a : Bool) → not a ≡ true → a ≡ false
        is_false true z = absurd (false≢true z)
        is_false false z = refl

    to : OutOfRange plen → not (is_piece_length plen) ≡ true
    to w = by_test (is_piece_length plen) refl
      where
        by_test : (a : Bool) → is_piece_length plen ≡ a → not a ≡ true
        by_test true e = let f = piece_length_form plen e in absurd (w (piece_layer plen) f.0 f.1)
        by_test false e = refl

abbrev pub Unless : Type 0 → Type 0 → Type 0
Unless A B = (A → ⊥) × B

-- a fault that is not there, and what comes else
unless : {a : Bool} {A X B : Type 0} → (a ≡ true) ↔ A → X ↔ B → ((a ≡ false) × X) ↔ Unless A B
unless i j = both (says_not i) j

module _ (plen : ℕ) (name : List ℕ) (xs : List Item) where
  abbrev a19 : Bool
  a19 = too_large plen name xs

  abbrev a21 : Bool
  a21 = some too_deep xs

  abbrev a24 : Bool
  a24 = not (is_piece_length plen)

  abbrev a25 : Bool
  a25 = nothing xs || some wrong_item xs || meet xs

  abbrev a26 : Bool
  a26 = lengths_clash xs

  abbrev a27 : Bool
  a27 = some (misfit plen) xs

  abbrev a28 : Bool
  a28 = some (gives_other plen) xs || two_layers xs

  abbrev chain : Chain
  chain =
      fault a19 torrent_too_large
      (fault a21 nested_too_deeply
      (fault a24 piece_length_out_of_range (fault a25 wrong_tree (fault a26 two_lengths (fault a27 layers_amiss (fault a28 layer_differs (last 0)))))))

  number_is : content_number plen name xs ≡ decided chain
  unfolding content_number
  number_is = refl

  pub exactly_19 : (content_number plen name xs ≡ torrent_too_large) ↔ TooLarge plen name xs
  exactly_19 = in_turn (exactly_of chain torrent_too_large number_is refl) (too_large_lem plen name xs)

  pub exactly_21 : (content_number plen name xs ≡ nested_too_deeply) ↔ Unless (TooLarge plen name xs) (TooDeep xs)
  exactly_21 = in_turn (exactly_of chain nested_too_deeply number_is refl) (unless (too_large_lem plen name xs) (too_deep_lem xs))

  pub exactly_24 : (content_number plen name xs ≡ piece_length_out_of_range) ↔ Unless (TooLarge plen name xs) (Unless (TooDeep xs) (OutOfRange plen))
  exactly_24 = in_turn (exactly_of chain piece_length_out_of_range number_is refl) (unless (too_large_lem plen name xs) (unless (too_deep_lem xs) (out_of_range plen)))

  -- what 19, 21 and 24 leave
  abbrev pub Unless24 : Type 0 → Type 0
  Unless24 B = Unless (TooLarge plen name xs) (Unless (TooDeep xs) (Unless (OutOfRange plen) B))

  unless24 : {X B : Type 0} → X ↔ B → ((a19 ≡ false) × ((a21 ≡ false) × ((a24 ≡ false) × X))) ↔ Unless24 B
  unless24 j = unless (too_large_lem plen name xs) (unless (too_deep_lem xs) (unless (out_of_range plen) j))

  pub exactly_25 : (content_number plen name xs ≡ wrong_tree) ↔ Unless24 (WrongFiles xs)
  exactly_25 = in_turn (exactly_of chain wrong_tree number_is refl) (unless24 (wrong_files xs))

  pub exactly_26 : (content_number plen name xs ≡ two_lengths) ↔ Unless24 (Unless (WrongFiles xs) (TwoLengths xs))
  exactly_26 = in_turn (exactly_of chain two_lengths number_is refl) (unless24 (unless (wrong_files xs) (two_lengths_lem xs)))

  pub exactly_27 : (content_number plen name xs ≡ layers_amiss) ↔ Unless24 (Unless (WrongFiles xs) (Unless (TwoLengths xs) (WrongLayers plen xs)))
  exactly_27 = in_turn (exactly_of chain layers_amiss number_is refl) (unless24 (unless (wrong_files xs) (unless (two_lengths_lem xs) (wrong_layers plen xs))))

  pub exactly_28 : (content_number plen name xs ≡ layer_differs) ↔ Unless24 (Unless (WrongFiles xs) (Unless (TwoLengths xs) (Unless (WrongLayers plen xs) (LayersDiffer plen xs))))
  exactly_28 =
      in_turn (exactly_of chain layer_differs number_is refl)
      (unless24 (unless (wrong_files xs) (unless (two_lengths_lem xs) (unless (wrong_layers plen xs) (layers_differ plen xs)))))

  -- nothing is amiss
  pub exactly_0 : (content_number plen name xs ≡ 0) ↔ Unless24 (Unless (WrongFiles xs) (Unless (TwoLengths xs) (Unless (WrongLayers plen xs) (LayersDiffer plen xs → ⊥))))
  exactly_0 =
      in_turn (exactly_of chain 0 number_is refl)
      (unless24 (unless (wrong_files xs) (unless (two_lengths_lem xs) (unless (wrong_layers plen xs) (alone (says_not (layers_differ plen xs)))))))
