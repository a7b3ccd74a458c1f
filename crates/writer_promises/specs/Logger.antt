-- 02, requests 1 and 4 together: a file that was logged is published. Of items whose length, root and layer are what the end of a history
-- answered and left 27 is never given, and 28 only where two of them show two different strings of 64 bytes with one SHA-256.
-- Assumes nothing.
use Rattle.std.specs.Prelude.{◌≡◌, refl, Bool, true, false, List, [], ◌∷◌, ℕ, ◌*◌, ◌≤◌, ◌<◌, length, take}
use Rattle.std.proofs.Common.{sym, ap₂, ◌∙◌, inl, inr, arith}
use Rattle.std.proofs.Math.Path.{ap}
use Rattle.std.proofs.Math.Decide.{ℕ_discrete}
use Rattle.numbers.specs.Numbers.{two_lengths, layers_amiss, layer_differs}
use Rattle.tree.specs.Geometry.{block_count, height, covering, is_piece_length, piece_layer, has_layer, piece_count}
use Rattle.tree.proofs.GeometryLaws.{piece_length_form, pieces_covering, longer_has, has_longer, long_file_height}
use Rattle.tree.specs.Values.{pieces_root, whole_layer, layer_root}
use Rattle.tree.proofs.ValuesLaws.{layer_octets, root_of_whole_layer}
use Rattle.history.specs.Answers.{layer_bytes, end_answer, end_layer}
use Rattle.history.proofs.DecidingLaws.{bytes_some, bytes_none}
use Rattle.history.proofs.Histories.{Logged, logged_end, logged_layer}
use Rattle.history.specs.declared.History.{History}
use Rattle.history.specs.declared.HistoryEnd.{HistoryEnd}
use Rattle.meaning.specs.Counting.{Member}
use Rattle.writer_meaning.specs.Content.{Item}
use Rattle.writer_meaning.specs.Refused.{OneRoot, TwoLengths, WrongLayers, wrong_size, not_wanted, LayersDiffer, other_root_lem, two_layers_lem}
use Rattle.writer_lists.specs.Lists.{content_of}
use Rattle.writer.specs.Write.{write_answer}
use Rattle.writer_promises.specs.Published.{ContentSays, too_large_lem, too_deep_lem, out_of_range, wrong_files, two_lengths_lem, wrong_layers, layers_differ, WriteSays, no_form, of_content, too_short, written}
use Rattle.writer_promises.specs.Promised.{each_number}
use Rattle.writer_promises.specs.TwoLayers.{TwoStrings, two_layers_show}

-- an item is a history's: of some bytes that were logged with this piece length, its length, root and layer are what `kd_history_end`, lent
-- room for the layer, answered and left
pub record OfHistory (plen : ℕ) (x : Item) : Type 0 where
  pub bytes : List ℕ
  pub state : History
  pub lent : List ℕ
  pub was_logged : Logged plen bytes state lent
  pub has_room : layer_bytes (length bytes) plen ≤ length lent
  pub size_is : x.size ≡ (end_answer state lent).length
  pub root_is : x.root ≡ (end_answer state lent).root
  pub layer_is : x.layer ≡ take (end_answer state lent).layer_size (end_layer state lent)

-- ---- one item

module _ (plen : ℕ) (good : is_piece_length plen ≡ true) (x : Item) (h : OfHistory plen x) where
  ends : end_answer h.state h.lent
      ≡ record { number = 0; length = length h.bytes; root = pieces_root h.bytes; layer_size = layer_bytes (length h.bytes) plen }
  ends = logged_end plen good h.was_logged h.has_room

  size_so : x.size ≡ length h.bytes
  size_so = h.size_is ∙ ap (λ (a : HistoryEnd). a.length) ends

  root_so : x.root ≡ pieces_root h.bytes
  root_so = h.root_is ∙ ap (λ (a : HistoryEnd). a.root) ends

  layer_so : x.layer ≡ take (layer_bytes (length h.bytes) plen) (end_layer h.state h.lent)
  layer_so = h.layer_is ∙ ap (λ (a : HistoryEnd). take a.layer_size (end_layer h.state h.lent)) ends

  -- a file longer than the piece length has its whole piece layer
  whole_layer_lem : has_layer (length h.bytes) plen ≡ true → x.layer ≡ whole_layer h.bytes (piece_layer plen)
  whole_layer_lem t =
      layer_so ∙ ap (λ (n : ℕ). take n (end_layer h.state h.lent)) (sym (bytes_some (length h.bytes) plen t))
      ∙ logged_layer plen good h.was_logged h.has_room t

  -- another has none
  no_layer : has_layer (length h.bytes) plen ≡ false → x.layer ≡ []
  no_layer t = layer_so ∙ ap (λ (n : ℕ). take n (end_layer h.state h.lent)) (sym (bytes_none (length h.bytes) plen t))

  long : plen < x.size → has_layer (length h.bytes) plen ≡ true
  long l = longer_has (length h.bytes) plen (omega (arith, size_so))

  whole_size : length (whole_layer h.bytes (piece_layer plen)) ≡ 32 * piece_count (length h.bytes) plen
  unfolding whole_layer
  whole_size =
      (layer_octets h.bytes (piece_layer plen) (covering (block_count (length h.bytes)) (piece_layer plen))).size
      ∙ ap (λ (c : ℕ). 32 * c) (sym (pieces_covering (length h.bytes) (piece_layer plen)) ∙ ap (piece_count (length h.bytes)) (sym (piece_length_form plen good).1))

  right_size : plen < x.size → length x.layer ≡ 32 * piece_count x.size plen
  right_size l = ap length (whole_layer_lem (long l)) ∙ whole_size ∙ ap (λ (n : ℕ). 32 * piece_count n plen) (sym size_so)

  none_wanted : x.size ≤ plen → x.layer ≡ []
  none_wanted l = by_layer (has_layer (length h.bytes) plen) refl
    where
      by_layer : (t : Bool) → has_layer (length h.bytes) plen ≡ t → x.layer ≡ []
      by_layer true t = absurd (omega (arith, size_so, has_longer (length h.bytes) plen t))
      by_layer false t = no_layer t

  right_root : plen < x.size → layer_root x.layer (piece_layer plen) (height (block_count x.size)) ≡ x.root
  right_root l =
      ap₂ (λ (u : List ℕ) (n : ℕ). layer_root u (piece_layer plen) (height (block_count n))) (whole_layer_lem (long l)) size_so
      ∙ root_of_whole_layer h.bytes (piece_layer plen) (higher l) ∙ sym root_so
    where
      higher : plen < x.size → piece_layer plen ≤ height (block_count (length h.bytes))
      higher m = let w = long_file_height (length h.bytes) (piece_layer plen) (omega (arith, m, size_so, (piece_length_form plen good).1)) in omega arith

-- ---- two items

-- of one length and one root, with different layers
layers_show : (plen : ℕ) → is_piece_length plen ≡ true → (x y : Item) (h : OfHistory plen x) (g : OfHistory plen y) → x.size ≡ y.size → x.root ≡ y.root → (x.layer ≡ y.layer → ⊥)
    → TwoStrings h.bytes g.bytes
layers_show plen good x y h g e r w = by_layer (has_layer (length h.bytes) plen) refl
  where
    one_length : length h.bytes ≡ length g.bytes
    one_length = sym (size_so plen good x h) ∙ e ∙ size_so plen good y g

    by_layer : (t : Bool) → has_layer (length h.bytes) plen ≡ t → TwoStrings h.bytes g.bytes
    by_layer false t = absurd (w (no_layer plen good x h t ∙ sym (no_layer plen good y g (ap (λ (n : ℕ). has_layer n plen) (sym one_length) ∙ t))))
    by_layer true t =
        two_layers_show h.bytes g.bytes one_length (sym (root_so plen good x h) ∙ r ∙ root_so plen good y g) (piece_layer plen)
        (let k = long_file_height (length h.bytes) (piece_layer plen) (omega (arith, has_longer (length h.bytes) plen t, (piece_length_form plen good).1)) in omega arith)
        (λ q. w (whole_layer_lem plen good x h t ∙ q ∙ sym (whole_layer_lem plen good y g (ap (λ (n : ℕ). has_layer n plen) (sym one_length) ∙ t))))

-- ---- a list of such items

module _ (list text : List ℕ) (plen : ℕ) (name out : List ℕ) (good : is_piece_length plen ≡ true) (all : (x : Item) → Member x (content_of list text) → OfHistory plen x) where
  layers_right : WrongLayers plen (content_of list text) → ⊥
  layers_right (wrong_size x m l w) = w (right_size plen good x (all x m) l)
  layers_right (not_wanted x m l w) = w (none_wanted plen good x (all x m) l)

  -- two of them with one root and one length have different layers
  abbrev Two : Type 0
  Two = (x : Item) × (y : Item) × OneRoot (content_of list text) x y × (x.size ≡ y.size) × (x.layer ≡ y.layer → ⊥)

  only_two : LayersDiffer plen (content_of list text) → (TwoLengths (content_of list text) → ⊥) → Two
  only_two (other_root_lem x m l w) z = absurd (w (right_root plen good x (all x m) l))
  only_two (two_layers_lem x y o w) z = (x, y, o, by_size (ℕ_discrete x.size y.size), w)
    where
      by_size : Dec (x.size ≡ y.size) → x.size ≡ y.size
      by_size (yes e) = e
      by_size (no g) = absurd (z (x, y, o, g))

  content_27 : ContentSays plen name (content_of list text) layers_amiss → ⊥
  content_27 (too_large_lem e w) = omega (arith, e)
  content_27 (too_deep_lem e w) = omega (arith, e)
  content_27 (out_of_range e w) = omega (arith, e)
  content_27 (wrong_files e w) = omega (arith, e)
  content_27 (two_lengths_lem e w) = omega (arith, e)
  content_27 (wrong_layers e w) = layers_right w
  content_27 (layers_differ e w) = omega (arith, e)

  says_27 : WriteSays list text plen name out layers_amiss → ⊥
  says_27 (no_form e w) = omega (arith, e)
  says_27 (of_content f w z) = content_27 w
  says_27 (too_short e f w z) = omega (arith, e)
  says_27 (written e f w z) = omega (arith, e)

  -- 27 is never given
  pub history_not_27 : (write_answer list text plen name out).number ≡ layers_amiss → ⊥
  history_not_27 e = says_27 ((each_number list text plen name out layers_amiss).0 e)

  content_28 : ContentSays plen name (content_of list text) layer_differs → ((m : ℕ) → m < layer_differs → ContentSays plen name (content_of list text) m → ⊥) → Two
  content_28 (too_large_lem e w) z = absurd (omega (arith, e))
  content_28 (too_deep_lem e w) z = absurd (omega (arith, e))
  content_28 (out_of_range e w) z = absurd (omega (arith, e))
  content_28 (wrong_files e w) z = absurd (omega (arith, e))
  content_28 (two_lengths_lem e w) z = absurd (omega (arith, e))
  content_28 (wrong_layers e w) z = absurd (omega (arith, e))
  content_28 (layers_differ e w) z = only_two w (λ q. z two_lengths (omega arith) (two_lengths_lem refl q))

  says_28 : WriteSays list text plen name out layer_differs → Two
  says_28 (no_form e w) = absurd (omega (arith, e))
  says_28 (of_content f w z) = content_28 w z
  says_28 (too_short e f w z) = absurd (omega (arith, e))
  says_28 (written e f w z) = absurd (omega (arith, e))

  two_of_28 : (write_answer list text plen name out).number ≡ layer_differs → Two
  two_of_28 e = says_28 ((each_number list text plen name out layer_differs).0 e)

  -- 28 only where two histories with one root show two strings: left child then right child of one position
  pub history_28 : (write_answer list text plen name out).number ≡ layer_differs
      → (x : Item) × (y : Item) × (o : OneRoot (content_of list text) x y) × TwoStrings (all x o.one).bytes (all y o.other).bytes
  history_28 e =
      let w = two_of_28 e in
      (w.0, w.1, w.2, layers_show plen good w.0 w.1 (all w.0 w.2.one) (all w.1 w.2.other) w.3 w.2.same_root w.4)

only_member : (x y : Item) → Member y (x ∷ []) → y ≡ x
unfolding Member
only_member x y (inl e) = e
only_member x y (inr m) = absurd m

-- A HISTORY'S ITEM, published alone, is never 27 or 28
pub one_history : (list text : List ℕ) (plen : ℕ) (name out : List ℕ) (x : Item) → is_piece_length plen ≡ true → OfHistory plen x → content_of list text ≡ x ∷ []
    → ((write_answer list text plen name out).number ≡ layers_amiss → ⊥) × ((write_answer list text plen name out).number ≡ layer_differs → ⊥)
one_history list text plen name out x good h e = (
  history_not_27 list text plen name out good all,
  λ q. let w = two_of_28 list text plen name out good all q in w.4 (ap (λ (z : Item). z.layer) (is w.0 w.2.one ∙ sym (is w.1 w.2.other))),
)
  where
    is : (y : Item) → Member y (content_of list text) → y ≡ x
    is y m = only_member x y (rw e at m)

    all : (y : Item) → Member y (content_of list text) → OfHistory plen y
    all y m = rw (is y m) h
