-- The call's number is what `WriteSays` says, and no other is.
-- Assumes nothing.
use Rattle.std.specs.Prelude.{◌≡◌, refl, ◌↔◌, Bool, true, false, List, ℕ, suc, ◌≤◌, ◌<◌, length, eqb, ltb}
use Rattle.std.proofs.Common.{sym, ◌∙◌, arith, eqb-true, ltb-true, ltb-false}
use Rattle.std.proofs.lemmas.Bool.{eqb-false}
use Rattle.numbers.specs.Numbers.{torrent_too_large, nested_too_deeply, piece_length_out_of_range, wrong_tree, two_lengths, layers_amiss, layer_differs}
use Rattle.writer_meaning.specs.Content.{Item}
use Rattle.writer_meaning.specs.Number.{content_number}
use Rattle.writer_meaning.specs.Refused.{TooLarge, TooDeep, OutOfRange, WrongFiles, TwoLengths, WrongLayers, LayersDiffer}
use Rattle.writer_meaning.proofs.Exactly.{exactly_19, exactly_21, exactly_24, exactly_25, exactly_26, exactly_27, exactly_28, exactly_0}
use Rattle.writer_lists.specs.Lists.{list_form, content_of}
use Rattle.writer.specs.Write.{torrent_bytes, write_number, write_answer}
use Rattle.writer_promises.specs.Published.{ContentSays, too_large_lem, too_deep_lem, out_of_range, wrong_files, two_lengths_lem, wrong_layers, layers_differ, WriteSays, no_form, of_content, too_short, written}
use Rattle.writer_promises.specs.FormLaws.{in_form, not_in_form}
use Rattle.writer_promises.specs.AnswerLaws.{answer_number, number_form, number_content, number_room, number_done}

-- ---- of the content

-- the lowest number that says something of it, or 0 where none does
pub data Lowest (plen : ℕ) (name : List ℕ) (xs : List Item) (n : ℕ) : Type 0 where
  refused_as : ContentSays plen name xs n → ((m : ℕ) → m < n → ContentSays plen name xs m → ⊥) → Lowest plen name xs n
  fine : n ≡ 0 → ((m : ℕ) → ContentSays plen name xs m → ⊥) → Lowest plen name xs n

module _ (plen : ℕ) (name : List ℕ) (xs : List Item) where
  abbrev number : ℕ
  number = content_number plen name xs

  below : (n : ℕ) → (torrent_too_large < n → TooLarge plen name xs → ⊥) → (nested_too_deeply < n → TooDeep xs → ⊥) → (piece_length_out_of_range < n → OutOfRange plen → ⊥) → (wrong_tree < n → WrongFiles xs → ⊥)
      → (two_lengths < n → TwoLengths xs → ⊥) → (layers_amiss < n → WrongLayers plen xs → ⊥) → (layer_differs < n → LayersDiffer plen xs → ⊥) → (m : ℕ) → m < n → ContentSays plen name xs m → ⊥
  below n a b c d e f g m h (too_large_lem q w) = a (omega arith) w
  below n a b c d e f g m h (too_deep_lem q w) = b (omega arith) w
  below n a b c d e f g m h (out_of_range q w) = c (omega arith) w
  below n a b c d e f g m h (wrong_files q w) = d (omega arith) w
  below n a b c d e f g m h (two_lengths_lem q w) = e (omega arith) w
  below n a b c d e f g m h (wrong_layers q w) = f (omega arith) w
  below n a b c d e f g m h (layers_differ q w) = g (omega arith) w

  at_28 : (TooLarge plen name xs → ⊥) → (TooDeep xs → ⊥) → (OutOfRange plen → ⊥) → (WrongFiles xs → ⊥) → (TwoLengths xs → ⊥) → (WrongLayers plen xs → ⊥) → (b : Bool) → eqb number layer_differs ≡ b → Lowest plen name xs number
  at_28 n19 n21 n24 n25 n26 n27 true q = let z = eqb-true number layer_differs q in refused_as (layers_differ z ((exactly_28 plen name xs).0 z).1.1.1.1.1.1) (below number (λ h. n19) (λ h. n21) (λ h. n24) (λ h. n25) (λ h. n26) (λ h. n27) (λ h u. omega arith))
  at_28 n19 n21 n24 n25 n26 n27 false q =
      let n28 : (LayersDiffer plen xs → ⊥) = (λ w. eqb-false number layer_differs q ((exactly_28 plen name xs).1 (n19, (n21, (n24, (n25, (n26, (n27, w)))))))) in
      fine ((exactly_0 plen name xs).1 (n19, (n21, (n24, (n25, (n26, (n27, n28))))))) (λ m. below (suc m) (λ h. n19) (λ h. n21) (λ h. n24) (λ h. n25) (λ h. n26) (λ h. n27) (λ h. n28) m (omega arith))

  at_27 : (TooLarge plen name xs → ⊥) → (TooDeep xs → ⊥) → (OutOfRange plen → ⊥) → (WrongFiles xs → ⊥) → (TwoLengths xs → ⊥) → (b : Bool) → eqb number layers_amiss ≡ b → Lowest plen name xs number
  at_27 n19 n21 n24 n25 n26 true q = let z = eqb-true number layers_amiss q in refused_as (wrong_layers z ((exactly_27 plen name xs).0 z).1.1.1.1.1) (below number (λ h. n19) (λ h. n21) (λ h. n24) (λ h. n25) (λ h. n26) (λ h u. omega arith) (λ h u. omega arith))
  at_27 n19 n21 n24 n25 n26 false q = at_28 n19 n21 n24 n25 n26 (λ w. eqb-false number layers_amiss q ((exactly_27 plen name xs).1 (n19, (n21, (n24, (n25, (n26, w))))))) (eqb number layer_differs) refl

  at_26 : (TooLarge plen name xs → ⊥) → (TooDeep xs → ⊥) → (OutOfRange plen → ⊥) → (WrongFiles xs → ⊥) → (b : Bool) → eqb number two_lengths ≡ b → Lowest plen name xs number
  at_26 n19 n21 n24 n25 true q = let z = eqb-true number two_lengths q in refused_as (two_lengths_lem z ((exactly_26 plen name xs).0 z).1.1.1.1) (below number (λ h. n19) (λ h. n21) (λ h. n24) (λ h. n25) (λ h u. omega arith) (λ h u. omega arith) (λ h u. omega arith))
  at_26 n19 n21 n24 n25 false q = at_27 n19 n21 n24 n25 (λ w. eqb-false number two_lengths q ((exactly_26 plen name xs).1 (n19, (n21, (n24, (n25, w)))))) (eqb number layers_amiss) refl

  at_25 : (TooLarge plen name xs → ⊥) → (TooDeep xs → ⊥) → (OutOfRange plen → ⊥) → (b : Bool) → eqb number wrong_tree ≡ b → Lowest plen name xs number
  at_25 n19 n21 n24 true q = let z = eqb-true number wrong_tree q in refused_as (wrong_files z ((exactly_25 plen name xs).0 z).1.1.1) (below number (λ h. n19) (λ h. n21) (λ h. n24) (λ h u. omega arith) (λ h u. omega arith) (λ h u. omega arith) (λ h u. omega arith))
  at_25 n19 n21 n24 false q = at_26 n19 n21 n24 (λ w. eqb-false number wrong_tree q ((exactly_25 plen name xs).1 (n19, (n21, (n24, w))))) (eqb number two_lengths) refl

  at_24 : (TooLarge plen name xs → ⊥) → (TooDeep xs → ⊥) → (b : Bool) → eqb number piece_length_out_of_range ≡ b → Lowest plen name xs number
  at_24 n19 n21 true q = let z = eqb-true number piece_length_out_of_range q in refused_as (out_of_range z ((exactly_24 plen name xs).0 z).1.1) (below number (λ h. n19) (λ h. n21) (λ h u. omega arith) (λ h u. omega arith) (λ h u. omega arith) (λ h u. omega arith) (λ h u. omega arith))
  at_24 n19 n21 false q = at_25 n19 n21 (λ w. eqb-false number piece_length_out_of_range q ((exactly_24 plen name xs).1 (n19, (n21, w)))) (eqb number wrong_tree) refl

  at_21 : (TooLarge plen name xs → ⊥) → (b : Bool) → eqb number nested_too_deeply ≡ b → Lowest plen name xs number
  at_21 n19 true q = let z = eqb-true number nested_too_deeply q in refused_as (too_deep_lem z ((exactly_21 plen name xs).0 z).1) (below number (λ h. n19) (λ h u. omega arith) (λ h u. omega arith) (λ h u. omega arith) (λ h u. omega arith) (λ h u. omega arith) (λ h u. omega arith))
  at_21 n19 false q = at_24 n19 (λ w. eqb-false number nested_too_deeply q ((exactly_21 plen name xs).1 (n19, w))) (eqb number piece_length_out_of_range) refl

  at_19 : (b : Bool) → eqb number torrent_too_large ≡ b → Lowest plen name xs number
  at_19 true q = let z = eqb-true number torrent_too_large q in refused_as (too_large_lem z ((exactly_19 plen name xs).0 z)) (below number (λ h u. omega arith) (λ h u. omega arith) (λ h u. omega arith) (λ h u. omega arith) (λ h u. omega arith) (λ h u. omega arith) (λ h u. omega arith))
  at_19 false q = at_21 (λ w. eqb-false number torrent_too_large q ((exactly_19 plen name xs).1 w)) (eqb number nested_too_deeply) refl

  pub lowest : Lowest plen name xs (content_number plen name xs)
  lowest = at_19 (eqb number torrent_too_large) refl

  -- no number says something and is 0
  pub says_more : (n : ℕ) → ContentSays plen name xs n → 0 < n
  says_more n (too_large_lem q w) = omega arith
  says_more n (too_deep_lem q w) = omega arith
  says_more n (out_of_range q w) = omega arith
  says_more n (wrong_files q w) = omega arith
  says_more n (two_lengths_lem q w) = omega arith
  says_more n (wrong_layers q w) = omega arith
  says_more n (layers_differ q w) = omega arith

-- ---- of the call

module _ (list text : List ℕ) (plen : ℕ) (name out : List ℕ) where
  abbrev given : ℕ
  given = write_number list text plen name (length out)

  abbrev Said : ℕ → Type 0
  Said n = WriteSays list text plen name out n

  of_form : list_form list text ≡ true → Lowest plen name (content_of list text) (content_number plen name (content_of list text)) → Said given
  of_form e (refused_as w b) =
      let m = says_more plen name (content_of list text) (content_number plen name (content_of list text)) w in
      rw (number_content list text plen name out e (λ z. omega arith)) (of_content ((in_form list text).0 e) w b)
  of_form e (fine z n) = by_room (ltb (length out) (length (torrent_bytes list text plen name))) refl
    where
      by_room : (b : Bool) → ltb (length out) (length (torrent_bytes list text plen name)) ≡ b → Said given
      by_room true q = let l = ltb-true (length out) (length (torrent_bytes list text plen name)) q in too_short (number_room list text plen name out e z l) ((in_form list text).0 e) n l
      by_room false q = let l = ltb-false (length out) (length (torrent_bytes list text plen name)) q in written (number_done list text plen name out e z l) ((in_form list text).0 e) n l

  number_says : Said given
  number_says = by_form (list_form list text) refl
    where
      by_form : (b : Bool) → list_form list text ≡ b → Said given
      by_form true e = of_form e (lowest plen name (content_of list text))
      by_form false e = no_form (number_form list text plen name out e) (not_in_form list text e)

  lower : (n m : ℕ) → ContentSays plen name (content_of list text) n → ((k : ℕ) → k < m → ContentSays plen name (content_of list text) k → ⊥) → m ≤ n
  lower n m w b = by_test (ltb n m) refl
    where
      by_test : (t : Bool) → ltb n m ≡ t → m ≤ n
      by_test true q = absurd (b n (ltb-true n m q) w)
      by_test false q = ltb-false n m q

  one_number : (n m : ℕ) → Said n → Said m → n ≡ m
  one_number n m (no_form e f) (no_form g h) = omega arith
  one_number n m (no_form e f) (of_content g w b) = absurd (f g)
  one_number n m (no_form e f) (too_short g h k l) = absurd (f h)
  one_number n m (no_form e f) (written g h k l) = absurd (f h)
  one_number n m (of_content g w b) (no_form e f) = absurd (f g)
  one_number n m (of_content g w b) (of_content h v c) = let x = lower n m w c in let y = lower m n v b in omega arith
  one_number n m (of_content g w b) (too_short h i k l) = absurd (k n w)
  one_number n m (of_content g w b) (written h i k l) = absurd (k n w)
  one_number n m (too_short g h k l) (no_form e f) = absurd (f h)
  one_number n m (too_short g h k l) (of_content i w b) = absurd (k m w)
  one_number n m (too_short g h k l) (too_short e f i j) = omega arith
  one_number n m (too_short g h k l) (written e f i j) = absurd (omega arith)
  one_number n m (written g h k l) (no_form e f) = absurd (f h)
  one_number n m (written g h k l) (of_content i w b) = absurd (k m w)
  one_number n m (written g h k l) (too_short e f i j) = absurd (omega arith)
  one_number n m (written g h k l) (written e f i j) = omega arith

  pub exactly : (n : ℕ) → ((write_answer list text plen name out).number ≡ n) ↔ WriteSays list text plen name out n
  exactly n = (
    (λ e. rw (sym e ∙ answer_number list text plen name out) number_says),
    λ w. answer_number list text plen name out ∙ one_number given n number_says w,
  )
