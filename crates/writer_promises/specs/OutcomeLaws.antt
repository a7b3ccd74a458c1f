-- Which answers there are, what stays, and that neither order nor place matters, for any room.
-- Assumes nothing.
use Rattle.std.specs.Prelude.{◌≡◌, ◌⊎◌, Bool, true, false, List, ℕ, ◌≤◌, length, get_or, eqb}
use Rattle.std.proofs.Math.Path.{refl}
use Rattle.std.proofs.Common.{sym, ap, ap₂, ◌∙◌, inl, inr, arith, eqb-true}
use Rattle.std.proofs.lemmas.Bool.{eqb-false}
use Rattle.octets.specs.Octets.{cut, pasted}
use Rattle.octets.specs.OctetsLaws.{pasted_length, get_or_pasted_after}
use Rattle.numbers.specs.Numbers.{done}
use Rattle.numbers.specs.declared.Answer.{Answer}
use Rattle.writer_meaning.specs.Content.{Item}
use Rattle.sorting.specs.SortedBy.{Permuted}
use Rattle.writer_lists.specs.Lists.{list_form, content_of}
use Rattle.writer.specs.Write.{torrent_bytes, write_number, write_answer, write_after}
use Rattle.writer.specs.WriteLaws.{written as what-0-says, answer_same, after_same}
use Rattle.writer_promises.specs.Published.{InForm, ContentSays, too_large_lem, too_deep_lem, out_of_range, wrong_files, two_lengths_lem, wrong_layers, layers_differ, WriteSays, no_form, of_content, too_short, written, written_bytes, WriteNumber, is_4, is_11, is_19, is_21, is_24_to_28, WriteOutcome, put, left}
use Rattle.writer_promises.specs.FormLaws.{in_form}
use Rattle.writer_promises.specs.AnswerLaws.{answer_number, when_done, when_refused, written_is}
use Rattle.writer_promises.specs.ExactlyLaws.{exactly}

-- ---- the numbers

content_number : (plen : ℕ) (name : List ℕ) (xs : List Item) (n : ℕ) → ContentSays plen name xs n → WriteNumber n
content_number plen name xs n (too_large_lem q w) = is_19 q
content_number plen name xs n (too_deep_lem q w) = is_21 q
content_number plen name xs n (out_of_range q w) = is_24_to_28 (omega arith) (omega arith)
content_number plen name xs n (wrong_files q w) = is_24_to_28 (omega arith) (omega arith)
content_number plen name xs n (two_lengths_lem q w) = is_24_to_28 (omega arith) (omega arith)
content_number plen name xs n (wrong_layers q w) = is_24_to_28 (omega arith) (omega arith)
content_number plen name xs n (layers_differ q w) = is_24_to_28 (omega arith) (omega arith)

said_number : (list text : List ℕ) (plen : ℕ) (name out : List ℕ) (n : ℕ) → WriteSays list text plen name out n → (n ≡ 0) ⊎ WriteNumber n
said_number list text plen name out n (no_form q f) = inr (is_4 q)
said_number list text plen name out n (of_content f w b) = inr (content_number plen name (content_of list text) n w)
said_number list text plen name out n (too_short q f k l) = inr (is_11 q)
said_number list text plen name out n (written q f k l) = inl q

module _ (list text : List ℕ) (plen : ℕ) (name out : List ℕ) where
  abbrev number : ℕ
  number = write_number list text plen name (length out)

  fits : number ≡ 0 → length (torrent_bytes list text plen name) ≤ length out
  fits e = (what-0-says list text plen name (length out) e).fits

  pub outcome : WriteOutcome out (write_answer list text plen name out) (write_after list text plen name out)
  outcome = by_number (eqb number 0) refl (said_number list text plen name out number ((exactly list text plen name out number).0 (answer_number list text plen name out)))
    where
      by_number : (b : Bool) → eqb number 0 ≡ b → (number ≡ 0) ⊎ WriteNumber number → WriteOutcome out (write_answer list text plen name out) (write_after list text plen name out)
      by_number true q n = let z = eqb-true number 0 q in let w = when_done list text plen name out z in put (torrent_bytes list text plen name) (fits z) w.0 w.1
      by_number false q (inl z) = absurd (eqb-false number 0 q z)
      by_number false q (inr n) = let w = when_refused list text plen name out (eqb-false number 0 q) in left number n w.0 w.1

  pub refusal_leaves : ((write_answer list text plen name out).number ≡ 0 → ⊥) → ((write_answer list text plen name out).count ≡ 0) × (write_after list text plen name out ≡ out)
  refusal_leaves h =
      let w = when_refused list text plen name out (λ z. h (answer_number list text plen name out ∙ z)) in
      (ap (λ (a : Answer). a.count) w.0, w.1)

  pub behind_stays : (write_answer list text plen name out).number ≡ 0
      → ((write_answer list text plen name out).count ≤ length out) × (length (write_after list text plen name out) ≡ length out)
      × ((i : ℕ) → (write_answer list text plen name out).count ≤ i → get_or (write_after list text plen name out) i 0 ≡ get_or out i 0)
  behind_stays e =
      rw (w.1, c)
      (f, pasted_length out 0 (torrent_bytes list text plen name) (omega (arith, f)), λ i h. get_or_pasted_after out 0 (torrent_bytes list text plen name) (omega (arith, f)) i (omega arith))
    where
      z : number ≡ 0
      z = sym (answer_number list text plen name out) ∙ e

      w : (write_answer list text plen name out ≡ done (length (torrent_bytes list text plen name))) × (write_after list text plen name out ≡ pasted out 0 (torrent_bytes list text plen name))
      w = when_done list text plen name out z

      c : (write_answer list text plen name out).count ≡ length (torrent_bytes list text plen name)
      c = ap (λ (a : Answer). a.count) w.0

      f : length (torrent_bytes list text plen name) ≤ length out
      f = fits z

  -- only the room of an output matters for the answer
  pub room_alone : (out' : List ℕ) → length out ≡ length out' → write_answer list text plen name out ≡ write_answer list text plen name out'
  unfolding write_answer
  room_alone out' e = rw e refl

-- ---- order

module _ (list text list' text' : List ℕ) (plen : ℕ) (name : List ℕ) (form : InForm list text) (form' : InForm list' text') (same : Permuted (content_of list text) (content_of list' text')) where
  both : list_form list text ≡ list_form list' text'
  both = (in_form list text).1 form ∙ sym ((in_form list' text').1 form')

  pub same_answer : (out out' : List ℕ) → length out ≡ length out' → write_answer list text plen name out ≡ write_answer list' text' plen name out'
  same_answer out out' e = answer_same list text list' text' plen name both same out ∙ room_alone list' text' plen name out out' e

  pub same_output : (out : List ℕ) → write_after list text plen name out ≡ write_after list' text' plen name out
  same_output out = after_same list text list' text' plen name both same out

  pub same_bytes : (out out' : List ℕ) → length out ≡ length out' → (write_answer list text plen name out).number ≡ 0 → written_bytes list text plen name out ≡ written_bytes list' text' plen name out'
  same_bytes out out' e z =
      let a = answer_same list text list' text' plen name both same out in
      let here : (write_answer list' text' plen name out).number ≡ 0 = ap (λ (x : Answer). x.number) (sym a) ∙ z in
      let there : (write_answer list' text' plen name out').number ≡ 0 = ap (λ (x : Answer). x.number) (sym (same_answer out out' e)) ∙ z in
      ap₂ (λ (o : List ℕ) (x : Answer). cut o 0 x.count) (same_output out) a ∙ written_is list' text' plen name out here ∙ sym (written_is list' text' plen name out' there)
