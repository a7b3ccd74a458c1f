-- The answer and the output by the call's number.
-- Assumes nothing.
use Rattle.std.specs.Prelude.{◌≡◌, Bool, cond, List, ℕ, ◌≤◌, ◌<◌, length}
use Rattle.std.proofs.Math.Path.{refl, sym}
use Rattle.std.proofs.Common.{ap, ◌∙◌, eqb-true, ne_eqb, lt-ltb, le-ltb}
use Rattle.std.proofs.Math.Bool.{true, false}
use Rattle.std.proofs.Math.Dec.{eqb}
use Rattle.octets.specs.Octets.{cut, pasted}
use Rattle.numbers.specs.Numbers.{wrong_size, no_room, refused, done}
use Rattle.numbers.specs.declared.Answer.{Answer}
use Rattle.writer_meaning.specs.Number.{content_number}
use Rattle.writer_lists.specs.Lists.{list_form, content_of}
use Rattle.writer.specs.Write.{torrent_bytes, write_number, write_answer, write_after}
use Rattle.writer.specs.WrittenReads.{bytes_there}
use Rattle.writer_promises.specs.Published.{written_bytes}

module _ (list text : List ℕ) (plen : ℕ) (name out : List ℕ) where
  abbrev number : ℕ
  number = write_number list text plen name (length out)

  abbrev bytes : List ℕ
  bytes = torrent_bytes list text plen name

  pub answer_number : (write_answer list text plen name out).number ≡ write_number list text plen name (length out)
  unfolding write_answer
  answer_number = by_test (eqb number 0) refl
    where
      by_test : (b : Bool) → eqb number 0 ≡ b → (cond b (done (length bytes)) (refused number)).number ≡ number
      by_test true e = sym (eqb-true number 0 e)
      by_test false e = refl

  pub when_done : write_number list text plen name (length out) ≡ 0
      → (write_answer list text plen name out ≡ done (length (torrent_bytes list text plen name))) × (write_after list text plen name out ≡ pasted out 0 (torrent_bytes list text plen name))
  unfolding write_answer write_after
  when_done e = (rw e refl, rw e refl)

  pub when_refused : (write_number list text plen name (length out) ≡ 0 → ⊥)
      → (write_answer list text plen name out ≡ refused (write_number list text plen name (length out))) × (write_after list text plen name out ≡ out)
  unfolding write_answer write_after
  when_refused h = (rw (ne_eqb number 0 h) refl, rw (ne_eqb number 0 h) refl)

  -- the bytes written are the torrent's
  pub written_is : (write_answer list text plen name out).number ≡ 0 → written_bytes list text plen name out ≡ torrent_bytes list text plen name
  written_is e =
      let z = sym answer_number ∙ e in
      ap (λ (a : Answer). cut (write_after list text plen name out) 0 a.count) (when_done z).0 ∙ bytes_there list text plen name out z

  -- ---- the number by its parts

  pub number_form : list_form list text ≡ false → write_number list text plen name (length out) ≡ wrong_size
  unfolding write_number
  number_form e = rw e refl

  module _ (form : list_form list text ≡ true) where
    pub number_content : (content_number plen name (content_of list text) ≡ 0 → ⊥) → write_number list text plen name (length out) ≡ content_number plen name (content_of list text)
    unfolding write_number
    number_content h = rw (form, ne_eqb (content_number plen name (content_of list text)) 0 h) refl

    pub number_room : content_number plen name (content_of list text) ≡ 0 → length out < length (torrent_bytes list text plen name) → write_number list text plen name (length out) ≡ no_room
    unfolding write_number
    number_room e l = rw (form, e, lt-ltb (length out) (length bytes) l) refl

    pub number_done : content_number plen name (content_of list text) ≡ 0 → length (torrent_bytes list text plen name) ≤ length out → write_number list text plen name (length out) ≡ 0
    unfolding write_number
    number_done e l = rw (form, e, le-ltb (length out) (length bytes) l) refl
