-- What is written beside 0, and that neither the order of a list nor where its texts stand matters.
-- Assumes nothing.
use Rattle.std.specs.Prelude.{◌≡◌, Bool, List, ℕ, ◌≤◌, length, ltb}
use Rattle.std.proofs.Math.Path.{refl, ap}
use Rattle.std.proofs.Common.{◌∙◌, arith, eqb-true, ltb-false}
use Rattle.std.proofs.Math.Bool.{true, false, cond}
use Rattle.std.proofs.Math.Dec.{eqb}
use Rattle.std.proofs.lemmas.Bool.{eqb-false}
use Rattle.octets.specs.Octets.{pasted}
use Rattle.numbers.specs.Numbers.{wrong_size, no_room}
use Rattle.numbers.specs.NumbersLaws.{let_through}
use Rattle.bencode.specs.Grammar.{Entries, dictionary, encode}
use Rattle.sorting.specs.SortedBy.{Permuted}
use Rattle.writer_meaning.specs.Number.{content_number}
use Rattle.writer_meaning.proofs.AnyOrder.{number_any_order, size_any_order, torrent_any_order}
use Rattle.writer_meaning.proofs.GoodLaws.{all_passed, good}
use Rattle.writer_lists.specs.Lists.{list_form, content_of}
use Rattle.writer.specs.Write.{torrent_bytes, write_number, write_answer, write_after}

-- ---- what 0 says

pub record Written (list text : List ℕ) (plen : ℕ) (name : List ℕ) (room : ℕ) : Type 0 where
  pub form : list_form list text ≡ true
  pub number : content_number plen name (content_of list text) ≡ 0
  pub fits : length (torrent_bytes list text plen name) ≤ room

pub written : (list text : List ℕ) (plen : ℕ) (name : List ℕ) (room : ℕ) → write_number list text plen name room ≡ 0 → Written list text plen
    name room
unfolding write_number
written list text plen name room e =
    record {
      form = a.0;
      number = b.0;
      fits = ltb-false room (length (torrent_bytes list text plen name))
          (roomy (ltb room (length (torrent_bytes list text plen name))) b.1);
    }
  where
    a : (list_form list text ≡ true) × (cond (eqb (content_number plen name (content_of list text)) 0)
        (cond (ltb room (length (torrent_bytes list text plen name))) no_room 0) (content_number plen name (content_of list text)) ≡ 0)
    a = let_through (list_form list text) _ wrong_size (λ z. omega arith) e

    by_number : (t : Bool) (n x : ℕ) → eqb n 0 ≡ t → cond t x n ≡ 0 → (n ≡ 0) × (x ≡ 0)
    by_number true n x q p = (eqb-true n 0 q, p)
    by_number false n x q p = absurd (eqb-false n 0 q p)

    b : (content_number plen name (content_of list text) ≡ 0) × (cond (ltb room (length (torrent_bytes list text plen name))) no_room 0 ≡ 0)
    b = by_number (eqb (content_number plen name (content_of list text)) 0) (content_number plen name (content_of list text)) _ refl a.1

    roomy : (t : Bool) → cond t no_room 0 ≡ 0 → t ≡ false
    roomy true q = absurd (omega arith)
    roomy false q = refl

-- ---- order

module _ (list text list' text' : List ℕ) (plen : ℕ) (name : List ℕ) (form : list_form list text ≡ list_form list' text')
    (same : Permuted (content_of list text) (content_of list' text')) where
  pub number_same : (room : ℕ) → write_number list text plen name room ≡ write_number list' text' plen name room
  unfolding write_number
  number_same room =
      rw (
        form,
        number_any_order plen name (content_of list text) (content_of list' text') same,
        size_any_order plen name (content_of list text)
            (content_of list' text') same,
      )
      refl

  -- the same torrent, wherever one is written
  bytes_same : (room : ℕ) → write_number list text plen name room ≡ 0 → torrent_bytes list text plen name ≡ torrent_bytes list' text' plen name
  bytes_same room e =
      let w = written list text plen name room e in
      let g = good plen name (content_of list text) (all_passed plen name (content_of list text) w.number) in
      ap (λ (t : Entries). encode (dictionary t))
      (torrent_any_order plen name (content_of list text) (content_of list' text') same g.fine.paths_apart)

  pub answer_same : (out : List ℕ) → write_answer list text plen name out ≡ write_answer list' text' plen name out
  unfolding write_answer
  answer_same out =
      rw (number_same (length out), size_any_order plen name (content_of list text) (content_of list' text') same) refl

  pub after_same : (out : List ℕ) → write_after list text plen name out ≡ write_after list' text' plen name out
  unfolding write_after
  after_same out = rw (number_same (length out)) (by_number (eqb (write_number list' text' plen name (length out)) 0) refl)
    where
      by_number : (t : Bool) → eqb (write_number list' text' plen name (length out)) 0 ≡ t
          → cond t (pasted out 0 (torrent_bytes list text plen name)) out ≡ cond t (pasted out 0 (torrent_bytes list' text' plen name)) out
      by_number true q =
          ap (pasted out 0) (bytes_same (length out)
          (number_same (length out) ∙ eqb-true (write_number list' text' plen name (length out)) 0 q))
      by_number false q = refl
