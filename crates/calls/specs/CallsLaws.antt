-- Every answer is one of those; no second outcome satisfies a contract; a refused list leaves the output as it was.
-- Assumes nothing.
use Rattle.std.specs.Prelude.{◌≡◌, ◌⊎◌, Bool, true, cond, List, [], ◌∷◌, ℕ, zero, suc, ◌*◌, ◌<◌, length, eqb, ltb}
use Rattle.std.proofs.Math.Path.{refl}
use Rattle.std.proofs.Common.{◌∙◌, inl, inr, arith, ne_eqb}
use Rattle.std.proofs.Math.Bool.{false}
use Rattle.octets.specs.Octets.{pasted}
use Rattle.numbers.specs.Numbers.{no_room, no_such_part, refused, done}
use Rattle.numbers.specs.declared.Answer.{Answer}
use Rattle.halves.proofs.HalvesLaws.{torrent_ranged}
use Rattle.metainfo.specs.Metainfo.{bytes_in}
use Rattle.filetree.specs.Tree.{Element, listed, files_in, file_number}
use Rattle.torrent.specs.Torrent.{checked_of, read_of, file_read, no_file_read, path_read, element_in, no_part_read}
use Rattle.torrent.specs.Answers.{Says, too_large, no_encoding, too_deep, encodes}
use Rattle.torrent.specs.NumberMeans.{torrent_number_lem, read_number_lem, refused_read, refused_file, refused_path}
use Rattle.catalogue.specs.Catalogue.{record_size, records_of, parts_of, list_answer, list_after}
use Rattle.calls.specs.Calls.{OfTorrent, ReadOutcome, done as read_done, bad_torrent as read_refused, FileOutcome, done as file_done, bad_torrent as file_refused, no_file, PathOutcome, done as path_done, bad_torrent as path_refused, no_element, ListOutcome, done as list_done, bad_torrent as list_refused, too_short}

-- the number of a torrent is 0, 19 to 28, or 31
pub checked_ranged : (s : List ℕ) → ((checked_of s).keys.number ≡ 0) ⊎ OfTorrent (checked_of s).keys.number
checked_ranged s = by_case (torrent_number_lem s)
  where
    by_case : Says s (checked_of s).keys.number → ((checked_of s).keys.number ≡ 0) ⊎ OfTorrent (checked_of s).keys.number
    by_case (too_large h q) = inr (inl (omega arith, omega arith))
    by_case (no_encoding h a b q) = inr (inl (omega arith, omega arith))
    by_case (too_deep h d q) = inr (inl (omega arith, omega arith))
    by_case (encodes h es v b q) =
        elim (torrent_ranged es) [ inl z ↦ inl (q ∙ z) | inr w ↦ inr (elim w [ inl p ↦ (let x = p.0 in let y = p.1 in inl (omega arith, omega arith)) | inr z ↦ inr (q ∙ z) ]) ]

-- such a number is above 11, and is not 29
pub of_torrent : (n : ℕ) → OfTorrent n → (no_room < n) × (n ≡ no_such_part → ⊥)
of_torrent n (inl p) = let x = p.0 in let y = p.1 in (omega arith, λ z. omega arith)
of_torrent n (inr e) = (omega arith, λ z. omega arith)

pub not_zero : (n : ℕ) → OfTorrent n → n ≡ 0 → ⊥
not_zero n p z = let x = (of_torrent n p).0 in omega arith

-- ---- each call

pub read_outcome : (s : List ℕ) → ReadOutcome (read_of s)
read_outcome s =
    elim (checked_ranged s) [
      | inl z ↦ read_done (read_of s) (read_number_lem s ∙ z)
      | inr p ↦ rw (refused_read s (not_zero (checked_of s).keys.number p)) (read_refused (checked_of s).keys.number p)
    ]

pub file_outcome : (s : List ℕ) (n : ℕ) → FileOutcome (file_read s n)
file_outcome s n =
    elim (checked_ranged s) [
      | inl z ↦ by_file z (ltb n (checked_of s).files) refl
      | inr p ↦ rw (refused_file s n (not_zero (checked_of s).keys.number p)) (file_refused (checked_of s).keys.number p)
    ]
  where
    by_file : (checked_of s).keys.number ≡ 0 → (b : Bool) → ltb n (checked_of s).files ≡ b → FileOutcome (file_read s n)
    by_file z true q = file_done (file_read s n) (unfold file_read in rw (z, q) refl)
    by_file z false q = let none : file_read s n ≡ no_file_read no_such_part = unfold file_read in rw (z, q) refl in rw none no_file

-- an element, or none of that number
element_outcome : (base : ℕ) (path : List Element) (k : ℕ) → PathOutcome (element_in base path k)
unfolding element_in
element_outcome base [] k = no_element
element_outcome base (e ∷ path) zero = path_done _ refl
element_outcome base (e ∷ path) (suc k) = element_outcome base path k

pub path_outcome : (s : List ℕ) (n k : ℕ) → PathOutcome (path_read s n k)
path_outcome s n k =
    elim (checked_ranged s) [
      | inl z ↦ by_file z (ltb n (checked_of s).files) refl
      | inr p ↦ rw (refused_path s n k (not_zero (checked_of s).keys.number p)) (path_refused (checked_of s).keys.number p)
    ]
  where
    by_file : (checked_of s).keys.number ≡ 0 → (b : Bool) → ltb n (checked_of s).files ≡ b → PathOutcome (path_read s n k)
    by_file z true q =
        let base = (checked_of s).keys.tree.start in
        let path = (file_number (listed (files_in (bytes_in s (checked_of s).keys.tree))) n).path in
        let some : path_read s n k ≡ element_in base path k = unfold path_read in rw (z, q) refl in
        rw some (element_outcome base path k)
    by_file z false q = let none : path_read s n k ≡ no_part_read no_such_part = unfold path_read in rw (z, q) refl in rw none no_element

pub list_outcome : (s out : List ℕ) → ListOutcome out (list_answer s out) (list_after s out)
unfolding list_answer list_after
list_outcome s out =
    elim (checked_ranged s) [
      | inl z ↦ rw z (by_room (ltb (length out) (record_size * (checked_of s).files)))
      | inr p ↦ (let e : eqb (checked_of s).keys.number 0 ≡ false = ne_eqb (checked_of s).keys.number 0 (not_zero (checked_of s).keys.number p) in rw e (list_refused (checked_of s).keys.number p))
    ]
  where
    by_room : (b : Bool)
        → ListOutcome out (cond b (refused no_room) (done (record_size * (checked_of s).files)))
        (cond b out (pasted out 0 (records_of (parts_of s (checked_of s).keys) (listed (files_in (bytes_in s (checked_of s).keys.tree))))))
    by_room true = too_short
    by_room false = list_done _ _ refl

-- ---- a refusal leaves every byte: the other calls are lent nothing that they could change

pub list_refused_lem : (s out : List ℕ) → ((list_answer s out).number ≡ 0 → ⊥) → ((list_answer s out).count ≡ 0) × (list_after s out ≡ out)
list_refused_lem s out h = by_case (list_answer s out) (list_after s out) (list_outcome s out) h
  where
    by_case : (a : Answer) (after : List ℕ) → ListOutcome out a after → (a.number ≡ 0 → ⊥) → (a.count ≡ 0) × (after ≡ out)
    by_case a after (list_done b c e) n = absurd (n e)
    by_case a after (list_refused m p) n = (refl, refl)
    by_case a after too_short n = (refl, refl)
