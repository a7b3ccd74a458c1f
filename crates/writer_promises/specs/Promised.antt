-- 02, request 4: what is promised of `kd_torrent_write`. `write_answer` and `write_after` are its answer and its output at exit: they are what
-- the contract of `writer`'s `write` says.
-- Assumes nothing.
use Rattle.std.specs.Prelude.{◌≡◌, refl, ◌⊎◌, ◌↔◌, List, [], ℕ, zero, suc, ◌+◌, ◌^◌, ◌≤◌, ◌<◌, length, get_or}
use Rattle.std.proofs.Common.{sym, ap, ◌∙◌, inl, inr, arith}
use Rattle.limits.specs.Limits.{largest_torrent}
use Rattle.numbers.specs.Numbers.{not_strict, key_missing, other_version}
use Rattle.numbers.specs.declared.Answer.{Answer}
use Rattle.bencode.specs.Grammar.{dictionary, encode}
use Rattle.sorting.specs.SortedBy.{Permuted}
use Rattle.writer_meaning.specs.Content.{Item, in_tree_order, torrent_of}
use Rattle.writer_meaning.specs.Number.{content_number}
use Rattle.writer_lists.specs.Lists.{content_of}
use Rattle.writer.specs.Write.{torrent_bytes, write_number, write_answer, write_after}
use Rattle.writer.specs.WrittenReads.{is_strict, has_name}
use Rattle.torrent.specs.Torrent.{read_of}
use Rattle.writer_promises.specs.Published.{Gives, Named, InForm, text_size, WriteSays, PlainContent, written_bytes, WriteNumber, is_4, is_11, is_19, is_21, is_24_to_28, WriteOutcome, put, left}
use Rattle.writer_promises.specs.FormLaws.{in_form}
use Rattle.writer_promises.specs.AnswerLaws.{answer_number, written_is, number_content, number_done}
use Rattle.writer_promises.specs.ExactlyLaws.{exactly}
use Rattle.writer_promises.specs.SameNumberLaws.{number_read}
use Rattle.writer_promises.specs.GivenLaws.{one_content, some_content}
use Rattle.writer_promises.specs.ListedLaws.{every_content}
use Rattle.writer_promises.specs.TripLaws.{written_given, written_shortest, named_number, unnamed_number, given_listable, written_again, again_fits, again_nearly_fits, empty_name}
use Rattle.writer_promises.specs.OutcomeLaws.{outcome, refusal_leaves, behind_stays, same_answer, same_output, same_bytes}

-- ---- 1. Read back: what was written beside 0 is answered 0 by the reader, with this piece length and, in tree order, exactly the list's
-- files: path, length, root, layer

pub read_back : (list text : List ℕ) (plen : ℕ) (name out : List ℕ) → (write_answer list text plen name out).number ≡ 0
    → Gives (written_bytes list text plen name out) plen (in_tree_order (content_of list text))
read_back = written_given

-- these bytes are the encoding of `torrent_of`: `info` with `file tree`, `meta version`, `name` and `piece length`, `piece layers`, and no other key
pub written_torrent : (list text : List ℕ) (plen : ℕ) (name out : List ℕ) → (write_answer list text plen name out).number ≡ 0
    → written_bytes list text plen name out ≡ encode (dictionary (torrent_of plen name (content_of list text)))
written_torrent = written_is

-- it is strict bencoding of at most 32 levels, and `info` has the name that was given
pub written_name : (list text : List ℕ) (plen : ℕ) (name out : List ℕ) → (write_answer list text plen name out).number ≡ 0 → Named (written_bytes list text plen name out) name
written_name list text plen name out e =
    let z = sym (answer_number list text plen name out) ∙ e in
    (torrent_of plen name (content_of list text), is_strict list text plen name out z, written_is list text plen name out e, has_name list text plen name out z)

-- `Gives` leaves nothing open: bytes that are answered 0 give one piece length and one list of files
pub gives_one : (s : List ℕ) (p q : ℕ) (xs ys : List Item) → Gives s p xs → Gives s q ys → (p ≡ q) × (xs ≡ ys)
gives_one = one_content

-- and it is no more than 0 says: all bytes that are answered 0 give some, in tree order
pub gives_some : (s : List ℕ) → (read_of s).number ≡ 0 → (xs : List Item) × Gives s (read_of s).plen xs × (in_tree_order xs ≡ xs)
gives_some = some_content

-- ---- 2. Order: two lists with the same content, with the same piece length, name and room, get the same number and the same bytes,
-- whatever their order and wherever their texts stand

pub any_order : (list text list' text' : List ℕ) (plen : ℕ) (name : List ℕ) → InForm list text → InForm list' text' → Permuted (content_of list text) (content_of list' text') → (out out' : List ℕ) → length out ≡ length out'
    → (write_answer list text plen name out ≡ write_answer list' text' plen name out')
    × ((write_answer list text plen name out).number ≡ 0 → written_bytes list text plen name out ≡ written_bytes list' text' plen name out')
any_order list text list' text' plen name f g p out out' e = (same_answer list text list' text' plen name f g p out out' e, same_bytes list text list' text' plen name f g p out out' e)

-- into the same output, every byte of it is the same at exit
pub any_order_output : (list text list' text' : List ℕ) (plen : ℕ) (name : List ℕ) → InForm list text → InForm list' text' → Permuted (content_of list text) (content_of list' text') → (out : List ℕ)
    → write_after list text plen name out ≡ write_after list' text' plen name out
any_order_output = same_output

-- ---- 3. Shortest: every string of bytes that the reader answers 0 with the same files, piece length and, under `info`, this `name`, has at
-- least as many bytes

pub shortest : (list text : List ℕ) (plen : ℕ) (name out s : List ℕ) → (write_answer list text plen name out).number ≡ 0 → Gives s plen (in_tree_order (content_of list text)) → Named s name
    → length (written_bytes list text plen name out) ≤ length s
shortest = written_shortest

-- ---- 4. Each number exactly when, as relations: 4 first, the lowest of 19 and 21 to 28, 11 last

pub each_number : (list text : List ℕ) (plen : ℕ) (name out : List ℕ) (n : ℕ) → ((write_answer list text plen name out).number ≡ n) ↔ WriteSays list text plen name out n
each_number = exactly

-- and where no path repeats, no path and no element is empty, no root has two layers, empty files have the zero root and no layer, and the
-- piece length is below 2^63, the number is the reader's number of `torrent_of`, the torrent that would be written; where that is 0, with room
pub readers_number : (list text : List ℕ) (plen : ℕ) (name out : List ℕ) → InForm list text → PlainContent (content_of list text) → plen < 2 ^ 63
    → ((read_of (torrent_bytes list text plen name)).number ≡ 0 → length (torrent_bytes list text plen name) ≤ length out)
    → (write_answer list text plen name out).number ≡ (read_of (torrent_bytes list text plen name)).number
readers_number list text plen name out f p l room = answer_number list text plen name out ∙ by_number (read_of (torrent_bytes list text plen name)).number refl
  where
    same : content_number plen name (content_of list text) ≡ (read_of (torrent_bytes list text plen name)).number
    same = number_read list text plen name f p l

    by_number : (n : ℕ) → (read_of (torrent_bytes list text plen name)).number ≡ n → write_number list text plen name (length out) ≡ (read_of (torrent_bytes list text plen name)).number
    by_number zero e = number_done list text plen name out ((in_form list text).1 f) (same ∙ e) (room e) ∙ sym e
    by_number (suc n) e = number_content list text plen name out ((in_form list text).1 f) (λ z. omega (arith, same)) ∙ same

-- ---- 5. Round trip: the content that is read from any torrent answered 0 gets 0, with room, and reads back as the same content. A list has
-- that content if the files in it, in any order, are those that were read

-- whose `info` has a string `name`, written with that name
pub round_trip : (s : List ℕ) (plen : ℕ) (xs : List Item) (name : List ℕ) → Gives s plen xs → Named s name → (list text : List ℕ) → InForm list text → Permuted (content_of list text) xs
    → (out : List ℕ) → length (torrent_bytes list text plen name) ≤ length out
    → ((write_answer list text plen name out).number ≡ 0) × Gives (written_bytes list text plen name out) plen xs
round_trip s plen xs name g n list text f p out l = written_again list text plen name s xs g p (named_number s plen name xs g n) out f l

-- as much room as the torrent has is enough
pub round_trip_room : (s : List ℕ) (plen : ℕ) (xs : List Item) (name : List ℕ) → Gives s plen xs → Named s name → (list text : List ℕ) → Permuted (content_of list text) xs
    → length (torrent_bytes list text plen name) ≤ length s
round_trip_room s plen xs name g n list text p = again_fits list text plen name s xs g p (named_number s plen name xs g n) n

-- or has none and at most 2^20 − 8 bytes, written with the empty name; so it is of one with another `name` too
pub round_trip_unnamed : (s : List ℕ) (plen : ℕ) (xs : List Item) → Gives s plen xs → length s + 8 ≤ largest_torrent → (list text : List ℕ) → InForm list text → Permuted (content_of list text) xs
    → (out : List ℕ) → length (torrent_bytes list text plen []) ≤ length out
    → ((write_answer list text plen [] out).number ≡ 0) × Gives (written_bytes list text plen [] out) plen xs
round_trip_unnamed s plen xs g l list text f p out r = written_again list text plen [] s xs g p (unnamed_number s plen xs g l) out f r

-- eight bytes more than the torrent has are enough
pub round_trip_unnamed_room : (s : List ℕ) (plen : ℕ) (xs : List Item) → Gives s plen xs → length s + 8 ≤ largest_torrent → (list text : List ℕ) → Permuted (content_of list text) xs
    → length (torrent_bytes list text plen []) ≤ length s + 8
round_trip_unnamed_room s plen xs g l list text p = let h = again_nearly_fits list text plen [] s xs g p (unnamed_number s plen xs g l) in let e = empty_name in omega arith

-- there is such a list wherever the text that it needs stays below 4 GiB, which is what starts of four bytes reach
pub content_listed : (s : List ℕ) (plen : ℕ) (xs : List Item) → Gives s plen xs → text_size xs < 2 ^ 32 → (list : List ℕ) × (text : List ℕ) × InForm list text × (content_of list text ≡ xs)
content_listed s plen xs g h = every_content xs (given_listable s plen xs g) h

-- ---- Demand 1, for this call: one outcome, in the table; a refusal leaves every byte

pub write_outcome : (list text : List ℕ) (plen : ℕ) (name out : List ℕ) → WriteOutcome out (write_answer list text plen name out) (write_after list text plen name out)
write_outcome = outcome

-- on each refusal the count is zero and every byte of the output stays
pub write_refused : (list text : List ℕ) (plen : ℕ) (name out : List ℕ) → ((write_answer list text plen name out).number ≡ 0 → ⊥)
    → ((write_answer list text plen name out).count ≡ 0) × (write_after list text plen name out ≡ out)
write_refused = refusal_leaves

-- on 0 the size is within the output, and the bytes behind it stay
pub write_done : (list text : List ℕ) (plen : ℕ) (name out : List ℕ) → (write_answer list text plen name out).number ≡ 0
    → ((write_answer list text plen name out).count ≤ length out) × (length (write_after list text plen name out) ≡ length out)
    × ((i : ℕ) → (write_answer list text plen name out).count ≤ i → get_or (write_after list text plen name out) i 0 ≡ get_or out i 0)
write_done = behind_stays

-- 20, 22 and 23 are never given
pub never_given : (list text : List ℕ) (plen : ℕ) (name out : List ℕ) (n : ℕ) → (n ≡ not_strict) ⊎ ((n ≡ key_missing) ⊎ (n ≡ other_version)) → (write_answer list text plen name out).number ≡ n → ⊥
never_given list text plen name out n k e = by_outcome (write_answer list text plen name out) (write_after list text plen name out) (outcome list text plen name out) e k
  where
    not_one : (m : ℕ) → WriteNumber m → m ≡ n → (n ≡ not_strict) ⊎ ((n ≡ key_missing) ⊎ (n ≡ other_version)) → ⊥
    not_one m (is_4 q) z j = elim j [ inl a ↦ omega arith | inr b ↦ elim b [ inl c ↦ omega arith | inr d ↦ omega arith ] ]
    not_one m (is_11 q) z j = elim j [ inl a ↦ omega arith | inr b ↦ elim b [ inl c ↦ omega arith | inr d ↦ omega arith ] ]
    not_one m (is_19 q) z j = elim j [ inl a ↦ omega arith | inr b ↦ elim b [ inl c ↦ omega arith | inr d ↦ omega arith ] ]
    not_one m (is_21 q) z j = elim j [ inl a ↦ omega arith | inr b ↦ elim b [ inl c ↦ omega arith | inr d ↦ omega arith ] ]
    not_one m (is_24_to_28 q r) z j = elim j [ inl a ↦ omega arith | inr b ↦ elim b [ inl c ↦ omega arith | inr d ↦ omega arith ] ]

    by_outcome : (a : Answer) (after : List ℕ) → WriteOutcome out a after → a.number ≡ n → (n ≡ not_strict) ⊎ ((n ≡ key_missing) ⊎ (n ≡ other_version)) → ⊥
    by_outcome a after (put bytes l d p) z j =
        let o = ap (λ (x : Answer). x.number) (sym d) ∙ z in
        elim j [ inl u ↦ omega arith | inr b ↦ elim b [ inl c ↦ omega arith | inr v ↦ omega arith ] ]
    by_outcome a after (left m w d p) z j = not_one m w (ap (λ (x : Answer). x.number) (sym d) ∙ z) j
