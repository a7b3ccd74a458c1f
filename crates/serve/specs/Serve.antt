-- 01, "Serving": 9, 1; then 2, 3, 12 settle whether a request gets a reply or a reject, and too little room for that one gives 11.
-- Assumes nothing.
use Rattle.std.specs.Prelude.{List, [], ◌∷◌, ◌++◌, Bool, true, cond, ◌&&◌, ◌||◌, ℕ, zero, suc, ◌+◌, ◌*◌, ◌/◌, ◌^◌, length, eqb, leb}
use Rattle.octets.specs.Octets.{pasted}
use Rattle.numbers.specs.Numbers.{refused, no_message, unusable, no_room, not_held}
use Rattle.numbers.specs.declared.Answer.{Answer}
use Rattle.cells.specs.Cells.{held_at, hash_at}
use Rattle.settling.specs.Path.{sibling}
use Rattle.header.specs.declared.Place.{Place}
use Rattle.header.specs.Header.{hashes_id, reject_id, header_bytes, is_request}
use Rattle.messages.specs.Take.{header_number, place_in, or_else}

-- the c positions from number n on, side by side in their layer: whether all are held, and their hashes one after the other
unfoldable pub held_run : List ℕ → ℕ → ℕ → Bool
held_run s n zero = true
held_run s n (suc c) = held_run s n c && held_at s (n + c)

unfoldable pub run_hashes : List ℕ → ℕ → ℕ → List ℕ
run_hashes s n zero = []
run_hashes s n (suc c) = run_hashes s n c ++ hash_at s (n + c)

-- the u uncles from position n upward: the same
unfoldable pub held_uncles : List ℕ → ℕ → ℕ → Bool
held_uncles s zero n = true
held_uncles s (suc u) n = held_at s (sibling n) && held_uncles s u (n / 2)

unfoldable pub uncle_hashes : List ℕ → ℕ → ℕ → List ℕ
uncle_hashes s zero n = []
uncle_hashes s (suc u) n = hash_at s (sibling n) ++ uncle_hashes s u (n / 2)

-- run and uncles of a place; parents and anchor are not needed
unfoldable pub all_held : List ℕ → Place → Bool
all_held s p = held_run s (p.top * 2 ^ p.k) (2 ^ p.k) && held_uncles s p.u p.top

unfoldable pub all_hashes : List ℕ → Place → List ℕ
all_hashes s p = run_hashes s (p.top * 2 ^ p.k) (2 ^ p.k) ++ uncle_hashes s p.u p.top

-- a reply and a reject repeat the request's 48 bytes behind the id
unfoldable pub reply_to : List ℕ → List ℕ → List ℕ
reply_to s m = hashes_id ∷ (header_bytes m ++ all_hashes s (place_in s m))

unfoldable pub reject_to : List ℕ → List ℕ
reject_to m = reject_id ∷ header_bytes m

unfoldable pub request_number : List ℕ → List ℕ → ℕ
request_number s m = or_else (header_number (is_request m) s m) (cond (all_held s (place_in s m)) 0 not_held)

-- what is sent back on a number other than 9 and 1
unfoldable pub sent_back : List ℕ → List ℕ → List ℕ
sent_back s m = cond (eqb (request_number s m) 0) (reply_to s m) (reject_to m)

-- nothing is sent on 9 and 1
abbrev pub unanswered : ℕ → Bool
unanswered n = eqb n unusable || eqb n no_message

unfoldable pub serve_answer : List ℕ → List ℕ → List ℕ → Answer
serve_answer s m out =
    cond (unanswered (request_number s m)) (refused (request_number s m))
    (cond (leb (length (sent_back s m)) (length out)) (record { number = request_number s m; count = length (sent_back s m) }) (refused no_room))

-- bytes of the output beyond what is sent stay
unfoldable pub serve_after : List ℕ → List ℕ → List ℕ → List ℕ
serve_after s m out =
    cond (unanswered (request_number s m)) out (cond (leb (length (sent_back s m)) (length out)) (pasted out 0 (sent_back s m)) out)
