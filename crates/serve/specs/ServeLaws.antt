-- What follows from the definitions of Serve: how long what is sent back is, which positions it takes its hashes from, which numbers
-- there are, and what a receiver reads in a reply.
-- Assumes nothing.
use Rattle.std.specs.Prelude.{◌≡◌, refl, Bool, true, false, cond, ◌⊎◌, take, List, ◌∷◌, ◌++◌, ℕ, zero, suc, ◌+◌, ◌*◌, ◌/◌, ◌%◌, ◌^◌, ◌≤◌, ◌<◌}
use Rattle.std.proofs.Math.Path.{ap, sym}
use Rattle.std.proofs.Common.{◌∙◌, inl, inr, one-mul, add-one, eq-eqb, ne_eqb, le-leb, append_assoc, append-nil, arith}
use Rattle.std.proofs.Math.Bool.{and-eq-true_iff}
use Rattle.std.proofs.Math.Nat.{add-mul, mul-le-mul_left}
use Rattle.std.proofs.Math.Decide.{ℕ_discrete}
use Rattle.std.proofs.Math.ListN.{length, length-append}
use Rattle.std.proofs.Math.Seq.{drop-append-add}
use Rattle.std.proofs.lemmas.Bool.{lt-leb}
use Rattle.octets.specs.Octets.{cut, pasted, number_at, zero_hash}
use Rattle.octets.specs.OctetsLaws.{cut_length, cut_cut, cut_whole, cut_append_left, cut_append_right, number_cut}
use Rattle.numbers.specs.Numbers.{refused, no_message, unusable, no_room, not_held}
use Rattle.cells.specs.Cells.{Room, held_at, hash_at}
use Rattle.cells.specs.CellsLaws.{hash_length}
use Rattle.store.specs.Store.{usable, height_of, positions}
use Rattle.store.specs.StoreLaws.{usable_facts}
use Rattle.settling.specs.Path.{sibling, ancestor, uncle}
use Rattle.settling.specs.PathLaws.{sibling_even, sibling_odd}
use Rattle.settling.specs.AncestorLaws.{ancestor_le}
use Rattle.settling.specs.Span.{Within}
use Rattle.settling.specs.SubtreeLaws.{run_leaf_in}
use Rattle.header.specs.declared.Place.{Place}
use Rattle.header.specs.Header.{header_size, header_bytes, hashes_id, message_root, header_of, is_hashes, is_request, message_size}
use Rattle.messages.specs.Take.{header_number, run_of, uncles_of, given, place_in, or_else}
use Rattle.messages.specs.Asks.{Placed}
use Rattle.messages.specs.TakeLaws.{passed, placed, request_form}
use Rattle.serve.specs.Asks.{Reach, fit_answer, fit_after}
use Rattle.serve.specs.Serve.{held_run, run_hashes, held_uncles, uncle_hashes, all_held, all_hashes, reply_to, reject_to, request_number, sent_back, serve_answer, serve_after}

-- ---- the positions of a place

-- what stands beside a position is at most one further
pub sibling_near : (n : ℕ) → sibling n < n + 2
sibling_near n = elim (ℕ_discrete (n % 2) 0) [ yes z ↦ omega (arith, sibling_even n z) | no z ↦ omega (arith, sibling_odd n z) ]

-- so is what stands beside a position above it
pub uncle_near : (i n : ℕ) → sibling (ancestor i n) < n + 2
uncle_near i n = omega (arith, sibling_near (ancestor i n), ancestor_le i n)

-- ---- hashes one after the other

-- one more hash of a run
pub run_hashes_more : (s : List ℕ) (n i : ℕ) → run_hashes s n (i + 1) ≡ run_hashes s n i ++ hash_at s (n + i)
unfolding run_hashes
run_hashes_more s n i = rw (add-one i)

uncle_step : (s : List ℕ) (i n : ℕ) → uncle_hashes s (suc i) n ≡ uncle_hashes s i n ++ hash_at s (sibling (ancestor i n))
unfolding uncle_hashes ancestor
uncle_step s zero n = append-nil (hash_at s (sibling n))
uncle_step s (suc i) n =
    ap (λ (l : List ℕ). hash_at s (sibling n) ++ l) (uncle_step s i (n / 2))
    ∙ sym (append_assoc (hash_at s (sibling n)) (uncle_hashes s i (n / 2)) (hash_at s (sibling (ancestor i (n / 2)))))

-- one more uncle
pub uncle_hashes_more : (s : List ℕ) (i n : ℕ) → uncle_hashes s (i + 1) n ≡ uncle_hashes s i n ++ hash_at s (sibling (ancestor i n))
uncle_hashes_more s i n = rw (add-one i) (uncle_step s i n)

-- c hashes of a run are 32·c bytes
pub run_hashes_length : (s : List ℕ) (n c : ℕ) → Room (n + c) s → length (run_hashes s n c) ≡ 32 * c
unfolding run_hashes
run_hashes_length s n zero r = refl
run_hashes_length s n (suc c) r = simp length-append (omega (arith, run_hashes_length s n c (omega arith), hash_length s (n + suc c) (n + c) r (omega arith)))

-- u uncles are 32·u bytes
pub uncle_hashes_length : (s : List ℕ) (u n : ℕ) → Room (n + 2) s → length (uncle_hashes s u n) ≡ 32 * u
unfolding uncle_hashes
uncle_hashes_length s zero n r = refl
uncle_hashes_length s (suc u) n r =
    simp length-append (omega (arith, uncle_hashes_length s u (n / 2) (omega arith), hash_length s (n + 2) (sibling n) r (sibling_near n)))

-- a place has 2^k + u hashes
pub all_hashes_length : (s : List ℕ) (p : Place) → Reach (length s) p → length (all_hashes s p) ≡ 32 * 2 ^ p.k + 32 * p.u
unfolding all_hashes
all_hashes_length s p r =
    simp length-append (omega (arith, run_hashes_length s (p.top * 2 ^ p.k) (2 ^ p.k) r.run, uncle_hashes_length s p.u p.top r.uncles))

-- ---- all of them held

-- of a run that is held, each position is
pub held_run_at : (s : List ℕ) (n c : ℕ) → held_run s n c ≡ true → (j : ℕ) → j < c → held_at s (n + j) ≡ true
unfolding held_run
held_run_at s n zero e j l = absurd (omega arith)
held_run_at s n (suc c) e j l =
    let w = (and-eq-true_iff (held_run s n c) (held_at s (n + c))).0 e in
    elim (ℕ_discrete j c) [ yes q ↦ rw q w.1 | no q ↦ held_run_at s n c w.0 j (omega arith) ]

-- of uncles that are held, each one is
pub held_uncle_at : (s : List ℕ) (u n : ℕ) → held_uncles s u n ≡ true → (i : ℕ) → i < u → held_at s (sibling (ancestor i n)) ≡ true
unfolding held_uncles ancestor
held_uncle_at s zero n e i l = absurd (omega arith)
held_uncle_at s (suc u) n e zero l = ((and-eq-true_iff (held_at s (sibling n)) (held_uncles s u (n / 2))).0 e).0
held_uncle_at s (suc u) n e (suc i) l = held_uncle_at s u (n / 2) ((and-eq-true_iff (held_at s (sibling n)) (held_uncles s u (n / 2))).0 e).1 i (omega arith)

-- and a run is held if each position is
pub held_run_all : (s : List ℕ) (n c : ℕ) → ((j : ℕ) → j < c → held_at s (n + j) ≡ true) → held_run s n c ≡ true
unfolding held_run
held_run_all s n zero f = refl
held_run_all s n (suc c) f = rw (held_run_all s n c (λ j l. f j (omega arith)), f c (omega arith))

-- uncles too
pub held_uncles_all : (s : List ℕ) (u n : ℕ) → ((i : ℕ) → i < u → held_at s (sibling (ancestor i n)) ≡ true) → held_uncles s u n ≡ true
unfolding held_uncles ancestor
held_uncles_all s zero n f = refl
held_uncles_all s (suc u) n f = rw (f 0 (omega arith), held_uncles_all s u (n / 2) (λ i l. f (suc i) (omega arith)))

-- ---- what is sent back, by the room there is

-- a message that fits is sent
pub fits_sent : (number : ℕ) (sent out : List ℕ) → length sent ≤ length out
    → (fit_answer number sent out ≡ record { number = number; count = length sent }) × (fit_after sent out ≡ pasted out 0 sent)
unfolding fit_answer fit_after
fits_sent number sent out l = rw (le-leb (length sent) (length out) l) (refl, refl)

-- one that doesn't is 11
pub fits_not : (number : ℕ) (sent out : List ℕ) → length out < length sent
    → (fit_answer number sent out ≡ refused no_room) × (fit_after sent out ≡ out)
unfolding fit_answer fit_after
fits_not number sent out l = rw (lt-leb (length sent) (length out) l) (refl, refl)

-- ---- a request's number, and what it says

-- a number that lets the next one decide is 0
or_else_zero : (n next : ℕ) → or_else n next ≡ 0 → (n ≡ 0) × (next ≡ 0)
or_else_zero n next e =
    elim (ℕ_discrete n 0) [
      | yes z ↦ (z, rw (eq-eqb n 0 z) at e)
      | no z ↦ absurd (z (rw (ne_eqb n 0 z) at e))
    ]

pub cond_zero : (t : Bool) → cond t 0 not_held ≡ 0 → t ≡ true
cond_zero true e = refl
cond_zero false e = let w : ⊥ = omega arith in absurd w

-- a request that is answered by hashes passed 9, 1, 2 and 3,
pub request_passes : (s m : List ℕ) → request_number s m ≡ 0 → header_number (is_request m) s m ≡ 0
unfolding request_number
request_passes s m e = (or_else_zero (header_number (is_request m) s m) (cond (all_held s (place_in s m)) 0 not_held) e).0

-- and all its hashes are held
pub request_held : (s m : List ℕ) → request_number s m ≡ 0 → all_held s (place_in s m) ≡ true
unfolding request_number
request_held s m e = cond_zero (all_held s (place_in s m)) (or_else_zero (header_number (is_request m) s m) (cond (all_held s (place_in s m)) 0 not_held) e).1

-- such a request is 0
pub request_zero : (s m : List ℕ) → header_number (is_request m) s m ≡ 0 → all_held s (place_in s m) ≡ true → request_number s m ≡ 0
unfolding request_number
request_zero s m e h = rw (e, h)

-- a message that isn't of a request's form gets 9 or 1
no_form : (s m : List ℕ) → is_request m ≡ false → (request_number s m ≡ unusable) ⊎ (request_number s m ≡ no_message)
unfolding request_number header_number
no_form s m e = rw e (by (usable s))
  where
    by : (t : Bool)
        → (or_else (cond t no_message unusable) (cond (all_held s (place_in s m)) 0 not_held) ≡ unusable)
        ⊎ (or_else (cond t no_message unusable) (cond (all_held s (place_in s m)) 0 not_held) ≡ no_message)
    by true = inr refl
    by false = inl refl

-- so what is answered has a header's bytes
pub answered_form : (s m : List ℕ) → (request_number s m ≡ unusable → ⊥) → (request_number s m ≡ no_message → ⊥) → length m ≡ header_size
answered_form s m a b = by (is_request m) refl
  where
    by : (t : Bool) → is_request m ≡ t → length m ≡ header_size
    by true e = request_form m e
    by false e = elim (no_form s m e) [ inl x ↦ absurd (a x) | inr x ↦ absurd (b x) ]

-- ---- a request that passes 9, 1, 2 and 3

module _ (s m : List ℕ) (e : header_number (is_request m) s m ≡ 0) where
  -- it has a header's bytes
  pub request_size : length m ≡ header_size
  request_size = request_form m (passed (is_request m) s m e).formed

  -- its place lies in the tree
  pub request_placed : Placed (height_of s) (header_of m) (place_in s m)
  request_placed = placed (is_request m) s m (passed (is_request m) s m e)

  -- the run's last position,
  pub run_inside : (place_in s m).top * 2 ^ (place_in s m).k + 2 ^ (place_in s m).k ≤ positions (height_of s)
  unfolding Within
  run_inside =
      let p = place_in s m in
      let w : (p.top + 1) * 2 ^ p.k ≤ positions (height_of s) = request_placed.top in
      let d : (p.top + 1) * 2 ^ p.k ≡ p.top * 2 ^ p.k + 2 ^ p.k = add-mul p.top 1 (2 ^ p.k) ∙ ap (λ (x : ℕ). p.top * 2 ^ p.k + x) (one-mul (2 ^ p.k)) in
      omega arith

  -- and the place's uncles have numbers of positions
  pub uncles_inside : (place_in s m).top + 2 ≤ positions (height_of s)
  unfolding Within
  uncles_inside =
      let p = place_in s m in
      let w : (p.top + 1) * 2 ^ p.k ≤ positions (height_of s) = request_placed.top in
      let t : 2 ≤ 2 ^ p.k = omega (arith, request_placed.power, request_placed.some) in
      omega (arith, mul-le-mul_left (p.top + 1) t)

  -- so the store has their cells
  pub request_reach : Reach (length s) (place_in s m)
  request_reach =
      let f = usable_facts s (passed (is_request m) s m e).store in
      record { run = omega (arith, f.room, run_inside); uncles = omega (arith, f.room, uncles_inside); few = omega (arith, request_placed.layers) }

  -- the reply's size
  pub reply_length : length (reply_to s m) ≡ header_size + 32 * 2 ^ (place_in s m).k + 32 * (place_in s m).u
  unfolding reply_to
  reply_length =
      simp length-append (omega (arith, cut_length m 1 48 (omega (arith, request_size)), all_hashes_length s (place_in s m) request_reach))

  -- is what its header says of a hashes message
  pub reply_size : length (reply_to s m) ≡ message_size (header_of m)
  reply_size = omega (arith, reply_length, request_placed.size, request_placed.power)

-- a reject has a header's bytes
pub reject_length : (m : List ℕ) → length m ≡ header_size → length (reject_to m) ≡ header_size
unfolding reject_to
reject_length m e = ap suc (cut_length m 1 48 (omega arith))

-- ---- where the hashes come from

module _ (s m : List ℕ) (z : request_number s m ≡ 0) where
  both_held : (held_run s ((place_in s m).top * 2 ^ (place_in s m).k) (2 ^ (place_in s m).k) ≡ true) × (held_uncles s (place_in s m).u (place_in s m).top ≡ true)
  unfolding all_held
  both_held =
      (and-eq-true_iff (held_run s ((place_in s m).top * 2 ^ (place_in s m).k) (2 ^ (place_in s m).k)) (held_uncles s (place_in s m).u (place_in s m).top)).0 (request_held s m z)

  -- where the answer is hashes, each position of the run is held
  pub run_held : (j : ℕ) → j < 2 ^ (place_in s m).k → held_at s ((place_in s m).top * 2 ^ (place_in s m).k + j) ≡ true
  run_held j l = held_run_at s ((place_in s m).top * 2 ^ (place_in s m).k) (2 ^ (place_in s m).k) both_held.0 j l

  -- and each uncle
  pub uncle_held : (i : ℕ) → i < (place_in s m).u → held_at s (sibling (ancestor i (place_in s m).top)) ≡ true
  uncle_held i l = held_uncle_at s (place_in s m).u (place_in s m).top both_held.1 i l

-- ---- reading a reply

-- a part of the second of two lists
cut_append_add : (a b : List ℕ) (at n : ℕ) → cut (a ++ b) (length a + at) n ≡ cut b at n
unfolding cut
cut_append_add a b at n = ap (λ (l : List ℕ). take n l) (drop-append-add a b at)

-- hash j of a run
pub run_hash_at : (s : List ℕ) (n c : ℕ) → Room (n + c) s → (j : ℕ) → j < c → cut (run_hashes s n c) (32 * j) 32 ≡ hash_at s (n + j)
unfolding run_hashes
run_hash_at s n zero r j l = absurd (omega arith)
run_hash_at s n (suc c) r j l =
    let rl = run_hashes_length s n c (omega arith) in
    elim (ℕ_discrete j c) [
      | yes q ↦ rw q (cut_append_right (run_hashes s n c) (hash_at s (n + c)) (32 * c) 32 rl (hash_length s (n + suc c) (n + c) r (omega arith)))
      | no q ↦
          cut_append_left (run_hashes s n c) (hash_at s (n + c)) (32 * j) 32 (omega arith) ∙ run_hash_at s n c (omega arith) j (omega arith)
    ]

-- uncle i
pub uncle_hash_at : (s : List ℕ) (u n : ℕ) → Room (n + 2) s → (i : ℕ) → i < u → cut (uncle_hashes s u n) (32 * i) 32 ≡ hash_at s (sibling (ancestor i n))
unfolding uncle_hashes ancestor
uncle_hash_at s zero n r i l = absurd (omega arith)
uncle_hash_at s (suc u) n r zero l =
    let hl = hash_length s (n + 2) (sibling n) r (sibling_near n) in
    cut_append_left (hash_at s (sibling n)) (uncle_hashes s u (n / 2)) 0 32 (omega arith) ∙ cut_whole (hash_at s (sibling n)) 32 (omega arith)
uncle_hash_at s (suc u) n r (suc i) l =
    let hl = hash_length s (n + 2) (sibling n) r (sibling_near n) in
    let e : 32 * suc i ≡ length (hash_at s (sibling n)) + 32 * i = omega arith in
    ap (λ (k : ℕ). cut (hash_at s (sibling n) ++ uncle_hashes s u (n / 2)) k 32) e
    ∙ cut_append_add (hash_at s (sibling n)) (uncle_hashes s u (n / 2)) (32 * i) 32
    ∙ uncle_hash_at s u (n / 2) (omega arith) i (omega arith)

-- two messages with the same 48 bytes after the id name the same root and have the same header
pub head_same : (a b : List ℕ) → header_bytes a ≡ header_bytes b → (message_root a ≡ message_root b) × (header_of a ≡ header_of b)
unfolding message_root header_of
head_same a b e = (
  sym (cut_cut a 1 48 0 32 (omega arith)) ∙ ap (λ (l : List ℕ). cut l 0 32) e ∙ cut_cut b 1 48 0 32 (omega arith),
  cc (number 32 (omega arith), number 36 (omega arith), number 40 (omega arith), number 44 (omega arith)),
)
  where
    number : (at : ℕ) → at + 4 ≤ 48 → number_at a (1 + at) 4 ≡ number_at b (1 + at) 4
    number at l = sym (number_cut a 1 48 at 4 l) ∙ ap (λ (l : List ℕ). number_at l at 4) e ∙ number_cut b 1 48 at 4 l

module _ (s m : List ℕ) (e : header_number (is_request m) s m ≡ 0) where
  request_head : length (header_bytes m) ≡ 48
  request_head = cut_length m 1 48 (omega (arith, request_size s m e))

  -- a reply repeats the request's 48 bytes
  pub reply_head : cut (reply_to s m) 1 48 ≡ header_bytes m
  unfolding reply_to cut
  reply_head = cut_append_left (header_bytes m) (all_hashes s (place_in s m)) 0 48 (omega (arith, request_head)) ∙ cut_whole (header_bytes m) 48 (omega (arith, request_head))

  -- so it names the same root
  pub reply_root : message_root (reply_to s m) ≡ message_root m
  reply_root = (head_same (reply_to s m) m reply_head).0

  -- with the same header
  pub reply_header : header_of (reply_to s m) ≡ header_of m
  reply_header = (head_same (reply_to s m) m reply_head).1

  -- it has the size that its own header fixes
  pub reply_own_size : length (reply_to s m) ≡ message_size (header_of (reply_to s m))
  reply_own_size = reply_size s m e ∙ ap message_size (sym reply_header)

  -- and is a hashes message
  pub reply_form : is_hashes (reply_to s m) ≡ true
  unfolding is_hashes reply_to
  reply_form = rw (le-leb header_size (length (reply_to s m)) (omega (arith, reply_length s m e)))

  -- what stands behind the head
  reply_past : (at n : ℕ) → cut (reply_to s m) (header_size + at) n ≡ cut (all_hashes s (place_in s m)) at n
  unfolding reply_to
  reply_past at n =
      let H : List ℕ = hashes_id ∷ header_bytes m in
      let l : header_size + at ≡ length H + at = omega (arith, request_head) in
      ap (λ (k : ℕ). cut (H ++ all_hashes s (place_in s m)) k n) l ∙ cut_append_add H (all_hashes s (place_in s m)) at n

  -- is the run
  pub reply_run : run_of (reply_to s m) (2 ^ (place_in s m).k) ≡ run_hashes s ((place_in s m).top * 2 ^ (place_in s m).k) (2 ^ (place_in s m).k)
  unfolding run_of all_hashes
  reply_run =
      let p = place_in s m in
      let R = run_hashes s (p.top * 2 ^ p.k) (2 ^ p.k) in
      let rl : length (run_hashes s (p.top * 2 ^ p.k) (2 ^ p.k)) ≡ 32 * 2 ^ p.k = run_hashes_length s (p.top * 2 ^ p.k) (2 ^ p.k) (request_reach s m e).run in
      reply_past 0 (32 * 2 ^ p.k)
      ∙ cut_append_left R (uncle_hashes s p.u p.top) 0 (32 * 2 ^ p.k) (omega arith)
      ∙ cut_whole R (32 * 2 ^ p.k) (omega arith)

  -- and after it the uncles
  pub reply_uncles : uncles_of (reply_to s m) (2 ^ (place_in s m).k) (place_in s m).u ≡ uncle_hashes s (place_in s m).u (place_in s m).top
  unfolding uncles_of all_hashes
  reply_uncles =
      let p = place_in s m in
      let R = run_hashes s (p.top * 2 ^ p.k) (2 ^ p.k) in
      let U = uncle_hashes s p.u p.top in
      let rl : length (run_hashes s (p.top * 2 ^ p.k) (2 ^ p.k)) ≡ 32 * 2 ^ p.k = run_hashes_length s (p.top * 2 ^ p.k) (2 ^ p.k) (request_reach s m e).run in
      let ul : length (uncle_hashes s p.u p.top) ≡ 32 * p.u = uncle_hashes_length s p.u p.top (request_reach s m e).uncles in
      reply_past (32 * 2 ^ p.k) (32 * p.u) ∙ cut_append_right R U (32 * 2 ^ p.k) (32 * p.u) rl ul

  -- hash j of the run is the store's own,
  pub reply_given : (j : ℕ) → j < 2 ^ (place_in s m).k → given (reply_to s m) (place_in s m).k j ≡ hash_at s ((place_in s m).top * 2 ^ (place_in s m).k + j)
  unfolding given
  reply_given j l =
      let p = place_in s m in
      let n = p.top * 2 ^ p.k in
      let rl : length (run_hashes s (p.top * 2 ^ p.k) (2 ^ p.k)) ≡ 32 * 2 ^ p.k = run_hashes_length s (p.top * 2 ^ p.k) (2 ^ p.k) (request_reach s m e).run in
      rw reply_run
      (run_leaf_in (run_hashes s n (2 ^ p.k)) zero_hash j (omega arith) ∙ run_hash_at s n (2 ^ p.k) (request_reach s m e).run j l)

  -- at byte 49 + 32·j,
  pub reply_hash : (j : ℕ) → j < 2 ^ (place_in s m).k → cut (reply_to s m) (header_size + 32 * j) 32 ≡ hash_at s ((place_in s m).top * 2 ^ (place_in s m).k + j)
  unfolding run_of
  reply_hash j l =
      let p = place_in s m in
      sym (cut_cut (reply_to s m) header_size (32 * 2 ^ p.k) (32 * j) 32 (omega arith))
      ∙ ap (λ (x : List ℕ). cut x (32 * j) 32) reply_run
      ∙ run_hash_at s (p.top * 2 ^ p.k) (2 ^ p.k) (request_reach s m e).run j l

  -- and so is uncle i
  pub reply_uncle : (i : ℕ) → i < (place_in s m).u
      → uncle (uncles_of (reply_to s m) (2 ^ (place_in s m).k) (place_in s m).u) i ≡ hash_at s (sibling (ancestor i (place_in s m).top))
  unfolding uncle
  reply_uncle i l =
      let p = place_in s m in
      ap (λ (x : List ℕ). cut x (32 * i) 32) reply_uncles ∙ uncle_hash_at s p.u p.top (request_reach s m e).uncles i l

-- ---- what serving gives, by the request's number

-- 9 and 1: nothing is sent
pub served_none : (s m out : List ℕ) (n : ℕ) → request_number s m ≡ n → (n ≡ unusable) ⊎ (n ≡ no_message)
    → (serve_answer s m out ≡ refused n) × (serve_after s m out ≡ out)
unfolding serve_answer serve_after
served_none s m out n e (inl z) = rw (e, z) (refl, refl)
served_none s m out n e (inr z) = rw (e, z) (refl, refl)

-- 0: the hashes message, or 11
pub served_reply : (s m out : List ℕ) → request_number s m ≡ 0
    → (serve_answer s m out ≡ fit_answer 0 (reply_to s m) out) × (serve_after s m out ≡ fit_after (reply_to s m) out)
unfolding serve_answer serve_after sent_back fit_answer fit_after
served_reply s m out z = rw z (refl, refl)

-- any other: the reject, or 11
pub served_reject : (s m out : List ℕ) (n : ℕ) → request_number s m ≡ n → (n ≡ unusable → ⊥) → (n ≡ no_message → ⊥) → (n ≡ 0 → ⊥)
    → (serve_answer s m out ≡ fit_answer n (reject_to m) out) × (serve_after s m out ≡ fit_after (reject_to m) out)
unfolding serve_answer serve_after sent_back fit_answer fit_after
served_reject s m out n e a b z = rw (e, ne_eqb n unusable a, ne_eqb n no_message b, ne_eqb n 0 z) (refl, refl)
