-- Demand 1: every entry point answers with a number from the table, and on a refusal changes no byte it was lent, save for the
-- reject message that a refused request gets. (That nothing is asked of the caller is seen in the contracts: none has a `requires`.)
-- Assumes nothing.
use Rattle.std.specs.Prelude.{◌≡◌, refl, Bool, true, false, cond, List, ◌⊎◌, ℕ, length, leb}
use Rattle.std.proofs.Common.{ap, sym, ◌∙◌, inl, inr, arith}
use Rattle.std.proofs.Math.Decide.{dec_le}
use Rattle.octets.specs.Octets.{same}
use Rattle.numbers.specs.Numbers.{refused}
use Rattle.numbers.specs.declared.Answer.{Answer}
use Rattle.store.specs.Store.{usable, facts_root, height_of, open_answer, open_after, facts_in_range, store_size}
use Rattle.header.specs.Header.{header_size, header_of, is_request, message_root, rules_kept}
use Rattle.messages.specs.Take.{place_in, take_number, take_after, take_answer}
use Rattle.messages.specs.TakenLaws.{take_refused}
use Rattle.serve.specs.Serve.{all_held, request_number, reject_to, reply_to}
use Rattle.serve.specs.ServeLaws.{fits_sent, fits_not, served_none, served_reply, served_reject, answered_form, reject_length}
use Rattle.pieces.specs.Pieces.{layer_after, layer_answer}
use Rattle.pieces.proofs.PiecesLaws.{layer_refused, layer_refused_count}
use Rattle.words.specs.Messages.{Rejected}
use Rattle.words.specs.Answers.{ServeOutcome, replied, rejected, untouched}
use Rattle.knowledge.specs.Through.{reopen_refused}
use Rattle.knowledge.specs.NumberChains.{request_tests}

-- ---- a refusal leaves every byte, and its count is zero

-- an opening
pub opening_refused : (s : List ℕ) (n plen : ℕ) (root : List ℕ) → ((open_answer s n plen).number ≡ 0 → ⊥) → (open_after s n plen root ≡ s) × ((open_answer s n plen).count ≡ 0)
opening_refused s n plen root ne = (reopen_refused s n plen root ne, count)
  where
    by : (a b : Bool) → ((cond a (cond b (record { number = 0; count = 1 }) (refused 9)) (refused 10)).number ≡ 0 → ⊥)
        → (cond a (cond b (record { number = 0; count = 1 }) (refused 9)) (refused 10)).count ≡ 0
    by true true k = absurd (k refl)
    by true false k = refl
    by false b k = refl

    count : (open_answer s n plen).count ≡ 0
    count = unfold open_answer in by (facts_in_range n plen) (leb (store_size n) (length s)) (unfold open_answer in ne)

-- a message
pub message_refused : (s m : List ℕ) → ((take_answer s m).number ≡ 0 → ⊥) → (take_after s m ≡ s) × ((take_answer s m).count ≡ 0)
unfolding take_answer
message_refused s m ne =
    let r = take_refused s m (take_number s m) refl ne in
    (sym r.1, sym (ap (λ (a : Answer). a.count) r.0))

-- a layer
pub layer_not_loaded : (s l : List ℕ) → ((layer_answer s l).number ≡ 0 → ⊥) → (layer_after s l ≡ s) × ((layer_answer s l).count ≡ 0)
unfolding layer_answer
layer_not_loaded s l ne = (layer_refused s l ne, ap (λ (a : Answer). a.count) (layer_refused_count s l ne))

-- ---- serving: a reply, a reject, or nothing

request_values : (u form r k held : Bool) → let n : ℕ = cond u (cond form (cond r (cond k (cond held 0 12) 3) 2) 1) 9 in
    ((n ≡ 0) ⊎ ((n ≡ 9) ⊎ (n ≡ 1))) ⊎ ((n ≡ 2) ⊎ ((n ≡ 3) ⊎ (n ≡ 12)))
request_values true true true true true = inl (inl refl)
request_values true true true true false = inr (inr (inr refl))
request_values true true true false held = inr (inr (inl refl))
request_values true true false k held = inr (inl refl)
request_values true false r k held = inl (inr (inr refl))
request_values false form r k held = inl (inr (inl refl))

module _ (s m out : List ℕ) where
  no_room_or_sent : (n : ℕ) → request_number s m ≡ n → Rejected n → (n ≡ 9 → ⊥) → (n ≡ 1 → ⊥) → (n ≡ 0 → ⊥) → ServeOutcome s m out
  no_room_or_sent n e w a b c =
      let sr = served_reject s m out n e a b c in
      let l : length (reject_to m) ≡ header_size = reject_length m (answered_form s m (λ x. a (sym e ∙ x)) (λ x. b (sym e ∙ x))) in
      elim (dec_le (length (reject_to m)) (length out)) [
        | yes y ↦ let g = fits_sent n (reject_to m) out y in rejected n w (sr.0 ∙ g.0 ∙ ap (λ (x : ℕ). record { number = n; count = x }) l) (sr.1 ∙ g.1)
        | no x ↦ let g = fits_not n (reject_to m) out (omega arith) in untouched 11 (inr (inr refl)) (sr.0 ∙ g.0) (sr.1 ∙ g.1)
      ]

  -- the number of a request, before its room is looked at: 0, 9, 1; or 2, 3, 12
  pub which_number : ((request_number s m ≡ 0) ⊎ ((request_number s m ≡ 9) ⊎ (request_number s m ≡ 1))) ⊎ ((request_number s m ≡ 2) ⊎ ((request_number s m ≡ 3) ⊎ (request_number s m ≡ 12)))
  which_number =
      rw (request_tests s m)
      (request_values (usable s) (is_request m) (same (facts_root s) (message_root m)) (rules_kept (header_of m) (height_of s)) (all_held s (place_in s m)))

  -- every request is answered in one of the three ways
  pub served : ServeOutcome s m out
  served = by which_number
    where
      by : ((request_number s m ≡ 0) ⊎ ((request_number s m ≡ 9) ⊎ (request_number s m ≡ 1))) ⊎ ((request_number s m ≡ 2) ⊎ ((request_number s m ≡ 3) ⊎ (request_number s m ≡ 12))) → ServeOutcome s m out
      by (inl (inl z)) =
          let sr = served_reply s m out z in
          elim (dec_le (length (reply_to s m)) (length out)) [
            | yes y ↦ let g = fits_sent 0 (reply_to s m) out y in replied (sr.0 ∙ g.0) (sr.1 ∙ g.1)
            | no x ↦ let g = fits_not 0 (reply_to s m) out (omega arith) in untouched 11 (inr (inr refl)) (sr.0 ∙ g.0) (sr.1 ∙ g.1)
          ]
      by (inl (inr (inl z))) = let sn = served_none s m out 9 z (inl refl) in untouched 9 (inl refl) sn.0 sn.1
      by (inl (inr (inr z))) = let sn = served_none s m out 1 z (inr refl) in untouched 1 (inr (inl refl)) sn.0 sn.1
      by (inr (inl z)) = no_room_or_sent 2 z (inl refl) (λ e. omega arith) (λ e. omega arith) (λ e. omega arith)
      by (inr (inr (inl z))) = no_room_or_sent 3 z (inr (inl refl)) (λ e. omega arith) (λ e. omega arith) (λ e. omega arith)
      by (inr (inr (inr z))) = no_room_or_sent 12 z (inr (inr refl)) (λ e. omega arith) (λ e. omega arith) (λ e. omega arith)
