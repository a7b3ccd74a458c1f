-- 01, "Serving" and an incoming reject: each number exactly when 01 says, in its order. "Held" is what kd_held answers.
-- Assumes nothing.
use Rattle.std.specs.Prelude.{◌≡◌, refl, Bool, true, false, cond, ◌&&◌, List, ◌∷◌, ◌⊎◌, ◌↔◌, ℕ, ◌+◌, ◌*◌, ◌/◌, ◌^◌, ◌≤◌, ◌<◌, eqb}
use Rattle.std.proofs.Math.Path.{ap}
use Rattle.std.proofs.Common.{sym, ◌∙◌, inl, inr, arith, eq-eqb, eqb-true}
use Rattle.std.proofs.Math.Bool.{and-eq-true_iff}
use Rattle.std.proofs.Math.Decide.{dec_le}
use Rattle.std.proofs.Math.ListN.{length}
use Rattle.octets.specs.Octets.{cut, pasted, same}
use Rattle.octets.specs.OctetsLaws.{same_true, same_eq, cut_pasted_same, cut_whole, cut_length}
use Rattle.numbers.specs.Numbers.{no_message, other_root, rule_broken, no_room, not_held, unusable}
use Rattle.numbers.specs.Chain.{last, test, Stops, exactly, exactly_of, none, passes_of}
use Rattle.numbers.specs.declared.Answer.{Answer}
use Rattle.tree.specs.Geometry.{height}
use Rattle.cells.specs.Cells.{held_at}
use Rattle.store.specs.Store.{usable, facts_root, height_of, Facts}
use Rattle.store.specs.StoreLaws.{usable_facts}
use Rattle.settling.specs.Path.{sibling}
use Rattle.header.specs.Header.{request_id, reject_id, header_size, message_id, header_bytes, header_of, message_root, is_request, is_reject, rules_kept, place_of, message_size, Kept}
use Rattle.header.specs.HeaderLaws.{rules_kept_lem, kept_rules}
use Rattle.messages.specs.Take.{header_number, place_in, reject_answer}
use Rattle.messages.specs.TakeLaws.{passes}
use Rattle.serve.specs.Serve.{all_held, request_number, reply_to, reject_to, serve_answer, serve_after}
use Rattle.serve.specs.Asks.{fit_after, fit_answer}
use Rattle.serve.specs.ServeLaws.{head_same, held_run_all, held_uncles_all, request_zero, served_none, served_reply, served_reject, answered_form, reject_length, fits_sent, fits_not, cond_zero}
use Rattle.words.specs.Messages.{uncles_in, top_layer, top_index, sent, Form, ValidHeader, AllGiven, Rejected, RejectDue, for_root, for_rule, for_hash, NoRoomFor, for_reply, for_reject}
use Rattle.knowledge.specs.Again.{what_is_held}
use Rattle.knowledge.specs.ReadBack.{run_number, uncle_number, reply_has_header, run_reads_back, uncle_reads_back}
use Rattle.numbers.specs.Tests.{either, not_both, says_not, through, in_turn}
use Rattle.knowledge.specs.NumberChains.{headed, reject_chain, reject_tests, request_chain, request_tests}
use Rattle.knowledge.specs.Refusals.{which_number}
use Rattle.knowledge.specs.Sent.{served_then_valid}

-- ---- the tests

abbrev formed : ℕ → List ℕ → Bool
formed id m = eqb (length m) header_size && eqb (message_id m) id

form_is : (id : ℕ) (m : List ℕ) → (formed id m ≡ true) ↔ Form id m
form_is id m = (
  λ e. (let t = (and-eq-true_iff (eqb (length m) header_size) (eqb (message_id m) id)).0 e in record { size = eqb-true (length m) header_size t.0; first = eqb-true (message_id m) id t.1 }),
  λ f. rw (eq-eqb (length m) header_size f.size, eq-eqb (message_id m) id f.first),
)

root_is : (s m : List ℕ) → (same (facts_root s) (message_root m) ≡ true) ↔ (facts_root s ≡ message_root m)
root_is s m = (same_true (facts_root s) (message_root m), same_eq (facts_root s) (message_root m))

rules_are : (s m : List ℕ) → (rules_kept (header_of m) (height_of s) ≡ true) ↔ Kept (header_of m) (height_of s)
rules_are s m = (rules_kept_lem (header_of m) (height_of s), kept_rules (header_of m) (height_of s))

-- ---- 9, 1, 2, 3 of a request and of a reject, whose form is `formed id`

module _ (id : ℕ) (s m : List ℕ) where
  other_root_lem : {n : ℕ} → (n ≡ other_root) ↔ Stops other_root (headed (formed id m) s m (last 0)) → (n ≡ other_root) ↔ ((usable s ≡ true) × Form id m × (facts_root s ≡ message_root m → ⊥))
  other_root_lem p = (
    λ e. (let t = p.0 e in (t.0, (form_is id m).0 t.1.0, (says_not (root_is s m)).0 t.1.1)),
    λ t. p.1 (t.0, ((form_is id m).1 t.1, (says_not (root_is s m)).1 t.2)),
  )

  rule_broken_lem : {n : ℕ} → (n ≡ rule_broken) ↔ Stops rule_broken (headed (formed id m) s m (last 0))
      → (n ≡ rule_broken) ↔ ((usable s ≡ true) × Form id m × (facts_root s ≡ message_root m) × (Kept (header_of m) (height_of s) → ⊥))
  rule_broken_lem p = (
    λ e. (let t = p.0 e in (t.0, (form_is id m).0 t.1.0, (root_is s m).0 t.1.1.0, (says_not (rules_are s m)).0 t.1.1.1)),
    λ t. p.1 (t.0, ((form_is id m).1 t.1, ((root_is s m).1 t.2, (says_not (rules_are s m)).1 t.3))),
  )

  valid : {A : Type 0}
      → ((usable s ≡ true) × ((formed id m ≡ true) × ((same (facts_root s) (message_root m) ≡ true) × ((rules_kept (header_of m) (height_of s) ≡ true) × A))))
      ↔ (ValidHeader id s m × A)
  valid = (
    λ t. (record { store = t.0; form = (form_is id m).0 t.1.0; root = (root_is s m).0 t.1.1.0; rules = (rules_are s m).0 t.1.1.1.0 }, t.1.1.1.1),
    λ t. (t.0.store, ((form_is id m).1 t.0.form, ((root_is s m).1 t.0.root, ((rules_are s m).1 t.0.rules, t.1)))),
  )

-- ---- a reject that comes in

module _ (s m : List ℕ) where
  -- 9 EXACTLY WHEN the store is unusable
  pub reject_9 : ((reject_answer s m).number ≡ unusable) ↔ (usable s ≡ false)
  reject_9 = exactly_of (reject_chain s m) unusable (reject_tests s m) refl

  -- 1 EXACTLY WHEN it is not 49 bytes with the id 23
  pub reject_1 : ((reject_answer s m).number ≡ no_message) ↔ ((usable s ≡ true) × (Form reject_id m → ⊥))
  unfolding is_reject
  reject_1 = through (exactly_of (reject_chain s m) no_message (reject_tests s m) refl) (λ u. says_not (form_is reject_id m))

  -- 2 EXACTLY WHEN it is, and has another pieces root
  pub reject_2 : ((reject_answer s m).number ≡ other_root) ↔ ((usable s ≡ true) × Form reject_id m × (facts_root s ≡ message_root m → ⊥))
  unfolding is_reject
  reject_2 = other_root_lem reject_id s m (exactly_of (reject_chain s m) other_root (reject_tests s m) refl)

  -- 3 EXACTLY WHEN it has this root, and a header rule fails
  pub reject_3 : ((reject_answer s m).number ≡ rule_broken)
      ↔ ((usable s ≡ true) × Form reject_id m × (facts_root s ≡ message_root m) × (Kept (header_of m) (height_of s) → ⊥))
  unfolding is_reject
  reject_3 = rule_broken_lem reject_id s m (exactly_of (reject_chain s m) rule_broken (reject_tests s m) refl)

  -- 0 EXACTLY WHEN none of these applies
  pub reject_0 : ((reject_answer s m).number ≡ 0) ↔ ValidHeader reject_id s m
  unfolding is_reject
  reject_0 = let p = in_turn (exactly_of (reject_chain s m) 0 (reject_tests s m) refl) (valid reject_id s m) in (λ e. (p.0 e).0, λ v. p.1 (v, refl))

-- ---- a request

module _ (s m : List ℕ) where
  -- 9 EXACTLY WHEN the store is unusable
  pub request_9 : (request_number s m ≡ unusable) ↔ (usable s ≡ false)
  request_9 = exactly_of (request_chain s m) unusable (request_tests s m) refl

  -- 1 EXACTLY WHEN it is not 49 bytes with the id 21
  pub request_1 : (request_number s m ≡ no_message) ↔ ((usable s ≡ true) × (Form request_id m → ⊥))
  unfolding is_request
  request_1 = through (exactly_of (request_chain s m) no_message (request_tests s m) refl) (λ u. says_not (form_is request_id m))

  -- 2 EXACTLY WHEN it is, and has another pieces root
  pub request_2 : (request_number s m ≡ other_root) ↔ ((usable s ≡ true) × Form request_id m × (facts_root s ≡ message_root m → ⊥))
  unfolding is_request
  request_2 = other_root_lem request_id s m (exactly_of (request_chain s m) other_root (request_tests s m) refl)

  -- 3 EXACTLY WHEN it has this root, and a header rule fails
  pub request_3 : (request_number s m ≡ rule_broken)
      ↔ ((usable s ≡ true) × Form request_id m × (facts_root s ≡ message_root m) × (Kept (header_of m) (height_of s) → ⊥))
  unfolding is_request
  request_3 = rule_broken_lem request_id s m (exactly_of (request_chain s m) rule_broken (request_tests s m) refl)

  -- any other number is decided by whether all is held
  all_or_not : (k : ℕ) → none k (headed (is_request m) s m (last (cond (all_held s (place_in s m)) 0 not_held))) ≡ true
      → (request_number s m ≡ k) ↔ (ValidHeader request_id s m × (cond (all_held s (place_in s m)) 0 not_held ≡ k))
  unfolding is_request
  all_or_not k o = in_turn (passes_of (headed (is_request m) s m (last (cond (all_held s (place_in s m)) 0 not_held))) k (request_tests s m) o) (valid request_id s m)

  module _ (ok : ValidHeader request_id s m) where
    facts : Facts s
    facts = usable_facts s ok.store

    passing : header_number (is_request m) s m ≡ 0
    unfolding is_request
    passing =
        passes (is_request m) s m
        (record { store = ok.store; formed = (form_is request_id m).1 ok.form; root = (root_is s m).1 ok.root; rules = (rules_are s m).1 ok.rules })

    given_all : AllGiven s m → all_held s (place_in s m) ≡ true
    unfolding all_held place_of
    given_all A =
        let X = header_of m in
        let p = place_of (header_of m) (height_of s) in
        let h = height_of s in
        let run = held_run_all s ((place_of (header_of m) (height_of s)).top * 2 ^ height (header_of m).len) (2 ^ height (header_of m).len)
        (λ j l.
        let c : j < (header_of m).len = omega (arith, ok.rules.power) in
        let w = what_is_held s X.base (X.index + j) (A.run j c).0 facts (A.run j c).1 in
        ap (held_at s) (run_number (header_of m) (height_of s) ok.rules j l) ∙ w.1) in
        let us = held_uncles_all s (uncles_in m) (place_of (header_of m) (height_of s)).top
        (λ i l.
        let w = what_is_held s (top_layer m + i) (sibling (top_index m / 2 ^ i)) (A.uncles i l).0 facts (A.uncles i l).1 in
        ap (held_at s) (uncle_number (header_of m) (height_of s) ok.rules i l) ∙ w.1) in
        rw (run, us)

    all_given : all_held s (place_in s m) ≡ true → AllGiven s m
    all_given t =
        let z = request_zero s m passing t in
        record { run = λ j l. (_, run_reads_back s m z j l); uncles = λ j l. (_, uncle_reads_back s m z j l) }

  -- 0, if there is room for the reply, EXACTLY WHEN it passes these and kd_held gives every hash that it asks for
  pub request_0 : (request_number s m ≡ 0) ↔ (ValidHeader request_id s m × AllGiven s m)
  request_0 =
      let p = all_or_not 0 refl in (
        λ e. (let w = p.0 e in (w.0, all_given w.0 (cond_zero (all_held s (place_in s m)) w.1))),
        λ w. p.1 (w.0, rw (given_all w.0 w.1)),
      )

  -- 12 EXACTLY WHEN it passes these and kd_held does not give them all
  pub request_12 : (request_number s m ≡ not_held) ↔ (ValidHeader request_id s m × (AllGiven s m → ⊥))
  request_12 =
      let p = all_or_not not_held refl in (
        λ e. (let w = p.0 e in (w.0, λ A. not_both (given_all w.0 A) ((exactly (test (all_held s (place_in s m)) not_held (last 0)) not_held refl).0 w.1))),
        λ w. p.1 (w.0, elim (either (all_held s (place_in s m))) [ inl t ↦ absurd (w.1 (all_given w.0 t)) | inr f ↦ rw f ]),
      )

  -- A HASHES MESSAGE IS SENT, with 0, EXACTLY WHEN the request is valid, kd_held gives every hash that it asks for, and the output has room
  pub served_0 : (out : List ℕ) → ((serve_answer s m out).number ≡ 0) ↔ (ValidHeader request_id s m × AllGiven s m × (message_size (header_of m) ≤ length out))
  served_0 out = (to, from)
    where
      size_is : request_number s m ≡ 0 → length (reply_to s m) ≡ message_size (header_of m)
      size_is z = let h = reply_has_header s m z in h.3 ∙ ap message_size h.2

      to : (serve_answer s m out).number ≡ 0 → ValidHeader request_id s m × AllGiven s m × (message_size (header_of m) ≤ length out)
      to e =
          let z = served_then_valid s m out e in
          let w = request_0.0 z in
          let r = served_reply s m out z in
          elim (dec_le (length (reply_to s m)) (length out)) [
            | yes y ↦ (w.0, w.1, omega (arith, size_is z))
            | no n ↦
                let g = ap (λ (a : Answer). a.number) (r.0 ∙ (fits_not 0 (reply_to s m) out (omega arith)).0) in
                let b : ⊥ = omega arith in
                absurd b
          ]

      from : ValidHeader request_id s m × AllGiven s m × (message_size (header_of m) ≤ length out) → (serve_answer s m out).number ≡ 0
      from t =
          let z = request_0.1 (t.0, t.1) in
          ap (λ (a : Answer). a.number) ((served_reply s m out z).0 ∙ (fits_sent 0 (reply_to s m) out (omega (arith, size_is z))).0)

-- ---- room for a reject

module _ (s m out : List ℕ) where
  request_size : (n : ℕ) → request_number s m ≡ n → Rejected n → length m ≡ header_size
  request_size n e r =
      (answered_form s m
      (λ z. elim r [ inl a ↦ omega arith | inr b ↦ elim b [ inl a ↦ omega arith | inr a ↦ omega arith ] ])
      (λ z. elim r [ inl a ↦ omega arith | inr b ↦ elim b [ inl a ↦ omega arith | inr a ↦ omega arith ] ]))

  reject_size : (n : ℕ) → request_number s m ≡ n → Rejected n → length (reject_to m) ≡ header_size
  reject_size n e r = reject_length m (request_size n e r)

  answer_rejected : (n : ℕ) → request_number s m ≡ n → Rejected n → serve_answer s m out ≡ fit_answer n (reject_to m) out
  answer_rejected n e r =
      (served_reject s m out n e
      (λ z. elim r [ inl a ↦ omega arith | inr b ↦ elim b [ inl a ↦ omega arith | inr a ↦ omega arith ] ])
      (λ z. elim r [ inl a ↦ omega arith | inr b ↦ elim b [ inl a ↦ omega arith | inr a ↦ omega arith ] ])
      (λ z. elim r [ inl a ↦ omega arith | inr b ↦ elim b [ inl a ↦ omega arith | inr a ↦ omega arith ] ])).0

  left_rejected : (n : ℕ) → request_number s m ≡ n → Rejected n → serve_after s m out ≡ fit_after (reject_to m) out
  left_rejected n e r =
      (served_reject s m out n e
      (λ z. elim r [ inl a ↦ omega arith | inr b ↦ elim b [ inl a ↦ omega arith | inr a ↦ omega arith ] ])
      (λ z. elim r [ inl a ↦ omega arith | inr b ↦ elim b [ inl a ↦ omega arith | inr a ↦ omega arith ] ])
      (λ z. elim r [ inl a ↦ omega arith | inr b ↦ elim b [ inl a ↦ omega arith | inr a ↦ omega arith ] ])).1

  with_room : (n : ℕ) → request_number s m ≡ n → Rejected n → header_size ≤ length out → (serve_answer s m out).number ≡ n
  with_room n e r l =
      ap (λ (a : Answer). a.number) (answer_rejected n e r ∙ (fits_sent n (reject_to m) out (omega (arith, reject_size n e r))).0)

  without_room : (n : ℕ) → request_number s m ≡ n → Rejected n → length out < header_size → (serve_answer s m out).number ≡ no_room
  without_room n e r l =
      ap (λ (a : Answer). a.number) (answer_rejected n e r ∙ (fits_not n (reject_to m) out (omega (arith, reject_size n e r))).0)

  size_is : request_number s m ≡ 0 → length (reply_to s m) ≡ message_size (header_of m)
  size_is z = let h = reply_has_header s m z in h.3 ∙ ap message_size h.2

  cut_short : request_number s m ≡ 0 → length out < message_size (header_of m) → (serve_answer s m out).number ≡ no_room
  cut_short z l = ap (λ (a : Answer). a.number) ((served_reply s m out z).0 ∙ (fits_not 0 (reply_to s m) out (omega (arith, size_is z))).0)

  -- what serving answers, by the request's number and the room
  pub data Answered : Type 0 where
    sends : request_number s m ≡ 0 → message_size (header_of m) ≤ length out → (serve_answer s m out).number ≡ 0 → Answered
    rejects : (n : ℕ) → Rejected n → request_number s m ≡ n → header_size ≤ length out → (serve_answer s m out).number ≡ n → Answered
    lacks_room : (request_number s m ≡ 0) × (length out < message_size (header_of m)) → (serve_answer s m out).number ≡ no_room → Answered
    lacks_reject_room : (n : ℕ) → Rejected n → request_number s m ≡ n → length out < header_size → (serve_answer s m out).number ≡ no_room → Answered
    silent : (n : ℕ) → (n ≡ unusable) ⊎ (n ≡ no_message) → request_number s m ≡ n → (serve_answer s m out).number ≡ n → Answered

  rejected_or_not : (n : ℕ) → Rejected n → request_number s m ≡ n → Answered
  rejected_or_not n r e =
      elim (dec_le header_size (length out)) [
        | yes y ↦ rejects n r e y (with_room n e r y)
        | no x ↦ lacks_reject_room n r e (omega arith) (without_room n e r (omega arith))
      ]

  -- 9 AND 1 GET NOTHING; 2, 3 AND 12 GET A REJECT where 49 bytes fit, 0 A REPLY where it fits, AND TOO LITTLE ROOM FOR THAT ONE GIVES 11
  pub answered_by_room : Answered
  answered_by_room =
      elim (which_number s m out) [
        | inl a ↦ elim a [
          | inl z ↦ elim (dec_le (message_size (header_of m)) (length out)) [
            | yes y ↦ sends z y (ap (λ (b : Answer). b.number) ((served_reply s m out z).0 ∙ (fits_sent 0 (reply_to s m) out (omega (arith, size_is z))).0))
            | no x ↦ lacks_room (z, omega arith) (cut_short z (omega arith))
          ]
          | inr b ↦ elim b [
            | inl z ↦ silent 9 (inl refl) z (ap (λ (c : Answer). c.number) (served_none s m out 9 z (inl refl)).0)
            | inr z ↦ silent 1 (inr refl) z (ap (λ (c : Answer). c.number) (served_none s m out 1 z (inr refl)).0)
          ]
        ]
        | inr a ↦ elim a [
          | inl z ↦ rejected_or_not 2 (inl refl) z
          | inr b ↦ elim b [ inl z ↦ rejected_or_not 3 (inr (inl refl)) z | inr z ↦ rejected_or_not 12 (inr (inr refl)) z ]
        ]
      ]

-- ---- each number that kd_serve gives back

module _ (s m out : List ℕ) where
  -- but for 11, it is the request's; and 2, 3 and 12 are given where a reject has room
  serve_is : (n : ℕ) → (n ≡ no_room → ⊥) → (serve_answer s m out).number ≡ n → (request_number s m ≡ n) × (Rejected n → header_size ≤ length out)
  serve_is n ne e = by (answered_by_room s m out)
    where
      by : Answered s m out → (request_number s m ≡ n) × (Rejected n → header_size ≤ length out)
      by (sends z y a) = (z ∙ sym a ∙ e, λ r. (let q : n ≡ 0 = sym e ∙ a in elim r [ inl x ↦ (let w : ⊥ = omega arith in absurd w) | inr x ↦ elim x [ inl b ↦ (let w : ⊥ = omega arith in absurd w) | inr b ↦ (let w : ⊥ = omega arith in absurd w) ] ]))
      by (rejects k r q y a) = (q ∙ sym a ∙ e, λ x. y)
      by (lacks_room x a) = absurd (ne (sym e ∙ a))
      by (lacks_reject_room k r q l a) = absurd (ne (sym e ∙ a))
      by (silent k o q a) = (q ∙ sym a ∙ e, λ r. (let z : n ≡ k = sym e ∙ a in elim o [ inl c ↦ not_rejected (inl (z ∙ c)) r | inr c ↦ not_rejected (inr (z ∙ c)) r ]))
        where
          not_rejected : (n ≡ unusable) ⊎ (n ≡ no_message) → Rejected n → header_size ≤ length out
          not_rejected c (inl x) = elim c [ inl y ↦ (let w : ⊥ = omega arith in absurd w) | inr y ↦ (let w : ⊥ = omega arith in absurd w) ]
          not_rejected c (inr (inl x)) = elim c [ inl y ↦ (let w : ⊥ = omega arith in absurd w) | inr y ↦ (let w : ⊥ = omega arith in absurd w) ]
          not_rejected c (inr (inr x)) = elim c [ inl y ↦ (let w : ⊥ = omega arith in absurd w) | inr y ↦ (let w : ⊥ = omega arith in absurd w) ]

  -- 9 and 1 are the request's
  pub serve_silent : (n : ℕ) → (n ≡ unusable) ⊎ (n ≡ no_message) → ((serve_answer s m out).number ≡ n) ↔ (request_number s m ≡ n)
  serve_silent n o = (
    λ e. (serve_is n (λ z. elim o [ inl a ↦ omega arith | inr a ↦ omega arith ]) e).0,
    λ e. ap (λ (c : Answer). c.number) (served_none s m out n e o).0,
  )

  -- 2, 3 and 12 are too, where a reject has room
  pub serve_rejects : (n : ℕ) → Rejected n → ((serve_answer s m out).number ≡ n) ↔ ((request_number s m ≡ n) × (header_size ≤ length out))
  serve_rejects n r = (
    λ e. (let t = serve_is n (λ z. elim r [ inl a ↦ omega arith | inr b ↦ elim b [ inl a ↦ omega arith | inr a ↦ omega arith ] ]) e in (t.0, t.1 r)),
    λ t. with_room s m out n t.0 r t.1,
  )

  -- and 11 is given where what is due has no room
  pub serve_11 : ((serve_answer s m out).number ≡ no_room) ↔ NoRoomFor s m out
  serve_11 = (λ e. to (answered_by_room s m out) e, from)
    where
      to : Answered s m out → (serve_answer s m out).number ≡ no_room → NoRoomFor s m out
      to (sends z y a) e = let w : ⊥ = omega arith in absurd w
      to (rejects k r q y a) e = elim r [ inl x ↦ (let w : ⊥ = omega arith in absurd w) | inr x ↦ elim x [ inl b ↦ (let w : ⊥ = omega arith in absurd w) | inr b ↦ (let w : ⊥ = omega arith in absurd w) ] ]
      to (lacks_room x a) e = let w = (request_0 s m).0 x.0 in for_reply w.0 w.1 x.1
      to (lacks_reject_room k r q l a) e = for_reject (rejected_is k r q) l
        where
          rejected_is : (k : ℕ) → Rejected k → request_number s m ≡ k → RejectDue s m
          rejected_is k (inl x) q = let w = (request_2 s m).0 (q ∙ x) in for_root w.0 w.1 w.2
          rejected_is k (inr (inl x)) q = let w = (request_3 s m).0 (q ∙ x) in for_rule w.0 w.1 w.2 w.3
          rejected_is k (inr (inr x)) q = let w = (request_12 s m).0 (q ∙ x) in for_hash w.0 w.1
      to (silent k o q a) e = elim o [ inl b ↦ (let w : ⊥ = omega arith in absurd w) | inr b ↦ (let w : ⊥ = omega arith in absurd w) ]

      from : NoRoomFor s m out → (serve_answer s m out).number ≡ no_room
      from (for_reply v g l) = cut_short s m out ((request_0 s m).1 (v, g)) l
      from (for_reject (for_root u f n) l) = without_room s m out other_root ((request_2 s m).1 (u, f, n)) (inl refl) l
      from (for_reject (for_rule u f e n) l) = without_room s m out rule_broken ((request_3 s m).1 (u, f, e, n)) (inr (inl refl)) l
      from (for_reject (for_hash v n) l) = without_room s m out not_held ((request_12 s m).1 (v, n)) (inr (inr refl)) l

-- ---- the reject, read back

module _ (s m out : List ℕ) (n : ℕ) (r : Rejected n) (e : request_number s m ≡ n) (room : header_size ≤ length out) where
  fits : length (reject_to m) ≤ length out
  fits = omega (arith, reject_size s m out n e r)

  -- A REJECT IS SENT, beside 2, 3 and 12: the size is 49, and the output begins with the id 23 and the request's 48 bytes
  pub reject_sent : (serve_answer s m out ≡ record { number = n; count = header_size }) × (sent s m out ≡ reject_id ∷ header_bytes m)
  unfolding reject_to
  reject_sent =
      let z = reject_size s m out n e r in
      let a : serve_answer s m out ≡ record { number = n; count = header_size } =
      answer_rejected s m out n e r ∙ (fits_sent n (reject_to m) out fits).0 ∙ ap (λ (k : ℕ). record { number = n; count = k }) z in
      let c : (serve_answer s m out).count ≡ header_size = ap (λ (x : Answer). x.count) a in
      let b : serve_after s m out ≡ pasted out 0 (reject_to m) = left_rejected s m out n e r ∙ (fits_sent n (reject_to m) out fits).1 in
      (a, rw (c, b) (cut_pasted_same out 0 (reject_to m) header_size z (omega arith)))

  head_is : cut (reject_id ∷ header_bytes m) 1 48 ≡ header_bytes m
  unfolding cut
  head_is = cut_whole (header_bytes m) 48 short
    where
      short : length (header_bytes m) ≤ 48
      short = omega (arith, cut_length m 1 48 (omega (arith, request_size s m out n e r)))

  -- it is read as a reject with the request's root and header
  pub reject_reads_back : (is_reject (sent s m out) ≡ true) × (message_root (sent s m out) ≡ message_root m) × (header_of (sent s m out) ≡ header_of m)
  unfolding is_reject
  reject_reads_back =
      let h = head_same (reject_id ∷ header_bytes m) m head_is in
      let l : length (header_bytes m) ≡ 48 = cut_length m 1 48 (omega (arith, request_size s m out n e r)) in
      rw reject_sent.1 (rw l, h.0, h.1)
