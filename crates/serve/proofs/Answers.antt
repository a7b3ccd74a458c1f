-- What each function answers, from what its callees ensure and the tests it took.
-- Assumes nothing.
use Rattle.std.specs.Prelude.{◌≡◌, refl, Bool, true, false, cond, List, ◌∷◌, ◌++◌, ℕ, suc, ◌+◌, ◌*◌, ◌%◌, ◌^◌, ◌≤◌, ◌<◌, length}
use Rattle.std.proofs.Common.{ap, ap₂, sym, ◌∙◌, append_assoc, inl, inr, one-mul, arith, length-append, pow_mono, shl_exact}
use Rattle.octets.specs.Octets.{cut, pasted, same}
use Rattle.octets.specs.OctetsLaws.{cut_length, pasted_append}
use Rattle.numbers.specs.Numbers.{refused, done, unusable, no_message, other_root, rule_broken, no_room, not_held}
use Rattle.numbers.specs.declared.Answer.{Answer}
use Rattle.limits.specs.Limits.{tallest_tree}
use Rattle.store.specs.Store.{Facts, usable, facts_root, height_of}
use Rattle.store.specs.StoreLaws.{usable_facts}
use Rattle.header.specs.declared.Header.{Header}
use Rattle.header.specs.declared.Place.{Place}
use Rattle.header.specs.Header.{header_size, header_bytes, hashes_id, reject_id, is_request, message_root, header_of, rules_kept}
use Rattle.messages.specs.Take.{header_number, place_in, or_else}
use Rattle.messages.specs.TakeLaws.{passed, passes}
use Rattle.serve.specs.Serve.{held_run, held_uncles, run_hashes, uncle_hashes, all_held, all_hashes, reply_to, reject_to, request_number, serve_answer, serve_after}
use Rattle.serve.specs.Asks.{Reach, fit_answer, fit_after}
use Rattle.serve.specs.ServeLaws.{run_hashes_length, uncle_hashes_length, fits_sent, fits_not, served_none, served_reply, served_reject, request_size, request_reach, reply_length, reject_length}

-- a power of two as it is shifted
pub count_of : (k : ℕ) → k ≤ tallest_tree → ((1 * 2 ^ k) % 18446744073709551616 ≡ 2 ^ k) × ((1 * 2 ^ k) % 18446744073709551616 ≤ 2 ^ tallest_tree)
count_of k l =
    let e : (1 * 2 ^ k) % 18446744073709551616 ≡ 2 ^ k = shl_exact {a = 1} 1 k 64 (omega arith) (omega arith) ∙ one-mul (2 ^ k) in
    let w : 2 ^ k ≤ 2 ^ tallest_tree = pow_mono {i = k} {j = tallest_tree} l in
    (e, omega arith)

-- ---- the place of a request

module _ (s m : List ℕ) (e : header_number (is_request m) s m ≡ 0) where
  facts : Facts s
  facts = usable_facts s (passed (is_request m) s m e).store

  pub passed_long : (64 ≤ length s) × (header_size ≤ length m)
  passed_long = (facts.long, omega (arith, request_size s m e))

  -- its place is in the tree, and the store has its cells
  pub place_reach : (p : Place) → p ≡ place_in s m → Reach (length s) p
  place_reach p q = rw q (request_reach s m e)

-- ---- looking at a place

module _ (ls : ℕ) (p : Place) (r : Reach ls p) (c : ℕ) (e : c ≡ 2 ^ p.k) where
  pub run_cells : 31 + 33 * (p.top * c + c) ≤ ls
  run_cells = rw e r.run

module _ (s : List ℕ) (p : Place) (c : ℕ) (e : c ≡ 2 ^ p.k) (t : Bool) (h : t ≡ held_run s (p.top * c) c) where
  pub held_both : (v : Bool) → t ≡ true → v ≡ held_uncles s p.u p.top → v ≡ all_held s p
  unfolding all_held
  held_both v y f = f ∙ sym (rw (← e, ← h, y))

  pub held_not : t ≡ false → false ≡ all_held s p
  unfolding all_held
  held_not n = sym (rw (← e, ← h, n))

-- ---- a request's number: of a request to a store, by its root, its rules, and what is held

module _ (s m : List ℕ) (u : usable s ≡ true) (f : is_request m ≡ true) (mine theirs : List ℕ) (v : Bool) (p : mine ≡ facts_root s) (q : theirs ≡ cut m 1 32) (w : v ≡ same mine theirs) where
  roots : v ≡ same (facts_root s) (message_root m)
  unfolding message_root
  roots = w ∙ ap₂ (λ (x y : List ℕ). same x y) p q

  pub number_other_root : v ≡ false → other_root ≡ request_number s m
  unfolding request_number header_number
  number_other_root z = sym (rw (u, f, ← roots, z))

  module _ (z : v ≡ true) (x : Header) (k : Bool) (ex : x ≡ header_of m) (ek : k ≡ rules_kept x (height_of s)) where
    rules : k ≡ rules_kept (header_of m) (height_of s)
    rules = ek ∙ ap (λ (y : Header). rules_kept y (height_of s)) ex

    pub number_rule_broken : k ≡ false → rule_broken ≡ request_number s m
    unfolding request_number header_number
    number_rule_broken y = sym (rw (u, f, ← roots, z, ← rules, y))

    module _ (y : k ≡ true) where
      pub number_passed : header_number (is_request m) s m ≡ 0
      number_passed = passes (is_request m) s m (record { store = u; formed = f; root = sym roots ∙ z; rules = sym rules ∙ y })

      module _ (t : Place) (h : Bool) (et : t ≡ place_in s m) (eh : h ≡ all_held s t) where
        looked : all_held s (place_in s m) ≡ h
        looked = cc

        pub number_held : h ≡ true → request_number s m ≡ 0
        unfolding request_number
        number_held b = rw (number_passed, looked, b)

        pub number_not_held : h ≡ false → not_held ≡ request_number s m
        unfolding request_number
        number_not_held b = sym (rw (number_passed, looked, b))

-- 9 and 1 are tested first,
pub quiet_9 : (s m : List ℕ) → usable s ≡ false → unusable ≡ request_number s m
unfolding request_number header_number
quiet_9 s m u = sym (rw u refl)

pub quiet_1 : (s m : List ℕ) → usable s ≡ true → is_request m ≡ false → no_message ≡ request_number s m
unfolding request_number header_number
quiet_1 s m u f = sym (rw (u, f) refl)

-- and behind them no test has these numbers
pub loud : (s m : List ℕ) → usable s ≡ true → is_request m ≡ true → (request_number s m ≡ unusable → ⊥) × (request_number s m ≡ no_message → ⊥)
unfolding request_number header_number
loud s m u f = rw (u, f) (by (same (facts_root s) (message_root m)) (rules_kept (header_of m) (height_of s)) (all_held s (place_in s m)))
  where
    by : (a b c : Bool)
        → (or_else (cond a (cond b 0 rule_broken) other_root) (cond c 0 not_held) ≡ unusable → ⊥)
        × (or_else (cond a (cond b 0 rule_broken) other_root) (cond c 0 not_held) ≡ no_message → ⊥)
    by true true true = (λ e. omega (arith, e), λ e. omega (arith, e))
    by true true false = (λ e. omega (arith, e), λ e. omega (arith, e))
    by true false c = (λ e. omega (arith, e), λ e. omega (arith, e))
    by false b c = (λ e. omega (arith, e), λ e. omega (arith, e))

-- ---- sending

module _ (s m out : List ℕ) (e : header_number (is_request m) s m ≡ 0) (p : Place) (f : p ≡ place_in s m) (c : ℕ) (g : c ≡ 2 ^ p.k) where
  size_is : header_size + 32 * c + 32 * p.u ≡ length (reply_to s m)
  size_is = rw (g, f) (sym (reply_length s m e))

  pub reply_short : (r : Answer) → length out < header_size + 32 * c + 32 * p.u → r ≡ refused no_room
      → (r ≡ fit_answer 0 (reply_to s m) out) × (out ≡ fit_after (reply_to s m) out)
  reply_short r l q =
      let w = fits_not 0 (reply_to s m) out (omega (arith, size_is)) in
      (q ∙ sym w.0, sym w.1)

  module _ (out1 out2 out3 : List ℕ) (l : header_size + 32 * c + 32 * p.u ≤ length out) (a : out1 ≡ pasted out 0 (hashes_id ∷ header_bytes m))
      (b : out2 ≡ pasted out1 header_size (run_hashes s (p.top * c) c)) (d : out3 ≡ pasted out2 (header_size + 32 * c) (uncle_hashes s p.u p.top)) where
    written : out3 ≡ pasted out 0 (reply_to s m)
    unfolding reply_to all_hashes
    written =
        let r = request_reach s m e in
        let H : List ℕ = hashes_id ∷ header_bytes m in
        let R = run_hashes s (p.top * c) c in
        let U = uncle_hashes s p.u p.top in
        let hl : length (hashes_id ∷ header_bytes m) ≡ header_size = ap suc (cut_length m 1 48 (omega (arith, request_size s m e))) in
        let rl : length (run_hashes s (p.top * c) c) ≡ 32 * c = run_hashes_length s (p.top * c) c (run_cells (length s) p (rw f r) c g) in
        let ul : length (uncle_hashes s p.u p.top) ≡ 32 * p.u = uncle_hashes_length s p.u p.top (rw f r.uncles) in
        let one : pasted (pasted out 0 H) (0 + length H) R ≡ pasted out 0 (H ++ R) = pasted_append out 0 H R (omega arith) in
        let hr : length (H ++ R) ≡ header_size + 32 * c = length-append H R ∙ omega arith in
        let two : pasted (pasted out 0 (H ++ R)) (0 + length (H ++ R)) U ≡ pasted out 0 (H ++ R ++ U) = pasted_append out 0 (H ++ R) U (omega arith) in
        let p1 : 0 + length H ≡ header_size = omega arith in
        let p2 : 0 + length (H ++ R) ≡ header_size + 32 * c = omega arith in
        let whole : H ++ R ++ U ≡ H ++ (R ++ U) = append_assoc H R U in
        let same : R ++ U ≡ all_hashes s (place_in s m) = rw (g, f) in
        d ∙ ap (λ (t : List ℕ). pasted t (header_size + 32 * c) U) (b ∙ ap (λ (t : List ℕ). pasted t header_size R) a ∙ ap (λ (k : ℕ). pasted (pasted out 0 H) k R) (sym p1) ∙ one)
        ∙ ap (λ (k : ℕ). pasted (pasted out 0 (H ++ R)) k U) (sym p2)
        ∙ two
        ∙ ap (pasted out 0) (whole ∙ ap (λ (t : List ℕ). H ++ t) same)

    pub reply_sent : (r : Answer) → r ≡ done (header_size + 32 * c + 32 * p.u)
        → (r ≡ fit_answer 0 (reply_to s m) out) × (out3 ≡ fit_after (reply_to s m) out)
    reply_sent r q =
        let w = fits_sent 0 (reply_to s m) out (omega (arith, size_is)) in
        (q ∙ ap (λ (k : ℕ). record { number = 0; count = k }) size_is ∙ sym w.0, written ∙ sym w.1)

module _ (m out : List ℕ) (number : ℕ) (e : length m ≡ header_size) where
  pub reject_short : (r : Answer) → length out < header_size → r ≡ refused no_room → (r ≡ fit_answer number (reject_to m) out) × (out ≡ fit_after (reject_to m) out)
  reject_short r l q =
      let w = fits_not number (reject_to m) out (omega (arith, reject_length m e)) in
      (q ∙ sym w.0, sym w.1)

  pub reject_sent : (n : ℕ) → n ≡ number → (out1 : List ℕ) → header_size ≤ length out → out1 ≡ pasted out 0 (reject_id ∷ header_bytes m)
      → (record { number = n; count = header_size } ≡ fit_answer number (reject_to m) out) × (out1 ≡ fit_after (reject_to m) out)
  unfolding reject_to
  reject_sent n q out1 l a =
      let w = fits_sent number (reject_to m) out (omega (arith, reject_length m e)) in
      (ap₂ (λ (i k : ℕ). record { number = i; count = k }) q (sym (reject_length m e)) ∙ sym w.0, a ∙ sym w.1)

-- ---- serving

-- a result and an output that are each the same as another pair of them
along : {r a b : Answer} {o x y : List ℕ} → (r ≡ a) × (o ≡ x) → (b ≡ a) × (y ≡ x) → (r ≡ b) × (o ≡ y)
along p q = (p.0 ∙ sym q.0, p.1 ∙ sym q.1)

module _ (s m out : List ℕ) (n : ℕ) (e : n ≡ request_number s m) where
  pub serve_9 : (r : Answer) → n ≡ unusable → r ≡ refused unusable → (r ≡ serve_answer s m out) × (out ≡ serve_after s m out)
  serve_9 r z q = along (q, refl) (served_none s m out unusable (sym e ∙ z) (inl refl))

  pub serve_1 : (r : Answer) → n ≡ no_message → r ≡ refused no_message → (r ≡ serve_answer s m out) × (out ≡ serve_after s m out)
  serve_1 r z q = along (q, refl) (served_none s m out no_message (sym e ∙ z) (inr refl))

  pub serve_reply : (r : Answer) (out1 : List ℕ) → n ≡ 0 → (r ≡ fit_answer 0 (reply_to s m) out) × (out1 ≡ fit_after (reply_to s m) out)
      → (r ≡ serve_answer s m out) × (out1 ≡ serve_after s m out)
  serve_reply r out1 z w = along w (served_reply s m out (sym e ∙ z))

  module _ (a : n ≡ unusable → ⊥) (b : n ≡ no_message → ⊥) where
    pub serve_reject : (r : Answer) (out1 : List ℕ) → (n ≡ 0 → ⊥) → (r ≡ fit_answer n (reject_to m) out) × (out1 ≡ fit_after (reject_to m) out)
        → (r ≡ serve_answer s m out) × (out1 ≡ serve_after s m out)
    serve_reject r out1 z w = along w (served_reject s m out n (sym e) a b z)
