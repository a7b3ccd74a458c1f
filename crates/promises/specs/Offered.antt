-- A hashes message by its parts: root, the sixteen bytes of the four numbers, the hashes; and such a message offered to a store. The
-- examples are made of these.
-- Assumes nothing.
use Rattle.std.specs.Prelude.{◌≡◌, true, get_or, drop, List, [], ◌∷◌, ◌++◌, ℕ, suc, ◌+◌, ◌≤◌, ◌<◌}
use Rattle.std.proofs.Math.Path.{ap, ap₂}
use Rattle.std.proofs.Common.{sym, ◌∙◌, get_or-append-add, lit≤, le-leb, append_assoc, append-nil, arith}
use Rattle.std.proofs.Math.ListN.{length, take, length-append, get_or-append}
use Rattle.std.proofs.Math.Seq.{take_at, drop-append-add}
use Rattle.octets.specs.Octets.{cut, number_at, zero_hash}
use Rattle.octets.specs.OctetsLaws.{same_eq, number_same, cut_whole, cut_append_left, cut_append_right}
use Rattle.store.specs.Store.{usable, facts_root, height_of}
use Rattle.settling.specs.SubtreeLaws.{run_leaf_in}
use Rattle.header.specs.declared.Header.{Header}
use Rattle.header.specs.Header.{hashes_id, header_size, is_hashes, header_of, message_root, message_size, rules_kept}
use Rattle.messages.specs.Take.{run_of, given}
use Rattle.messages.specs.TakeLaws.{passes}
use Rattle.knowledge.specs.TakenWhen.{Formed}

-- a hashes message by its parts
abbrev pub offered : List ℕ → List ℕ → List ℕ → List ℕ
offered root numbers hashes = hashes_id ∷ (root ++ (numbers ++ hashes))

module _ (root numbers hashes : List ℕ) (lr : length root ≡ 32) (ln : length numbers ≡ 16) where
  at_numbers : (i : ℕ) → i < 16 → get_or (offered root numbers hashes) (33 + i) 0 ≡ get_or numbers i 0
  at_numbers i h =
      let e : 33 + i ≡ suc (length root + i) = omega arith in
      ap (λ (n : ℕ). get_or (offered root numbers hashes) n 0) e ∙ get_or-append-add root (numbers ++ hashes) i 0 ∙ get_or-append numbers hashes 0 i (omega arith)

  number_at_lem : (at : ℕ) → at + 4 ≤ 16 → number_at (offered root numbers hashes) (33 + at) 4 ≡ number_at numbers at 4
  number_at_lem at h =
      number_same (offered root numbers hashes) numbers (33 + at) at 4
      (λ i l. let e : 33 + at + i ≡ 33 + (at + i) = omega arith in ap (λ (n : ℕ). get_or (offered root numbers hashes) n 0) e ∙ at_numbers (at + i) (omega arith))

  -- its header,
  pub offered_header : header_of (offered root numbers hashes)
      ≡ record { base = number_at numbers 0 4; index = number_at numbers 4 4; len = number_at numbers 8 4; proof = number_at numbers 12 4 }
  unfolding header_of
  offered_header =
      let n0 : number_at (offered root numbers hashes) 33 4 ≡ number_at numbers 0 4 = number_at_lem 0 (lit≤ tt) in
      let n1 : number_at (offered root numbers hashes) 37 4 ≡ number_at numbers 4 4 = number_at_lem 4 (lit≤ tt) in
      let n2 : number_at (offered root numbers hashes) 41 4 ≡ number_at numbers 8 4 = number_at_lem 8 (lit≤ tt) in
      let n3 : number_at (offered root numbers hashes) 45 4 ≡ number_at numbers 12 4 = number_at_lem 12 (lit≤ tt) in
      cc

  -- root,
  pub offered_root : message_root (offered root numbers hashes) ≡ root
  unfolding message_root cut
  offered_root = take_at root (numbers ++ hashes) 32 lr

  -- size,
  pub offered_size : length (offered root numbers hashes) ≡ header_size + length hashes
  offered_size = omega (arith, length-append root (numbers ++ hashes), length-append numbers hashes)

  -- form,
  pub offered_form : is_hashes (offered root numbers hashes) ≡ true
  unfolding is_hashes
  offered_form = rw (le-leb header_size (length (offered root numbers hashes)) (omega (arith, offered_size)))

  -- and what stands behind the header
  pub offered_past : (at n : ℕ) → cut (offered root numbers hashes) (header_size + at) n ≡ cut hashes at n
  unfolding cut
  offered_past at n =
      let H : List ℕ = hashes_id ∷ (root ++ numbers) in
      let e : offered root numbers hashes ≡ (hashes_id ∷ (root ++ numbers)) ++ hashes = ap (λ (l : List ℕ). hashes_id ∷ l) (sym (append_assoc root numbers hashes)) in
      let l : header_size + at ≡ length H + at = omega (arith, length-append root numbers) in
      ap₂ (λ (m : List ℕ) (x : ℕ). take n (drop x m)) e l ∙ ap (take n) (drop-append-add H hashes at)

  -- offered to a usable store with this root, of a file whose height lets its header keep the rules, with as many hashes as the
  -- header says, it is well-formed
  pub well_formed_in : (s : List ℕ) (x : Header) (h : ℕ) → header_of (offered root numbers hashes) ≡ x → usable s ≡ true → facts_root s ≡ root
      → height_of s ≡ h → rules_kept x h ≡ true → message_size x ≡ header_size + length hashes → Formed s (offered root numbers hashes)
  well_formed_in s x h e u r eh k z =
      record {
        header =
            passes (is_hashes (offered root numbers hashes)) s (offered root numbers hashes)
            (record { store = u; formed = offered_form; root = same_eq (facts_root s) (message_root (offered root numbers hashes)) (r ∙ sym offered_root); rules = rw (e, eh) k });
        size = offered_size ∙ sym z ∙ sym (ap message_size e);
      }

-- the two hashes of a run of two, with whatever uncles follow
module _ (root numbers a b uncles : List ℕ) (lr : length root ≡ 32) (ln : length numbers ≡ 16) (la : length a ≡ 32) (lb : length b ≡ 32) where
  pub run_of_two : run_of (offered root numbers ((a ++ b) ++ uncles)) 2 ≡ a ++ b
  unfolding run_of
  run_of_two =
      let l : length (a ++ b) ≡ 64 = length-append a b ∙ omega arith in
      offered_past root numbers ((a ++ b) ++ uncles) lr ln 0 64 ∙ cut_append_left (a ++ b) uncles 0 64 (omega arith) ∙ cut_whole (a ++ b) 64 (omega arith)

  run_size : length (run_of (offered root numbers ((a ++ b) ++ uncles)) 2) ≡ 64
  run_size = ap length run_of_two ∙ length-append a b ∙ omega arith

  pub first_given : given (offered root numbers ((a ++ b) ++ uncles)) 1 0 ≡ a
  unfolding given
  first_given =
      run_leaf_in (run_of (offered root numbers ((a ++ b) ++ uncles)) 2) zero_hash 0 (omega (arith, run_size)) ∙ ap (λ (l : List ℕ). cut l 0 32) run_of_two
      ∙ cut_append_left a b 0 32 (omega arith) ∙ cut_whole a 32 (omega arith)

  pub second_given : given (offered root numbers ((a ++ b) ++ uncles)) 1 1 ≡ b
  unfolding given
  second_given =
      run_leaf_in (run_of (offered root numbers ((a ++ b) ++ uncles)) 2) zero_hash 1 (omega (arith, run_size)) ∙ ap (λ (l : List ℕ). cut l 32 32) run_of_two
      ∙ cut_append_right a b 32 32 la lb

-- ---- two hashes and no uncle

abbrev pub two_hashes : List ℕ → List ℕ → List ℕ → List ℕ → List ℕ
two_hashes root numbers a b = offered root numbers (a ++ b)

module _ (root numbers a b : List ℕ) (lr : length root ≡ 32) (ln : length numbers ≡ 16) (la : length a ≡ 32) (lb : length b ≡ 32) where
  no_uncles : offered root numbers ((a ++ b) ++ []) ≡ two_hashes root numbers a b
  no_uncles = ap (offered root numbers) (append-nil (a ++ b))

  pub run_is : run_of (two_hashes root numbers a b) 2 ≡ a ++ b
  run_is = ap (λ (m : List ℕ). run_of m 2) (sym no_uncles) ∙ run_of_two root numbers a b [] lr ln la lb

  pub first_hash : given (two_hashes root numbers a b) 1 0 ≡ a
  first_hash = ap (λ (m : List ℕ). given m 1 0) (sym no_uncles) ∙ first_given root numbers a b [] lr ln la lb

  pub second_hash : given (two_hashes root numbers a b) 1 1 ≡ b
  second_hash = ap (λ (m : List ℕ). given m 1 1) (sym no_uncles) ∙ second_given root numbers a b [] lr ln la lb

  pub two_size : header_size + length (a ++ b) ≡ 113
  two_size = omega (arith, length-append a b)
