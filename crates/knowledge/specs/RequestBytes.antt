-- 02, request 11: the next request's 49 bytes, read back: a request with the store's root and the four numbers beside it.
-- Assumes nothing.
use Rattle.std.specs.Prelude.{◌≡◌, List, [], ◌∷◌, ◌++◌, ℕ, suc, ◌+◌, ◌-◌, ◌^◌, ◌≤◌, ◌<◌, length}
use Rattle.std.proofs.Math.Path.{refl, ap}
use Rattle.std.proofs.Common.{sym, ◌∙◌, eq-eqb, append_assoc, arith, length-append}
use Rattle.std.proofs.Math.Bool.{true}
use Rattle.std.proofs.Math.Dec.{eqb}
use Rattle.std.proofs.Math.Pow.{pow_mono}
use Rattle.octets.specs.Octets.{cut, be}
use Rattle.octets.specs.OctetsLaws.{cut_length, cut_append_right}
use Rattle.store.specs.Store.{facts_root, height_of, Facts}
use Rattle.header.specs.declared.Header.{Header}
use Rattle.header.specs.Header.{request_id, header_size, header_of, message_root, is_request, Small}
use Rattle.asking.specs.declared.next.Request.{Request}
use Rattle.asking.specs.Asking.{wanted, lowest, uncles_needed, run_top, run_header, next_header, request_bytes, next_answer, run_layers, next_run}
use Rattle.asking.proofs.AskingLaws.{needed_most, proof_most, run_facts, Asked, height_small, asked_below, asked_run}
use Rattle.words.specs.Asking.{HeaderOf}
use Rattle.leaves.specs.LeavesLaws.{field, number_field}
use Rattle.knowledge.specs.NextRequest.{named}

module _ (root : List ℕ) (x : Header) (size : length root ≡ 32) (S : Small x) where
  bytes_length : length (request_bytes root x) ≡ header_size
  unfolding request_bytes
  bytes_length = ap suc (length-append root (be 4 x.base ++ (be 4 x.index ++ (be 4 x.len ++ be 4 x.proof))) ∙ omega arith)

  bytes_request : is_request (request_bytes root x) ≡ true
  unfolding is_request
  bytes_request = rw (eq-eqb (length (request_bytes root x)) header_size bytes_length) (first_byte root x)
    where
      first_byte : (root : List ℕ) (x : Header) → eqb (lib.ListN.get_or (request_bytes root x) 0 0) request_id ≡ true
      first_byte root x = unfold request_bytes in refl

  bytes_root : message_root (request_bytes root x) ≡ root
  unfolding message_root request_bytes
  bytes_root = field (request_id ∷ []) root (be 4 x.base ++ (be 4 x.index ++ (be 4 x.len ++ be 4 x.proof))) 1 32 refl size

  bytes_base : (header_of (request_bytes root x)).base ≡ x.base
  unfolding header_of request_bytes
  bytes_base =
      number_field _ 33 x.base S.base
      (field (request_id ∷ root) (be 4 x.base) (be 4 x.index ++ (be 4 x.len ++ be 4 x.proof)) 33 4 (ap suc size) refl)

  bytes_index : (header_of (request_bytes root x)).index ≡ x.index
  unfolding header_of request_bytes
  bytes_index =
      let l1 : length ((request_id ∷ root) ++ be 4 x.base) ≡ 37 = length-append (request_id ∷ root) (be 4 x.base) ∙ omega arith in
      let q = append_assoc (request_id ∷ root) (be 4 x.base) (be 4 x.index ++ (be 4 x.len ++ be 4 x.proof)) in
      number_field _ 37 x.index S.index
      (ap (λ (y : List ℕ). cut y 37 4) (sym q) ∙ field ((request_id ∷ root) ++ be 4 x.base) (be 4 x.index) (be 4 x.len ++ be 4 x.proof) 37 4 l1 refl)

  bytes_len : (header_of (request_bytes root x)).len ≡ x.len
  unfolding header_of request_bytes
  bytes_len =
      let P1 = (request_id ∷ root) ++ be 4 x.base in
      let l1 : length ((request_id ∷ root) ++ be 4 x.base) ≡ 37 = length-append (request_id ∷ root) (be 4 x.base) ∙ omega arith in
      let l2 : length ((request_id ∷ root) ++ be 4 x.base ++ be 4 x.index) ≡ 41 = length-append ((request_id ∷ root) ++ be 4 x.base) (be 4 x.index) ∙ omega arith in
      let q = append_assoc (request_id ∷ root) (be 4 x.base) (be 4 x.index ++ (be 4 x.len ++ be 4 x.proof)) in
      let q2 = append_assoc ((request_id ∷ root) ++ be 4 x.base) (be 4 x.index) (be 4 x.len ++ be 4 x.proof) in
      number_field _ 41 x.len S.len
      (ap (λ (y : List ℕ). cut y 41 4) (sym q) ∙ ap (λ (y : List ℕ). cut y 41 4) (sym q2)
      ∙ field ((request_id ∷ root) ++ be 4 x.base ++ be 4 x.index) (be 4 x.len) (be 4 x.proof) 41 4 l2 refl)

  bytes_proof : (header_of (request_bytes root x)).proof ≡ x.proof
  unfolding header_of request_bytes
  bytes_proof =
      let l1 : length ((request_id ∷ root) ++ be 4 x.base) ≡ 37 = length-append (request_id ∷ root) (be 4 x.base) ∙ omega arith in
      let l2 : length ((request_id ∷ root) ++ be 4 x.base ++ be 4 x.index) ≡ 41 = length-append ((request_id ∷ root) ++ be 4 x.base) (be 4 x.index) ∙ omega arith in
      let l3 : length ((request_id ∷ root) ++ be 4 x.base ++ be 4 x.index ++ be 4 x.len) ≡ 45 = length-append ((request_id ∷ root) ++ be 4 x.base ++ be 4 x.index) (be 4 x.len) ∙ omega arith in
      let q = append_assoc (request_id ∷ root) (be 4 x.base) (be 4 x.index ++ (be 4 x.len ++ be 4 x.proof)) in
      let q2 = append_assoc ((request_id ∷ root) ++ be 4 x.base) (be 4 x.index) (be 4 x.len ++ be 4 x.proof) in
      let q3 = append_assoc ((request_id ∷ root) ++ be 4 x.base ++ be 4 x.index) (be 4 x.len) (be 4 x.proof) in
      number_field _ 45 x.proof S.proof
      (ap (λ (y : List ℕ). cut y 45 4) (sym q) ∙ ap (λ (y : List ℕ). cut y 45 4) (sym q2) ∙ ap (λ (y : List ℕ). cut y 45 4) (sym q3)
      ∙ cut_append_right ((request_id ∷ root) ++ be 4 x.base ++ be 4 x.index ++ be 4 x.len) (be 4 x.proof) 45 4 l3 refl)

-- THE REQUEST'S BYTES: a request of 49 bytes with the store's root and the four numbers beside it
pub request_bytes_lem : (s : List ℕ) (l : ℕ) → (next_answer s l).asks ≡ 1
    → (is_request (next_answer s l).message ≡ true) × (message_root (next_answer s l).message ≡ facts_root s) × HeaderOf (next_answer s l) (next_answer s l).message
request_bytes_lem s l e =
    let N = named s l e in
    let q = N.is in
    let x = next_header s l in
    let z = root_size s N.asked.facts in
    let S = small s l N.asked N.some in
    let m : (next_answer s l).message ≡ request_bytes (facts_root s) (next_header s l) = ap (λ (r : Request). r.message) q in (
      rw m (bytes_request (facts_root s) (next_header s l) z S),
      rw m (bytes_root (facts_root s) (next_header s l) z S),
      record {
        base = rw m (bytes_base (facts_root s) (next_header s l) z S ∙ sym (ap (λ (r : Request). r.base) q));
        index = rw m (bytes_index (facts_root s) (next_header s l) z S ∙ sym (ap (λ (r : Request). r.index) q));
        len = rw m (bytes_len (facts_root s) (next_header s l) z S ∙ sym (ap (λ (r : Request). r.len) q));
        proof = rw m (bytes_proof (facts_root s) (next_header s l) z S ∙ sym (ap (λ (r : Request). r.proof) q));
      },
    )
  where
    root_size : (s : List ℕ) → Facts s → length (facts_root s) ≡ 32
    root_size s f = unfold facts_root in cut_length s 12 32 (omega (arith, f.long))

    small : (s : List ℕ) (l : ℕ) → Asked s l → lowest s l < wanted s l → Small (next_header s l)
    small s l A a = unfold next_header run_header in
        let low = asked_below s l A a in
        let R = run_facts (height_of s) l low in
        let h = height_small s A.facts in
        let i = asked_run s l A a in
        let w : 2 ^ (height_of s - l) ≤ 2 ^ 20 = pow_mono {i = height_of s - l} {j = 20} (omega arith) in
        let n = needed_most s (height_of s - (l + run_layers s l)) (run_top s l (next_run s l)) in
        let p = proof_most (run_layers s l) (uncles_needed s (height_of s - (l + run_layers s l)) (run_top s l (next_run s l))) in
        record { base = omega arith; index = omega arith; len = omega (arith, R.most); proof = omega (arith, R.within) }
