-- What a burst writes to the lent layer: the hashes of the pieces that the history runs past, and nothing else.
-- Assumes nothing.
use Rattle.std.specs.Prelude.{◌≡◌, refl, ◌&&◌, ℕ, zero, suc, ◌+◌, ◌-◌, ◌*◌, ◌/◌, ◌%◌, ◌^◌, ◌≤◌, ◌<◌, take, drop, ltb, List, [], ◌∷◌, ◌++◌}
use Rattle.std.proofs.Math.Path.{ap}
use Rattle.std.proofs.Common.{sym, ◌∙◌, add-mul, one-mul, zero-mul, div-lt_iff_lt-mul, div-add-mod', mod-lt, add-zero, arith, length-append, take-append-drop, pow_pos, append_assoc, append-nil, eq-eqb, ne_eqb, lt-ltb, le-ltb}
use Rattle.std.proofs.Math.Bool.{true, and-false, and-eq-true_iff}
use Rattle.std.proofs.Math.Nat.{div-div-eq-div-mul, one-le-mul}
use Rattle.std.proofs.Math.Decide.{ℕ_discrete}
use Rattle.std.proofs.Math.ListN.{length}
use Rattle.std.proofs.Math.Dec.{eqb}
use Rattle.octets.specs.Octets.{pasted}
use Rattle.octets.specs.OctetsLaws.{pasted_append, pasted_length}
use Rattle.tree.specs.Geometry.{block_length, ceil_div, piece_layer, is_piece_length, piece_count}
use Rattle.tree.proofs.GeometryLaws.{ceil_least, ceil_enough, below_ceil, ceil_below, piece_length_form}
use Rattle.tree.specs.Values.{node, leaf_of, layer_of}
use Rattle.tree.proofs.ValuesLaws.{leaf_octets, file_octets}
use Rattle.history.specs.Growing.{node_count, node_at, noted, noted_by}
use Rattle.history.specs.Answers.{passed}
use Rattle.history.specs.HistoryOf.{last_of, history_of, hashes_of}
use Rattle.history.proofs.NodesLaws.{last_some}
use Rattle.history.proofs.GrowingLaws.{node_stays, grown_more}
use Rattle.history.proofs.LastLaws.{history_nodes, ceil_whole, ceil_above}
use Rattle.history.specs.declared.History.{History}

pub hashes_size : (x : List ℕ) (p a n : ℕ) → length (hashes_of x p a n) ≡ 32 * n
unfolding hashes_of
hashes_size x p a zero = refl
hashes_size x p a (suc n) =
    length-append (node (leaf_of x) p a) (hashes_of x p (suc a) n) ∙ omega (arith, (file_octets x p a).size, hashes_size x p (suc a) n)

-- behind the first a they make the first a + n
pub hashes_behind : (x : List ℕ) (p a n : ℕ) → layer_of x p a ++ hashes_of x p a n ≡ layer_of x p (a + n)
unfolding hashes_of layer_of
hashes_behind x p a zero = append-nil (layer_of x p a) ∙ ap (layer_of x p) (sym (add-zero a))
hashes_behind x p a (suc n) =
    sym (append_assoc (layer_of x p a) (node (leaf_of x) p a) (hashes_of x p (suc a) n))
    ∙ hashes_behind x p (suc a) n
    ∙ (let e : suc a + n ≡ a + suc n = omega arith in ap (layer_of x p) e)

-- none of them put anywhere changes nothing
pub pasted_nothing : (layer : List ℕ) (at : ℕ) (z : List ℕ) (p a : ℕ) → pasted layer at (hashes_of z p a 0) ≡ layer
unfolding pasted hashes_of
pasted_nothing layer at z p a =
    let e : at + 0 ≡ at = omega arith in
    ap (λ (l : List ℕ). l ++ drop (at + 0) layer) (append-nil (take at layer)) ∙ ap (λ (k : ℕ). take at layer ++ drop k layer) e ∙ take-append-drop at layer

-- one put, and the rest behind it
side_by_side : (layer z : List ℕ) (p a n : ℕ) → 32 * (suc a + n) ≤ length layer
    → pasted (pasted layer (32 * a) (node (leaf_of z) p a)) (32 * suc a) (hashes_of z p (suc a) n) ≡ pasted layer (32 * a) (hashes_of z p a (suc n))
unfolding hashes_of
side_by_side layer z p a n room =
    let size = (file_octets z p a).size in
    let at : 32 * suc a ≡ 32 * a + length (node (leaf_of z) p a) = omega (arith, size) in
    ap (λ (k : ℕ). pasted (pasted layer (32 * a) (node (leaf_of z) p a)) k (hashes_of z p (suc a) n)) at
    ∙ pasted_append layer (32 * a) (node (leaf_of z) p a) (hashes_of z p (suc a) n) (omega (arith, size, hashes_size z p (suc a) n, room))

-- ---- how many pieces have been passed

-- none before the first byte
pub passed_none : (plen : ℕ) → passed 0 plen ≡ 0
unfolding passed piece_count ceil_div
passed_none zero = refl
passed_none (suc d) = let l = (div-lt_iff_lt-mul {k = suc d} {x = 0 + (suc d - 1)} {y = 1} (omega arith)).1 (omega arith) in omega arith

-- a byte that comes on a boundary passes one more
pub passed_at : (n plen : ℕ) → 0 < plen → 0 < n → n % plen ≡ 0 → (passed n plen ≡ n / plen - 1) × (passed (n + 1) plen ≡ n / plen) × (0 < n / plen)
unfolding passed piece_count
passed_at n plen p s e =
    let c = ceil_whole n plen p e in
    let m = ceil_least (n + 1) plen (n / plen + 1) p (omega (arith, e, div-add-mod' n plen, add-mul (n / plen) 1 plen, one-mul plen)) in
    let b = below_ceil (n + 1) plen (n / plen) p (omega (arith, e, div-add-mod' n plen)) in
    (omega arith, omega arith, some (n / plen) refl)
  where
    some : (q : ℕ) → n / plen ≡ q → 0 < n / plen
    some zero z = let d : n / plen * plen ≡ 0 = rw z (zero-mul plen) in absurd (omega (arith, s, e, d, div-add-mod' n plen))
    some (suc q) z = omega (arith, z)

-- any other byte passes none
pub passed_within : (n plen : ℕ) → 0 < plen → (n % plen ≡ 0 → ⊥) → passed (n + 1) plen ≡ passed n plen
unfolding passed piece_count
passed_within n plen p g =
    let c = ceil_above n plen p g in
    let m = ceil_least (n + 1) plen (n / plen + 1) p (omega (arith, div-add-mod' n plen, mod-lt n p, add-mul (n / plen) 1 plen, one-mul plen)) in
    let b = below_ceil (n + 1) plen (n / plen) p (omega (arith, div-add-mod' n plen)) in
    omega arith

-- nor does the first one
pub passed_first : (plen : ℕ) → 0 < plen → passed 1 plen ≡ 0
unfolding passed piece_count
passed_first plen p = let m = ceil_least 1 plen 1 p (omega (arith, one-mul plen)) in omega arith

-- more bytes pass no fewer
pub passed_grows : (n m plen : ℕ) → 0 < plen → n ≤ m → passed n plen ≤ passed m plen
unfolding passed piece_count
passed_grows n m plen p l = let c = ceil_least n plen (ceil_div m plen) p (omega (arith, ceil_enough m plen (ceil_div m plen) p (omega arith))) in omega arith

-- and the bytes of those that were passed are there
pub passed_bytes : (n plen : ℕ) → 0 < plen → passed n plen * plen ≤ n
unfolding passed piece_count
passed_bytes n plen p = by_case (ceil_div n plen) refl
  where
    by_case : (c : ℕ) → ceil_div n plen ≡ c → (ceil_div n plen - 1) * plen ≤ n
    by_case zero e = let z : ceil_div n plen - 1 ≡ 0 = omega (arith, e) in rw (z, zero-mul plen) (omega arith)
    by_case (suc c) e = let z : ceil_div n plen - 1 ≡ c = omega (arith, e) in rw z (omega (arith, ceil_below n plen c p (omega (arith, e))))

-- ---- what is written

module _ (plen : ℕ) (good : is_piece_length plen ≡ true) where
  form : plen ≡ block_length * 2 ^ piece_layer plen
  form = (piece_length_form plen good).1

  pub pieces_some : 0 < plen
  pieces_some = let w : 0 < block_length * 2 ^ piece_layer plen = one-le-mul (omega arith) (pow_pos (piece_layer plen)) in omega (arith, form)

  pub layer_within : piece_layer plen < node_count
  layer_within = omega (arith, (piece_length_form plen good).0)

  -- a byte on a boundary: the hash of the piece before it
  pub noted_at : (x layer : List ℕ) → 0 < length x → length x % plen ≡ 0
      → noted (history_of plen x) layer ≡ pasted layer (32 * passed (length x) plen) (node (leaf_of x) (piece_layer plen) (passed (length x) plen))
  unfolding noted history_of
  noted_at x layer s e =
      let t : (ltb 0 (length x) && eqb (length x % plen) 0) ≡ true = (and-eq-true_iff (ltb 0 (length x)) (eqb (length x % plen) 0)).1 (lt-ltb 0 (length x) s, eq-eqb (length x % plen) 0 e) in
      let w = passed_at (length x) plen pieces_some s e in
      let q : length x / block_length / 2 ^ piece_layer plen ≡ length x / plen = div-div-eq-div-mul (length x) block_length (2 ^ piece_layer plen) ∙ ap (λ (d : ℕ). length x / d) (sym form) in
      let h : node_at (history_of plen x).nodes (piece_layer plen) ≡ node (leaf_of x) (piece_layer plen) (length x / plen - 1) =
      history_nodes plen x (piece_layer plen) layer_within ∙ ap (last_of (leaf_of x) (piece_layer plen)) q ∙ last_some (leaf_of x) (leaf_octets x) (piece_layer plen) (length x / plen) w.2 in
      rw (t, h, w.0)

  -- any other: nothing
  pub noted_within : (x layer : List ℕ) → (length x % plen ≡ 0 → ⊥) → noted (history_of plen x) layer ≡ layer
  unfolding noted history_of
  noted_within x layer n = rw (ne_eqb (length x % plen) 0 n, and-false (ltb 0 (length x)))

  pub noted_first : (x layer : List ℕ) → length x ≡ 0 → noted (history_of plen x) layer ≡ layer
  unfolding noted history_of
  noted_first x layer z = rw (le-ltb 0 (length x) (omega (arith, z)))

  -- a burst that leads from x to z writes the hashes that z has passed and x has not
  pub noted_by_lem : (x ys z layer : List ℕ) → x ++ ys ≡ z → (passed (length x) plen < passed (length z) plen → 32 * passed (length z) plen ≤ length layer)
      → noted_by (history_of plen x) layer ys
      ≡ pasted layer (32 * passed (length x) plen) (hashes_of z (piece_layer plen) (passed (length x) plen) (passed (length z) plen - passed (length x) plen))
  unfolding noted_by
  noted_by_lem x [] z layer e room =
      let l : passed (length z) plen - passed (length x) plen ≡ 0 = (let q : length z ≡ length x = ap length (sym e ∙ append-nil x) in rw q (omega arith)) in
      rw l (sym (nothing_put layer (32 * passed (length x) plen) z (passed (length x) plen)))
    where
      nothing_put : (layer : List ℕ) (at : ℕ) (z : List ℕ) (a : ℕ) → pasted layer at (hashes_of z (piece_layer plen) a 0) ≡ layer
      nothing_put layer at z a = pasted_nothing layer at z (piece_layer plen) a
  noted_by_lem x (y ∷ ys) z layer e room =
      ap (λ (s : History). noted_by s (noted (history_of plen x) layer) ys) (grown_more plen x y)
      ∙ by_place (ℕ_discrete (length x) 0) (ℕ_discrete (length x % plen) 0) (noted_by_lem (x ++ (y ∷ [])) ys z)
    where
      e' : (x ++ (y ∷ [])) ++ ys ≡ z
      e' = append_assoc x (y ∷ []) ys ∙ e

      next : length (x ++ (y ∷ [])) ≡ length x + 1
      next = length-append x (y ∷ [])

      all : length x + 1 ≤ length z
      all = omega (arith, ap length (sym e), length-append x (y ∷ ys))

      Goal : Type 0
      Goal = noted_by (history_of plen (x ++ (y ∷ []))) (noted (history_of plen x) layer) ys
          ≡ pasted layer (32 * passed (length x) plen) (hashes_of z (piece_layer plen) (passed (length x) plen) (passed (length z) plen - passed (length x) plen))

      Next : Type 0
      Next = (l : List ℕ) → (x ++ (y ∷ [])) ++ ys ≡ z → (passed (length (x ++ (y ∷ []))) plen < passed (length z) plen → 32 * passed (length z) plen ≤ length l)
          → noted_by (history_of plen (x ++ (y ∷ []))) l ys
          ≡ pasted l (32 * passed (length (x ++ (y ∷ []))) plen) (hashes_of z (piece_layer plen) (passed (length (x ++ (y ∷ []))) plen) (passed (length z) plen - passed (length (x ++ (y ∷ []))) plen))

      nothing : noted (history_of plen x) layer ≡ layer → passed (length x + 1) plen ≡ passed (length x) plen → Next → Goal
      nothing w q go =
          let q2 : passed (length (x ++ (y ∷ []))) plen ≡ passed (length x) plen = ap (λ (n : ℕ). passed n plen) next ∙ q in
          ap (λ (l : List ℕ). noted_by (history_of plen (x ++ (y ∷ []))) l ys) w
          ∙ go layer e' (λ m. room (omega (arith, m, q2)))
          ∙ ap (λ (a : ℕ). pasted layer (32 * a) (hashes_of z (piece_layer plen) a (passed (length z) plen - a))) q2

      by_place : Dec (length x ≡ 0) → Dec (length x % plen ≡ 0) → Next → Goal
      by_place (yes z0) d go =
          nothing (noted_first x layer z0) (rw z0 (passed_first plen pieces_some ∙ sym (passed_none plen))) go
      by_place (no n0) (no g) go = nothing (noted_within x layer g) (passed_within (length x) plen pieces_some g) go
      by_place (no n0) (yes b) go =
          let w = passed_at (length x) plen pieces_some (omega (arith, n0)) b in
          let q2 : passed (length (x ++ (y ∷ []))) plen ≡ suc (passed (length x) plen) = ap (λ (n : ℕ). passed n plen) next ∙ omega (arith, w.0, w.1, w.2) in
          let more : suc (passed (length x) plen) ≤ passed (length z) plen = omega (arith, passed_grows (length x + 1) (length z) plen pieces_some all, w.0, w.1, w.2) in
          let enough : 32 * passed (length z) plen ≤ length layer = room more in
          let left : passed (length z) plen - passed (length x) plen ≡ suc (passed (length z) plen - suc (passed (length x) plen)) = omega (arith, more) in
          let inside : node (leaf_of x) (piece_layer plen) (passed (length x) plen) ≡ node (leaf_of z) (piece_layer plen) (passed (length x) plen) =
          sym (ap (λ (s : List ℕ). node (leaf_of s) (piece_layer plen) (passed (length x) plen)) (sym e) ∙ node_stays x (y ∷ ys) (piece_layer plen) (passed (length x) plen) (finished b n0)) in
          let size = (file_octets z (piece_layer plen) (passed (length x) plen)).size in
          let put : noted (history_of plen x) layer ≡ pasted layer (32 * passed (length x) plen) (node (leaf_of z) (piece_layer plen) (passed (length x) plen)) =
          noted_at x layer (omega (arith, n0)) b ∙ ap (pasted layer (32 * passed (length x) plen)) inside in
          let long : length (pasted layer (32 * passed (length x) plen) (node (leaf_of z) (piece_layer plen) (passed (length x) plen))) ≡ length layer =
          pasted_length layer (32 * passed (length x) plen) (node (leaf_of z) (piece_layer plen) (passed (length x) plen)) (omega (arith, size, more, enough)) in
          ap (λ (l : List ℕ). noted_by (history_of plen (x ++ (y ∷ []))) l ys) put
          ∙ go (pasted layer (32 * passed (length x) plen) (node (leaf_of z) (piece_layer plen) (passed (length x) plen))) e' (λ m. omega (arith, long, enough))
          ∙ ap (λ (a : ℕ). pasted (pasted layer (32 * passed (length x) plen) (node (leaf_of z) (piece_layer plen) (passed (length x) plen))) (32 * a) (hashes_of z (piece_layer plen) a (passed (length z) plen - a))) q2
          ∙ side_by_side layer z (piece_layer plen) (passed (length x) plen) (passed (length z) plen - suc (passed (length x) plen)) (omega (arith, more, enough))
          ∙ ap (λ (n : ℕ). pasted layer (32 * passed (length x) plen) (hashes_of z (piece_layer plen) (passed (length x) plen) n)) (sym left)
        where
          -- the piece before the boundary has all its blocks
          finished : length x % plen ≡ 0 → (length x ≡ 0 → ⊥) → (passed (length x) plen + 1) * 2 ^ piece_layer plen ≤ length x / block_length
          finished b n0 =
              let w = passed_at (length x) plen pieces_some (omega (arith, n0)) b in
              let s : passed (length x) plen + 1 ≡ length x / plen = omega (arith, w.0, w.2) in
              let q : length x / plen ≡ length x / block_length / 2 ^ piece_layer plen =
              ap (λ (d : ℕ). length x / d) form ∙ sym (div-div-eq-div-mul (length x) block_length (2 ^ piece_layer plen)) in
              rw (s, q) (omega (arith, div-add-mod' (length x / block_length) (2 ^ piece_layer plen)))
