-- In the bytes that the v1 half hashes, piece i of a file is its bytes and then the zeros of the padding behind it.
-- Assumes nothing.
use Rattle.std.specs.Prelude.{◌≡◌, Bool, true, false, ◌||◌, List, ◌∷◌, ◌++◌, take, drop, ℕ, zero, suc, ◌+◌, ◌-◌, ◌*◌, ◌/◌, ◌%◌, ◌≤◌, ◌<◌, min}
use Rattle.std.proofs.Math.Path.{refl, ap, sym}
use Rattle.std.proofs.Common.{ap₂, ◌∙◌, append-nil, mod-eq_of_lt, add_assoc, length-drop, take_all, eqb-true, arith}
use Rattle.std.proofs.lemmas.Bool.{false≢true}
use Rattle.std.proofs.Math.Bool.{and-eq-true_iff}
use Rattle.std.proofs.Math.Decide.{dec_le}
use Rattle.std.proofs.Math.Nat.{mul-add-mod_self_right, div-add-mod', add-mul}
use Rattle.std.proofs.Math.ListN.{length, replicate, length-append, length-replicate}
use Rattle.std.proofs.lemmas.List.{replicate-append-replicate, take-append-le, drop-append-le}
use Rattle.std.proofs.Math.Seq.{take-append-add}
use Rattle.std.proofs.Math.Dec.{eqb}
use Rattle.octets.specs.Octets.{cut}
use Rattle.octets.specs.OctetsLaws.{cut_behind, zeros_front}
use Rattle.meaning.specs.Nth.{Nth}
use Rattle.halves.specs.V1Half.{V1Entry, total, on_boundary}
use Rattle.sha_1.specs.Sha1.{sha1}
use Rattle.halves.specs.Stream.{StreamOf, none, zeros, content, file_start, zeros_behind, v1_hash_at, HashesAre}

first_test : (t : Bool) (n : ℕ) → t ≡ false → t || eqb n 0 ≡ true → n ≡ 0
first_test true n f g = absurd (false≢true (sym f))
first_test false n f g = eqb-true n 0 g

zero_front : (x : ℕ) → 0 + x ≡ x
zero_front x = omega arith

module _ (plen : ℕ) where
  -- inside a piece there are zeros up to its boundary, or to the end
  gap : (es : List V1Entry) (cs : List (List ℕ)) (bytes : List ℕ) → StreamOf es cs bytes
      → (q r k : ℕ) → 0 < r → r + k ≤ plen → on_boundary plen (q * plen + r) es ≡ true → take k bytes ≡ replicate (min k (total es)) 0
  unfolding on_boundary total
  gap es cs bytes none q r zero h g b = let m : min 0 0 ≡ 0 = omega arith in ap (λ (j : ℕ). replicate j 0) (sym m)
  gap es cs bytes none q r (suc k) h g b = let m : min (suc k) 0 ≡ 0 = omega arith in ap (λ (j : ℕ). replicate j 0) (sym m)
  gap es cs bytes (zeros e us ds more p t) q r k h g b = by_size (dec_le k e.size) (λ h' g' b'. gap us ds more t q (r + e.size) (k - e.size) h' g' b')
    where
      z : ℕ
      z = e.size

      lz : length {A = ℕ} (replicate e.size 0) ≡ e.size
      lz = length-replicate {A = ℕ} e.size 0

      later : on_boundary plen (q * plen + (r + e.size)) us ≡ true
      later =
          let a : q * plen + r + e.size ≡ q * plen + (r + e.size) = add_assoc (q * plen) r e.size in
          rw a at ((and-eq-true_iff (e.padding || eqb ((q * plen + r) % plen) 0) (on_boundary plen (q * plen + r + e.size) us)).0 b).1

      by_size : Dec (k ≤ z) → (0 < r + z → r + z + (k - z) ≤ plen → on_boundary plen (q * plen + (r + z)) us ≡ true → take (k - z) more ≡ replicate (min (k - z) (total us)) 0)
          → take k (replicate e.size 0 ++ more) ≡ replicate (min k (e.size + total us)) 0
      by_size (yes l) i =
          let m : min k (e.size + total us) ≡ k = omega arith in
          take-append-le k (replicate e.size 0) more (omega (arith, lz)) ∙ zeros_front e.size k l ∙ ap (λ (j : ℕ). replicate j 0) (sym m)
      by_size (no n) i =
          let s : length {A = ℕ} (replicate e.size 0) + (k - e.size) ≡ k = omega (arith, lz) in
          let m : e.size + min (k - e.size) (total us) ≡ min k (e.size + total us) = omega arith in
          ap (λ (j : ℕ). take j (replicate e.size 0 ++ more)) (sym s)
          ∙ take-append-add (replicate e.size 0) more (k - e.size)
          ∙ ap (λ (l : List ℕ). replicate e.size 0 ++ l) (i (omega arith) (omega arith) later)
          ∙ replicate-append-replicate {A = ℕ} e.size (min (k - e.size) (total us)) 0
          ∙ ap (λ (j : ℕ). replicate j 0) m
  gap es cs bytes (content e us c ds more p l t) q r zero h g b = let m : min 0 (e.size + total us) ≡ 0 = omega arith in ap (λ (j : ℕ). replicate j 0) (sym m)
  gap es cs bytes (content e us c ds more p l t) q r (suc k) h g b =
      let a = ((and-eq-true_iff (e.padding || eqb ((q * plen + r) % plen) 0) (on_boundary plen (q * plen + r + e.size) us)).0 b).0 in
      let z : (q * plen + r) % plen ≡ 0 = first_test e.padding ((q * plen + r) % plen) p a in
      let m : (q * plen + r) % plen ≡ r = mul-add-mod_self_right q plen r ∙ mod-eq_of_lt (omega arith) in
      absurd (omega arith)

  -- ---- a piece of the first file

  shorter : (all r : ℕ) → r < plen → min plen (r + all) - r ≡ min (plen - r) all
  shorter all r g = omega arith

  -- what is covered of it, from x on, where its last bytes are r
  covered : (all x r n : ℕ) → r ≡ n - x → x < n → r < plen → zeros_behind plen (n + all) x r ≡ min (plen - r) all
  unfolding zeros_behind
  covered all x r n er h g =
      let a : n + all - x ≡ r + all = omega arith in
      let b : min plen r ≡ r = omega arith in
      rw (a, b) (shorter all r g)

  whole : (all x n : ℕ) → x + plen ≤ n → zeros_behind plen (n + all) x (n - x) ≡ 0
  unfolding zeros_behind
  whole all x n h = omega arith

  first_piece : (us : List V1Entry) (ds : List (List ℕ)) (c more : List ℕ) → StreamOf us ds more
      → (q i x : ℕ) → x ≡ i * plen → x < length c → on_boundary plen (q * plen + length c) us ≡ true
      → cut (c ++ more) x plen ≡ cut c x plen ++ replicate (zeros_behind plen (length c + total us) x (length c - x)) 0
  unfolding cut
  first_piece us ds c more t q i x ex h b = by_size (dec_le (x + plen) (length c))
    where
      r : ℕ
      r = length c - x

      lr : length (drop x c) ≡ r
      lr = length-drop x c

      front : drop x (c ++ more) ≡ drop x c ++ more
      front = drop-append-le x c more (omega arith)

      -- the file ends r bytes into a piece
      ends : q * plen + length c ≡ (q + i) * plen + r
      ends = let a = add-mul q i plen in omega (arith, a, ex)

      by_size : Dec (x + plen ≤ length c) → take plen (drop x (c ++ more)) ≡ take plen (drop x c) ++ replicate (zeros_behind plen (length c + total us) x (length c - x)) 0
      by_size (yes l) =
          ap (take plen) front ∙ take-append-le plen (drop x c) more (omega (arith, lr))
          ∙ sym (ap (λ (k : ℕ). take plen (drop x c) ++ replicate k 0) (whole (total us) x (length c) l) ∙ append-nil (take plen (drop x c)))
      by_size (no n) =
          let s : length (drop x c) + (plen - r) ≡ plen = omega (arith, lr) in
          ap (take plen) front
          ∙ ap (λ (k : ℕ). take k (drop x c ++ more)) (sym s)
          ∙ take-append-add (drop x c) more (plen - r)
          ∙ ap₂ (λ (a d : List ℕ). a ++ d)
          (sym (take_all plen (drop x c) (omega (arith, lr))))
          (gap us ds more t (q + i) r (plen - r) (omega arith) (omega arith) (rw ends at b) ∙ ap (λ (k : ℕ). replicate k 0) (sym (covered (total us) x r (length c) refl h (omega arith))))

  -- ---- a piece of any file

  start_padding : (e : V1Entry) (us : List V1Entry) (n : ℕ) → e.padding ≡ true → file_start (e ∷ us) n ≡ e.size + file_start us n
  unfolding file_start
  start_padding e us zero p = rw p refl
  start_padding e us (suc n) p = rw p refl

  start_first : (e : V1Entry) (us : List V1Entry) → e.padding ≡ false → file_start (e ∷ us) 0 ≡ 0
  unfolding file_start
  start_first e us p = rw p refl

  start_next : (e : V1Entry) (us : List V1Entry) (n : ℕ) → e.padding ≡ false → file_start (e ∷ us) (suc n) ≡ e.size + file_start us n
  unfolding file_start
  start_next e us n p = rw p refl

  -- with an entry before, all moves by its size
  same_zeros : (all k at left : ℕ) → zeros_behind plen (k + all) (k + at) left ≡ zeros_behind plen all at left
  unfolding zeros_behind
  same_zeros all k at left = let a : k + all - (k + at) ≡ all - at = omega arith in rw a refl

  moved : (a more piece : List ℕ) (from k f x all left : ℕ) → length a ≡ k → from ≡ k + f
      → cut more (f + x) plen ≡ piece ++ replicate (zeros_behind plen all (f + x) left) 0
      → cut (a ++ more) (from + x) plen ≡ piece ++ replicate (zeros_behind plen (k + all) (from + x) left) 0
  moved a more piece from k f x all left la ef i =
      let e : from + x ≡ k + (f + x) = omega arith in
      cut_behind a more (from + x) (f + x) plen (omega arith) ∙ i
      ∙ ap (λ (z : ℕ). piece ++ replicate z 0) (sym (same_zeros all k (f + x) left) ∙ ap (λ (m : ℕ). zeros_behind plen (k + all) m left) (sym e))

  -- piece i of file n, whose content is c, is its bytes and then the zeros behind them; the first entry begins at `at`
  pub piece_covers : (es : List V1Entry) (cs : List (List ℕ)) (bytes : List ℕ) → StreamOf es cs bytes
      → (at : ℕ) → on_boundary plen at es ≡ true → (n : ℕ) (c : List ℕ) → Nth cs n c → (i : ℕ) → i * plen < length c
      → cut bytes (file_start es n + i * plen) plen ≡ cut c (i * plen) plen ++ replicate (zeros_behind plen (total es) (file_start es n + i * plen) (length c - i * plen)) 0
  unfolding on_boundary total Nth
  piece_covers es cs bytes none at b n c nth i h = absurd nth
  piece_covers es cs bytes (zeros e us ds more p t) at b n c nth i h =
      let later = ((and-eq-true_iff (e.padding || eqb (at % plen) 0) (on_boundary plen (at + e.size) us)).0 b).1 in
      moved (replicate e.size 0) more (cut c (i * plen) plen) (file_start (e ∷ us) n) e.size (file_start us n) (i * plen) (total us) (length c - i * plen)
      (length-replicate {A = ℕ} e.size 0) (start_padding e us n p) (piece_covers us ds more t (at + e.size) later n c nth i h)
  piece_covers es cs bytes (content e us d ds more p l t) at b (suc n) c nth i h =
      let later = ((and-eq-true_iff (e.padding || eqb (at % plen) 0) (on_boundary plen (at + e.size) us)).0 b).1 in
      moved d more (cut c (i * plen) plen) (file_start (e ∷ us) (suc n)) e.size (file_start us n) (i * plen) (total us) (length c - i * plen)
      l (start_next e us n p) (piece_covers us ds more t (at + e.size) later n c nth i h)
  piece_covers es cs bytes (content e us d ds more p l t) at b zero c nth i h =
      let both = (and-eq-true_iff (e.padding || eqb (at % plen) 0) (on_boundary plen (at + e.size) us)).0 b in
      let z : at % plen ≡ 0 = first_test e.padding (at % plen) p both.0 in
      let m = div-add-mod' at plen in
      let same : at + e.size ≡ at / plen * plen + length d = omega (arith, m, z, l) in
      let f = first_piece us ds d more t (at / plen) i (i * plen) refl (rw nth at h) (rw same at both.1) in
      rw (nth, start_first e us p, zero_front (i * plen), sym l) f

  -- ---- its v1 hash

  -- where a file begins is a multiple of the piece length
  start_on_boundary : (es : List V1Entry) (cs : List (List ℕ)) (bytes : List ℕ) → StreamOf es cs bytes
      → (at : ℕ) → on_boundary plen at es ≡ true → (n : ℕ) (c : List ℕ) → Nth cs n c → (at + file_start es n) % plen ≡ 0
  unfolding on_boundary Nth
  start_on_boundary es cs bytes none at b n c nth = absurd nth
  start_on_boundary es cs bytes (zeros e us ds more p t) at b n c nth =
      let later = ((and-eq-true_iff (e.padding || eqb (at % plen) 0) (on_boundary plen (at + e.size) us)).0 b).1 in
      rw (start_padding e us n p, sym (add_assoc at e.size (file_start us n))) (start_on_boundary us ds more t (at + e.size) later n c nth)
  start_on_boundary es cs bytes (content e us d ds more p l t) at b (suc n) c nth =
      let later = ((and-eq-true_iff (e.padding || eqb (at % plen) 0) (on_boundary plen (at + e.size) us)).0 b).1 in
      rw (start_next e us n p, sym (add_assoc at e.size (file_start us n))) (start_on_boundary us ds more t (at + e.size) later n c nth)
  start_on_boundary es cs bytes (content e us d ds more p l t) at b zero c nth =
      let both = (and-eq-true_iff (e.padding || eqb (at % plen) 0) (on_boundary plen (at + e.size) us)).0 b in
      let same : at + 0 ≡ at = omega arith in
      rw (start_first e us p, same) (first_test e.padding (at % plen) p both.0)

  -- a file lies within the bytes
  file_inside : (es : List V1Entry) (cs : List (List ℕ)) (bytes : List ℕ) → StreamOf es cs bytes → (n : ℕ) (c : List ℕ) → Nth cs n c → file_start es n + length c ≤ length bytes
  unfolding Nth
  file_inside es cs bytes none n c nth = absurd nth
  file_inside es cs bytes (zeros e us ds more p t) n c nth =
      let i = file_inside us ds more t n c nth in
      rw (start_padding e us n p) (omega (arith, i, length-append (replicate e.size 0) more, length-replicate {A = ℕ} e.size 0))
  file_inside es cs bytes (content e us d ds more p l t) (suc n) c nth =
      let i = file_inside us ds more t n c nth in
      rw (start_next e us n p) (omega (arith, i, length-append d more, l))
  file_inside es cs bytes (content e us d ds more p l t) zero c nth = rw (nth, start_first e us p) (omega (arith, length-append d more))

  -- the 20 bytes for piece i of file n are the SHA-1 of its bytes and then the zeros behind them
  pub v1_hash_covers : (es : List V1Entry) (cs : List (List ℕ)) (bytes pieces : List ℕ) → StreamOf es cs bytes → on_boundary plen 0 es ≡ true → HashesAre plen pieces bytes
      → (n : ℕ) (c : List ℕ) → Nth cs n c → (i : ℕ) → i * plen < length c
      → v1_hash_at pieces plen (file_start es n) i ≡ sha1 (cut c (i * plen) plen ++ replicate (zeros_behind plen (total es) (file_start es n + i * plen) (length c - i * plen)) 0)
  unfolding v1_hash_at
  v1_hash_covers es cs bytes pieces t b h n c nth i k =
      let z : file_start es n % plen ≡ 0 = rw (zero_front (file_start es n)) at (start_on_boundary es cs bytes t 0 b n c nth) in
      let place : (file_start es n / plen + i) * plen ≡ file_start es n + i * plen = omega (arith, add-mul (file_start es n / plen) i plen, div-add-mod' (file_start es n) plen, z) in
      let inside : (file_start es n / plen + i) * plen < length bytes = omega (arith, place, file_inside es cs bytes t n c nth, k) in
      h (file_start es n / plen + i) inside ∙ ap sha1 (ap (λ (j : ℕ). cut bytes j plen) place ∙ piece_covers es cs bytes t 0 b n c nth i k)
