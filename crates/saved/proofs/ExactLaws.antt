-- Bytes of the form are the bytes of what they say: what is read is written again byte for byte.
-- Assumes nothing.
use Rattle.std.specs.Prelude.{◌≡◌, true, take, drop, eqb, leb, List, [], ◌∷◌, ◌++◌, ℕ, zero, suc, ◌+◌, ◌-◌, ◌*◌, ◌≤◌, ◌<◌}
use Rattle.std.proofs.Math.Path.{refl, ap, ap₂, sym}
use Rattle.std.proofs.Common.{◌∙◌, length-append, take-add, drop-drop, eqb-true, leb-true, append_assoc, append-nil, arith}
use Rattle.std.proofs.Math.Bool.{and-eq-true_iff}
use Rattle.std.proofs.Math.ListN.{length, get_or}
use Rattle.std.proofs.Math.Seq.{ext_get_or}
use Rattle.octets.specs.Octets.{cut, be, number_at}
use Rattle.octets.specs.OctetsLaws.{cut_length, get_or_cut, be_octets, cut_whole, drop_step}
use Rattle.saved.specs.Form.{Place, opening_bytes, place_bytes, mark_bytes, end_bytes, places_bytes, marks_bytes, saved_bytes, length_in, piece_length_in, root_in, mark_count, place_count, layer_in, index_in, hash_in, block_in, opens, formed, marks_from, place_in, places_to, marks_to, value_in}
use Rattle.saved.proofs.PrefixLaws.{form_says, form_kinds}

-- ---- parts of bytes

pub cut_split : (s : List ℕ) (a m n : ℕ) → cut s a (m + n) ≡ cut s a m ++ cut s (a + m) n
unfolding cut
cut_split s a m n = take-add m n (drop a s) ∙ ap (λ (l : List ℕ). take m (drop a s) ++ take n l) (drop-drop m a s)

pub cut_one : (s : List ℕ) (a : ℕ) → a < length s → cut s a 1 ≡ get_or s a 0 ∷ []
unfolding cut
cut_one s a l = rw (drop_step s a l)

-- a number's bytes
module _ (s : List ℕ) (a : ℕ) (bytes : (i : ℕ) → get_or s i 0 < 256) where
  pub bytes_of_4 : a + 4 ≤ length s → be 4 (number_at s a 4) ≡ cut s a 4
  unfolding number_at
  bytes_of_4 l =
      ext_get_or 0 (be 4 (number_at s a 4)) (cut s a 4) ((be_octets 4 (number_at s a 4)).size ∙ sym (cut_length s a 4 l))
      (λ i b. by i (omega (arith, (be_octets 4 (number_at s a 4)).size)) ∙ sym (get_or_cut s a 4 i (omega (arith, (be_octets 4 (number_at s a 4)).size))))
    where
      b0 : get_or s (a + 0) 0 < 256
      b0 = bytes (a + 0)

      b1 : get_or s (a + 1) 0 < 256
      b1 = bytes (a + 1)

      b2 : get_or s (a + 2) 0 < 256
      b2 = bytes (a + 2)

      b3 : get_or s (a + 3) 0 < 256
      b3 = bytes (a + 3)

      by : (i : ℕ) → i < 4 → get_or (be 4 (number_at s a 4)) i 0 ≡ get_or s (a + i) 0
      by zero h = unfold number_at in omega (arith, b0, b1, b2, b3)
      by (suc zero) h = unfold number_at in omega (arith, b0, b1, b2, b3)
      by (suc (suc zero)) h = unfold number_at in omega (arith, b0, b1, b2, b3)
      by (suc (suc (suc zero))) h = unfold number_at in omega (arith, b0, b1, b2, b3)
      by (suc (suc (suc (suc i)))) h = absurd (omega arith)

  pub bytes_of_8 : a + 8 ≤ length s → be 8 (number_at s a 8) ≡ cut s a 8
  bytes_of_8 l =
      ext_get_or 0 (be 8 (number_at s a 8)) (cut s a 8) ((be_octets 8 (number_at s a 8)).size ∙ sym (cut_length s a 8 l))
      (λ i b. by i (omega (arith, (be_octets 8 (number_at s a 8)).size)) ∙ sym (get_or_cut s a 8 i (omega (arith, (be_octets 8 (number_at s a 8)).size))))
    where
      low : (j : ℕ) → get_or s (a + j) 0 < 256
      low j = bytes (a + j)

      by : (i : ℕ) → i < 8 → get_or (be 8 (number_at s a 8)) i 0 ≡ get_or s (a + i) 0
      by zero h = unfold number_at in omega (arith, low 0, low 1, low 2, low 3, low 4, low 5, low 6, low 7)
      by (suc zero) h = unfold number_at in omega (arith, low 0, low 1, low 2, low 3, low 4, low 5, low 6, low 7)
      by (suc (suc zero)) h = unfold number_at in omega (arith, low 0, low 1, low 2, low 3, low 4, low 5, low 6, low 7)
      by (suc (suc (suc zero))) h = unfold number_at in omega (arith, low 0, low 1, low 2, low 3, low 4, low 5, low 6, low 7)
      by (suc (suc (suc (suc zero)))) h = unfold number_at in omega (arith, low 0, low 1, low 2, low 3, low 4, low 5, low 6, low 7)
      by (suc (suc (suc (suc (suc zero))))) h = unfold number_at in omega (arith, low 0, low 1, low 2, low 3, low 4, low 5, low 6, low 7)
      by (suc (suc (suc (suc (suc (suc zero)))))) h = unfold number_at in omega (arith, low 0, low 1, low 2, low 3, low 4, low 5, low 6, low 7)
      by (suc (suc (suc (suc (suc (suc (suc zero))))))) h = unfold number_at in omega (arith, low 0, low 1, low 2, low 3, low 4, low 5, low 6, low 7)
      by (suc (suc (suc (suc (suc (suc (suc (suc i)))))))) h = absurd (omega arith)

-- ---- lists of records

pub places_append : (A B : List Place) → places_bytes (A ++ B) ≡ places_bytes A ++ places_bytes B
unfolding places_bytes
places_append [] B = refl
places_append (x ∷ A) B = ap (λ (l : List ℕ). place_bytes x ++ l) (places_append A B) ∙ sym (append_assoc (place_bytes x) (places_bytes A) (places_bytes B))

pub marks_append : (A B : List ℕ) → marks_bytes (A ++ B) ≡ marks_bytes A ++ marks_bytes B
unfolding marks_bytes
marks_append [] B = refl
marks_append (x ∷ A) B = ap (λ (l : List ℕ). mark_bytes x ++ l) (marks_append A B) ∙ sym (append_assoc (mark_bytes x) (marks_bytes A) (marks_bytes B))

place_alone : (x : Place) → places_bytes (x ∷ []) ≡ place_bytes x
unfolding places_bytes
place_alone x = append-nil (place_bytes x)

mark_alone : (i : ℕ) → marks_bytes (i ∷ []) ≡ mark_bytes i
unfolding marks_bytes
mark_alone i = append-nil (mark_bytes i)

pub marks_many : (b : List ℕ) (at m : ℕ) → length (marks_to b at m) ≡ m
unfolding marks_to
marks_many b at zero = refl
marks_many b at (suc m) = simp length-append (omega (arith, marks_many b at m))

-- ---- each record

module _ (b : List ℕ) (bytes : (i : ℕ) → get_or b i 0 < 256) where
  place_record : (k : ℕ) → 86 + 41 * k ≤ length b → get_or b (45 + 41 * k) 0 ≡ 2 → cut b (45 + 41 * k) 41 ≡ place_bytes (place_in b k)
  unfolding place_bytes layer_in index_in hash_in
  place_record k l e =
      let a1 : 45 + 41 * k + 1 ≡ 46 + 41 * k = omega arith in
      let a2 : 46 + 41 * k + 4 ≡ 50 + 41 * k = omega arith in
      let a3 : 50 + 41 * k + 4 ≡ 54 + 41 * k = omega arith in
      cut_split b (45 + 41 * k) 1 40
      ∙ ap₂ (λ (x y : List ℕ). x ++ y) (cut_one b (45 + 41 * k) (omega arith) ∙ ap (λ (x : ℕ). x ∷ []) e) (ap (λ (a : ℕ). cut b a 40) a1)
      ∙ ap (λ (y : List ℕ). 2 ∷ y)
      (cut_split b (46 + 41 * k) 4 36
      ∙ ap₂ (λ (x y : List ℕ). x ++ y) (sym (bytes_of_4 b (46 + 41 * k) bytes (omega arith)))
      (ap (λ (a : ℕ). cut b a 36) a2
      ∙ cut_split b (50 + 41 * k) 4 32
      ∙ ap₂ (λ (x y : List ℕ). x ++ y) (sym (bytes_of_4 b (50 + 41 * k) bytes (omega arith))) (ap (λ (a : ℕ). cut b a 32) a3)))

  mark_record : (at k : ℕ) → at + 5 * k + 5 ≤ length b → get_or b (at + 5 * k) 0 ≡ 3 → cut b (at + 5 * k) 5 ≡ mark_bytes (block_in b at k)
  unfolding mark_bytes block_in
  mark_record at k l e =
      let a1 : at + 5 * k + 1 ≡ at + 1 + 5 * k = omega arith in
      cut_split b (at + 5 * k) 1 4
      ∙ ap₂ (λ (x y : List ℕ). x ++ y) (cut_one b (at + 5 * k) (omega arith) ∙ ap (λ (x : ℕ). x ∷ []) e)
      (ap (λ (a : ℕ). cut b a 4) a1 ∙ sym (bytes_of_4 b (at + 1 + 5 * k) bytes (omega arith)))

  places_records : (p : ℕ) → 45 + 41 * p ≤ length b → ((k : ℕ) → k < p → get_or b (45 + 41 * k) 0 ≡ 2) → cut b 45 (41 * p) ≡ places_bytes (places_to b p)
  unfolding places_to places_bytes
  places_records zero l f = unfold cut in refl
  places_records (suc p) l f =
      let e : 41 * suc p ≡ 41 * p + 41 = omega arith in
      ap (cut b 45) e
      ∙ cut_split b 45 (41 * p) 41
      ∙ ap₂ (λ (x y : List ℕ). x ++ y) (places_records p (omega arith) (λ k a. f k (omega arith))) (place_record p (omega arith) (f p (omega arith)) ∙ sym (place_alone (place_in b p)))
      ∙ sym (places_append (places_to b p) (place_in b p ∷ []))

  marks_records : (at m : ℕ) → at + 5 * m ≤ length b → ((k : ℕ) → k < m → get_or b (at + 5 * k) 0 ≡ 3) → cut b at (5 * m) ≡ marks_bytes (marks_to b at m)
  unfolding marks_to marks_bytes
  marks_records at zero l f = unfold cut in refl
  marks_records at (suc m) l f =
      let e : 5 * suc m ≡ 5 * m + 5 = omega arith in
      ap (cut b at) e
      ∙ cut_split b at (5 * m) 5
      ∙ ap₂ (λ (x y : List ℕ). x ++ y) (marks_records at m (omega arith) (λ k a. f k (omega arith))) (mark_record at m (omega arith) (f m (omega arith)) ∙ sym (mark_alone (block_in b at m)))
      ∙ sym (marks_append (marks_to b at m) (block_in b at m ∷ []))

  opening_record : 45 ≤ length b → get_or b 0 0 ≡ 1 → cut b 0 45 ≡ opening_bytes (length_in b) (piece_length_in b) (root_in b)
  unfolding opening_bytes length_in piece_length_in root_in
  opening_record l e =
      cut_split b 0 1 44
      ∙ ap₂ (λ (x y : List ℕ). x ++ y) (cut_one b 0 (omega arith) ∙ ap (λ (x : ℕ). x ∷ []) e)
      (cut_split b 1 8 36
      ∙ ap₂ (λ (x y : List ℕ). x ++ y) (sym (bytes_of_8 b 1 bytes (omega arith)))
      (cut_split b 9 4 32 ∙ ap (λ (x : List ℕ). x ++ cut b 13 32) (sym (bytes_of_4 b 9 bytes (omega arith)))))

  end_record : 5 ≤ length b → get_or b (length b - 5) 0 ≡ 4 → cut b (length b - 5) 5 ≡ end_bytes (mark_count b)
  unfolding end_bytes mark_count
  end_record l e =
      let a1 : length b - 5 + 1 ≡ length b - 4 = omega arith in
      cut_split b (length b - 5) 1 4
      ∙ ap₂ (λ (x y : List ℕ). x ++ y) (cut_one b (length b - 5) (omega arith) ∙ ap (λ (x : ℕ). x ∷ []) e)
      (ap (λ (a : ℕ). cut b a 4) a1 ∙ sym (bytes_of_4 b (length b - 4) bytes (omega arith)))

opens_says : (b : List ℕ) → opens b ≡ true → (45 ≤ length b) × (get_or b 0 0 ≡ 1)
unfolding opens
opens_says b g = let w = (and-eq-true_iff (leb 45 (length b)) (eqb (get_or b 0 0) 1)).0 g in (leb-true 45 (length b) w.0, eqb-true (get_or b 0 0) 1 w.1)

-- WRITTEN BACK: bytes of the form are the bytes of what they say
pub written_back : (b : List ℕ) → ((i : ℕ) → get_or b i 0 < 256) → opens b ≡ true → formed b ≡ true → saved_bytes (value_in b) ≡ b
unfolding saved_bytes value_in
written_back b bytes o g =
    let F = form_says b g in
    let K = form_kinds b F in
    let w = opens_says b o in
    let p = place_count b in
    let m = mark_count b in
    let z : length b ≡ 45 + (41 * place_count b + (5 * mark_count b + 5)) = omega (arith, F.size) in
    let e0 = opening_record b bytes w.0 w.1 in
    let e1 = places_records b bytes (place_count b) (omega (arith, F.size)) K.places in
    let e2 = marks_records b bytes (marks_from b) (mark_count b) (omega (arith, F.size)) K.marks in
    let at : 45 + 41 * place_count b + 5 * mark_count b ≡ length b - 5 = omega (arith, F.size) in
    let e3 : cut b (45 + 41 * place_count b + 5 * mark_count b) 5 ≡ end_bytes (length (marks_to b (marks_from b) (mark_count b))) =
    ap (λ (a : ℕ). cut b a 5) at ∙ end_record b bytes (omega (arith, F.size)) F.end ∙ ap end_bytes (sym (marks_many b (marks_from b) (mark_count b))) in
    sym
    (sym (cut_whole b (length b) (omega arith))
    ∙ ap (cut b 0) z
    ∙ cut_split b 0 45 (41 * place_count b + (5 * mark_count b + 5))
    ∙ ap₂ (λ (x y : List ℕ). x ++ y) e0
    (cut_split b 45 (41 * place_count b) (5 * mark_count b + 5)
    ∙ ap₂ (λ (x y : List ℕ). x ++ y) e1
    (cut_split b (45 + 41 * place_count b) (5 * mark_count b) 5 ∙ ap₂ (λ (x y : List ℕ). x ++ y) e2 e3)))
