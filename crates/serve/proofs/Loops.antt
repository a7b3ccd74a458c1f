-- One law for each turn of a loop and each way out of it.
-- Assumes nothing.
use Rattle.std.specs.Prelude.{◌≡◌, refl, Bool, true, false, ◌⊎◌, List, [], ◌∷◌, ◌++◌, ℕ, zero, suc, ◌+◌, ◌*◌, ◌/◌, ◌≤◌, ◌<◌, length, get_or, set, take, drop}
use Rattle.std.proofs.Common.{ap, ap₂, sym, ◌∙◌, inl, inr, append-nil, add-one, zero-add, arith, length-set, length-drop, take-append-drop, length-take-le, get_or-drop, set-set, drop-set-lt}
use Rattle.std.proofs.Math.Decide.{ℕ_discrete}
use Rattle.std.proofs.Math.Seq.{paste, paste-zero, paste-suc}
use Rattle.std.proofs.lemmas.List.Edits.{length-paste}
use Rattle.octets.specs.Octets.{cut, pasted}
use Rattle.octets.specs.OctetsLaws.{pasted_append}
use Rattle.cells.specs.Cells.{Room, held_at, hash_at}
use Rattle.cells.specs.CellsLaws.{hash_length}
use Rattle.settling.specs.Path.{sibling, ancestor}
use Rattle.settling.specs.AncestorLaws.{ancestor_le, ancestor_suc}
use Rattle.header.specs.Header.{header_size, header_bytes}
use Rattle.serve.specs.Serve.{held_run, run_hashes, held_uncles, uncle_hashes}
use Rattle.serve.specs.ServeLaws.{uncle_near, run_hashes_more, uncle_hashes_more, run_hashes_length, uncle_hashes_length, held_run_at, held_uncle_at, held_uncles_all}

refuted : (a b : Bool) → (b ≡ true → a ≡ true) → a ≡ false → false ≡ b
refuted true false f e = refl
refuted true true f e = sym e
refuted false false f e = refl
refuted false true f e = f refl

-- ---- looking at a run

module _ (s : List ℕ) (n : ℕ) where
  pub run_none : held_run s n 0 ≡ true
  unfolding held_run
  run_none = refl

  module _ (i : ℕ) (t : Bool) (e : t ≡ held_at s (n + i)) where
    pub run_more : held_run s n i ≡ true → t ≡ true → held_run s n (i + 1) ≡ true
    unfolding held_run
    run_more h y = rw (add-one i, h, ← e, y)

    pub run_fails : (c : ℕ) → i < c → t ≡ false → false ≡ held_run s n c
    run_fails c l z = refuted (held_at s (n + i)) (held_run s n c) (λ h. held_run_at s n c h i l) (sym e ∙ z)

  pub run_done : (c i : ℕ) → i ≤ c → c ≤ i → held_run s n i ≡ true → true ≡ held_run s n c
  run_done c i a b h = let e : i ≡ c = omega arith in sym (rw e at h)

-- ---- looking at uncles

-- the first position of a path
pub ancestor_none : (n : ℕ) → n ≡ ancestor 0 n
unfolding ancestor
ancestor_none n = refl

-- none has a greater number
pub ancestor_cell : (i n x : ℕ) → x ≡ ancestor i n → x ≤ n
ancestor_cell i n x e = omega (arith, ancestor_le i n)

-- the next position upward
pub ancestor_next : (i n x : ℕ) → x ≡ ancestor i n → x / 2 ≡ ancestor (i + 1) n
ancestor_next i n x e = ap (λ (y : ℕ). y / 2) e ∙ sym (rw (add-one i) (ancestor_suc i n))

module _ (s : List ℕ) (n : ℕ) where
  pub uncles_none : held_uncles s 0 n ≡ true
  unfolding held_uncles
  uncles_none = refl

  -- the cell beside a position of the path
  pub uncle_cell : (i x q : ℕ) → Room (n + 2) s → x ≡ ancestor i n → q ≡ sibling x → Room (q + 1) s
  uncle_cell i x q r e f = let g : sibling x ≡ sibling (ancestor i n) = ap sibling e in omega (arith, uncle_near i n)

  module _ (i x q : ℕ) (t : Bool) (a : x ≡ ancestor i n) (b : q ≡ sibling x) (e : t ≡ held_at s q) where
    at_uncle : held_at s (sibling (ancestor i n)) ≡ t
    at_uncle = cc

    pub uncles_more : held_uncles s i n ≡ true → t ≡ true → held_uncles s (i + 1) n ≡ true
    uncles_more h y =
        held_uncles_all s (i + 1) n (λ j l. elim (ℕ_discrete j i) [ yes q ↦ by j (inr q) | no q ↦ by j (inl (omega arith)) ])
      where
        by : (j : ℕ) → (j < i) ⊎ (j ≡ i) → held_at s (sibling (ancestor j n)) ≡ true
        by j (inl l) = held_uncle_at s i n h j l
        by j (inr q) = ap (λ (k : ℕ). held_at s (sibling (ancestor k n))) q ∙ at_uncle ∙ y

    pub uncles_fail : (u : ℕ) → i < u → t ≡ false → false ≡ held_uncles s u n
    uncles_fail u l z = refuted (held_at s (sibling (ancestor i n))) (held_uncles s u n) (λ h. held_uncle_at s u n h i l) (at_uncle ∙ z)

  pub uncles_done : (u i : ℕ) → i ≤ u → u ≤ i → held_uncles s i n ≡ true → true ≡ held_uncles s u n
  uncles_done u i a b h = let e : i ≡ u = omega arith in sym (rw e at h)

-- ---- copying hashes

-- nothing put anywhere
pasted_nothing : (out : List ℕ) (at : ℕ) → out ≡ pasted out at []
unfolding pasted
pasted_nothing out at =
    let e : at + 0 ≡ at = omega arith in
    sym (rw e (ap (λ (t : List ℕ). t ++ drop at out) (append-nil (take at out)) ∙ take-append-drop at out))

-- one hash more behind i of them
pasted_more : (out₀ out out' : List ℕ) (at i : ℕ) (l h : List ℕ) → length l ≡ 32 * i → length h ≡ 32 → at + 32 * i + 32 ≤ length out₀
    → out ≡ pasted out₀ at l → out' ≡ pasted out (at + 32 * i) h → out' ≡ pasted out₀ at (l ++ h)
pasted_more out₀ out out' at i l h e f r p q =
    let a = pasted_append out₀ at l h (omega arith) in
    let g : at + 32 * i ≡ at + length l = omega arith in
    cc

module _ (s : List ℕ) (n at : ℕ) (out₀ : List ℕ) where
  pub copy_run_none : out₀ ≡ pasted out₀ at (run_hashes s n 0)
  unfolding run_hashes
  copy_run_none = pasted_nothing out₀ at

  pub copy_uncles_none : out₀ ≡ pasted out₀ at (uncle_hashes s 0 n)
  unfolding uncle_hashes
  copy_uncles_none = pasted_nothing out₀ at

  module _ (i : ℕ) (out out' h : List ℕ) (f : at + 32 * i + 32 ≤ length out₀) (w : out' ≡ pasted out (at + 32 * i) h) where
    pub copy_run_more : (c : ℕ) → Room (n + c) s → i < c → h ≡ hash_at s (n + i) → out ≡ pasted out₀ at (run_hashes s n i) → out' ≡ pasted out₀ at (run_hashes s n (i + 1))
    copy_run_more c r l e p =
        let hl : length h ≡ 32 = ap length e ∙ hash_length s (n + c) (n + i) r (omega arith) in
        pasted_more out₀ out out' at i (run_hashes s n i) h (run_hashes_length s n i (omega arith)) hl f p w
        ∙ ap (pasted out₀ at) (ap (λ (x : List ℕ). run_hashes s n i ++ x) e ∙ sym (run_hashes_more s n i))

    pub copy_uncles_more : (x q : ℕ) → Room (n + 2) s → x ≡ ancestor i n → q ≡ sibling x → h ≡ hash_at s q → out ≡ pasted out₀ at (uncle_hashes s i n) → out' ≡ pasted out₀ at (uncle_hashes s (i + 1) n)
    copy_uncles_more x q r a b e p =
        let g : h ≡ hash_at s (sibling (ancestor i n)) = cc in
        let hl : length h ≡ 32 = ap length g ∙ hash_length s (n + 2) (sibling (ancestor i n)) r (uncle_near i n) in
        pasted_more out₀ out out' at i (uncle_hashes s i n) h (uncle_hashes_length s i n r) hl f p w
        ∙ ap (pasted out₀ at) (ap (λ (y : List ℕ). uncle_hashes s i n ++ y) g ∙ sym (uncle_hashes_more s i n))

  pub copy_run_done : (c i : ℕ) (out : List ℕ) → i ≤ c → c ≤ i → out ≡ pasted out₀ at (run_hashes s n i) → out ≡ pasted out₀ at (run_hashes s n c)
  copy_run_done c i out a b p = let e : i ≡ c = omega arith in rw e at p

  pub copy_uncles_done : (u i : ℕ) (out : List ℕ) → i ≤ u → u ≤ i → out ≡ pasted out₀ at (uncle_hashes s i n) → out ≡ pasted out₀ at (uncle_hashes s u n)
  copy_uncles_done u i out a b p = let e : i ≡ u = omega arith in rw e at p

-- ---- the head of a message

head_byte : (id : ℕ) (m : List ℕ) (i : ℕ) → 1 ≤ i → get_or m i 0 ≡ get_or (id ∷ drop 1 m) i 0
head_byte id m zero a = absurd (omega arith)
head_byte id m (suc i) a = let e : 1 + i ≡ suc i = omega arith in sym (get_or-drop 1 m i 0 ∙ ap (λ (k : ℕ). get_or m k 0) e)

-- the loop starts with the id in its place
module _ (o m : List ℕ) (id : ℕ) (lo : header_size ≤ length o) (lm : header_size ≤ length m) where
  head_size : header_size ≤ length (id ∷ drop 1 m)
  head_size = omega (arith, length-drop 1 m)

  first_length : length (set o 0 id) ≡ length o
  first_length = simp length-set

  pub head_one : set o 0 id ≡ paste (set o 0 id) 0 (id ∷ drop 1 m) 1
  head_one =
      sym (set-set o 0 id id)
      ∙ ap (λ (l : List ℕ). set l 0 id) (paste-zero (set o 0 id) 0 (id ∷ drop 1 m))
      ∙ paste-suc (set o 0 id) 0 (id ∷ drop 1 m) 0 0 (omega (arith, first_length)) (omega (arith, head_size))

  module _ (i : ℕ) (out : List ℕ) (e : out ≡ paste (set o 0 id) 0 (id ∷ drop 1 m) i) where
    pub head_more : 1 ≤ i → i < header_size → set out i (get_or m i 0) ≡ paste (set o 0 id) 0 (id ∷ drop 1 m) (i + 1)
    head_more a b =
        ap₂ (λ (l : List ℕ) (v : ℕ). set l i v) e (head_byte id m i a)
        ∙ ap (λ (k : ℕ). set (paste (set o 0 id) 0 (id ∷ drop 1 m) i) k (get_or (id ∷ drop 1 m) i 0)) (sym (zero-add i))
        ∙ paste-suc (set o 0 id) 0 (id ∷ drop 1 m) i 0 (omega (arith, first_length)) (omega (arith, head_size))
        ∙ ap (paste (set o 0 id) 0 (id ∷ drop 1 m)) (sym (add-one i))

    pub head_length : i ≤ header_size → length out ≡ length o
    head_length a = ap length e ∙ length-paste (set o 0 id) 0 (id ∷ drop 1 m) i (omega (arith, first_length)) (omega (arith, head_size)) ∙ first_length

    pub head_done : i ≤ header_size → header_size ≤ i → out ≡ pasted o 0 (id ∷ header_bytes m)
    unfolding pasted cut
    head_done a b =
        let k : i ≡ header_size = omega arith in
        let z : length (id ∷ take 48 (drop 1 m)) ≡ header_size = ap suc (length-take-le 48 (drop 1 m) (omega (arith, length-drop 1 m))) in
        e ∙ ap (paste (set o 0 id) 0 (id ∷ drop 1 m)) k
        ∙ ap (λ (l : List ℕ). (id ∷ take 48 (drop 1 m)) ++ l) (drop-set-lt header_size o 0 id (omega arith))
        ∙ ap (λ (j : ℕ). (id ∷ take 48 (drop 1 m)) ++ drop (0 + j) o) (sym z)
