-- Lists of entries: put together, taken, counted; what is held stays held, and the order does not matter.
-- All of it goes by the laws of `put`.
-- Assumes nothing.
use Rattle.std.specs.Prelude.{◌≡◌, List, [], ◌∷◌, ◌++◌, Bool, false, ◌&&◌, ◌⊎◌, length, ℕ, zero, suc, ◌+◌, ◌≤◌, ◌<◌}
use Rattle.std.proofs.Math.Path.{refl, ap, ap₂}
use Rattle.std.proofs.Common.{sym, ◌∙◌, inl, inr, arith}
use Rattle.std.proofs.Math.Bool.{true, not, and-eq-true_iff, and_assoc, and-true}
use Rattle.std.proofs.lemmas.Bool.{false≢true}
use Rattle.std.proofs.Math.Decide.{ℕ_discrete}
use Rattle.octets.specs.Octets.{same}
use Rattle.octets.specs.OctetsLaws.{same_true}
use Rattle.cells.specs.Cells.{Room, held_at, hash_at, put}
use Rattle.cells.specs.CellsLaws.{put_length, put_room, held_put_same, hash_put_same, held_put_other, hash_put_other}
use Rattle.cells.specs.Entries.{Entry, one, agrees_at, agrees, put_all, one_if, newly, lacks, fresh}

-- ---- one entry, and lists put together

pub agree_one : (s : List ℕ) (n : ℕ) (h : List ℕ) → agrees s (one n h) ≡ agrees_at s n h
unfolding agrees
agree_one s n h = and-true (agrees_at s n h)

pub put_one : (s : List ℕ) (n : ℕ) (h : List ℕ) → put_all s (one n h) ≡ put s n h
unfolding put_all
put_one s n h = refl

pub fresh_one : (s : List ℕ) (n : ℕ) (h : List ℕ) → fresh s (one n h) ≡ lacks s n
unfolding fresh
fresh_one s n h = omega arith

pub agree_append : (s : List ℕ) (A B : List Entry) → agrees s (A ++ B) ≡ (agrees s A && agrees s B)
unfolding agrees
agree_append s [] B = refl
agree_append s (e ∷ A) B = rw (agree_append s A B) (sym (and_assoc (agrees_at s e.at e.hash) (agrees s A) (agrees s B)))

pub put_append : (s : List ℕ) (A B : List Entry) → put_all s (A ++ B) ≡ put_all (put_all s A) B
unfolding put_all
put_append s [] B = refl
put_append s (e ∷ A) B = put_append (put s e.at e.hash) A B

pub fresh_append : (s : List ℕ) (A B : List Entry) → fresh s (A ++ B) ≡ fresh s A + fresh (put_all s A) B
unfolding fresh put_all
fresh_append s [] B = omega arith
fresh_append s (e ∷ A) B = omega (arith, fresh_append (put s e.at e.hash) A B)

-- ---- by cases on whether a position is held

pub agrees_held : (s : List ℕ) (n : ℕ) (v : List ℕ) → held_at s n ≡ true → agrees_at s n v ≡ same (hash_at s n) v
unfolding agrees_at
agrees_held s n v e = rw e

pub agrees_free : (s : List ℕ) (n : ℕ) (v : List ℕ) → held_at s n ≡ false → agrees_at s n v ≡ true
unfolding agrees_at
agrees_free s n v e = rw e

pub lacks_held : (s : List ℕ) (n : ℕ) → held_at s n ≡ true → lacks s n ≡ 0
unfolding lacks
lacks_held s n e = rw e

pub lacks_free : (s : List ℕ) (n : ℕ) → held_at s n ≡ false → lacks s n ≡ 1
unfolding lacks
lacks_free s n e = rw e

pub lacks_small : (s : List ℕ) (n : ℕ) → lacks s n ≤ 1
unfolding lacks
lacks_small s n = go (held_at s n)
  where
    go : (b : Bool) → one_if (not b) ≤ 1
    go true = omega arith
    go false = omega arith

pub fresh_small : (s : List ℕ) (L : List Entry) → fresh s L ≤ length L
unfolding fresh
fresh_small s [] = omega arith
fresh_small s (e ∷ L) = omega (arith, lacks_small s e.at, fresh_small (put s e.at e.hash) L)

-- position p is held with hash v
abbrev pub Hold : List ℕ → ℕ → List ℕ → Type 0
Hold s p v = (held_at s p ≡ true) × (hash_at s p ≡ v)

-- every entry is a hash, at a position below N
pub data Sound (N : ℕ) : List Entry → Type 0 where
  none : Sound N []
  more : {e : Entry} {L : List Entry} → e.at < N → length e.hash ≡ 32 → Sound N L → Sound N (e ∷ L)

-- every entry has the number of a position, from the root's on
pub data FromRoot : List Entry → Type 0 where
  empty : FromRoot []
  next : {e : Entry} {L : List Entry} → 1 ≤ e.at → FromRoot L → FromRoot (e ∷ L)

-- every entry at p has hash v
pub data Says (p : ℕ) (v : List ℕ) : List Entry → Type 0 where
  none : Says p v []
  more : {e : Entry} {L : List Entry} → (e.at ≡ p → e.hash ≡ v) → Says p v L → Says p v (e ∷ L)

-- ---- one entry

hold_put : (N : ℕ) (s : List ℕ) (n : ℕ) (h : List ℕ) → Room N s → n < N → length h ≡ 32
    → (p : ℕ) (v : List ℕ) → p < N → (n ≡ p → h ≡ v) → Hold s p v → Hold (put s n h) p v
hold_put N s n h room below size p v b same k =
    elim (ℕ_discrete p n) [
      | yes e ↦ rw e (held_put_same s N n room below h size, hash_put_same s N n room below h size ∙ same (sym e))
      | no ne ↦ (held_put_other s N n room below h size p ne ∙ k.0, hash_put_other s N n room below h size p b ne ∙ k.1)
    ]

-- ---- a list of them

-- what is held stays, where the list says nothing else of it
pub hold_put_all : (N : ℕ) (L : List Entry) (s : List ℕ) → Room N s → Sound N L → (p : ℕ) (v : List ℕ) → p < N → Says p v L → Hold s p v → Hold (put_all s L) p v
unfolding put_all
hold_put_all N [] s room none p v b none k = k
hold_put_all N (e ∷ L) s room (more i l S) p v b (more f F) k =
    hold_put_all N L (put s e.at e.hash) (put_room s N e.at room i e.hash l) S p v b F
    (hold_put N s e.at e.hash room i l p v b f k)

-- a list that agrees with the store says of what is held only what is held
pub says_agree : (L : List Entry) (s : List ℕ) (p : ℕ) (v : List ℕ) → Hold s p v → agrees s L ≡ true → Says p v L
unfolding agrees
says_agree [] s p v k a = none
says_agree (e ∷ L) s p v k a =
    let ab = (and-eq-true_iff (agrees_at s e.at e.hash) (agrees s L)).0 a in
    more {e = e}
    (λ q.
    let h : held_at s e.at ≡ true = rw q k.0 in
    let x = same_true (hash_at s e.at) e.hash (sym (agrees_held s e.at e.hash h) ∙ ab.0) in
    sym x ∙ ap (λ (n : ℕ). hash_at s n) q ∙ k.1)
    (says_agree L s p v k ab.1)

-- a held hash stays held with the same bytes after any list that agrees
pub keeps : (N : ℕ) (L : List Entry) (s : List ℕ) → Room N s → Sound N L → agrees s L ≡ true
    → (p : ℕ) → p < N → held_at s p ≡ true → (held_at (put_all s L) p ≡ true) × (hash_at (put_all s L) p ≡ hash_at s p)
keeps N L s room S a p b h = hold_put_all N L s room S p (hash_at s p) b (says_agree L s p (hash_at s p) (h, refl) a) (h, refl)

-- ---- the count

-- nothing held is lost from s to s'
Extends : ℕ → List ℕ → List ℕ → Type 0
Extends N s s' = (p : ℕ) → p < N → held_at s p ≡ true → held_at s' p ≡ true

module _ (N : ℕ) (s : List ℕ) (n : ℕ) (room : Room N s) (below : n < N) (h : List ℕ) (size : length h ≡ 32) (s0 : List ℕ) where
  -- positions before n count as before
  newly_other : (M : ℕ) → M ≤ n → newly M s0 (put s n h) ≡ newly M s0 s
  unfolding newly
  newly_other zero l = refl
  newly_other (suc zero) l = refl
  newly_other (suc (suc M)) l =
      ap₂ (λ (a : ℕ) (t : Bool). a + one_if (t && not (held_at s0 (suc M)))) (newly_other (suc M) (omega arith))
      (held_put_other s N n room below h size (suc M) (λ e. omega arith))

  at_n : (x y : Bool) → (x ≡ true → y ≡ true) → one_if (true && not x) ≡ one_if (y && not x) + one_if (not y)
  at_n true true f = refl
  at_n true false f = absurd (false≢true (f refl))
  at_n false true f = refl
  at_n false false f = refl

  newly_put : 1 ≤ n → (M : ℕ) → n < M → M ≤ N → Extends N s0 s → newly M s0 (put s n h) ≡ newly M s0 s + lacks s n
  unfolding newly lacks Extends
  newly_put low zero b l x = omega arith
  newly_put low (suc zero) b l x = omega arith
  newly_put low (suc (suc m)) b l x =
      elim (ℕ_discrete (suc m) n) [
        | yes e ↦
            let a = newly_other (suc m) (omega arith) in
            let t : held_at (put s n h) (suc m) ≡ true = rw e (held_put_same s N n room below h size) in
            let q = at_n (held_at s0 (suc m)) (held_at s (suc m)) (x (suc m) (omega arith)) in
            let r : one_if (held_at (put s n h) (suc m) && not (held_at s0 (suc m))) ≡ one_if (held_at s (suc m) && not (held_at s0 (suc m))) + one_if (not (held_at s (suc m))) = rw t q in
            let w : one_if (not (held_at s n)) ≡ one_if (not (held_at s (suc m))) = rw e refl in
            omega arith
        | no ne ↦
            let a = newly_put low (suc m) (omega arith) (omega arith) x in
            let t = ap (λ (t : Bool). one_if (t && not (held_at s0 (suc m)))) (held_put_other s N n room below h size (suc m) ne) in
            omega arith
      ]

ext_put : (N : ℕ) (s0 s : List ℕ) (n : ℕ) (h : List ℕ) → Room N s → n < N → length h ≡ 32 → Extends N s0 s → Extends N s0 (put s n h)
unfolding Extends
ext_put N s0 s n h room b size x p l k =
    elim (ℕ_discrete p n) [
      | yes e ↦ rw e (held_put_same s N n room b h size)
      | no ne ↦ held_put_other s N n room b h size p ne ∙ x p l k
    ]

newly_put_all : (N : ℕ) (L : List Entry) (s0 s : List ℕ) → Room N s → Sound N L → FromRoot L → Extends N s0 s → newly N s0 (put_all s L) ≡ newly N s0 s + fresh s L
unfolding put_all fresh
newly_put_all N [] s0 s room none empty x = omega arith
newly_put_all N (e ∷ L) s0 s room (more i l S) (next a F) x =
    omega (
      arith,
      newly_put_all N L s0 (put s e.at e.hash) (put_room s N e.at room i e.hash l) S F (ext_put N s0 s e.at e.hash room i l x),
      newly_put N s e.at room i e.hash l s0 a N i (omega arith) x,
    )

pub newly_none : (N : ℕ) (s : List ℕ) → newly N s s ≡ 0
unfolding newly
newly_none zero s = refl
newly_none (suc zero) s = refl
newly_none (suc (suc M)) s = omega (arith, newly_none (suc M) s, off (held_at s (suc M)))
  where
    off : (b : Bool) → one_if (b && not b) ≡ 0
    off true = refl
    off false = refl

-- what the code counts as it writes is how many positions are held after and not before
pub count_fresh : (N : ℕ) (L : List Entry) (s : List ℕ) → Room N s → Sound N L → FromRoot L → newly N s (put_all s L) ≡ fresh s L
unfolding Extends
count_fresh N L s room S F = omega (arith, newly_put_all N L s s room S F (λ p b k. k), newly_none N s)

-- ---- how much a list changes

-- a list of entries changes no length
pub put_all_length : (N : ℕ) (L : List Entry) (s : List ℕ) → Room N s → Sound N L → length (put_all s L) ≡ length s
unfolding put_all
put_all_length N [] s room none = refl
put_all_length N (e ∷ L) s room (more i l S) =
    put_all_length N L (put s e.at e.hash) (put_room s N e.at room i e.hash l) S ∙ put_length s N e.at room i e.hash l

-- ---- being an entry of a list

pub data In (e : Entry) : List Entry → Type 0 where
  here : {L : List Entry} → In e (e ∷ L)
  there : {f : Entry} {L : List Entry} → In e L → In e (f ∷ L)

-- position n stands in the list with hash h
abbrev pub Has : ℕ → List ℕ → List Entry → Type 0
Has n h L = In (record { at = n; hash = h }) L

-- an entry of the first of two lists is one of both
pub in_left : {e : Entry} (A B : List Entry) → In e A → In e (A ++ B)
in_left (f ∷ A) B here = here
in_left (f ∷ A) B (there i) = there (in_left A B i)
in_left {e = e} [] B x' = elim x' [ ]

-- an entry of the second too
pub in_right : {e : Entry} (A B : List Entry) → In e B → In e (A ++ B)
in_right [] B i = i
in_right (f ∷ A) B i = there (in_right A B i)

-- and there are no others
pub in_cases : {e : Entry} (A B : List Entry) → In e (A ++ B) → In e A ⊎ In e B
in_cases [] B i = inr i
in_cases (f ∷ A) B here = inl here
in_cases (f ∷ A) B (there i) = elim (in_cases A B i) [ inl x ↦ inl (there x) | inr y ↦ inr y ]

-- the one entry of a list of one
pub one_is : {e : Entry} (n : ℕ) (h : List ℕ) → In e (one n h) → (e.at ≡ n) × (e.hash ≡ h)
one_is n h here = (refl, refl)
one_is {e = e} n h (there x3) = elim x3 [ ]

in_length : {e : Entry} (L : List Entry) → In e L → 1 ≤ length L
in_length (f ∷ L) here = omega arith
in_length (f ∷ L) (there i) = omega (arith, in_length L i)
in_length {e = e} [] x' = elim x' [ ]

-- the empty list has none
pub no_entry : {e : Entry} → In e [] → ⊥
no_entry i = omega (arith, in_length [] i)

-- the same entry by other names
pub has_same : (L : List Entry) (n m : ℕ) (h g : List ℕ) → n ≡ m → h ≡ g → Has n h L → Has m g L
has_same L n m h g e f i = rw (sym e, sym f) i

-- every entry of a sound list is a hash, at a position below N
pub sound_in : {N : ℕ} {e : Entry} (L : List Entry) → Sound N L → In e L → (e.at < N) × (length e.hash ≡ 32)
sound_in (f ∷ L) (more i l S) here = (i, l)
sound_in (f ∷ L) (more i l S) (there k) = sound_in L S k
sound_in {N = N} {e = e} [] _ x3 = elim x3 [ ]

-- two sound lists put together are sound
pub sound_append : {N : ℕ} (A B : List Entry) → Sound N A → Sound N B → Sound N (A ++ B)
sound_append [] B none T = T
sound_append (e ∷ A) B (more i l S) T = more i l (sound_append A B S T)

-- so is a list of one hash
pub sound_one : {N : ℕ} (n : ℕ) (h : List ℕ) → n < N → length h ≡ 32 → Sound N (one n h)
sound_one n h i l = more i l none

-- two lists from the root's number on are one
pub from_root_append : (A B : List Entry) → FromRoot A → FromRoot B → FromRoot (A ++ B)
from_root_append [] B empty q = q
from_root_append (e ∷ A) B (next l p) q = next l (from_root_append A B p q)

-- a list has only numbers from the root's on, if each of its entries has
pub from_root_in : (L : List Entry) → ((e : Entry) → In e L → 1 ≤ e.at) → FromRoot L
from_root_in [] f = empty
from_root_in (e ∷ L) f = next (f e here) (from_root_in L (λ g k. f g (there k)))

-- a list says v of p, if each of its entries there does
pub says_in : (L : List Entry) (p : ℕ) (v : List ℕ) → ((f : Entry) → In f L → f.at ≡ p → f.hash ≡ v) → Says p v L
says_in [] p v k = none
says_in (e ∷ L) p v k = more (k e here) (says_in L p v (λ f i. k f (there i)))

-- a list agrees with a store exactly if each of its entries does
pub agrees_in : (s : List ℕ) (L : List Entry) → agrees s L ≡ true → (e : Entry) → In e L → agrees_at s e.at e.hash ≡ true
unfolding agrees
agrees_in s (f ∷ L) a e here = ((and-eq-true_iff (agrees_at s e.at e.hash) (agrees s L)).0 a).0
agrees_in s (f ∷ L) a e (there i) = agrees_in s L ((and-eq-true_iff (agrees_at s f.at f.hash) (agrees s L)).0 a).1 e i
agrees_in s [] a e x'' = elim x'' [ ]

-- and back
pub in_agrees : (s : List ℕ) (L : List Entry) → ((e : Entry) → In e L → agrees_at s e.at e.hash ≡ true) → agrees s L ≡ true
unfolding agrees
in_agrees s [] k = refl
in_agrees s (e ∷ L) k = ap₂ (λ (x y : Bool). x && y) (k e here) (in_agrees s L (λ f i. k f (there i)))

-- ---- positions that are apart

-- no two entries of a list have the same position
pub data Apart : List Entry → Type 0 where
  none : Apart []
  more : {e : Entry} {L : List Entry} → ((f : Entry) → In f L → f.at ≡ e.at → ⊥) → Apart L → Apart (e ∷ L)

-- no two entries give one position two hashes
abbrev pub Consistent : List Entry → Type 0
Consistent L = (e f : Entry) → In e L → In f L → e.at ≡ f.at → e.hash ≡ f.hash

-- one position is apart
pub apart_one : (n : ℕ) (h : List ℕ) → Apart (one n h)
apart_one n h = more (λ f i q. no_entry i) none

-- two lists whose positions are apart, and apart from each other's
pub apart_append : (A B : List Entry) → Apart A → Apart B → ((e f : Entry) → In e A → In f B → e.at ≡ f.at → ⊥) → Apart (A ++ B)
apart_append [] B none T x = T
apart_append (e ∷ A) B (more k S) T x =
    more (λ f i q. elim (in_cases A B i) [ inl a ↦ k f a q | inr b ↦ x e f here b (sym q) ])
    (apart_append A B S T (λ g f i j. x g f (there i) j))

-- where positions are apart, none is given two hashes
pub apart_consistent : (L : List Entry) → Apart L → Consistent L
apart_consistent (g ∷ L) (more k S) e f here here q = refl
apart_consistent (g ∷ L) (more k S) e f here (there j) q = absurd (k f j (sym q))
apart_consistent (g ∷ L) (more k S) e f (there i) here q = absurd (k e i q)
apart_consistent (g ∷ L) (more k S) e f (there i) (there j) q = apart_consistent L S e f i j q
apart_consistent [] _ e f x5 _ q = elim x5 [ ]

-- after a consistent list is taken, each of its entries is held
pub entries_held : (N : ℕ) (L : List Entry) (s : List ℕ) → Room N s → Sound N L → Consistent L → (e : Entry) → In e L → Hold (put_all s L) e.at e.hash
unfolding put_all
entries_held N (f ∷ L) s room (more i l S) c e here =
    hold_put_all N L (put s e.at e.hash) (put_room s N e.at room i e.hash l) S e.at e.hash i
    (says_in L e.at e.hash (λ g k q. c g e (there k) here q))
    (held_put_same s N e.at room i e.hash l, hash_put_same s N e.at room i e.hash l)
entries_held N (f ∷ L) s room (more i l S) c e (there k) =
    entries_held N L (put s f.at f.hash) (put_room s N f.at room i f.hash l) S (λ a b x y. c a b (there x) (there y)) e k
entries_held N [] s room _ c e x5 = elim x5 [ ]

-- and what is held then was held before or is one of its entries
pub held_or_entry : (N : ℕ) (L : List Entry) (s : List ℕ) → Room N s → Sound N L → (q : ℕ) → held_at (put_all s L) q ≡ true
    → (held_at s q ≡ true) ⊎ ((v : List ℕ) × Has q v L)
unfolding put_all
held_or_entry N [] s room none q t = inl t
held_or_entry N (e ∷ L) s room (more i l S) q t =
    elim (held_or_entry N L (put s e.at e.hash) (put_room s N e.at room i e.hash l) S q t) [
      | inr o ↦ inr (o.0, there o.1)
      | inl k ↦ elim (ℕ_discrete q e.at) [
        | yes z ↦ inr (e.hash, rw z here)
        | no ne ↦ inl (sym (held_put_other s N e.at room i e.hash l q ne) ∙ k)
      ]
    ]
