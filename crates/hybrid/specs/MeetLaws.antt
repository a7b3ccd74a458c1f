-- Files met one after the other; and that all are met, and as many, exactly if the halves have the same files.
-- Assumes nothing.
use Rattle.std.specs.Prelude.{◌≡◌, refl, Bool, true, false, cond, ◌&&◌, List, [], ◌∷◌, ◌++◌, ℕ, suc, length, eqb}
use Rattle.std.proofs.Common.{sym, ap, ◌∙◌, arith, eqb-true, eq-eqb, ne_eqb}
use Rattle.std.proofs.lemmas.Bool.{eqb-false}
use Rattle.bencode.specs.Grammar.{Items, no_items, item}
use Rattle.meaning.specs.Torrent.{File}
use Rattle.halves.specs.V1Half.{V1Entry, entry_of, entries_in, same_path, files_among, same_files}
use Rattle.hybrid.specs.Meet.{Next, no_file, file, next_file, Left, differ, left, after_next, on_left, after_files}

-- files, and then others
pub after_append : (vs : Items) (fs gs : List File) → after_files vs (fs ++ gs) ≡ on_left (after_files vs fs) (λ us. after_files us gs)
unfolding after_files
after_append vs [] gs = refl
after_append vs (f ∷ fs) gs = by_next (after_next (next_file vs) f) (λ us. after_append us fs gs)
  where
    by_next : (l : Left) → ((us : Items) → after_files us (fs ++ gs) ≡ on_left (after_files us fs) (λ ws. after_files ws gs))
        → on_left l (λ us. after_files us (fs ++ gs)) ≡ on_left (on_left l (λ us. after_files us fs)) (λ us. after_files us gs)
    by_next differ i = refl
    by_next (left us) i = i us

-- the next file is the first of the files among the entries
abbrev Among : List V1Entry → Next → Type 0
Among es no_file = es ≡ []
Among es (file e us) = es ≡ e ∷ files_among (entries_in us)

next_among : (vs : Items) → Among (files_among (entries_in vs)) (next_file vs)
unfolding next_file files_among entries_in
next_among no_items = refl
next_among (item x vs) = by_kind (entry_of x).padding (next_among vs)
  where
    by_kind : (t : Bool) → Among (files_among (entries_in vs)) (next_file vs) → Among (cond t (files_among (entries_in vs)) (entry_of x ∷ files_among (entries_in vs))) (cond t (next_file vs) (file (entry_of x) vs))
    by_kind true i = i
    by_kind false i = refl

-- whether all are met
abbrev pub met : Left → Bool
met differ = false
met (left us) = true

-- counts of one more each
suc_same : (a b : ℕ) → eqb (suc a) (suc b) ≡ eqb a b
suc_same a b = by_test (eqb a b) refl
  where
    by_test : (t : Bool) → eqb a b ≡ t → eqb (suc a) (suc b) ≡ t
    by_test true e = eq-eqb (suc a) (suc b) (ap suc (eqb-true a b e))
    by_test false e = ne_eqb (suc a) (suc b) (λ q. eqb-false a b e (omega arith))

-- the halves have the same files exactly if all of the tree's are met and there are as many
pub same_exactly : (vs : Items) (fs : List File) → same_files (files_among (entries_in vs)) fs ≡ met (after_files vs fs) && eqb (length (files_among (entries_in vs))) (length fs)
unfolding after_files same_files
same_exactly vs [] = by_next (next_file vs) (next_among vs)
  where
    by_next : (n : Next) → Among (files_among (entries_in vs)) n → same_files (files_among (entries_in vs)) [] ≡ eqb (length (files_among (entries_in vs))) 0
    by_next no_file a = rw a refl
    by_next (file e us) a = rw a (sym (ne_eqb (suc (length (files_among (entries_in us)))) 0 (λ q. omega arith)))
same_exactly vs (f ∷ fs) = by_next (next_file vs) (next_among vs) (λ us. same_exactly us fs)
  where
    by_next : (n : Next) → Among (files_among (entries_in vs)) n
        → ((us : Items) → same_files (files_among (entries_in us)) fs ≡ met (after_files us fs) && eqb (length (files_among (entries_in us))) (length fs))
        → same_files (files_among (entries_in vs)) (f ∷ fs) ≡ met (on_left (after_next n f) (λ us. after_files us fs)) && eqb (length (files_among (entries_in vs))) (suc (length fs))
    by_next no_file a i = rw a refl
    by_next (file e us) a i = rw a (by_test (eqb e.size f.size) (same_path e.path f.path))
      where
        by_test : (p q : Bool) → p && (q && same_files (files_among (entries_in us)) fs) ≡ met (on_left (cond (p && q) (left us) differ) (λ ws. after_files ws fs)) && eqb (suc (length (files_among (entries_in us)))) (suc (length fs))
        by_test true true = i us ∙ ap (λ (t : Bool). met (after_files us fs) && t) (sym (suc_same (length (files_among (entries_in us))) (length fs)))
        by_test true false = refl
        by_test false q = refl
