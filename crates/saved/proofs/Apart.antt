-- What a host that loses power can rely on: a saved store that was cut short is never loaded or repaired; and neither a store is taken for a saved
-- one nor a saved one for a store.
-- Assumes nothing.
use Rattle.std.specs.Prelude.{◌≡◌, refl, Bool, true, false, List, ℕ, zero, suc, ◌+◌, ◌<◌, length, get_or, take, eqb, leb}
use Rattle.std.proofs.Math.Bool.{and-eq-true_iff}
use Rattle.std.proofs.Common.{arith, eqb-true, ne_eqb}
use Rattle.octets.specs.Octets.{number_at}
use Rattle.store.specs.Store.{file_length, usable}
use Rattle.store.specs.StoreLaws.{usable_facts}
use Rattle.saved.specs.Form.{opens, formed}
use Rattle.numbers.specs.Numbers.{not_saved}
use Rattle.saved.specs.Saved.{opening_number, sound, load_number}
use Rattle.saved.proofs.PrefixLaws.{cut_short_not_formed}

unformed : (b : List ℕ) (k : ℕ) → formed b ≡ true → k < length b → formed (take k b) ≡ false
unformed b k g l = by (formed (take k b)) refl
  where
    by : (x : Bool) → formed (take k b) ≡ x → formed (take k b) ≡ false
    by false e = e
    by true e = absurd (cut_short_not_formed b k g l e)

-- CUT SHORT: never loaded,
pub cut_short_not_loaded : (s b : List ℕ) (k : ℕ) → formed b ≡ true → k < length b → load_number s (take k b) ≡ 0 → ⊥
unfolding sound
cut_short_not_loaded s b k g l z = by (opening_number (length s) (take k b)) refl
  where
    no : sound (take k b) ≡ false
    no = let e = unformed b k g l in unfold sound in rw e

    by : (n : ℕ) → opening_number (length s) (take k b) ≡ n → ⊥
    by zero e = let w : not_saved ≡ 0 = rw (e, no) at z in omega arith
    by (suc n) e = let q : eqb (suc n) 0 ≡ false = ne_eqb (suc n) 0 (λ x. omega arith) in let w : suc n ≡ 0 = rw (e, q) at z in omega arith

-- NO STORE is a saved one: its first byte is zero, as no file is that long
pub store_not_saved : (s : List ℕ) → usable s ≡ true → opens s ≡ true → ⊥
unfolding opens file_length number_at
store_not_saved s u o =
    let f = (usable_facts s u).most in
    let w = (and-eq-true_iff (leb 45 (length s)) (eqb (get_or s 0 0) 1)).0 o in
    let e : get_or s (0 + 0) 0 ≡ 1 = eqb-true (get_or s 0 0) 1 w.1 in
    omega arith

-- and so NO SAVED STORE is a store
pub saved_not_store : (b : List ℕ) → opens b ≡ true → usable b ≡ true → ⊥
saved_not_store b o u = store_not_saved b u o
