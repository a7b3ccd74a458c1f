-- A number decided by tests one after the other: the first that fails gives its number, and where all pass the last number is given. When each is
-- given, and that it is in the table, is shown here once for all such numbers.
-- Assumes nothing.
use Rattle.std.specs.Prelude.{◌≡◌, refl, Bool, true, false, cond, not, ◌&&◌, ◌||◌, List, [], ◌∷◌, ◌↔◌, ℕ, eqb}
use Rattle.std.proofs.Common.{sym, ◌∙◌, eqb-true}
use Rattle.std.proofs.Math.Bool.{and-eq-true_iff}
use Rattle.std.proofs.lemmas.Bool.{false≢true, eqb-false}
use Rattle.numbers.specs.Numbers.{no_anchor, differs, conflict, table, Listed, first, later, InTable}

pub data Chain : Type 0 where
  last : ℕ → Chain
  -- n unless b
  test : (b : Bool) (n : ℕ) → Chain → Chain
  -- n where b
  fault : (b : Bool) (n : ℕ) → Chain → Chain

abbrev pub decided : Chain → ℕ
decided (last n) = n
decided (test b n c) = cond b (decided c) n
decided (fault b n c) = cond b n (decided c)

-- ---- when a number is given

-- no test of the chain has the number k, nor has its end
abbrev pub never : ℕ → Chain → Bool
never k (last n) = not (eqb n k)
never k (test b n c) = not (eqb n k) && never k c
never k (fault b n c) = not (eqb n k) && never k c

-- at most one has
abbrev pub once : ℕ → Chain → Bool
once k (last n) = true
once k (test b n c) = cond (eqb n k) (never k c) (once k c)
once k (fault b n c) = cond (eqb n k) (never k c) (once k c)

-- the chain stops at k: the tests before that of k pass, and that one fails; or all pass, and k is the last number
abbrev pub Stops : ℕ → Chain → Type 0
Stops k (last n) = n ≡ k
Stops k (test b n c) = cond (eqb n k) (b ≡ false) ((b ≡ true) × Stops k c)
Stops k (fault b n c) = cond (eqb n k) (b ≡ true) ((b ≡ false) × Stops k c)

other : (n k : ℕ) → not (eqb n k) ≡ true → n ≡ k → ⊥
other n k p e = by (eqb n k) refl p
  where
    by : (b : Bool) → eqb n k ≡ b → not b ≡ true → ⊥
    by false q r = eqb-false n k q e
    by true q r = false≢true r

-- NEVER a number that none has
pub never_given : (c : Chain) (k : ℕ) → never k c ≡ true → decided c ≡ k → ⊥
never_given (last n) k p e = other n k p e
never_given (test true n c) k p e = never_given c k ((and-eq-true_iff (not (eqb n k)) (never k c)).0 p).1 e
never_given (test false n c) k p e = other n k ((and-eq-true_iff (not (eqb n k)) (never k c)).0 p).0 e
never_given (fault false n c) k p e = never_given c k ((and-eq-true_iff (not (eqb n k)) (never k c)).0 p).1 e
never_given (fault true n c) k p e = other n k ((and-eq-true_iff (not (eqb n k)) (never k c)).0 p).0 e

-- one test, and what follows it
tested : (b : Bool) (n k : ℕ) (c : Chain) → cond (eqb n k) (never k c) (once k c) ≡ true → (once k c ≡ true → decided c ≡ k → Stops k c) → cond b (decided c) n ≡ k
    → cond (eqb n k) (b ≡ false) ((b ≡ true) × Stops k c)
tested b n k c o more e = by b (eqb n k) refl o e
  where
    by : (b t : Bool) → eqb n k ≡ t → cond t (never k c) (once k c) ≡ true → cond b (decided c) n ≡ k → cond t (b ≡ false) ((b ≡ true) × Stops k c)
    by true true q p z = absurd (never_given c k p z)
    by false true q p z = refl
    by true false q p z = (refl, more p z)
    by false false q p z = absurd (eqb-false n k q z)

faulted : (b : Bool) (n k : ℕ) (c : Chain) → cond (eqb n k) (never k c) (once k c) ≡ true → (once k c ≡ true → decided c ≡ k → Stops k c) → cond b n (decided c) ≡ k
    → cond (eqb n k) (b ≡ true) ((b ≡ false) × Stops k c)
faulted b n k c o more e = by b (eqb n k) refl o e
  where
    by : (b t : Bool) → eqb n k ≡ t → cond t (never k c) (once k c) ≡ true → cond b n (decided c) ≡ k → cond t (b ≡ true) ((b ≡ false) × Stops k c)
    by false true q p z = absurd (never_given c k p z)
    by true true q p z = refl
    by false false q p z = (refl, more p z)
    by true false q p z = absurd (eqb-false n k q z)

test_back : (b : Bool) (n k : ℕ) (c : Chain) → (Stops k c → decided c ≡ k) → cond (eqb n k) (b ≡ false) ((b ≡ true) × Stops k c) → cond b (decided c) n ≡ k
test_back b n k c more s = by (eqb n k) refl s
  where
    by : (t : Bool) → eqb n k ≡ t → cond t (b ≡ false) ((b ≡ true) × Stops k c) → cond b (decided c) n ≡ k
    by true q e = rw e (eqb-true n k q)
    by false q p = rw p.0 (more p.1)

fault_back : (b : Bool) (n k : ℕ) (c : Chain) → (Stops k c → decided c ≡ k) → cond (eqb n k) (b ≡ true) ((b ≡ false) × Stops k c) → cond b n (decided c) ≡ k
fault_back b n k c more s = by (eqb n k) refl s
  where
    by : (t : Bool) → eqb n k ≡ t → cond t (b ≡ true) ((b ≡ false) × Stops k c) → cond b n (decided c) ≡ k
    by true q e = rw e (eqb-true n k q)
    by false q p = rw p.0 (more p.1)

stopped : (c : Chain) (k : ℕ) → Stops k c → decided c ≡ k
stopped (last n) k e = e
stopped (test b n c) k s = test_back b n k c (stopped c k) s
stopped (fault b n c) k s = fault_back b n k c (stopped c k) s

-- GIVEN EXACTLY WHEN the chain stops there
pub exactly : (c : Chain) (k : ℕ) → once k c ≡ true → (decided c ≡ k) ↔ Stops k c
exactly (last n) k o = (λ e. e, λ e. e)
exactly (test b n c) k o = (tested b n k c o (λ p. (exactly c k p).0), test_back b n k c (stopped c k))
exactly (fault b n c) k o = (faulted b n k c o (λ p. (exactly c k p).0), fault_back b n k c (stopped c k))

-- of a number that is so decided
pub exactly_of : {n : ℕ} (c : Chain) (k : ℕ) → n ≡ decided c → once k c ≡ true → (n ≡ k) ↔ Stops k c
exactly_of c k q o = (λ e. (exactly c k o).0 (sym q ∙ e), λ s. q ∙ stopped c k s)

-- ---- a number that no test has

-- all tests of a chain pass, and its last number is k
abbrev pub Passes : ℕ → Chain → Type 0
Passes k (last n) = n ≡ k
Passes k (test b n c) = (b ≡ true) × Passes k c
Passes k (fault b n c) = (b ≡ false) × Passes k c

-- no test has the number k
abbrev pub none : ℕ → Chain → Bool
none k (last n) = true
none k (test b n c) = not (eqb n k) && none k c
none k (fault b n c) = not (eqb n k) && none k c

-- GIVEN EXACTLY WHEN all pass, and it is the last one
pub passes : (c : Chain) (k : ℕ) → none k c ≡ true → (decided c ≡ k) ↔ Passes k c
passes (last n) k o = (λ e. e, λ e. e)
passes (test b n c) k o =
    let p = (and-eq-true_iff (not (eqb n k)) (none k c)).0 o in
    let q = passes c k p.1 in
    (by p.0 q b, λ t. rw t.0 (q.1 t.1))
  where
    by : not (eqb n k) ≡ true → (decided c ≡ k) ↔ Passes k c → (b : Bool) → cond b (decided c) n ≡ k → (b ≡ true) × Passes k c
    by d q true e = (refl, q.0 e)
    by d q false e = absurd (other n k d e)
passes (fault b n c) k o =
    let p = (and-eq-true_iff (not (eqb n k)) (none k c)).0 o in
    let q = passes c k p.1 in
    (by p.0 q b, λ t. rw t.0 (q.1 t.1))
  where
    by : not (eqb n k) ≡ true → (decided c ≡ k) ↔ Passes k c → (b : Bool) → cond b n (decided c) ≡ k → (b ≡ false) × Passes k c
    by d q false e = (refl, q.0 e)
    by d q true e = absurd (other n k d e)

pub passes_of : {n : ℕ} (c : Chain) (k : ℕ) → n ≡ decided c → none k c ≡ true → (n ≡ k) ↔ Passes k c
passes_of c k q o = let p = passes c k o in (λ e. p.0 (sym q ∙ e), λ t. q ∙ p.1 t)

-- `judged` as a chain
abbrev pub verdict : Bool → Bool → Bool → Chain
verdict held alike all = test held no_anchor (test alike differs (test all conflict (last 0)))

-- ---- what all numbers of a chain are

abbrev pub Each : (ℕ → Type 0) → Chain → Type 0
Each P (last n) = P n
Each P (test b n c) = P n × Each P c
Each P (fault b n c) = P n × Each P c

-- THE ONE GIVEN IS
pub each : (P : ℕ → Type 0) (c : Chain) → Each P c → P (decided c)
each P (last n) p = p
each P (test true n c) p = each P c p.1
each P (test false n c) p = p.0
each P (fault true n c) p = p.0
each P (fault false n c) p = each P c p.1

-- whether a number is one of a list
abbrev pub is_listed : ℕ → List ℕ → Bool
is_listed n [] = false
is_listed n (m ∷ ns) = eqb n m || is_listed n ns

pub listed_in : (n : ℕ) (ns : List ℕ) → is_listed n ns ≡ true → Listed n ns
listed_in n [] e = absurd (false≢true e)
listed_in n (m ∷ ns) e = by (listed_in n ns) (eqb n m) refl e
  where
    by : (is_listed n ns ≡ true → Listed n ns) → (b : Bool) → eqb n m ≡ b → b || is_listed n ns ≡ true → Listed n (m ∷ ns)
    by more true q z = rw (eqb-true n m q) first
    by more false q z = later (more z)

-- all numbers of a chain are in the table
abbrev pub listed : Chain → Bool
listed (last n) = is_listed n table
listed (test b n c) = is_listed n table && listed c
listed (fault b n c) = is_listed n table && listed c

all_in : (c : Chain) → listed c ≡ true → Each InTable c
all_in (last n) p = listed_in n table p
all_in (test b n c) p = let q = (and-eq-true_iff (is_listed n table) (listed c)).0 p in (listed_in n table q.0, all_in c q.1)
all_in (fault b n c) p = let q = (and-eq-true_iff (is_listed n table) (listed c)).0 p in (listed_in n table q.0, all_in c q.1)

-- SO IS THE ONE GIVEN
pub in_table : (c : Chain) → listed c ≡ true → InTable (decided c)
in_table c p = each InTable c (all_in c p)

pub in_table_of : {n : ℕ} (c : Chain) → n ≡ decided c → listed c ≡ true → InTable n
in_table_of c q p = rw q (in_table c p)
