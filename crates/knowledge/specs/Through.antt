-- What every step keeps, every history keeps: one case for each call, and one induction.
-- Assumes nothing.
use Prim.{Unit}
use Rattle.std.specs.Prelude.{◌≡◌, refl, Bool, cond, ◌&&◌, List, ℕ, ◌+◌, ◌^◌, ◌≤◌, ◌<◌, length, eqb, leb}
use Rattle.std.proofs.Common.{subst, sym, arith, ne_eqb}
use Rattle.std.proofs.Math.Bool.{true, false}
use Rattle.std.proofs.Math.Decide.{ℕ_discrete}
use Rattle.store.specs.Store.{height_of, open_answer, open_after, opened, facts_in_range, store_size, Facts}
use Rattle.messages.specs.Take.{take_after}
use Rattle.store.specs.StoreLaws.{usable_facts}
use Rattle.marks.specs.Marks.{marked, cleared, marks_put, block_there, clear_after, first_block, blocks_in}
use Rattle.marks.specs.MarksLaws.{there_says, there_fits}
use Rattle.pieces.specs.Pieces.{layer_after, block_number, piece_number, piece_after}
use Rattle.pieces.proofs.PiecesLaws.{block_right, piece_right}
use Rattle.pieces.proofs.MarkedLaws.{block_fits, block_marks, block_stays, piece_fits, piece_marks, piece_stays}
use Rattle.pieces.proofs.HybridLaws.{hybrid_leaves}
use Rattle.saved.specs.Saved.{load_number, load_answer, load_after, repair_number, repair_answer, repair_after}
use Rattle.words.specs.History.{Bytes, Call, take, load_layer, judge_block, judge_piece, judge_hybrid_piece, clear, reopen, load, repair, look, number, after, Opening, SameStore, call, lent, Steps, begin, next, Each, nothing, called, between}

-- an opening that is refused leaves every byte
pub reopen_refused : (s : List ℕ) (n plen : ℕ) (root : List ℕ) → ((open_answer s n plen).number ≡ 0 → ⊥) → open_after s n plen root ≡ s
unfolding open_answer open_after
reopen_refused s n plen root ne = by (facts_in_range n plen) (leb (store_size n) (length s)) refl refl
  where
    by : (a b : Bool) → facts_in_range n plen ≡ a → leb (store_size n) (length s) ≡ b → cond (facts_in_range n plen && leb (store_size n) (length s)) (opened s n plen root) s ≡ s
    by true true p q = absurd (ne (unfold open_answer in rw (p, q)))
    by true false p q = rw (p, q)
    by false b p q = rw p

-- so does a load or a repair that is refused
pub load_stays : (s b : List ℕ) → ((load_answer s b).number ≡ 0 → ⊥) → load_after s b ≡ s
load_stays s b ne = by (eqb (load_number s b) 0) refl
  where
    by : (x : Bool) → eqb (load_number s b) 0 ≡ x → load_after s b ≡ s
    by true e = absurd (ne (unfold load_answer in rw e))
    by false e = unfold load_after in rw e

pub repair_stays : (s b : List ℕ) → ((repair_answer s b).number ≡ 0 → ⊥) → repair_after s b ≡ s
repair_stays s b ne = by (eqb (repair_number s b) 0) refl
  where
    by : (x : Bool) → eqb (repair_number s b) 0 ≡ x → repair_after s b ≡ s
    by true e = absurd (ne (unfold repair_answer in rw e))
    by false e = unfold repair_after in rw e

-- clearing a mark writes one byte; refused, none
pub clear_writes : (s : List ℕ) (i : ℕ) → block_there s i ≡ 0 → clear_after s i ≡ marks_put s i 1 cleared
unfolding clear_after
clear_writes s i z = rw z

pub clear_stays : (s : List ℕ) (i : ℕ) → (block_there s i ≡ 0 → ⊥) → clear_after s i ≡ s
unfolding clear_after
clear_stays s i ne = rw (ne_eqb (block_there s i) 0 ne)

-- a property of a store's bytes that each step keeps whose call is one of C: the calls that write hashes, marks, and other bytes behind
-- the store
pub record PreservedBy (C : Call → Type 0) (P : List ℕ → Type 0) : Type 0 where
  pub taken : (s m : List ℕ) (b : Bytes m) → C (take m b) → P s → P (take_after s m)
  pub loaded : (s l : List ℕ) (b : Bytes l) → C (load_layer l b) → P s → P (layer_after s l)
  pub remarked : (s : List ℕ) (i n x : ℕ) → Facts s → i + n ≤ 2 ^ height_of s → x < 256 → P s → P (marks_put s i n x)
  pub moved : (s t : List ℕ) → Bytes t → SameStore s t → P s → P t

module _ (C : Call → Type 0) (P : List ℕ → Type 0) (k : PreservedBy C P) where
  piece_kept : (s : List ℕ) (i : ℕ) (d : List ℕ) → P s → P (piece_after s i d)
  piece_kept s i d p =
      elim (ℕ_discrete (piece_number s i d) 0) [
        | yes z ↦ subst P (sym (piece_marks s i d z)) (k.remarked s (first_block s i) (blocks_in s i) marked (usable_facts s (piece_right s i d z).store) (piece_fits s i d z) (omega arith) p)
        | no ne ↦ subst P (sym (piece_stays s i d ne)) p
      ]

  pub by_call : (c : Call) (s : List ℕ) → (Opening c → number c s ≡ 0 → ⊥) → C c → P s → P (after c s)
  by_call (take m b) s x y p = k.taken s m b y p
  by_call (load_layer l b) s x y p = k.loaded s l b y p
  by_call (judge_block i d b) s x y p =
      elim (ℕ_discrete (block_number s i d) 0) [
        | yes z ↦ subst P (sym (block_marks s i d z)) (k.remarked s i 1 marked (usable_facts s (block_right s i d z).store) (block_fits s i d z) (omega arith) p)
        | no ne ↦ subst P (sym (block_stays s i d ne)) p
      ]
  by_call (judge_piece i d b) s x y p = piece_kept s i d p
  by_call (judge_hybrid_piece i d v z b o) s x y p = hybrid_leaves s i d v z P p (piece_kept s i d p)
  by_call (clear i) s x y p =
      elim (ℕ_discrete (block_there s i) 0) [
        | yes z ↦ subst P (sym (clear_writes s i z)) (k.remarked s i 1 cleared (usable_facts s (there_says s i z).0) (let w = there_fits s i z in omega arith) (omega arith) p)
        | no ne ↦ subst P (sym (clear_stays s i ne)) p
      ]
  by_call (reopen n plen root o) s x y p = subst P (sym (reopen_refused s n plen root (x tt))) p
  by_call (load b o) s x y p = subst P (sym (load_stays s b (x tt))) p
  by_call (repair b o) s x y p = subst P (sym (repair_stays s b (x tt))) p
  by_call (look k) s x y p = p

  -- what each such step keeps, any number of them keeps
  pub each_through : {s t : List ℕ} {h : Steps s t} → Each C t h → P s → P t
  each_through nothing p = p
  each_through (called {t} c x w y) p = by_call c t x y (each_through w p)
  each_through (between {t} v b e w) p = k.moved t v b e (each_through w p)

-- ---- any calls

abbrev Any : Call → Type 0
Any c = Unit {0}

each_any : {s t : List ℕ} (h : Steps s t) → Each Any t h
each_any begin = nothing
each_any (next h (call c x)) = called c x (each_any h) tt
each_any (next h (lent v b e)) = between v b e (each_any h)

pub record Preserved (P : List ℕ → Type 0) : Type 0 where
  pub taken : (s m : List ℕ) → Bytes m → P s → P (take_after s m)
  pub loaded : (s l : List ℕ) → Bytes l → P s → P (layer_after s l)
  pub remarked : (s : List ℕ) (i n x : ℕ) → Facts s → i + n ≤ 2 ^ height_of s → x < 256 → P s → P (marks_put s i n x)
  pub moved : (s t : List ℕ) → Bytes t → SameStore s t → P s → P t

-- what each step keeps, any number of steps keeps
pub through : (P : List ℕ → Type 0) → Preserved P → {s t : List ℕ} → Steps s t → P s → P t
through P k h =
    each_through Any P (record { taken = λ s m b y. k.taken s m b; loaded = λ s l b y. k.loaded s l b; remarked = k.remarked; moved = k.moved }) (each_any h)
