-- What is true of each file of a tree; a file by its number.
-- Assumes nothing.
use Rattle.std.specs.Prelude.{◌≡◌, refl, Bool, true, false, cond, List, [], ◌∷◌, ◌++◌, ℕ, zero, suc, ◌+◌, ◌≤◌, ◌<◌, length, drop, get_or, eqb, Option, Some, None}
use Rattle.std.proofs.Common.{arith, length-append}
use Rattle.std.proofs.lemmas.Bool.{eqb-false}
use Rattle.limits.specs.Limits.{longest_file}
use Rattle.filetree.specs.Token.{ends_here, token_at}
use Rattle.filetree.specs.TokenLaws.{TokenIn, token_in}
use Rattle.filetree.specs.Tree.{max_elements, Element, Listed, listed_as, down, Files, wrong, files, after, onward, on_token, files_from, files_below, files_in, listed, file_number, roots_of}
use Rattle.filetree.specs.PathLaws.{element_number}
use Rattle.filetree.specs.declared.token.Token.{Token}
use Rattle.filetree.specs.declared.token.Token.TheVariants.{Opened, Closed, Leaf}

-- each element lies within the bytes
abbrev pub PathRight : ℕ → List Element → Type 0
PathRight end [] = Unit {0}
PathRight end (e ∷ es) = (e.start ≤ e.end) × (e.end ≤ end) × PathRight end es

path_down : (end : ℕ) (p : List Element) (a b : ℕ) → PathRight end p → a ≤ b → b ≤ end → PathRight end (down p a b)
path_down end [] a b w h g = (h, g, tt)
path_down end (e ∷ es) a b w h g = (w.0, w.1, path_down end es a b w.2 h g)

pub path_element : (end : ℕ) (p : List Element) → PathRight end p → (k : ℕ) → ((element_number p k).start ≤ (element_number p k).end) × ((element_number p k).end ≤ end)
unfolding element_number
path_element end [] w k = (omega arith, omega arith)
path_element end (e ∷ es) w zero = (w.0, w.1)
path_element end (e ∷ es) w (suc k) = path_element end es w.2 k

-- in a tree of so many bytes: a root within it, unless the file is empty; no file too long; 1 to `max_elements` path elements within it
pub record FileRight (end : ℕ) (f : Listed) : Type 0 where
  pub root_within : (f.size ≡ 0 → ⊥) → f.root + 32 ≤ end
  pub small : f.size ≤ longest_file
  pub few : length f.path ≤ max_elements
  pub path_within : PathRight end f.path

abbrev pub AllRight : ℕ → List Listed → Type 0
AllRight end [] = Unit {0}
AllRight end (f ∷ fs) = FileRight end f × AllRight end fs

all_append : (end : ℕ) (fs gs : List Listed) → AllRight end fs → AllRight end gs → AllRight end (fs ++ gs)
all_append end [] gs p q = q
all_append end (f ∷ fs) gs p q = (p.0, all_append end fs gs p.1 q)

after_right : (end : ℕ) (fs : List Listed) (w : Files) → AllRight end fs → AllRight end (listed w) → AllRight end (listed (after fs w))
unfolding listed
after_right end fs wrong p q = tt
after_right end fs (files gs k) p q = all_append end fs gs p q

-- a directory at this depth, with the levels that it leaves
abbrev Fits : ℕ → List Element → ℕ → Type 0
Fits end path l = PathRight end path × (length path + l ≤ max_elements)

from_right : (l : ℕ) (t : List ℕ) → ((at : ℕ) (path : List Element) → Fits (length t) path l → AllRight (length t) (listed (files_below l t at path)))
    → (steps at : ℕ) (path : List Element) → Fits (length t) path (suc l) → AllRight (length t) (listed (files_from (files_below l t) steps t at path))
unfolding files_from listed
from_right l t below zero at path w = tt
from_right l t below (suc n) at path w = by_token (token_at t at) (token_in t at) (λ k. from_right l t below n k path w)
  where
    Later : Type 0
    Later = (k : ℕ) → AllRight (length t) (listed (files_from (files_below l t) n t k path))

    deeper : (a b : ℕ) → a ≤ b → b ≤ length t → Fits (length t) (down path a b) l
    deeper a b h g = let x = w.1 in let y = length-append path (record { start = a; end = b } ∷ []) in (path_down (length t) path a b w.0 h g, omega arith)

    by_sub : (x : Files) → AllRight (length t) (listed x) → Later → AllRight (length t) (listed (onward x (λ k. files_from (files_below l t) n t k path)))
    by_sub wrong p later = tt
    by_sub (files fs k) p later = after_right (length t) fs (files_from (files_below l t) n t k path) p (later k)

    by_token : (x : Option Token) → TokenIn at (length t) x → Later → AllRight (length t) (listed (on_token (files_below l t) (λ k. files_from (files_below l t) n t k path) at path x))
    by_token None p later = tt
    by_token (Some Closed) p later = tt
    by_token (Some (Opened a b)) p later = let q = p.1 in by_sub (files_below l t (b + 1) (down path a b)) (below (b + 1) (down path a b) (deeper a b p.2 (omega arith))) later
    by_token (Some (Leaf a b m r k)) p later =
        let d = deeper a b p.4 p.5 in
        let few = d.1 in
        after_right (length t) (listed_as m r (down path a b) ∷ []) (files_from (files_below l t) n t k path)
        (record { root_within = λ z. (p.2 z).1; small = p.3; few = omega arith; path_within = d.0 }, tt) (later k)

below_right : (l : ℕ) (t : List ℕ) (at : ℕ) (path : List Element) → Fits (length t) path l → AllRight (length t) (listed (files_below l t at path))
unfolding files_below listed
below_right zero t at path w = tt
below_right (suc l) t at path w = from_right l t (below_right l t) (suc (length t)) at path w

-- so it is of every file
pub files_right : (t : List ℕ) → AllRight (length t) (listed (files_in t))
unfolding files_in listed
files_right t = by_end (ends_here (drop 1 t))
  where
    by_end : (b : Bool) → AllRight (length t) (listed (cond b wrong (files_below max_elements t 1 [])))
    by_end true = tt
    by_end false = below_right max_elements t 1 [] (tt, omega arith)

-- ---- a file by its number

pub number_right : (end : ℕ) (fs : List Listed) (n : ℕ) → AllRight end fs → n < length fs → FileRight end (file_number fs n)
unfolding file_number
number_right end [] n p h = absurd (omega arith)
number_right end (f ∷ fs) zero p h = p.0
number_right end (f ∷ fs) (suc n) p h = number_right end fs n p.1 (omega arith)

-- the file behind those before it
pub number_behind : (before rest : List Listed) (n : ℕ) → file_number (before ++ rest) (length before + n) ≡ file_number rest n
unfolding file_number
number_behind [] rest n = let e : 0 + n ≡ n = omega arith in rw e refl
number_behind (x ∷ before) rest n = let e : length (x ∷ before) + n ≡ suc (length before + n) = omega arith in rw e (number_behind before rest n)

-- one of those before others
pub number_before : (before rest : List Listed) (n : ℕ) → n < length before → file_number (before ++ rest) n ≡ file_number before n
unfolding file_number
number_before [] rest n h = absurd (omega arith)
number_before (x ∷ before) rest zero h = refl
number_before (x ∷ before) rest (suc n) h = number_before before rest n (omega arith)

-- ---- the roots

pub roots_right : (end : ℕ) (fs : List Listed) → AllRight end fs → (i : ℕ) → i < length (roots_of fs) → get_or (roots_of fs) i 0 + 32 ≤ end
unfolding roots_of
roots_right end [] p i h = absurd (omega arith)
roots_right end (f ∷ fs) p i h = by_size (eqb f.size 0) refl i h (roots_right end fs p.1)
  where
    by_size : (b : Bool) → eqb f.size 0 ≡ b → (i : ℕ) → i < length (cond b (roots_of fs) (f.root ∷ roots_of fs)) → ((j : ℕ) → j < length (roots_of fs) → get_or (roots_of fs) j 0 + 32 ≤ end)
        → get_or (cond b (roots_of fs) (f.root ∷ roots_of fs)) i 0 + 32 ≤ end
    by_size true q i h later = later i h
    by_size false q zero h later = p.0.root_within (eqb-false f.size 0 q)
    by_size false q (suc i) h later = later i (omega arith)
