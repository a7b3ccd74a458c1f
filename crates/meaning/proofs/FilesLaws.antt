-- What holds of each file of a right tree: its length, its root, its path.
-- Assumes nothing.
use Rattle.std.specs.Prelude.{◌≡◌, refl, Bool, true, false, ◌&&◌, List, [], ◌∷◌, ◌++◌, ℕ, zero, suc, ◌+◌, ◌-◌, ◌≤◌, ◌<◌, length}
use Rattle.std.proofs.lemmas.Bool.{false≢true}
use Rattle.std.proofs.Common.{arith, length-append}
use Rattle.limits.specs.Limits.{longest_file, max_levels}
use Rattle.bencode.specs.Grammar.{Value, integer, string, list, dictionary, Entries, no_entries, entry, KeyBefore, none, after, Valid, EntriesValid}
use Rattle.bencode.specs.Parts.{present}
use Rattle.meaning.specs.Torrent.{entries_of, file_right, no_more, element_right, node_right, branch_right, nodes_right, tree_right, File, file_value, files_of_node, files_of_entries}
use Rattle.meaning.specs.Amiss.{RightFile, empty, full}
use Rattle.meaning.specs.Nth.{Nth}
use Rattle.meaning.proofs.TestsLaws.{three_true, file_yes}

-- each is a path element
unfoldable pub ElementsRight : List (List ℕ) → Type 0
ElementsRight [] = Unit {0}
ElementsRight (x ∷ xs) = (element_right x ≡ true) × ElementsRight xs

-- a file of a tree that is nested to at most two levels fewer than a torrent
pub record FileHolds (v : File) : Type 0 where
  pub small : v.size ≤ longest_file
  pub wide : (v.size ≡ 0 → ⊥) → length v.root ≡ 32
  pub elements : ElementsRight v.path
  pub some_element : 0 < length v.path
  pub shallow : length v.path ≤ max_levels - 4

unfoldable pub AllHold : List File → Type 0
AllHold [] = Unit {0}
AllHold (v ∷ vs) = FileHolds v × AllHold vs

-- so it holds of file n
pub nth_holds : (vs : List File) (n : ℕ) (v : File) → AllHold vs → Nth vs n v → FileHolds v
unfolding AllHold Nth
nth_holds [] n v a e = absurd e
nth_holds (w ∷ vs) zero v a e = rw e a.0
nth_holds (w ∷ vs) (suc n) v a e = nth_holds vs n v a.1 e

-- and of element k of its path
pub nth_right : (xs : List (List ℕ)) (k : ℕ) (x : List ℕ) → ElementsRight xs → Nth xs k x → element_right x ≡ true
unfolding ElementsRight Nth
nth_right [] k x a e = absurd e
nth_right (y ∷ ys) zero x a e = rw e a.0
nth_right (y ∷ ys) (suc k) x a e = nth_right ys k x a.1 e

-- a path element is not empty
pub element_full : (x : List ℕ) → element_right x ≡ true → 0 < length x
unfolding element_right
element_full [] e = absurd (false≢true e)
element_full (c ∷ cs) e = omega arith

-- ---- from the top down

hold_append : (us vs : List File) → AllHold us → AllHold vs → AllHold (us ++ vs)
unfolding AllHold
hold_append [] vs a b = b
hold_append (u ∷ us) vs a b = (a.0, hold_append us vs a.1 b)

-- one element more
right_more : (path : List (List ℕ)) (k : List ℕ) → ElementsRight path → element_right k ≡ true → ElementsRight (path ++ (k ∷ []))
unfolding ElementsRight
right_more [] k a e = (e, tt)
right_more (x ∷ path) k a e = (a.0, right_more path k a.1 e)

-- a file, whose dictionary takes a level
file_holds : (path : List (List ℕ)) (w : Value) (l : ℕ) → ElementsRight path → 0 < length path → length path + l ≤ max_levels - 3 → Valid w l → file_right w ≡ true → AllHold (file_value path (entries_of (present w)) ∷ [])
unfolding AllHold
file_holds path w l a o s h e = (by_file w l s h (file_yes w e), tt)
  where
    level : (es : Entries) (l : ℕ) → length path + l ≤ max_levels - 3 → Valid (dictionary es) l → length path ≤ max_levels - 4
    level es zero s h = unfold Valid in absurd h
    level es (suc l) s h = omega arith

    by_file : (w : Value) (l : ℕ) → length path + l ≤ max_levels - 3 → Valid w l → RightFile w → FileHolds (file_value path (entries_of (present w)))
    by_file w l s h (empty es z r) = record { small = rw z (omega arith); wide = λ n. absurd (n (rw z refl)); elements = a; some_element = o; shallow = level es l s h }
    by_file w l s h (full es n root z above below r size) = record { small = rw z below; wide = λ m. rw r size; elements = a; some_element = o; shallow = level es l s h }

-- both tests of a file
second_true : (a b : Bool) → a && b ≡ true → b ≡ true
second_true true b e = e
second_true false b e = absurd (false≢true e)

mutual
  unfolding node_right branch_right nodes_right element_right files_of_node files_of_entries AllHold Valid

  -- a node, whose path has one element more
  node_holds : (v : Value) (path : List (List ℕ)) (l : ℕ) → ElementsRight path → 0 < length path → length path + l ≤ max_levels - 2 → Valid v l → node_right v ≡ true → AllHold (files_of_node path v)
  node_holds (integer minus n) path l a o s h e = absurd (false≢true e)
  node_holds (string b) path l a o s h e = absurd (false≢true e)
  node_holds (list vs) path l a o s h e = absurd (false≢true e)
  node_holds (dictionary es) path zero a o s h e = absurd h
  node_holds (dictionary es) path (suc l) a o s h e = branch_holds es path l a o (omega arith) none h e

  branch_holds : (es : Entries) (path : List (List ℕ)) (l : ℕ) → ElementsRight path → 0 < length path → length path + l ≤ max_levels - 3 → (j : KeyBefore) → EntriesValid es j l → branch_right es ≡ true → AllHold (files_of_entries path es)
  branch_holds no_entries path l a o s j h e = tt
  branch_holds (entry [] v es) path l a o s j h e = file_holds path v l a o s h.1 (second_true (no_more es) (file_right v) e)
  branch_holds (entry (c ∷ cs) v es) path l a o s j h e =
      let p = three_true (element_right (c ∷ cs)) (node_right v) (nodes_right es) e in
      let deeper = path ++ ((c ∷ cs) ∷ []) in
      hold_append (files_of_node deeper v) (files_of_entries path es) (node_holds v deeper l (right_more path (c ∷ cs) a p.0) (omega (arith, length-append path ((c ∷ cs) ∷ []))) (omega (arith, length-append path ((c ∷ cs) ∷ []))) h.1 p.1)
      (nodes_hold es path l a s (after (c ∷ cs)) h.2 p.2)

  nodes_hold : (es : Entries) (path : List (List ℕ)) (l : ℕ) → ElementsRight path → length path + l ≤ max_levels - 3 → (j : KeyBefore) → EntriesValid es j l → nodes_right es ≡ true → AllHold (files_of_entries path es)
  nodes_hold no_entries path l a s j h e = tt
  nodes_hold (entry [] v es) path l a s j h e = absurd (false≢true e)
  nodes_hold (entry (c ∷ cs) v es) path l a s j h e =
      let p = three_true (element_right (c ∷ cs)) (node_right v) (nodes_right es) e in
      let deeper = path ++ ((c ∷ cs) ∷ []) in
      hold_append (files_of_node deeper v) (files_of_entries path es) (node_holds v deeper l (right_more path (c ∷ cs) a p.0) (omega (arith, length-append path ((c ∷ cs) ∷ []))) (omega (arith, length-append path ((c ∷ cs) ∷ []))) h.1 p.1)
      (nodes_hold es path l a s (after (c ∷ cs)) h.2 p.2)

-- each file of a right tree
pub files_hold : (es : Entries) → Valid (dictionary es) (max_levels - 2) → tree_right es ≡ true → AllHold (files_of_entries [] es)
unfolding tree_right Valid
files_hold no_entries h e = absurd (false≢true e)
files_hold (entry k v es) h e = nodes_hold (entry k v es) [] (max_levels - 3) (unfold ElementsRight in tt) (omega arith) none h e
