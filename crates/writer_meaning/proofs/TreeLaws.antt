-- The tree that is written of files in tree order is right, and has these files.
-- Assumes nothing.
use Rattle.std.specs.Prelude.{◌≡◌, Bool, false, ◌&&◌, ◌⊎◌, ℕ, List, [], ◌∷◌, ◌++◌, map}
use Rattle.std.proofs.Math.Path.{refl, sym, ap}
use Rattle.std.proofs.Common.{◌∙◌, append_assoc, append-nil}
use Rattle.std.proofs.Math.Bool.{true}
use Rattle.std.proofs.lemmas.Bool.{false≢true}
use Rattle.std.proofs.Math.Logic.{inl, inr}
use Rattle.octets.specs.OctetsLaws.{same_refl}
use Rattle.bencode.specs.Grammar.{Value, dictionary, Entries, no_entries, entry}
use Rattle.bencode.specs.Parts.{present}
use Rattle.meaning.specs.Counting.{Member}
use Rattle.meaning.specs.Torrent.{element_right, file_right, node_right, branch_right, nodes_right, File, file_value, files_of_node, files_of_entries, entries_of}
use Rattle.writer_meaning.specs.Content.{Item, grown, tree_of_all, properties}
use Rattle.writer_meaning.specs.Number.{begins}
use Rattle.writer_meaning.proofs.WrittenLaws.{Enters, fresh, joined, FirstNode, first_node}

unfoldable pub AllRight : List (List ℕ) → Type 0
AllRight [] = Unit {0}
AllRight (e ∷ p) = (element_right e ≡ true) × AllRight p

-- the tree's first file has the path q
unfoldable pub Leads : List (List ℕ) → Entries → Type 0
Leads [] es = (v : Value) × (rest : Entries) × (es ≡ entry [] v rest)
Leads (f ∷ q) es = (ds : Entries) × (rest : Entries) × (es ≡ entry f (dictionary ds) rest) × Leads q ds

pub grown_leads : (q : List (List ℕ)) (v : Value) (es : Entries) → Leads q (grown q v es)
unfolding Leads grown
grown_leads [] v es = (v, es, refl)
grown_leads (f ∷ q) v es = let n = first_node f q v es in (grown q v n.below, n.beside, n.tree_is, grown_leads q v n.below)

-- a file with path p finds no other on its way: the tree is empty, or its first file stands elsewhere
abbrev pub Free : List (List ℕ) → Entries → Type 0
Free p es = (es ≡ no_entries) ⊎ ((q : List (List ℕ)) × Leads q es × AllRight q × (begins p q ≡ false) × (begins q p ≡ false))

-- a path element is not empty
files_first : (e : List ℕ) (v : Value) (es : Entries) (pre : List (List ℕ)) → element_right e ≡ true → files_of_entries pre (entry e v es) ≡ files_of_node (pre ++ e ∷ []) v ++ files_of_entries pre es
unfolding element_right files_of_entries
files_first [] v es pre r = absurd (false≢true r)
files_first (c ∷ cs) v es pre r = refl

branch_first : (e : List ℕ) (v : Value) (es : Entries) → element_right e ≡ true → nodes_right (entry e v es) ≡ true → branch_right (entry e v es) ≡ true
unfolding element_right branch_right nodes_right
branch_first [] v es r h = absurd (false≢true r)
branch_first (c ∷ cs) v es r h = h

pub nodes_first : (e : List ℕ) (v : Value) (es : Entries) → element_right e ≡ true → node_right v ≡ true → nodes_right es ≡ true → nodes_right (entry e v es) ≡ true
unfolding nodes_right
nodes_first e v es r h g = rw (r, h, g) refl

nodes_of : (e : List ℕ) (v : Value) (es : Entries) → nodes_right (entry e v es) ≡ true → (node_right v ≡ true) × (nodes_right es ≡ true)
unfolding nodes_right
nodes_of e v es h = three (element_right e) (node_right v) (nodes_right es) h
  where
    three : (a b c : Bool) → a && (b && c) ≡ true → (b ≡ true) × (c ≡ true)
    three true true c q = (refl, q)
    three false b c q = absurd (false≢true q)
    three true false c q = absurd (false≢true q)

-- a node with files below it
branch_grown : (e : List ℕ) (p : List (List ℕ)) (v : Value) (es : Entries) → element_right e ≡ true → nodes_right (grown (e ∷ p) v es) ≡ true → branch_right (grown (e ∷ p) v es) ≡ true
branch_grown e p v es r h =
    let n = first_node e p v es in
    let t : nodes_right (entry e (dictionary (grown p v n.below)) n.beside) ≡ true = ap nodes_right (sym n.tree_is) ∙ h in
    ap branch_right n.tree_is ∙ branch_first e (dictionary (grown p v n.below)) n.beside r t

-- with the file put first the tree is right, and has it before its other files
abbrev pub Grew : List (List ℕ) → List (List ℕ) → Value → Entries → Type 0
Grew pre p v es = (nodes_right (grown p v es) ≡ true) × (files_of_entries pre (grown p v es) ≡ file_value (pre ++ p) (entries_of (present v)) ∷ files_of_entries pre es)

-- the node that the file goes into, as one whose path is behind it
abbrev Below : List (List ℕ) → List (List ℕ) → Value → Entries → Type 0
Below pre p v ds = (branch_right (grown p v ds) ≡ true) × (files_of_entries pre (grown p v ds) ≡ file_value (pre ++ p) (entries_of (present v)) ∷ files_of_entries pre ds)

-- what holds below the first node, holds with it
grew_node : (pre : List (List ℕ)) (e : List ℕ) (p : List (List ℕ)) (v : Value) (es : Entries) (n : FirstNode e p v es) → element_right e ≡ true → nodes_right n.beside ≡ true
    → Below (pre ++ e ∷ []) p v n.below
    → (nodes_right (grown (e ∷ p) v es) ≡ true) × (files_of_entries pre (grown (e ∷ p) v es) ≡ file_value (pre ++ e ∷ p) (entries_of (present v)) ∷ (files_of_entries (pre ++ e ∷ []) n.below ++ files_of_entries pre n.beside))
grew_node pre e p v es n r h b = (right, files)
  where
    node : Value
    node = dictionary (grown p v n.below)

    node_right_lem : node_right node ≡ true
    node_right_lem = unfold node_right in b.0

    right : nodes_right (grown (e ∷ p) v es) ≡ true
    right = ap nodes_right n.tree_is ∙ nodes_first e node n.beside r node_right_lem h

    inside : files_of_node (pre ++ e ∷ []) node ≡ file_value (pre ++ e ∷ p) (entries_of (present v)) ∷ files_of_entries (pre ++ e ∷ []) n.below
    inside = unfold files_of_node in (b.1 ∙ ap (λ (l : List (List ℕ)). file_value l (entries_of (present v)) ∷ files_of_entries (pre ++ e ∷ []) n.below) (append_assoc pre (e ∷ []) p))

    files : files_of_entries pre (grown (e ∷ p) v es) ≡ file_value (pre ++ e ∷ p) (entries_of (present v)) ∷ (files_of_entries (pre ++ e ∷ []) n.below ++ files_of_entries pre n.beside)
    files = ap (files_of_entries pre) n.tree_is ∙ files_first e node n.beside pre r ∙ ap (λ (l : List File). l ++ files_of_entries pre n.beside) inside

-- ---- the file goes in

abbrev pub first_key : Entries → List ℕ
first_key no_entries = []
first_key (entry k v es) = k

abbrev pub below_first : Entries → Entries
below_first no_entries = no_entries
below_first (entry k v es) = entries_of (present v)

abbrev pub is_empty : Entries → Bool
is_empty no_entries = true
is_empty (entry k v es) = false

-- below a node that the path goes through, the rest of the path is as free
abbrev FreeBelow : List (List ℕ) → Entries → Type 0
FreeBelow p ds = (s : List (List ℕ)) × Leads s ds × AllRight s × (begins p s ≡ false) × (begins s p ≡ false)

pub free_below : (e : List ℕ) (p : List (List ℕ)) (ds rest : Entries) → Free (e ∷ p) (entry e (dictionary ds) rest) → FreeBelow p ds
free_below e p ds rest (inl q) = absurd (false≢true (ap is_empty q))
free_below e p ds rest (inr w) = by_path_lem w.0 w.1 w.2 w.3 w.4
  where
    by_path_lem : (q : List (List ℕ)) → Leads q (entry e (dictionary ds) rest) → AllRight q → begins (e ∷ p) q ≡ false → begins q (e ∷ p) ≡ false → FreeBelow p ds
    by_path_lem [] l a b d = absurd (false≢true (sym d ∙ first))
      where
        first : begins [] (e ∷ p) ≡ true
        first = unfold begins in refl
    by_path_lem (g ∷ s) l a b d = by_node (unfold Leads in l) (unfold AllRight in a)
      where
        by_node : ((es : Entries) × (more : Entries) × (entry e (dictionary ds) rest ≡ entry g (dictionary es) more) × Leads s es) → ((element_right g ≡ true) × AllRight s) → FreeBelow p ds
        by_node m c = (s, rw (sym (ap below_first m.2)) at m.3, c.1, inner p s e g k b, inner s p g e (sym k) d)
          where
            k : e ≡ g
            k = ap first_key m.2

            inner : (x y : List (List ℕ)) (u w : List ℕ) → u ≡ w → begins (u ∷ x) (w ∷ y) ≡ false → begins x y ≡ false
            inner x y u w z n = let t : begins (u ∷ x) (w ∷ y) ≡ begins x y = unfold begins in rw (z, same_refl w) refl in sym t ∙ n

-- below it are nodes, if its first file is further below
nodes_below : (s : List (List ℕ)) (f : List ℕ) (p : List (List ℕ)) (ds : Entries) → Leads s ds → AllRight s → begins s (f ∷ p) ≡ false → branch_right ds ≡ true → nodes_right ds ≡ true
nodes_below [] f p ds l a d b = absurd (false≢true (sym d ∙ first))
  where
    first : begins [] (f ∷ p) ≡ true
    first = unfold begins in refl
nodes_below (k ∷ s) f p ds l a d b = by_node (unfold Leads in l) (unfold AllRight in a)
  where
    same_there : (x : List ℕ) (v : Value) (es : Entries) → element_right x ≡ true → branch_right (entry x v es) ≡ nodes_right (entry x v es)
    same_there [] v es r = absurd (false≢true (unfold element_right in r))
    same_there (c ∷ cs) v es r = unfold branch_right in refl

    by_node : ((es : Entries) × (more : Entries) × (ds ≡ entry k (dictionary es) more) × Leads s es) → ((element_right k ≡ true) × AllRight s) → nodes_right ds ≡ true
    by_node m c = ap nodes_right m.2 ∙ sym (same_there k (dictionary m.0) m.1 c.0) ∙ ap branch_right (sym m.2) ∙ b

-- what the file's first node needs: the nodes beside it, the file below it, and the files of both
abbrev Step : List (List ℕ) → List ℕ → List (List ℕ) → Value → Entries → Entries → Entries → Type 0
Step pre e p v es below beside =
    (nodes_right beside ≡ true) × Below (pre ++ e ∷ []) p v below × (files_of_entries pre es ≡ files_of_entries (pre ++ e ∷ []) below ++ files_of_entries pre beside)

-- a path of one element
step_last : (pre : List (List ℕ)) (e : List ℕ) (v : Value) (es below beside : Entries) → Enters e es below beside → file_right v ≡ true → nodes_right es ≡ true → Free (e ∷ []) es
    → Step pre e [] v es below beside
step_last pre e v es below beside (fresh _ _) f h free = (h, (right, files), unfold files_of_entries in refl)
  where
    right : branch_right (grown [] v no_entries) ≡ true
    right = unfold grown in unfold branch_right in f

    files : files_of_entries (pre ++ e ∷ []) (grown [] v no_entries) ≡ file_value ((pre ++ e ∷ []) ++ []) (entries_of (present v)) ∷ files_of_entries (pre ++ e ∷ []) no_entries
    files = unfold grown in unfold files_of_entries in ap (λ (l : List (List ℕ)). file_value l (entries_of (present v)) ∷ []) (sym (append-nil (pre ++ e ∷ [])))
step_last pre e v es below beside (joined ds rest) f h free = absurd (false≢true (sym w.3 ∙ first w.0))
  where
    w : FreeBelow [] ds
    w = free_below e [] ds rest free

    first : (s : List (List ℕ)) → begins [] s ≡ true
    first s = unfold begins in refl

-- a longer one, where the rest of the path grows
step_more : (pre : List (List ℕ)) (e f : List ℕ) (p : List (List ℕ)) (v : Value) (es below beside : Entries) → Enters e es below beside → element_right e ≡ true → element_right f ≡ true → nodes_right es ≡ true → Free (e ∷ f ∷ p) es
    → ((ds : Entries) → nodes_right ds ≡ true → Free (f ∷ p) ds → Grew (pre ++ e ∷ []) (f ∷ p) v ds) → Step pre e (f ∷ p) v es below beside
step_more pre e f p v es below beside (fresh _ _) r q h free more = (h, (branch_grown f p v no_entries q g.0, g.1), unfold files_of_entries in refl)
  where
    none_right : nodes_right no_entries ≡ true
    none_right = unfold nodes_right in refl

    g : Grew (pre ++ e ∷ []) (f ∷ p) v no_entries
    g = more no_entries none_right (inl refl)
step_more pre e f p v es below beside (joined ds rest) r q h free more = (b.1, (branch_grown f p v ds q g.0, g.1), files)
  where
    b : (node_right (dictionary ds) ≡ true) × (nodes_right rest ≡ true)
    b = nodes_of e (dictionary ds) rest h

    is_branch : (xs : Entries) → node_right (dictionary xs) ≡ true → branch_right xs ≡ true
    is_branch xs n = unfold node_right in n

    w : FreeBelow (f ∷ p) ds
    w = free_below e (f ∷ p) ds rest free

    g : Grew (pre ++ e ∷ []) (f ∷ p) v ds
    g = more ds (nodes_below w.0 f p ds w.1 w.2 w.4 (is_branch ds b.0)) (inr w)

    files : files_of_entries pre (entry e (dictionary ds) rest) ≡ files_of_entries (pre ++ e ∷ []) ds ++ files_of_entries pre rest
    files = files_first e (dictionary ds) rest pre r ∙ of_node (pre ++ e ∷ []) ds (files_of_entries pre rest)
      where
        of_node : (q : List (List ℕ)) (xs : Entries) (more : List File) → files_of_node q (dictionary xs) ++ more ≡ files_of_entries q xs ++ more
        of_node q xs more = unfold files_of_node in refl

grew_step : (pre : List (List ℕ)) (e : List ℕ) (p : List (List ℕ)) (v : Value) (es : Entries) (n : FirstNode e p v es) → element_right e ≡ true → Step pre e p v es n.below n.beside → Grew pre (e ∷ p) v es
grew_step pre e p v es n r s =
    let g = grew_node pre e p v es n r s.0 s.1 in
    (g.0, g.1 ∙ ap (λ (l : List File). file_value (pre ++ e ∷ p) (entries_of (present v)) ∷ l) (sym s.2))

pub grew : (pre : List (List ℕ)) (e : List ℕ) (p : List (List ℕ)) (v : Value) (es : Entries) → nodes_right es ≡ true → file_right v ≡ true → AllRight (e ∷ p) → Free (e ∷ p) es → Grew pre (e ∷ p) v es
unfolding AllRight
grew pre e [] v es h f r free =
    let n = first_node e [] v es in
    grew_step pre e [] v es n r.0 (step_last pre e v es n.below n.beside n.placed f h free)
grew pre e (g ∷ p) v es h f r free =
    let n = first_node e (g ∷ p) v es in
    grew_step pre e (g ∷ p) v es n r.0 (step_more pre e g p v es n.below n.beside n.placed r.0 r.1.0 h free (λ ds d q. grew (pre ++ e ∷ []) g p v ds d f r.1 q))

-- ---- all files

unfoldable pub PathRight : List (List ℕ) → Type 0
PathRight [] = ⊥
PathRight (e ∷ p) = AllRight (e ∷ p)

-- a file as it can be written
pub record ItemRight (x : Item) : Type 0 where
  pub path_right : PathRight x.path
  pub file_right_lem : file_right (properties x) ≡ true

-- no file's path leads to, or through, the next one's
unfoldable pub ApartFrom : List (List ℕ) → List Item → Type 0
ApartFrom p [] = Unit {0}
ApartFrom p (y ∷ ys) = (begins p y.path ≡ false) × (begins y.path p ≡ false) × ApartFrom y.path ys

unfoldable pub Apart : List Item → Type 0
Apart [] = Unit {0}
Apart (x ∷ xs) = ApartFrom x.path xs

abbrev pub file_written : Item → File
file_written x = file_value x.path (entries_of (present (properties x)))

pub path_all : (p : List (List ℕ)) → PathRight p → AllRight p
path_all [] r = absurd (unfold PathRight in r)
path_all (e ∷ p) r = unfold PathRight in r

-- the rest of the files leaves the first one's path free
rest_free : (p : List (List ℕ)) (xs : List Item) → ApartFrom p xs → ((x : Item) → Member x xs → ItemRight x) → Free p (tree_of_all xs)
unfolding ApartFrom Member tree_of_all
rest_free p [] a r = inl refl
rest_free p (y ∷ ys) a r = inr (y.path, grown_leads y.path (properties y) (tree_of_all ys), path_all y.path (r y (inl refl)).path_right, a.0, a.1)

apart_rest : (x : Item) (xs : List Item) → Apart (x ∷ xs) → Apart xs
unfolding Apart ApartFrom
apart_rest x [] a = tt
apart_rest x (y ∷ ys) a = a.2

grew_path : (p : List (List ℕ)) (v : Value) (es : Entries) → nodes_right es ≡ true → file_right v ≡ true → PathRight p → Free p es → Grew [] p v es
grew_path [] v es h f r free = absurd (unfold PathRight in r)
grew_path (e ∷ p) v es h f r free = grew [] e p v es h f (unfold PathRight in r) free

pub tree_grew : (xs : List Item) → Apart xs → ((x : Item) → Member x xs → ItemRight x) → (nodes_right (tree_of_all xs) ≡ true) × (files_of_entries [] (tree_of_all xs) ≡ map file_written xs)
unfolding tree_of_all
tree_grew [] a r = (unfold nodes_right in refl, unfold files_of_entries in refl)
tree_grew (x ∷ xs) a r =
    let more = tree_grew xs (apart_rest x xs a) (λ y m. r y (unfold Member in inr m)) in
    let i = r x (unfold Member in inl refl) in
    let free = rest_free x.path xs (unfold Apart in a) (λ y m. r y (unfold Member in inr m)) in
    let g = grew_path x.path (properties x) (tree_of_all xs) more.0 i.file_right_lem i.path_right free in
    (g.0, g.1 ∙ ap (λ (l : List File). file_written x ∷ l) more.1)
