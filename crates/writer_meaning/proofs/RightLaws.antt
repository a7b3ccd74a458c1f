-- Only the tree of files that can be written is right: each path's elements are, each file is, and no path leads to, or through, where
-- the next one ends.
-- Assumes nothing.
use Rattle.std.specs.Prelude.{◌≡◌, Bool, false, ◌&&◌, ◌⊎◌, ℕ, List, [], ◌∷◌}
use Rattle.std.proofs.Math.Path.{refl, ap}
use Rattle.std.proofs.Common.{sym, ◌∙◌, inl, inr}
use Rattle.std.proofs.Math.Bool.{true, false≢true, and-eq-true_iff}
use Rattle.octets.specs.Octets.{same}
use Rattle.octets.specs.OctetsLaws.{same_refl, same_ne, same_false}
use Rattle.bencode.specs.Grammar.{Value, dictionary, Entries, no_entries, entry}
use Rattle.meaning.specs.Counting.{Member}
use Rattle.meaning.specs.Torrent.{element_right, file_right, node_right, branch_right, nodes_right, no_more}
use Rattle.meaning.proofs.TestsLaws.{three_true}
use Rattle.writer_meaning.specs.Content.{Item, grown, tree_of_all, properties}
use Rattle.writer_meaning.specs.Number.{begins}
use Rattle.writer_meaning.proofs.WrittenLaws.{node_first, Enters, fresh, joined, FirstNode, first_node}
use Rattle.writer_meaning.proofs.TreeLaws.{first_key, below_first, is_empty, AllRight, Leads, grown_leads, Apart, ApartFrom, nodes_first}
use Rattle.writer_meaning.proofs.ValidLaws.{AllFull}

-- the tree is empty, or its first file has a path of full elements
abbrev pub Begun : Entries → Type 0
Begun es = (es ≡ no_entries) ⊎ ((q : List (List ℕ)) × Leads q es × AllFull q)

-- the first file of the tree stands elsewhere
abbrev pub Elsewhere : List (List ℕ) → Entries → Type 0
Elsewhere p es = (q : List (List ℕ)) → Leads q es → AllFull q → (begins p q ≡ false) × (begins q p ≡ false)

pub record Was (p : List (List ℕ)) (v : Value) (es : Entries) : Type 0 where
  pub rest_right : nodes_right es ≡ true
  pub elements : AllRight p
  pub file_right_lem : file_right v ≡ true
  pub elsewhere : Elsewhere p es

-- ---- names of full elements

node_branch : (e : List ℕ) (v : Value) (es : Entries) → (e ≡ [] → ⊥) → branch_right (entry e v es) ≡ nodes_right (entry e v es)
unfolding branch_right
node_branch [] v es f = absurd (f refl)
node_branch (c ∷ cs) v es f = refl

no_empty : (v : Value) (es : Entries) → nodes_right (entry [] v es) ≡ true → ⊥
unfolding nodes_right element_right
no_empty v es h = false≢true h

leads_some : (q : List (List ℕ)) → Leads q no_entries → ⊥
leads_some [] l = by_node (unfold Leads in l)
  where
    by_node : ((v : Value) × (rest : Entries) × (no_entries ≡ entry [] v rest)) → ⊥
    by_node n = false≢true (sym (ap is_empty n.2))
leads_some (f ∷ q) l = by_node (unfold Leads in l)
  where
    by_node : ((ds : Entries) × (rest : Entries) × (no_entries ≡ entry f (dictionary ds) rest) × Leads q ds) → ⊥
    by_node n = false≢true (sym (ap is_empty n.2))

-- a right tree's first path is not empty
leads_name : (q : List (List ℕ)) (es : Entries) → Leads q es → nodes_right es ≡ true → (g : List ℕ) × (s : List (List ℕ)) × (q ≡ g ∷ s)
leads_name [] es l h = by_node (unfold Leads in l)
  where
    by_node : ((v : Value) × (rest : Entries) × (es ≡ entry [] v rest)) → (g : List ℕ) × (s : List (List ℕ)) × ([] ≡ g ∷ s)
    by_node n = absurd (no_empty n.0 n.1 (rw n.2 at h))
leads_name (g ∷ s) es l h = (g, s, refl)

-- where a path's first name is another, neither leads through the other
other_name : (e g : List ℕ) (p s : List (List ℕ)) → same e g ≡ false → (begins (e ∷ p) (g ∷ s) ≡ false) × (begins (g ∷ s) (e ∷ p) ≡ false)
unfolding begins
other_name e g p s d = (rw d refl, rw (same_ne g e (λ z. same_false e g d (sym z))) refl)

same_name : (e : List ℕ) (p s : List (List ℕ)) → (begins p s ≡ false) × (begins s p ≡ false) → (begins (e ∷ p) (e ∷ s) ≡ false) × (begins (e ∷ s) (e ∷ p) ≡ false)
unfolding begins
same_name e p s b = (rw (same_refl e) b.0, rw (same_refl e) b.1)

-- ---- the file went before all others, or into the first node

elsewhere_fresh : (e : List ℕ) (p : List (List ℕ)) (es : Entries) → node_first e es ≡ false → nodes_right es ≡ true → Elsewhere (e ∷ p) es
elsewhere_fresh e p es d h [] l a = absurd (empty_name (leads_name [] es l h))
  where
    empty_name : ((g : List ℕ) × (s : List (List ℕ)) × ([] ≡ g ∷ s)) → ⊥
    empty_name w = false≢true (sym (ap no_path w.2))
      where
        no_path : List (List ℕ) → Bool
        no_path [] = true
        no_path (x ∷ xs) = false
elsewhere_fresh e p es d h (g ∷ s) l a = by_node (unfold Leads in l)
  where
    by_node : ((ds : Entries) × (rest : Entries) × (es ≡ entry g (dictionary ds) rest) × Leads s ds) → (begins (e ∷ p) (g ∷ s) ≡ false) × (begins (g ∷ s) (e ∷ p) ≡ false)
    by_node n = other_name e g p s (ap (node_first e) (sym n.2) ∙ d)

elsewhere_joined : (e : List ℕ) (p : List (List ℕ)) (ds rest : Entries) → (e ≡ [] → ⊥) → Elsewhere p ds → Elsewhere (e ∷ p) (entry e (dictionary ds) rest)
elsewhere_joined e p ds rest f w [] l a = absurd (by_node (unfold Leads in l))
  where
    by_node : ((v : Value) × (more : Entries) × (entry e (dictionary ds) rest ≡ entry [] v more)) → ⊥
    by_node n = f (ap first_key n.2)
elsewhere_joined e p ds rest f w (g ∷ s) l a = by_node (unfold Leads in l) (unfold AllFull in a)
  where
    by_node : ((es : Entries) × (more : Entries) × (entry e (dictionary ds) rest ≡ entry g (dictionary es) more) × Leads s es) → ((g ≡ [] → ⊥) × AllFull s) → (begins (e ∷ p) (g ∷ s) ≡ false) × (begins (g ∷ s) (e ∷ p) ≡ false)
    by_node n c = rw (sym (ap first_key n.2)) (same_name e p s (w s (rw (sym (ap below_first n.2)) at n.3) c.1))

begun_below : (e : List ℕ) (ds rest : Entries) → (e ≡ [] → ⊥) → Begun (entry e (dictionary ds) rest) → (s : List (List ℕ)) × Leads s ds × AllFull s
begun_below e ds rest f (inl q) = absurd (false≢true (ap is_empty q))
begun_below e ds rest f (inr w) = by_path_lem w.0 w.1 w.2
  where
    by_path_lem : (q : List (List ℕ)) → Leads q (entry e (dictionary ds) rest) → AllFull q → (s : List (List ℕ)) × Leads s ds × AllFull s
    by_path_lem [] l a = absurd (by_node (unfold Leads in l))
      where
        by_node : ((v : Value) × (more : Entries) × (entry e (dictionary ds) rest ≡ entry [] v more)) → ⊥
        by_node n = f (ap first_key n.2)
    by_path_lem (g ∷ s) l a = by_node (unfold Leads in l) (unfold AllFull in a)
      where
        by_node : ((es : Entries) × (more : Entries) × (entry e (dictionary ds) rest ≡ entry g (dictionary es) more) × Leads s es) → ((g ≡ [] → ⊥) × AllFull s) → (s : List (List ℕ)) × Leads s ds × AllFull s
        by_node n c = (s, rw (sym (ap below_first n.2)) at n.3, c.1)

-- a node whose nodes are right is right
branch_of_nodes : (s : List (List ℕ)) (ds : Entries) → Leads s ds → AllFull s → nodes_right ds ≡ true → branch_right ds ≡ true
branch_of_nodes s ds l a h = by_name (leads_name s ds l h)
  where
    by_name : ((g : List ℕ) × (r : List (List ℕ)) × (s ≡ g ∷ r)) → branch_right ds ≡ true
    by_name w = by_node (unfold Leads in (rw w.2 at l)) (unfold AllFull in (rw w.2 at a))
      where
        by_node : ((es : Entries) × (more : Entries) × (ds ≡ entry w.0 (dictionary es) more) × Leads w.1 es) → ((w.0 ≡ [] → ⊥) × AllFull w.1) → branch_right ds ≡ true
        by_node n c = ap branch_right n.2 ∙ node_branch w.0 (dictionary n.0) n.1 c.0 ∙ ap nodes_right (sym n.2) ∙ h

-- ---- one file

no_more_lem : (es : Entries) → no_more es ≡ true → es ≡ no_entries
no_more_lem no_entries e = refl
no_more_lem (entry k v es) e = absurd (false≢true e)

-- the parts of the first node
nodes_parts : (e : List ℕ) (v : Value) (es : Entries) → nodes_right (entry e v es) ≡ true → (element_right e ≡ true) × (node_right v ≡ true) × (nodes_right es ≡ true)
unfolding nodes_right
nodes_parts e v es h = three_true (element_right e) (node_right v) (nodes_right es) h

node_is : (ds : Entries) → node_right (dictionary ds) ≡ branch_right ds
unfolding node_right
node_is ds = refl

first_parts : (e : List ℕ) (p : List (List ℕ)) (v : Value) (es : Entries) (n : FirstNode e p v es) → nodes_right (grown (e ∷ p) v es) ≡ true
    → (element_right e ≡ true) × (branch_right (grown p v n.below) ≡ true) × (nodes_right n.beside ≡ true)
first_parts e p v es n h =
    let w = nodes_parts e (dictionary (grown p v n.below)) n.beside (ap nodes_right (sym n.tree_is) ∙ h) in
    (w.0, sym (node_is (grown p v n.below)) ∙ w.1, w.2)

was_last : (e : List ℕ) (v : Value) (es below beside : Entries) → Enters e es below beside → (e ≡ [] → ⊥) → Begun es → element_right e ≡ true → branch_right (entry [] v below) ≡ true → nodes_right beside ≡ true → Was (e ∷ []) v es
was_last e v es below beside (fresh _ d) f b r h k =
    record { rest_right = k; elements = unfold AllRight in (r, tt); file_right_lem = file_of h; elsewhere = elsewhere_fresh e [] es d k }
  where
    file_of : branch_right (entry [] v no_entries) ≡ true → file_right v ≡ true
    file_of q = unfold branch_right in q
was_last e v es below beside (joined ds rest) f b r h k = absurd (nobody (begun_below e ds rest f b))
  where
    both_of : (xs : Entries) → branch_right (entry [] v xs) ≡ true → (no_more xs && file_right v) ≡ true
    both_of xs q = unfold branch_right in q

    none_below : ds ≡ no_entries
    none_below = no_more_lem ds ((and-eq-true_iff (no_more ds) (file_right v)).0 (both_of ds h)).0

    nobody : ((s : List (List ℕ)) × Leads s ds × AllFull s) → ⊥
    nobody w = leads_some w.0 (rw none_below at w.1)

was_more : (e g : List ℕ) (p : List (List ℕ)) (v : Value) (es below beside : Entries) → Enters e es below beside → (e ≡ [] → ⊥) → Begun es → element_right e ≡ true → nodes_right beside ≡ true
    → ((ds : Entries) → ds ≡ below → Begun ds → Was (g ∷ p) v ds) → Was (e ∷ g ∷ p) v es
unfolding AllRight
was_more e g p v es below beside (fresh _ d) f b r k more =
    let w = more no_entries refl (inl refl) in
    record { rest_right = k; elements = (r, w.elements); file_right_lem = w.file_right_lem; elsewhere = elsewhere_fresh e (g ∷ p) es d k }
was_more e g p v es below beside (joined ds rest) f b r k more =
    let s = begun_below e ds rest f b in
    let w = more ds refl (inr s) in
    record {
      rest_right = nodes_first e (dictionary ds) rest r (node_is ds ∙ branch_of_nodes s.0 ds s.1 s.2 w.rest_right) k;
      elements = (r, w.elements);
      file_right_lem = w.file_right_lem;
      elsewhere = elsewhere_joined e (g ∷ p) ds rest f w.elsewhere;
    }

-- the branch that the rest of a path grows has nodes
branch_nodes : (e : List ℕ) (p : List (List ℕ)) (v : Value) (es : Entries) → (e ≡ [] → ⊥) → branch_right (grown (e ∷ p) v es) ≡ true → nodes_right (grown (e ∷ p) v es) ≡ true
branch_nodes e p v es f h =
    let n = first_node e p v es in
    ap nodes_right n.tree_is ∙ sym (node_branch e (dictionary (grown p v n.below)) n.beside f) ∙ ap branch_right (sym n.tree_is) ∙ h

pub was : (e : List ℕ) (p : List (List ℕ)) (v : Value) (es : Entries) → AllFull (e ∷ p) → Begun es → nodes_right (grown (e ∷ p) v es) ≡ true → Was (e ∷ p) v es
unfolding AllFull
was e [] v es f b h =
    let n = first_node e [] v es in
    let w = first_parts e [] v es n h in
    was_last e v es n.below n.beside n.placed f.0 b w.0 (branch_of n.below w.1) w.2
  where
    branch_of : (ds : Entries) → branch_right (grown [] v ds) ≡ true → branch_right (entry [] v ds) ≡ true
    branch_of ds q = let t : grown [] v ds ≡ entry [] v ds = unfold grown in refl in ap branch_right (sym t) ∙ q
was e (g ∷ p) v es f b h =
    let n = first_node e (g ∷ p) v es in
    let w = first_parts e (g ∷ p) v es n h in
    was_more e g p v es n.below n.beside n.placed f.0 b w.0 w.2
    (λ ds q c. was g p v ds f.1 c (branch_nodes g p v ds f.1.0 (ap (λ (x : Entries). branch_right (grown (g ∷ p) v x)) q ∙ w.1)))

-- ---- all files

-- a path of one element or more, none of them empty
unfoldable pub PathFull : List (List ℕ) → Type 0
PathFull [] = ⊥
PathFull (e ∷ p) = AllFull (e ∷ p)

was_path : (p : List (List ℕ)) (v : Value) (es : Entries) → PathFull p → Begun es → nodes_right (grown p v es) ≡ true → Was p v es
was_path [] v es f b h = absurd (unfold PathFull in f)
was_path (e ∷ p) v es f b h = was e p v es (unfold PathFull in f) b h

pub full_all : (p : List (List ℕ)) → PathFull p → AllFull p
full_all [] f = absurd (unfold PathFull in f)
full_all (e ∷ p) f = unfold PathFull in f

begun_all : (xs : List Item) → ((x : Item) → Member x xs → PathFull x.path) → Begun (tree_of_all xs)
unfolding tree_of_all Member
begun_all [] f = inl refl
begun_all (x ∷ xs) f = inr (x.path, grown_leads x.path (properties x) (tree_of_all xs), full_all x.path (f x (inl refl)))

-- the files of a right tree can be written, and none leads to, or through, where the next one ends
pub record AllWas (xs : List Item) : Type 0 where
  pub each : (x : Item) → Member x xs → AllRight x.path × (file_right (properties x) ≡ true)
  pub apart : Apart xs

apart_first : (x : Item) (xs : List Item) → Elsewhere x.path (tree_of_all xs) → ((y : Item) → Member y xs → PathFull y.path) → Apart xs → Apart (x ∷ xs)
unfolding Apart ApartFrom tree_of_all Member
apart_first x [] w f a = tt
apart_first x (y ∷ ys) w f a = let b = w y.path (grown_leads y.path (properties y) (tree_of_all ys)) (full_all y.path (f y (inl refl))) in (b.0, b.1, a)

pub all_was : (xs : List Item) → ((x : Item) → Member x xs → PathFull x.path) → nodes_right (tree_of_all xs) ≡ true → AllWas xs
unfolding tree_of_all Member
all_was [] f h = record { each = λ x m. absurd m; apart = unfold Apart in tt }
all_was (x ∷ xs) f h =
    let w = was_path x.path (properties x) (tree_of_all xs) (f x (inl refl)) (begun_all xs (λ y m. f y (inr m))) h in
    let more = all_was xs (λ y m. f y (inr m)) w.rest_right in
    record {
      each = λ y m. by_place y m (w.elements, w.file_right_lem) more.each;
      apart = apart_first x xs w.elsewhere (λ y m. f y (inr m)) more.apart;
    }
  where
    by_place : (y : Item) → (y ≡ x) ⊎ Member y xs → AllRight x.path × (file_right (properties x) ≡ true) → ((z : Item) → Member z xs → AllRight z.path × (file_right (properties z) ≡ true))
        → AllRight y.path × (file_right (properties y) ≡ true)
    by_place y (inl e) a b = rw e a
    by_place y (inr m) a b = b y m
