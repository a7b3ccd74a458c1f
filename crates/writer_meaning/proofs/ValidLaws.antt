-- The tree that is written is strict bencoding: keys ascend, and a path of k elements reaches k levels further.
-- Assumes nothing.
use Rattle.std.specs.Prelude.{◌≡◌, Bool, cond, ◌⊎◌, ℕ, suc, ◌+◌, ◌-◌, ◌^◌, ◌<◌, length, eqb, List, [], ◌∷◌}
use Rattle.std.proofs.Math.Path.{refl, sym, ap}
use Rattle.std.proofs.Common.{◌∙◌, subst, inl, arith}
use Rattle.std.proofs.Math.Bool.{true, false}
use Rattle.std.proofs.lemmas.Bool.{false≢true}
use Rattle.std.proofs.Math.Logic.{inr}
use Rattle.limits.specs.Limits.{max_levels}
use Rattle.octets.specs.Octets.{same}
use Rattle.octets.specs.OctetsLaws.{same_refl}
use Rattle.bencode.specs.Grammar.{Value, integer, string, dictionary, Entries, no_entries, entry, precedes, none, after, Valid, EntriesValid}
use Rattle.bencode.specs.SoundLaws.{no_entries_valid}
use Rattle.meaning.specs.Counting.{Member}
use Rattle.meaning.specs.Keys.{key_length, key_pieces_root}
use Rattle.meaning.specs.Torrent.{element_right}
use Rattle.writer_meaning.specs.Content.{Item, path_before, grown, tree_of_all, properties}
use Rattle.writer_meaning.proofs.WrittenLaws.{node_first, Enters, fresh, joined, first_node}
use Rattle.writer_meaning.proofs.TreeLaws.{first_key, below_first, is_empty, AllRight, Leads, grown_leads}

-- no element is empty
unfoldable pub AllFull : List (List ℕ) → Type 0
AllFull [] = Unit {0}
AllFull (e ∷ p) = (e ≡ [] → ⊥) × AllFull p

pub full_right : (p : List (List ℕ)) → AllRight p → AllFull p
unfolding AllRight AllFull
full_right [] r = tt
full_right (e ∷ p) r = ((λ z. empty_wrong (ap element_right (sym z) ∙ r.0)), full_right p r.1)
  where
    empty_wrong : element_right [] ≡ true → ⊥
    empty_wrong q = false≢true (unfold element_right in q)

-- the levels that a path adds
unfoldable pub deeper : List (List ℕ) → ℕ → ℕ
deeper [] m = m
deeper (e ∷ p) m = suc (deeper p m)

pub deeper_is : (p : List (List ℕ)) (m : ℕ) → deeper p m ≡ length p + m
unfolding deeper
deeper_is [] m = omega arith
deeper_is (e ∷ p) m = let h = deeper_is p m in omega arith

-- a file with path p goes before all of the tree
abbrev pub Ahead : List (List ℕ) → Entries → Type 0
Ahead p es = (es ≡ no_entries) ⊎ ((q : List (List ℕ)) × Leads q es × AllFull q × (path_before p q ≡ true))

-- entries go behind a key that stands before their first
behind_key : (k f : List ℕ) (v : Value) (es : Entries) (l : ℕ) → precedes k f ≡ true → EntriesValid (entry f v es) none l → EntriesValid (entry f v es) (after k) l
unfolding EntriesValid
behind_key k f v es l h w = (h, w.1, w.2)

-- an empty key stands before all others
empty_first : (f : List ℕ) → (f ≡ [] → ⊥) → precedes [] f ≡ true
unfolding precedes
empty_first [] r = absurd (r refl)
empty_first (c ∷ cs) r = refl

valid_file : (v : Value) (es : Entries) (m : ℕ) → EntriesValid es none m → Valid v m → Ahead [] es → EntriesValid (entry [] v es) none m
valid_file v es m w h (inl e) = unfold EntriesValid in (refl, h, rw e (no_entries_valid (after []) m))
valid_file v es m w h (inr a) = by_path_lem a.0 a.1 a.2 a.3
  where
    by_path_lem : (q : List (List ℕ)) → Leads q es → AllFull q → path_before [] q ≡ true → EntriesValid (entry [] v es) none m
    by_path_lem [] l r b = absurd (false≢true (unfold path_before in b))
    by_path_lem (f ∷ s) l r b = by_node (unfold Leads in l) (unfold AllFull in r)
      where
        by_node : ((ds : Entries) × (rest : Entries) × (es ≡ entry f (dictionary ds) rest) × Leads s ds) → ((f ≡ [] → ⊥) × AllFull s) → EntriesValid (entry [] v es) none m
        by_node n c = unfold EntriesValid in (refl, h, rw n.2 (behind_key [] f (dictionary n.0) n.1 m (empty_first f c.0) (rw n.2 at w)))

-- a node of its own goes before the first one
valid_beside : (e : List ℕ) (p : List (List ℕ)) (es : Entries) (l : ℕ) → node_first e es ≡ false → EntriesValid es none l → Ahead (e ∷ p) es → EntriesValid es (after e) l
valid_beside e p es l d w (inl q) = rw q (no_entries_valid (after e) l)
valid_beside e p es l d w (inr a) = by_path_lem a.0 a.1 a.3
  where
    by_path_lem : (q : List (List ℕ)) → Leads q es → path_before (e ∷ p) q ≡ true → EntriesValid es (after e) l
    by_path_lem [] k b = absurd (false≢true (unfold path_before in b))
    by_path_lem (f ∷ s) k b = by_node (unfold Leads in k)
      where
        by_node : ((ds : Entries) × (rest : Entries) × (es ≡ entry f (dictionary ds) rest) × Leads s ds) → EntriesValid es (after e) l
        by_node n = rw n.2 (behind_key e f (dictionary n.0) n.1 l before (rw n.2 at w))
          where
            other : same e f ≡ false
            other = ap (node_first e) (sym n.2) ∙ d

            before : precedes e f ≡ true
            before = let t : path_before (e ∷ p) (f ∷ s) ≡ precedes e f = unfold path_before in rw other refl in sym t ∙ b

-- below the node that both go through
ahead_below : (e : List ℕ) (p : List (List ℕ)) (ds rest : Entries) → Ahead (e ∷ p) (entry e (dictionary ds) rest) → Ahead p ds
ahead_below e p ds rest (inl q) = absurd (false≢true (ap is_empty q))
ahead_below e p ds rest (inr a) = by_path_lem a.0 a.1 a.2 a.3
  where
    by_path_lem : (q : List (List ℕ)) → Leads q (entry e (dictionary ds) rest) → AllFull q → path_before (e ∷ p) q ≡ true → Ahead p ds
    by_path_lem [] k r b = absurd (false≢true (unfold path_before in b))
    by_path_lem (f ∷ s) k r b = by_node (unfold Leads in k) (unfold AllFull in r)
      where
        by_node : ((es : Entries) × (more : Entries) × (entry e (dictionary ds) rest ≡ entry f (dictionary es) more) × Leads s es) → ((f ≡ [] → ⊥) × AllFull s) → Ahead p ds
        by_node n c = inr (s, rw (sym (ap below_first n.2)) at n.3, c.1, inner)
          where
            inner : path_before p s ≡ true
            inner = let t : path_before (e ∷ p) (f ∷ s) ≡ path_before p s = unfold path_before in rw (ap first_key n.2, same_refl f) refl in sym t ∙ b

valid_node : (e : List ℕ) (p : List (List ℕ)) (v : Value) (es below beside : Entries) (l : ℕ) → Enters e es below beside → EntriesValid es none (suc l) → Ahead (e ∷ p) es
    → ((ds : Entries) → EntriesValid ds none l → Ahead p ds → EntriesValid (grown p v ds) none l)
    → EntriesValid (entry e (dictionary (grown p v below)) beside) none (suc l)
unfolding EntriesValid
valid_node e p v es below beside l (fresh _ d) w a more = (refl, more no_entries tt (inl refl), valid_beside e p es (suc l) d w a)
valid_node e p v es below beside l (joined ds rest) w a more = (refl, more ds w.1 (ahead_below e p ds rest a), w.2)

pub valid_grown : (p : List (List ℕ)) (v : Value) (es : Entries) (m : ℕ) → EntriesValid es none (deeper p m) → Valid v m → Ahead p es → EntriesValid (grown p v es) none (deeper p m)
unfolding deeper
valid_grown [] v es m w h a = unfold grown in valid_file v es m w h a
valid_grown (e ∷ p) v es m w h a =
    let n = first_node e p v es in
    rw n.tree_is (valid_node e p v es n.below n.beside (deeper p m) n.placed w a (λ ds d b. valid_grown p v ds m d h b))

-- ---- all files

-- the levels of `file tree`: below the outer dictionary and `info`
abbrev pub tree_levels : ℕ
tree_levels = max_levels - 3

-- each file's path stands before the next one's
unfoldable pub ClimbFrom : List (List ℕ) → List Item → Type 0
ClimbFrom p [] = Unit {0}
ClimbFrom p (y ∷ ys) = (path_before p y.path ≡ true) × ClimbFrom y.path ys

unfoldable pub Climb : List Item → Type 0
Climb [] = Unit {0}
Climb (x ∷ xs) = ClimbFrom x.path xs

climb_rest : (x : Item) (xs : List Item) → Climb (x ∷ xs) → Climb xs
unfolding Climb ClimbFrom
climb_rest x [] c = tt
climb_rest x (y ∷ ys) c = c.1

rest_ahead : (p : List (List ℕ)) (xs : List Item) → ClimbFrom p xs → ((x : Item) → Member x xs → AllFull x.path) → Ahead p (tree_of_all xs)
unfolding ClimbFrom Member tree_of_all
rest_ahead p [] c r = inl refl
rest_ahead p (y ∷ ys) c r = inr (y.path, grown_leads y.path (properties y) (tree_of_all ys), r y (inl refl), c.0)

-- the properties of a file take one level
pub properties_valid : (x : Item) (m : ℕ) → x.size < 2 ^ 63 → Valid (properties x) (suc m)
properties_valid x m h = by_size (eqb x.size 0)
  where
    by_size : (t : Bool) → Valid (cond t (dictionary (entry key_length (integer false x.size) no_entries)) (dictionary (entry key_length (integer false x.size) (entry key_pieces_root (string x.root) no_entries)))) (suc m)
    by_size true = unfold Valid in (refl, h, tt)
    by_size false = unfold Valid in unfold precedes in (refl, h, (refl, tt, tt))

-- a file that is not too deep, and its path's elements right
pub record Fits (l : ℕ) (x : Item) : Type 0 where
  pub elements : AllFull x.path
  pub depth : length x.path < l
  pub size_fits : x.size < 2 ^ 63

valid_first : (l : ℕ) (x : Item) (es : Entries) → Fits l x → EntriesValid es none l → Ahead x.path es → EntriesValid (grown x.path (properties x) es) none l
valid_first l x es i w ahead =
    let m : ℕ = l - length x.path - 1 in
    let levels_are : deeper x.path (suc m) ≡ l = let d = deeper_is x.path (suc m) in omega (arith, i.depth) in
    subst (λ (k : ℕ). EntriesValid es none k → EntriesValid (grown x.path (properties x) es) none k) levels_are
    (λ v. valid_grown x.path (properties x) es (suc m) v (properties_valid x m i.size_fits) ahead)
    w

pub tree_valid : (l : ℕ) (xs : List Item) → Climb xs → ((x : Item) → Member x xs → Fits l x) → EntriesValid (tree_of_all xs) none l
unfolding tree_of_all Member
tree_valid l [] c r = no_entries_valid none l
tree_valid l (x ∷ xs) c r =
    valid_first l x (tree_of_all xs) (r x (inl refl)) (tree_valid l xs (climb_rest x xs c) (λ y k. r y (inr k)))
    (rest_ahead x.path xs (unfold Climb in c) (λ y k. (r y (inr k)).elements))
