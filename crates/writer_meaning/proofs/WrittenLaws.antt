-- The tree written from left to right is the tree's encoding. `after p es` is what follows inside the nodes of p, where es is still to come.
-- Assumes nothing.
use Rattle.std.specs.Prelude.{◌≡◌, refl, Bool, true, false, cond, ℕ, zero, suc, ◌-◌, length, drop, List, [], ◌∷◌, ◌++◌}
use Rattle.std.proofs.Common.{sym, ◌∙◌, arith, append_assoc}
use Rattle.std.proofs.Math.Path.{ap}
use Rattle.std.proofs.lemmas.Bool.{false≢true}
use Rattle.octets.specs.Octets.{same}
use Rattle.octets.specs.OctetsLaws.{same_true, same_refl}
use Rattle.bencode.specs.Grammar.{letter_d, letter_e, Value, integer, string, list, dictionary, Entries, no_entries, entry, encode_string, encode, encode_entries}
use Rattle.writer_meaning.specs.Content.{Item, properties, path_before, grown, tree_of_all}
use Rattle.writer_meaning.specs.Written.{shared, opened, closed, file_bytes, tree_bytes}

unfoldable pub after : List (List ℕ) → Entries → List ℕ
after [] es = encode_entries es
after (e ∷ p) no_entries = after p no_entries ++ letter_e ∷ []
after (e ∷ p) (entry k (dictionary ds) es) = cond (same e k) (after p ds ++ encode_entries es) (after p no_entries ++ encode_entries (entry k (dictionary ds) es))
after (e ∷ p) (entry k (integer minus n) es) = after p no_entries ++ encode_entries (entry k (integer minus n) es)
after (e ∷ p) (entry k (string b) es) = after p no_entries ++ encode_entries (entry k (string b) es)
after (e ∷ p) (entry k (list vs) es) = after p no_entries ++ encode_entries (entry k (list vs) es)

-- one more at the end is one more at the start
closed_more : (n : ℕ) → closed n ++ letter_e ∷ [] ≡ closed (suc n)
closed_more zero = refl
closed_more (suc n) = ap (λ (l : List ℕ). letter_e ∷ l) (closed_more n)

-- with nothing to come all nodes are closed
after_none : (p : List (List ℕ)) → after p no_entries ≡ closed (suc (length p))
unfolding after encode_entries
after_none [] = refl
after_none (e ∷ p) = rw (after_none p) (closed_more (suc (length p)))

-- what a file adds at its own place: its nodes opened, the empty key, its properties
abbrev file_alone : List (List ℕ) → Value → List ℕ
file_alone p v = opened p ++ (encode_string [] ++ encode v)

-- the first node of the tree is the path's first, or it is not
node_bytes : (e : List ℕ) (p : List (List ℕ)) (v : Value) (es rest : Entries) (tail : List ℕ) → encode_entries es ≡ file_alone p v ++ tail
    → encode_entries (entry e (dictionary es) rest) ≡ file_alone (e ∷ p) v ++ (tail ++ encode_entries rest)
unfolding encode_entries encode opened
node_bytes e p v es rest tail h = simp (h, append_assoc)

grown_bytes : (p : List (List ℕ)) (v : Value) (es : Entries) → encode_entries (grown p v es) ≡ file_alone p v ++ after p es
unfolding grown after opened encode_entries
grown_bytes [] v es = simp append_assoc
grown_bytes (e ∷ p) v no_entries = node_bytes e p v (grown p v no_entries) no_entries (after p no_entries) (grown_bytes p v no_entries)
grown_bytes (e ∷ p) v (entry k (dictionary ds) es) = by_case (same e k) refl (grown_bytes p v ds) (grown_bytes p v no_entries)
  where
    by_case : (t : Bool) → same e k ≡ t → encode_entries (grown p v ds) ≡ file_alone p v ++ after p ds → encode_entries (grown p v no_entries) ≡ file_alone p v ++ after p no_entries
        → encode_entries (cond t (entry k (dictionary (grown p v ds)) es) (entry e (dictionary (grown p v no_entries)) (entry k (dictionary ds) es)))
        ≡ file_alone (e ∷ p) v ++ cond t (after p ds ++ encode_entries es) (after p no_entries ++ encode_entries (entry k (dictionary ds) es))
    by_case true q g h = rw (sym (same_true e k q)) (node_bytes e p v (grown p v ds) es (after p ds) g)
    by_case false q g h = node_bytes e p v (grown p v no_entries) (entry k (dictionary ds) es) (after p no_entries) h
grown_bytes (e ∷ p) v (entry k (integer minus n) es) = node_bytes e p v (grown p v no_entries) (entry k (integer minus n) es) (after p no_entries) (grown_bytes p v no_entries)
grown_bytes (e ∷ p) v (entry k (string b) es) = node_bytes e p v (grown p v no_entries) (entry k (string b) es) (after p no_entries) (grown_bytes p v no_entries)
grown_bytes (e ∷ p) v (entry k (list vs) es) = node_bytes e p v (grown p v no_entries) (entry k (list vs) es) (after p no_entries) (grown_bytes p v no_entries)

-- whether the first node of a tree has this name
abbrev pub node_first : List ℕ → Entries → Bool
node_first f no_entries = false
node_first f (entry k (dictionary ds) es) = same f k
node_first f (entry k (integer minus n) es) = false
node_first f (entry k (string b) es) = false
node_first f (entry k (list vs) es) = false

-- where the first node of a tree goes in which a file was put first: before all others, or into the first
pub data Enters (f : List ℕ) : Entries → Entries → Entries → Type 0 where
  fresh : (es : Entries) → node_first f es ≡ false → Enters f es no_entries es
  joined : (below beside : Entries) → Enters f (entry f (dictionary below) beside) below beside

-- that node, with what stands below and beside it
pub record FirstNode (f : List ℕ) (q : List (List ℕ)) (v : Value) (es : Entries) : Type 0 where
  pub below : Entries
  pub beside : Entries
  pub placed : Enters f es below beside
  pub tree_is : grown (f ∷ q) v es ≡ entry f (dictionary (grown q v below)) beside
  pub after_is : after (f ∷ q) es ≡ after q below ++ encode_entries beside

pub first_node : (f : List ℕ) (q : List (List ℕ)) (v : Value) (es : Entries) → FirstNode f q v es
unfolding grown after encode_entries
first_node f q v no_entries = record { below = no_entries; beside = no_entries; placed = fresh no_entries refl; tree_is = refl; after_is = refl }
first_node f q v (entry k (dictionary ds) es) = by_case (same f k) refl
  where
    by_case : (t : Bool) → same f k ≡ t → FirstNode f q v (entry k (dictionary ds) es)
    by_case true e =
        record {
          below = ds;
          beside = es;
          placed = rw (sym (same_true f k e)) (joined ds es);
          tree_is = rw (e, sym (same_true f k e));
          after_is = rw e;
        }
    by_case false e = record { below = no_entries; beside = entry k (dictionary ds) es; placed = fresh (entry k (dictionary ds) es) e; tree_is = rw e; after_is = rw e }
first_node f q v (entry k (integer minus n) es) =
    record { below = no_entries; beside = entry k (integer minus n) es; placed = fresh (entry k (integer minus n) es) refl; tree_is = refl; after_is = refl }
first_node f q v (entry k (string b) es) = record { below = no_entries; beside = entry k (string b) es; placed = fresh (entry k (string b) es) refl; tree_is = refl; after_is = refl }
first_node f q v (entry k (list vs) es) = record { below = no_entries; beside = entry k (list vs) es; placed = fresh (entry k (list vs) es) refl; tree_is = refl; after_is = refl }

-- a path that begins alike does not stand before another if its rest does not
rest_before : (e f : List ℕ) (p q : List (List ℕ)) → same e f ≡ true → path_before (f ∷ q) (e ∷ p) ≡ false → path_before q p ≡ false
unfolding path_before
rest_before e f p q d h = let s : same f e ≡ true = rw (same_true e f d) (same_refl f) in rw s at h

-- inside the nodes of p, a file whose path does not stand before p comes next: what p does not share is closed, what p lacks is opened
abbrev Behind : List (List ℕ) → List (List ℕ) → Value → Entries → Type 0
Behind p q v es = after p (grown q v es) ≡ file_bytes p q v ++ after q es

behind_node : (e f : List ℕ) (p q : List (List ℕ)) (v : Value) (es : Entries) → ((ds : Entries) → same e f ≡ true → Behind p q v ds) → Behind (e ∷ p) (f ∷ q) v es
unfolding after shared opened
behind_node e f p q v es more = rw n.tree_is (by_case (same e f) refl)
  where
    n : FirstNode f q v es
    n = first_node f q v es

    by_case : (t : Bool) → same e f ≡ t
        → cond t (after p (grown q v n.below) ++ encode_entries n.beside) (after p no_entries ++ encode_entries (entry f (dictionary (grown q v n.below)) n.beside))
        ≡ (closed (suc (length p) - cond t (suc (shared p q)) 0) ++ (opened (drop (cond t (suc (shared p q)) 0) (f ∷ q)) ++ (encode_string [] ++ encode v))) ++ after (f ∷ q) es
    by_case true d =
        let o : suc (length p) - suc (shared p q) ≡ length p - shared p q = omega arith in
        rw (more n.below d, n.after_is, o) (simp append_assoc)
    by_case false d =
        let o : suc (length p) - 0 ≡ suc (length p) = omega arith in
        let b : encode_entries (entry f (dictionary (grown q v n.below)) n.beside) ≡ file_alone (f ∷ q) v ++ after (f ∷ q) es = ap encode_entries (sym n.tree_is) ∙ grown_bytes (f ∷ q) v es in
        rw (after_none p, b, o) (sym (append_assoc (closed (suc (length p))) (file_alone (f ∷ q) v) (after (f ∷ q) es)))

pub behind : (p q : List (List ℕ)) (v : Value) (es : Entries) → path_before q p ≡ false → Behind p q v es
unfolding after shared
behind [] q v es h = grown_bytes q v es
behind (e ∷ p) [] v es h = absurd (false≢true (sym (unfold path_before in h)))
behind (e ∷ p) (f ∷ q) v es h = behind_node e f p q v es (λ ds d. behind p q v ds (rest_before e f p q d h))

-- no file stands before the one that it follows
unfoldable pub Rising : List (List ℕ) → List Item → Type 0
Rising p [] = Unit {0}
Rising p (x ∷ xs) = (path_before x.path p ≡ false) × Rising x.path xs

-- what is written of files in tree order is the encoding of their tree
pub tree_bytes_lem : (p : List (List ℕ)) (xs : List Item) → Rising p xs → after p (tree_of_all xs) ≡ tree_bytes p xs
unfolding Rising tree_of_all tree_bytes
tree_bytes_lem p [] r = after_none p
tree_bytes_lem p (x ∷ xs) r = behind p x.path (properties x) (tree_of_all xs) r.0 ∙ ap (λ (l : List ℕ). file_bytes p x.path (properties x) ++ l) (tree_bytes_lem x.path xs r.1)

pub tree_encoded : (xs : List Item) → Rising [] xs → encode (dictionary (tree_of_all xs)) ≡ letter_d ∷ tree_bytes [] xs
tree_encoded xs r = unfold encode in ap (λ (l : List ℕ). letter_d ∷ l) (unfold after in tree_bytes_lem [] xs r)
