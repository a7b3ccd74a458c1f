-- A path that is too long for 32 levels makes the torrent too deep, and nothing else does: with enough levels it is strict.
-- Assumes nothing.
use Rattle.std.specs.Prelude.{◌≡◌, Bool, true, false, cond, length, eqb, List, [], ◌∷◌, ◌++◌, ℕ, zero, suc, ◌≤◌, ◌<◌, ◌^◌, Err}
use Rattle.bencode.specs.declared.walk.Amiss.TheVariants.{TooDeep}
use Rattle.std.proofs.Math.Path.{refl}
use Rattle.std.proofs.Common.{sym, ap, ◌∙◌, inl, inr, arith, append-nil}
use Rattle.limits.specs.Limits.{max_levels}
use Rattle.numbers.specs.Numbers.{nested_too_deeply}
use Rattle.bencode.specs.Grammar.{letter_d, Value, integer, string, dictionary, Entries, no_entries, entry, encode, encode_entries, precedes, KeyBefore, none, after, Valid, EntriesValid}
use Rattle.bencode.specs.Walk.{walk_value}
use Rattle.bencode.specs.Strict.{strictness}
use Rattle.bencode.specs.DepthLaws.{OpensTooDeep, deep_complete, fits_or_opens, begun}
use Rattle.meaning.specs.Counting.{Member}
use Rattle.meaning.specs.Keys.{key_length, key_pieces_root}
use Rattle.writer_meaning.specs.Content.{Item, in_tree_order, grown, tree_of_all, properties, torrent_of}
use Rattle.writer_meaning.proofs.WrittenLaws.{Enters, fresh, joined, first_node}
use Rattle.writer_meaning.proofs.SizeLaws.{sum}
use Rattle.writer_meaning.proofs.AnyOrder.{layers_written}
use Rattle.writer_meaning.proofs.ValidLaws.{tree_levels}

-- ---- a value that is strict but for its depth

pub deep_number : (t : Entries) (n : ℕ) → Valid (dictionary t) n → (Valid (dictionary t) max_levels → ⊥) → strictness (encode (dictionary t)) ≡ nested_too_deeply
deep_number t n h d = elim (fits_or_opens (dictionary t) n max_levels h) [ inl v ↦ absurd (d v) | inr o ↦ too_deep_lem (o []) ]
  where
    first : (xs : List ℕ) → encode (dictionary t) ≡ letter_d ∷ xs → walk_value max_levels 0 (encode (dictionary t)) ≡ (Err TooDeep) → strictness (encode (dictionary t)) ≡ nested_too_deeply
    first xs e w = rw e (unfold strictness in rw (rw e at w) refl)

    too_deep_lem : OpensTooDeep max_levels (encode (dictionary t) ++ []) → strictness (encode (dictionary t)) ≡ nested_too_deeply
    too_deep_lem o =
        let w = deep_complete o.0 0 o.1 o.2 o.3 o.4 in
        let e : encode (dictionary t) ≡ begun o.0 ++ o.1 ∷ o.2 = sym (append-nil (encode (dictionary t))) ∙ o.5 in
        first (encode_rest t) (begins_with_d t) (ap (walk_value max_levels 0) e ∙ w)
      where
        encode_rest : Entries → List ℕ
        encode_rest es = encode_entries es

        begins_with_d : (es : Entries) → encode (dictionary es) ≡ letter_d ∷ encode_entries es
        begins_with_d es = unfold encode in refl

-- ---- a tree that is strict has room for its paths

any_before : (es : Entries) (j : KeyBefore) (l : ℕ) → EntriesValid es j l → EntriesValid es none l
unfolding EntriesValid
any_before no_entries j l h = tt
any_before (entry k v es) j l h = (refl, h.1, h.2)

abbrev Below : List (List ℕ) → Entries → ℕ → Type 0
Below p es l = EntriesValid es none l × (length p < l)

node_below : (e : List ℕ) (p : List (List ℕ)) (es below beside : Entries) (v : Value) (l : ℕ) → Enters e es below beside → EntriesValid (entry e (dictionary (grown p v below)) beside) none l
    → ((m : ℕ) → EntriesValid (grown p v below) none m → Below p below m) → Below (e ∷ p) es l
unfolding EntriesValid
node_below e p es below beside v zero c h more = absurd h.1
node_below e p es below beside v (suc l) (fresh _ _) h more = let w = more l h.1 in let d = w.1 in (any_before es (after e) (suc l) h.2, omega arith)
node_below e p es below beside v (suc l) (joined _ _) h more = let w = more l h.1 in let d = w.1 in ((refl, w.0, h.2), omega arith)

valid_back : (p : List (List ℕ)) (ds es : Entries) (l : ℕ) → EntriesValid (grown p (dictionary ds) es) none l → Below p es l
valid_back [] ds es l h = last l (unfold grown in h)
  where
    last : (m : ℕ) → EntriesValid (entry [] (dictionary ds) es) none m → Below [] es m
    last zero u = absurd (no_level u)
      where
        no_level : EntriesValid (entry [] (dictionary ds) es) none zero → ⊥
        no_level w = let q : (true ≡ true) × ⊥ × EntriesValid es (after []) zero = unfold EntriesValid in w in q.1
    last (suc m) u =
        let q : (true ≡ true) × EntriesValid ds none m × EntriesValid es (after []) (suc m) = unfold EntriesValid in u in
        (any_before es (after []) (suc m) q.2, omega arith)
valid_back (e ∷ p) ds es l h =
    let n = first_node e p (dictionary ds) es in
    node_below e p es n.below n.beside (dictionary ds) l n.placed (rw n.tree_is at h) (λ m u. valid_back p ds n.below m u)

properties_dictionary : (x : Item) → (ds : Entries) × (properties x ≡ dictionary ds)
properties_dictionary x = by_size (eqb x.size 0)
  where
    by_size : (t : Bool) → (ds : Entries) × (cond t (dictionary (entry key_length (integer false x.size) no_entries)) (dictionary (entry key_length (integer false x.size) (entry key_pieces_root (string x.root) no_entries))) ≡ dictionary ds)
    by_size true = (entry key_length (integer false x.size) no_entries, refl)
    by_size false = (entry key_length (integer false x.size) (entry key_pieces_root (string x.root) no_entries), refl)

pub paths_fit : (l : ℕ) (xs : List Item) (x : Item) → EntriesValid (tree_of_all xs) none l → Member x xs → length x.path < l
unfolding tree_of_all Member
paths_fit l [] x h m = absurd m
paths_fit l (y ∷ ys) x h m =
    let d = properties_dictionary y in
    let b = valid_back y.path d.0 (tree_of_all ys) l (rw d.1 at h) in
    elim m [ inl e ↦ (rw e b.1) | inr k ↦ paths_fit l ys x b.0 k ]

-- ---- the levels of a whole torrent

pub whole_strict : (plen : ℕ) (name : List ℕ) (xs : List Item) (l : ℕ) → plen < 2 ^ 63 → EntriesValid (tree_of_all (in_tree_order xs)) none l → ((n : ℕ) → EntriesValid (layers_written xs) none n)
    → Valid (dictionary (torrent_of plen name xs)) (suc (suc (suc l)))
unfolding torrent_of Valid precedes
whole_strict plen name xs l p tree layers = (refl, (refl, tree, (refl, omega arith, (refl, tt, (refl, p, tt)))), (refl, layers (suc l), tt))

pub tree_of_strict : (plen : ℕ) (name : List ℕ) (xs : List Item) → Valid (dictionary (torrent_of plen name xs)) max_levels → EntriesValid (tree_of_all (in_tree_order xs)) none tree_levels
unfolding torrent_of Valid
tree_of_strict plen name xs h = h.1.1

-- no path is longer than all together
pub sum_least : (xs : List Item) (x : Item) → Member x xs → length x.path ≤ sum (λ (y : Item). length y.path) xs
unfolding Member sum
sum_least [] x m = absurd m
sum_least (y ∷ ys) x (inl e) = let q : length x.path ≡ length y.path = ap (λ (z : Item). length z.path) e in omega arith
sum_least (y ∷ ys) x (inr m) = let h = sum_least ys x m in omega arith
