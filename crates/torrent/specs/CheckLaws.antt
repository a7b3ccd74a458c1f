-- What the parts of a torrent that gets 0 so far are, for the code that goes on with them.
-- Assumes nothing.
use Rattle.bencode.specs.Scalar.{part}
use Rattle.std.specs.Prelude.{◌≡◌, refl, Bool, true, false, cond, not, ◌||◌, List, [], ◌∷◌, ◌++◌, ℕ, zero, suc, ◌+◌, ◌-◌, ◌≤◌, length, drop, eqb, Option, Some, None}
use Rattle.std.proofs.Common.{sym, ap, ◌∙◌, append-nil, drop-drop, arith, eqb-true, ne_eqb}
use Rattle.std.proofs.lemmas.Bool.{false≢true, eqb-false}
use Rattle.meaning.specs.Keys.{key_info, key_file_tree, key_piece_layers}
use Rattle.limits.specs.Limits.{largest_torrent, max_levels}
use Rattle.octets.specs.Octets.{same, cut}
use Rattle.octets.specs.OctetsLaws.{cut_length}
use Rattle.tree.specs.Geometry.{is_piece_length}
use Rattle.numbers.specs.Numbers.{wrong_tree, halves_differ}
use Rattle.bencode.specs.Grammar.{letter_d, Value, integer, string, list, dictionary, Entries, no_entries, entry, encode, encode_entries, KeyBefore, none, after, Valid, EntriesValid}
use Rattle.bencode.specs.Walk.{between}
use Rattle.bencode.specs.EndsLaws.{drop_further, same_part}
use Rattle.bencode.specs.CompleteLaws.{content_start, dictionary_bytes}
use Rattle.bencode.specs.DepthLaws.{entries_more_levels}
use Rattle.bencode.specs.Parts.{is_dictionary, find_in, find_key, FoundIs, Lookup, absent, present, lookup}
use Rattle.bencode.specs.PartsLaws.{after_part, value_start, entry_is, entry_none, entries_length, part_front, find_ends, find_is, lookup_valid, dictionary_is, is_dictionary_value}
use Rattle.bencode.specs.StrictLaws.{taken_only}
use Rattle.bencode.specs.declared.part.Part.{Part}
use Rattle.halves.specs.Decoded.{torrent_in}
use Rattle.halves.specs.V1Half.{is_hybrid, halves_fit}
use Rattle.metainfo.specs.Metainfo.{Keys, bytes_in, dictionary_in, metainfo_of}
use Rattle.metainfo.specs.MetainfoLaws.{metainfo_right}
use Rattle.filetree.specs.Tree.{Files, right, listed, files_in}
use Rattle.filetree.specs.Reading.{read_files}
use Rattle.twins.specs.Twins.{layer_count}
use Rattle.layers.specs.Layers.{LayersOpen}
use Rattle.layers.specs.KeysLaws.{keys_ascending}
use Rattle.torrent.specs.Torrent.{Checked, files_number, tree_number, judged_as, judged_of, unread, with_judged, v2_checked_of, checked_of}

-- a dictionary that is found is one
dictionary_found : (s key : List ℕ) (at a b : ℕ) → dictionary_in s (find_key key at (drop at s)) ≡ part a b → (find_key key at (drop at s) ≡ part a b) × (is_dictionary (drop a s) ≡ true)
dictionary_found s key at a b e = by_found (find_key key at (drop at s)) e
  where
    by_kind : (x y : ℕ) (t : Bool) → is_dictionary (drop x s) ≡ t → cond t (part x y) None ≡ part a b → (part x y ≡ part a b) × (is_dictionary (drop a s) ≡ true)
    by_kind x y true q f = (f, rw (same_part _ _ _ _ f).0 at q)
    by_kind x y false q f = let z : ◌≡◌ {A = ℕ} 0 1 = cc in absurd (omega arith)

    by_found : (w : Option Part) → dictionary_in s w ≡ part a b → (w ≡ part a b) × (is_dictionary (drop a s) ≡ true)
    by_found None f = let z : ◌≡◌ {A = ℕ} 0 1 = cc in absurd (omega arith)
    by_found (Some w) f = by_kind w.start w.end (is_dictionary (drop w.start s)) refl f

-- the part of a dictionary that is found lies within the bytes
dictionary_within : (s key : List ℕ) (at a b : ℕ) → dictionary_in s (find_key key at (drop at s)) ≡ part a b → (a ≤ b) × (b ≤ length s) × (length (cut s a (b - a)) ≡ b - a)
dictionary_within s key at a b e =
    let p = find_ends key at s a b (dictionary_found s key at a b e).0 in
    let x = p.1 in
    let y = p.2 in
    (omega arith, y, cut_length s a (b - a) (omega arith))

-- in strict bytes it is the encoding of a dictionary
part_encoded : (s key : List ℕ) (es : Entries) → s ≡ encode (dictionary es) → Valid (dictionary es) max_levels → (a b : ℕ) → dictionary_in s (find_key key 0 (drop 0 s)) ≡ part a b
    → (ds : Entries) × Valid (dictionary ds) (max_levels - 1) × (cut s a (b - a) ≡ encode (dictionary ds))
unfolding Valid
part_encoded s key es bytes valid a b e =
    let f = dictionary_found s key 0 a b e in
    by_lookup (lookup key es) refl (rw f.0 at (find_is key s 0 es [] (bytes ∙ sym (append-nil (encode (dictionary es)))) valid)) f.1
  where
    by_value : (v : Value) → is_dictionary_value v ≡ true → Valid v (max_levels - 1) → cut s a (b - a) ≡ encode v → (ds : Entries) × Valid (dictionary ds) (max_levels - 1) × (cut s a (b - a) ≡ encode (dictionary ds))
    by_value (integer minus n) k h q = absurd (false≢true k)
    by_value (string x) k h q = absurd (false≢true k)
    by_value (list vs) k h q = absurd (false≢true k)
    by_value (dictionary ds) k h q = (ds, h, q)

    by_lookup : (w : Lookup) → lookup key es ≡ w → FoundIs s (part a b) w → is_dictionary (drop a s) ≡ true → (ds : Entries) × Valid (dictionary ds) (max_levels - 1) × (cut s a (b - a) ≡ encode (dictionary ds))
    by_lookup absent g q k = absurd q
    by_lookup (present v) g q k = by_value v (sym (dictionary_is v (drop (b - a) (drop a s))) ∙ ap is_dictionary (sym (part_front s a b v q)) ∙ k) (lookup_valid key es none (max_levels - 1) v valid g) q

-- ---- what is found in a dictionary ends where it does, or before

abbrev EndsBy : ℕ → Option Part → Type 0
EndsBy end None = Unit {0}
EndsBy end (Some w) = w.end ≤ end

ends_here : (end a b : ℕ) (t : Bool) (w : Option Part) → b ≤ end → EndsBy end w → EndsBy end (cond t (part a b) w)
ends_here end a b true w p q = p
ends_here end a b false w p q = q

ends_by : (key s : List ℕ) (es : Entries) (j : KeyBefore) (steps at : ℕ) (r : List ℕ) (end : ℕ) → drop at s ≡ encode_entries es ++ r → EntriesValid es j max_levels → at + length (encode_entries es) ≤ end
    → EndsBy end (find_in key steps at (drop at s))
unfolding find_in Valid
ends_by key s es j zero at r end e h l = tt
ends_by key s no_entries j (suc f) at r end e h l = rw (entry_none s at r e) tt
ends_by key s (entry k v es) j (suc f) at r end e h l =
    let w = entry_is s at k v es r e h.1 in
    let past = value_start at k + length (encode v) in
    let behind : drop (past - at) (drop at s) ≡ drop past s = drop_further s at past (omega arith) in
    let size = entries_length k v es in
    rw w.read
    (rw behind
    (ends_here end (value_start at k) past (same key (between at (drop at s) (content_start at k) (value_start at k))) (find_in key f past (drop past s)) (omega arith)
    (ends_by key s es (after k) f past r end w.next h.2 (omega arith))))

found_ends_by : (key s : List ℕ) (at : ℕ) (es : Entries) (r : List ℕ) → drop at s ≡ encode (dictionary es) ++ r → Valid (dictionary es) (max_levels - 1) → (a b : ℕ) → find_key key at (drop at s) ≡ part a b
    → b ≤ at + length (encode (dictionary es))
unfolding find_key Valid
found_ends_by key s at es r e h a b q =
    let front : encode (dictionary es) ++ r ≡ letter_d ∷ (encode_entries es ++ r) = ap (λ (l : List ℕ). l ++ r) (dictionary_bytes es) in
    let first : is_dictionary (drop at s) ≡ true = rw (e, dictionary_is (dictionary es) r) in
    let f : drop (at + 1) s ≡ encode_entries es ++ r = after_part s at (letter_d ∷ []) (encode_entries es ++ r) (e ∙ front) in
    let d : drop 1 (drop at s) ≡ drop (at + 1) s = drop-drop 1 at s in
    let size : length (encode (dictionary es)) ≡ suc (length (encode_entries es)) = ap length (dictionary_bytes es) in
    let end : ℕ = at + length (encode (dictionary es)) in
    let found : EndsBy end (find_in key (suc (length (drop (at + 1) s))) (at + 1) (drop (at + 1) s)) = ends_by key s es none (suc (length (drop (at + 1) s))) (at + 1) r end f (entries_more_levels es none (max_levels - 2) max_levels (omega arith) h) (omega arith) in
    let all : EndsBy end (find_key key at (drop at s)) = rw first (rw d found) in
    rw q at all

-- ---- a torrent that gets 0 so far

-- the parts of `file tree` and `piece layers` lie within it, and `piece layers` can be searched
pub record Open (s : List ℕ) (k : Keys) : Type 0 where
  pub small : length s ≤ largest_torrent
  pub tree_forward : k.tree.start ≤ k.tree.end
  pub tree_within : k.tree.end ≤ length s
  pub tree_size : length (bytes_in s k.tree) ≡ k.tree.end - k.tree.start
  pub layers_forward : k.layers.start ≤ k.layers.end
  pub layers_within : k.layers.end ≤ length s
  pub layers_size : length (bytes_in s k.layers) ≡ k.layers.end - k.layers.start
  pub info_forward : k.info.start ≤ k.info.end
  pub info_within : k.info.end ≤ length s
  pub piece_length_lem : is_piece_length k.plen ≡ true
  pub layers_open : LayersOpen (bytes_in s k.layers)

pub keys_open : (s : List ℕ) → (metainfo_of s).number ≡ 0 → Open s (metainfo_of s)
keys_open s e =
    let r = metainfo_right s e in
    let k = metainfo_of s in
    let i = dictionary_within s key_info 0 k.info.start k.info.end r.located.info_found in
    let t = dictionary_within s key_file_tree k.info.start k.tree.start k.tree.end r.located.tree_found in
    let l = dictionary_within s key_piece_layers 0 k.layers.start k.layers.end r.located.layers_found in
    let v = taken_only s r.strict in
    let d = part_encoded s key_piece_layers v.0 v.2 v.1 k.layers.start k.layers.end r.located.layers_found in
    let bytes : bytes_in s k.layers ≡ encode (dictionary d.0) ++ [] = d.2 ∙ sym (append-nil (encode (dictionary d.0))) in
    let x = l.0 in
    let y = l.1 in
    let z = l.2 in
    let u = r.small in
    record {
      small = u;
      tree_forward = t.0;
      tree_within = t.1;
      tree_size = t.2;
      layers_forward = x;
      layers_within = y;
      layers_size = z;
      info_forward = i.0;
      info_within = i.1;
      piece_length_lem = r.located.piece_length_lem;
      layers_open = record {
        small = omega arith;
        opens = ap is_dictionary bytes ∙ dictionary_is (dictionary d.0) [];
        ascending = keys_ascending (bytes_in s k.layers) d.0 [] bytes (max_levels - 1) (omega arith) d.1;
      };
    }

-- and `file tree` ends within `info`
pub tree_in_info : (s : List ℕ) → (metainfo_of s).number ≡ 0 → (metainfo_of s).tree.end ≤ (metainfo_of s).info.end
tree_in_info s e =
    let r = metainfo_right s e in
    let k = metainfo_of s in
    let i = dictionary_within s key_info 0 k.info.start k.info.end r.located.info_found in
    let v = taken_only s r.strict in
    let n = part_encoded s key_info v.0 v.2 v.1 k.info.start k.info.end r.located.info_found in
    omega (arith, i.0, i.2, ap length n.2, found_ends_by key_file_tree s k.info.start n.0 _ (part_front s k.info.start k.info.end (dictionary n.0) n.2) n.1 k.tree.start k.tree.end (dictionary_found s key_file_tree k.info.start k.tree.start k.tree.end r.located.tree_found).0)

-- ---- a torrent that gets 0

-- its parts are as above, its tree is right, its counts are those of its files
pub record Whole (s : List ℕ) (c : Checked) : Type 0 where
  pub opened : Open s c.keys
  pub keys_are : c.keys ≡ metainfo_of s
  pub number_right : tree_number (bytes_in s c.keys.tree) (bytes_in s c.keys.layers) c.keys.plen (files_in (bytes_in s c.keys.tree)) ≡ 0
  pub tree_right_lem : right (files_in (bytes_in s c.keys.tree)) ≡ true
  pub all_files : c.files ≡ length (listed (files_in (bytes_in s c.keys.tree)))
  pub all_layered : c.layered ≡ layer_count c.keys.plen (read_files (bytes_in s c.keys.tree) (listed (files_in (bytes_in s c.keys.tree))))

-- only a right tree gets 0
right_tree : (t l : List ℕ) (plen : ℕ) (fs : Files) → tree_number t l plen fs ≡ 0 → right fs ≡ true
unfolding tree_number
right_tree t l plen fs e = by_right (right fs) e
  where
    by_right : (b : Bool) → cond b (files_number t l plen (listed fs)) wrong_tree ≡ 0 → b ≡ true
    by_right true q = refl
    by_right false q = let z : ⊥ = omega arith in absurd z

v2_whole : (s : List ℕ) → (v2_checked_of s).keys.number ≡ 0 → Whole s (v2_checked_of s)
unfolding v2_checked_of judged_of
v2_whole s e = by_keys (eqb (metainfo_of s).number 0) refl e
  where
    t : List ℕ
    t = bytes_in s (metainfo_of s).tree

    l : List ℕ
    l = bytes_in s (metainfo_of s).layers

    by_number : (n : ℕ) → tree_number t l (metainfo_of s).plen (files_in t) ≡ n → (metainfo_of s).number ≡ 0
        → (with_judged (metainfo_of s) (judged_as n (length (listed (files_in t))) (layer_count (metainfo_of s).plen (read_files t (listed (files_in t)))))).keys.number ≡ 0
        → Whole s (with_judged (metainfo_of s) (judged_as n (length (listed (files_in t))) (layer_count (metainfo_of s).plen (read_files t (listed (files_in t))))))
    by_number zero q g f =
        record { opened = keys_open s g; keys_are = refl; number_right = q; tree_right_lem = right_tree t l (metainfo_of s).plen (files_in t) q; all_files = refl; all_layered = refl }
    by_number (suc n) q g f = let o : (suc n ≡ 0 → ⊥) = λ z. omega arith in let h : suc n ≡ 0 = simp (ne_eqb (suc n) 0 o) at f in absurd (o h)

    by_keys : (b : Bool) → eqb (metainfo_of s).number 0 ≡ b
        → (cond b (with_judged (metainfo_of s) (judged_as (tree_number t l (metainfo_of s).plen (files_in t)) (length (listed (files_in t))) (layer_count (metainfo_of s).plen (read_files t (listed (files_in t)))))) (unread (metainfo_of s).number)).keys.number ≡ 0
        → Whole s (cond b (with_judged (metainfo_of s) (judged_as (tree_number t l (metainfo_of s).plen (files_in t)) (length (listed (files_in t))) (layer_count (metainfo_of s).plen (read_files t (listed (files_in t)))))) (unread (metainfo_of s).number))
    by_keys true q f = by_number (tree_number t l (metainfo_of s).plen (files_in t)) refl (eqb-true (metainfo_of s).number 0 q) f
    by_keys false q f = absurd (eqb-false (metainfo_of s).number 0 q f)

pub v2_so : (s : List ℕ) (c : Checked) → c ≡ v2_checked_of s → c.keys.number ≡ 0 → Whole s c
v2_so s c e h = rw e (v2_whole s (ap (λ (z : Checked). z.keys.number) (sym e) ∙ h))

-- ---- and 0 by both halves

-- 0 is given only where it is given by the v2 half, and with the same parts and counts
pub zero_by_both : (s : List ℕ) → (checked_of s).keys.number ≡ 0 → checked_of s ≡ v2_checked_of s
unfolding checked_of
zero_by_both s e = by (eqb (v2_checked_of s).keys.number 0) (not (is_hybrid (torrent_in s)) || halves_fit (torrent_in s)) e
  where
    by : (b t : Bool) → (cond b (cond t (v2_checked_of s) (unread halves_differ)) (v2_checked_of s)).keys.number ≡ 0
        → cond b (cond t (v2_checked_of s) (unread halves_differ)) (v2_checked_of s) ≡ v2_checked_of s
    by true true q = refl
    by true false q = let z : ⊥ = omega arith in absurd z
    by false t q = refl

pub checked_so : (s : List ℕ) (c : Checked) → c ≡ checked_of s → c.keys.number ≡ 0 → Whole s c
checked_so s c e h = v2_so s c (e ∙ zero_by_both s (ap (λ (z : Checked). z.keys.number) (sym e) ∙ h)) h

pub checked_whole : (s : List ℕ) → (checked_of s).keys.number ≡ 0 → Whole s (checked_of s)
checked_whole s e = checked_so s (checked_of s) refl e
