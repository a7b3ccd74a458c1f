-- Demand 3: in a store that only this build has written, 8 shows two different 64-byte strings with one SHA-256.
-- Assumes nothing.
use Rattle.std.specs.Prelude.{◌≡◌, Bool, true, false, ◌&&◌, ◌⊎◌, ℕ, zero, suc, ◌+◌, ◌-◌, ◌*◌, ◌/◌, ◌%◌, ◌^◌, ◌≤◌, ◌<◌, length, take, drop, List, [], ◌∷◌, ◌++◌}
use Rattle.std.proofs.Math.Path.{refl, sym}
use Rattle.std.proofs.Common.{ap, ap₂, ◌∙◌, take_at, drop_at, eqb-true, ltb-true, arith}
use Rattle.std.proofs.lemmas.Bool.{false≢true}
use Rattle.std.proofs.Math.Logic.{inl, inr}
use Rattle.std.proofs.Math.Decide.{ℕ_discrete}
use Rattle.octets.specs.Octets.{Octets, cut, same, zero_hash}
use Rattle.octets.specs.OctetsLaws.{same_true, same_eq, same_false, append_octets, cut_octets, zero_octets}
use Rattle.numbers.specs.Numbers.{conflict}
use Rattle.numbers.specs.Chain.{exactly_of}
use Rattle.sha256.specs.Sha256.{sha256, pair_hash}
use Rattle.sha256.specs.Sha256Laws.{pair_octets}
use Rattle.tree.specs.Geometry.{block_count, height, node_number, piece_count}
use Rattle.tree.specs.Values.{node, pad_value, leaf_of, layer_leaf}
use Rattle.tree.proofs.ValuesLaws.{node_octets, leaf_octets, pad_octets}
use Rattle.cells.specs.Cells.{held_at, hash_at}
use Rattle.cells.specs.Entries.{Entry, agrees_at, agrees}
use Rattle.cells.specs.EntriesLaws.{Hold, In, here, there, Has, sound_in, in_cases, no_entry, agrees_held, agrees_free}
use Rattle.store.specs.Store.{file_length, piece_length, height_of, positions, Facts}
use Rattle.store.specs.StoreLaws.{usable_facts, positions_even}
use Rattle.settling.specs.Subtree.{subtree, run_leaf}
use Rattle.settling.specs.SubtreeLaws.{FamilyIn, run_leaf_octets, subtree_value, subtree_top}
use Rattle.settling.specs.Path.{parent_value, uncle, path}
use Rattle.settling.specs.PathLaws.{parent_even, parent_odd, path_cases}
use Rattle.settling.specs.SettledLaws.{settled_anchor}
use Rattle.header.specs.Header.{header_size, header_of, is_hashes, message_size}
use Rattle.messages.specs.Take.{header_number, run_of, uncles_of, given, settled, anchor, worked, place_in, take_number}
use Rattle.messages.specs.Asks.{Ready}
use Rattle.messages.specs.TakeLaws.{passed, passes, placed, placed_ready}
use Rattle.pieces.specs.Pieces.{judged_at, layer_of_pieces, layer_settled, layer_number, piece_height, piece_number}
use Rattle.pieces.proofs.PiecesLaws.{layered, run_leaves}
use Rattle.words.specs.History.{Bytes}
use Rattle.words.specs.Shown.{Source, held_by, by_message, by_layer, by_piece, of_file}
use Rattle.knowledge.specs.Invariant.{Chained, Ours, family_pair, Whole, message_whole, layer_whole, piece_whole}
use Rattle.knowledge.specs.NumberChains.{take_chain, take_tests, layer_chain, layer_tests, piece_chain, piece_tests}

-- ---- what is shown

-- the source has hash v at the position of number n
unfoldable pub GivesAt : Source → ℕ → List ℕ → Type 0
GivesAt (held_by s) n v = Hold s n v
GivesAt (by_message s m) n v = Has n v (settled m (place_in s m))
GivesAt (by_layer s layer) n v = Has n v (layer_settled s layer)
GivesAt (by_piece s i piece) n v = Has n v (subtree (leaf_of piece) (piece_height s) (node_number (height_of s) (piece_height s) i) 0)
GivesAt (of_file file) n v = Has n v (subtree (leaf_of file) (height (block_count (length file))) 1 0)

-- two different strings of 64 bytes with one SHA-256, both left child then right child of the position of one number of a tree of
-- height h, one as x and one as y has them (Shown.antt says it by layer and index)
pub record ShownAt (h : ℕ) (x y : Source) : Type 0 where
  pub at : ℕ
  pub low : 1 ≤ at
  pub high : 2 * at + 1 < positions h
  pub l : List ℕ
  pub r : List ℕ
  pub l' : List ℕ
  pub r' : List ℕ
  pub left : GivesAt x (2 * at) l
  pub right : GivesAt x (2 * at + 1) r
  pub left' : GivesAt y (2 * at) l'
  pub right' : GivesAt y (2 * at + 1) r'
  pub bytes : Octets 64 (l ++ r)
  pub bytes' : Octets 64 (l' ++ r')
  pub differ : l ++ r ≡ l' ++ r' → ⊥
  pub alike : sha256 (l ++ r) ≡ sha256 (l' ++ r')

-- ---- two pairs with one hash are the same or show it

pub append_parts : (a b c d : List ℕ) → length a ≡ length c → a ++ b ≡ c ++ d → (a ≡ c) × (b ≡ d)
append_parts a b c d n e = (
  sym (take_at a b (length a) refl) ∙ ap (take (length a)) e ∙ take_at c d (length a) (sym n),
  sym (drop_at a b (length a) refl) ∙ ap (drop (length a)) e ∙ drop_at c d (length a) (sym n),
)

module _ (h : ℕ) (x y : Source) (p : ℕ) (low : 1 ≤ p) (high : 2 * p + 1 < positions h) (l r l2 r2 : List ℕ)
    (gl : GivesAt x (2 * p) l) (gr : GivesAt x (2 * p + 1) r) (gl2 : GivesAt y (2 * p) l2) (gr2 : GivesAt y (2 * p + 1) r2)
    (ol : Octets 32 l) (or : Octets 32 r) (ol2 : Octets 32 l2) (or2 : Octets 32 r2) (e : pair_hash l r ≡ pair_hash l2 r2) where
  shows : (l ++ r ≡ l2 ++ r2 → ⊥) → ShownAt h x y
  unfolding pair_hash
  shows d =
      record {
        at = p;
        low = low;
        high = high;
        l = l;
        r = r;
        l' = l2;
        r' = r2;
        left = gl;
        right = gr;
        left' = gl2;
        right' = gr2;
        bytes = append_octets ol or;
        bytes' = append_octets ol2 or2;
        differ = d;
        alike = e;
      }

  -- two pairs of children of p with one hash are the same, or show it
  pub same_or_shown : ShownAt h x y ⊎ ((l ≡ l2) × (r ≡ r2))
  same_or_shown = by (same l l2) (same r r2) refl refl
    where
      n : length l ≡ length l2
      n = ol.size ∙ sym ol2.size

      by : (a b : Bool) → same l l2 ≡ a → same r r2 ≡ b → ShownAt h x y ⊎ ((l ≡ l2) × (r ≡ r2))
      by false b p q = inl (shows (λ z. same_false l l2 p (append_parts l r l2 r2 n z).0))
      by true false p q = inl (shows (λ z. same_false r r2 q (append_parts l r l2 r2 n z).1))
      by true true p q = inr (same_true l l2 p, same_true r r2 q)

-- a store's hashes are strings of 32 bytes
pub hash_octets : (s : List ℕ) (n : ℕ) → Facts s → Bytes s → n < positions (height_of s) → Octets 32 (hash_at s n)
unfolding hash_at
hash_octets s n f b l = cut_octets (32 + 33 * n) 32 b (omega (arith, f.room))

-- ---- a list against a store

module _ (s : List ℕ) (y : Source) (L : List Entry) (a : ℕ) (v : List ℕ) (c : Chained s) (bytes : Bytes s)
    (w : Whole (positions (height_of s)) a L) (gives : (n : ℕ) (u : List ℕ) → Has n u L → GivesAt y n u)
    (octets : (e : Entry) → In e L → Octets 32 e.hash) (top : Has a v L) (held : held_at s a ≡ true) (agree : hash_at s a ≡ v) where
  -- an entry at q, its family in L, its parent agreeing
  child : (e : Entry) → In e L → held_at s e.at ≡ true → (F : FamilyIn L e.at) → agrees_at s (e.at / 2) (pair_hash F.l F.r) ≡ true
      → ShownAt (height_of s) (held_by s) y ⊎ (agrees_at s e.at e.hash ≡ true)
  unfolding GivesAt
  child e i h F ok =
      let q = e.at in
      let p = e.at / 2 in
      let low : 1 ≤ e.at / 2 = w.from _ F.parent in
      let b = (sound_in L w.sound i).0 in
      let high : 2 * (e.at / 2) + 1 < positions (height_of s) = omega (arith, positions_even (height_of s)) in
      let P = family_pair s e.at h (c.family e.at (omega arith) b h) in
      let k = same_true (hash_at s (e.at / 2)) (pair_hash F.l F.r) (sym (agrees_held s (e.at / 2) (pair_hash F.l F.r) P.top) ∙ ok) in
      elim (same_or_shown (height_of s) (held_by s) y p low high (hash_at s (2 * p)) (hash_at s (2 * p + 1)) F.l F.r
      (P.left, refl) (P.right, refl) (gives _ _ F.left) (gives _ _ F.right)
      (hash_octets s (2 * p) c.facts bytes (omega arith)) (hash_octets s (2 * p + 1) c.facts bytes high)
      (octets _ F.left) (octets _ F.right) (sym P.made ∙ k)) [
        | inl x ↦ inl x
        | inr o ↦ elim (ℕ_discrete (e.at % 2) 0) [
          | yes z ↦
              let n : e.at ≡ 2 * (e.at / 2) = omega arith in
              inr (agrees_held s e.at e.hash h ∙ same_eq (hash_at s e.at) e.hash (ap (hash_at s) n ∙ o.0 ∙ sym (w.alone e _ i F.left n)))
          | no z ↦
              let n : e.at ≡ 2 * (e.at / 2) + 1 = omega arith in
              inr (agrees_held s e.at e.hash h ∙ same_eq (hash_at s e.at) e.hash (ap (hash_at s) n ∙ o.1 ∙ sym (w.alone e _ i F.right n)))
        ]
      ]

  each : (d : ℕ) (e : Entry) → In e L → e.at ≤ d → ShownAt (height_of s) (held_by s) y ⊎ (agrees_at s e.at e.hash ≡ true)
  each zero e i l = let z : ⊥ = omega (arith, w.from e i) in absurd z
  each (suc d) e i l =
      elim (w.family e i) [
        | inl t ↦
            let k : held_at s e.at ≡ true = rw t held in
            inr (agrees_held s e.at e.hash k ∙ same_eq (hash_at s e.at) e.hash (ap (hash_at s) t ∙ agree ∙ sym (w.alone e _ i top t)))
        | inr F ↦ by F (held_at s e.at) refl (each d (record { at = e.at / 2; hash = pair_hash F.l F.r }) F.parent (omega (arith, w.from e i)))
      ]
    where
      by : (F : FamilyIn L e.at) (b : Bool) → held_at s e.at ≡ b → ShownAt (height_of s) (held_by s) y ⊎ (agrees_at s (e.at / 2) (pair_hash F.l F.r) ≡ true)
          → ShownAt (height_of s) (held_by s) y ⊎ (agrees_at s e.at e.hash ≡ true)
      by F false h o = inr (agrees_free s e.at e.hash h)
      by F true h (inl x) = inl x
      by F true h (inr ok) = child e i h F ok

  all : (M : List Entry) → ((e : Entry) → In e M → In e L) → ShownAt (height_of s) (held_by s) y ⊎ (agrees s M ≡ true)
  unfolding agrees
  all [] f = inr refl
  all (e ∷ M) f =
      elim (each e.at e (f e here) (omega arith)) [
        | inl x ↦ inl x
        | inr p ↦ elim (all M (λ g i. f g (there i))) [ inl x ↦ inl x | inr q ↦ inr (ap₂ (λ (x z : Bool). x && z) p q) ]
      ]

  -- where the anchor agrees, all does, or a pair is shown
  pub agrees_or_shown : ShownAt (height_of s) (held_by s) y ⊎ (agrees s L ≡ true)
  agrees_or_shown = all L (λ e i. i)

-- ---- what is given and worked out are strings of bytes

-- a subtree over leaves of 32 bytes
pub subtree_octets : (leaf : ℕ → List ℕ) → ((i : ℕ) → Octets 32 (leaf i)) → (k n j : ℕ) (e : Entry) → In e (subtree leaf k n j) → Octets 32 e.hash
subtree_octets leaf f k n j e i =
    let P = subtree_value leaf k n j e i in
    rw P.value (node_octets leaf f (k - P.layers) (j * 2 ^ P.layers + P.offset))

parent_octets : (n : ℕ) (v w : List ℕ) → Octets 32 (parent_value n v w)
parent_octets n v w =
    elim (ℕ_discrete (n % 2) 0) [
      | yes z ↦ rw (parent_even n v w z) (pair_octets v w)
      | no z ↦ rw (parent_odd n v w z) (pair_octets w v)
    ]

path_octets : (hashes : List ℕ) (i u n : ℕ) (v : List ℕ) → Bytes hashes → 32 * (i + u) ≤ length hashes → (e : Entry) → In e (path hashes i u n v) → Octets 32 e.hash
unfolding path uncle
path_octets hashes i zero n v b l e k = absurd (no_entry k)
path_octets hashes i (suc u) n v b l e k =
    elim (path_cases hashes i u n v e k) [
      | inl a ↦ rw a.1 (cut_octets (32 * i) 32 b (omega arith))
      | inr r ↦ elim r [
        | inl a ↦ rw a.1 (parent_octets n v (uncle hashes i))
        | inr z ↦ path_octets hashes (i + 1) u (n / 2) (parent_value n v (uncle hashes i)) b (omega arith) e z
      ]
    ]

-- a string of stated length is a string of bytes
pub sized_bytes : (n : ℕ) (l : List ℕ) → Octets n l → Bytes l
sized_bytes n l o = rw o.size o

-- what a message settles
pub message_octets : (s m : List ℕ) → Bytes m → Ready (length s) (length m) (height_of s) (header_of m) (place_in s m)
    → (e : Entry) → In e (settled m (place_in s m)) → Octets 32 e.hash
unfolding settled given run_of uncles_of
message_octets s m b r e i =
    let p = place_in s m in
    let c = r.carried in
    let run = cut m header_size (32 * 2 ^ p.k) in
    let us = cut m (header_size + 32 * 2 ^ p.k) (32 * p.u) in
    let ro : Octets (32 * 2 ^ p.k) run = cut_octets header_size (32 * 2 ^ p.k) b (omega (arith, c.carries, c.power)) in
    let uo : Octets (32 * p.u) us = cut_octets (header_size + 32 * 2 ^ p.k) (32 * p.u) b (omega (arith, c.carries, c.power)) in
    let leaf = run_leaf run zero_hash in
    elim (in_cases (subtree leaf p.k p.top 0) (path us 0 p.u p.top (node leaf p.k 0)) i) [
      | inl x ↦ subtree_octets leaf (run_leaf_octets run zero_hash (sized_bytes (32 * 2 ^ p.k) run ro) zero_octets) p.k p.top 0 e x
      | inr x ↦ path_octets us 0 p.u p.top (node leaf p.k 0) (sized_bytes (32 * p.u) us uo) (omega (arith, uo.size)) e x
    ]

-- what a layer settles
pub layer_gives_octets : (s layer : List ℕ) → Bytes layer → (e : Entry) → In e (layer_settled s layer) → Octets 32 e.hash
unfolding layer_settled
layer_gives_octets s layer b e i =
    let p = layer_of_pieces s in
    subtree_octets (layer_leaf layer (layer_of_pieces s)) (λ j. rw (← run_leaves layer (layer_of_pieces s)) (run_leaf_octets layer (pad_value (layer_of_pieces s)) b (pad_octets (layer_of_pieces s)) j))
    (height_of s - layer_of_pieces s) 1 0 e i

-- ---- what 8 says

-- a message answered 8
pub record Conflicts (s m : List ℕ) : Type 0 where
  pub header : header_number (is_hashes m) s m ≡ 0
  pub size : length m ≡ message_size (header_of m)
  pub held : held_at s (anchor (place_in s m)) ≡ true
  pub chains : hash_at s (anchor (place_in s m)) ≡ worked m (place_in s m)
  pub differs : agrees s (settled m (place_in s m)) ≡ false

-- so is every message that gets 8
pub take_conflicts : (s m : List ℕ) → take_number s m ≡ conflict → Conflicts s m
take_conflicts s m e =
    let t = (exactly_of (take_chain s m) conflict (take_tests s m) refl).0 e in
    let body = t.1.1.1.1 in
    let judged = body.1.1 in
    record {
      header = passes (is_hashes m) s m (record { store = t.0; formed = t.1.0; root = t.1.1.0; rules = t.1.1.1.0 });
      size = eqb-true (length m) (message_size (header_of m)) body.0;
      held = judged.0;
      chains = same_true (hash_at s (anchor (place_in s m))) (worked m (place_in s m)) judged.1.0;
      differs = judged.1.1;
    }

-- a message that passes 9, 1, 2, 3 and 4 lies in the store's tree
pub well_ready : (s m : List ℕ) → header_number (is_hashes m) s m ≡ 0 → length m ≡ message_size (header_of m)
    → Ready (length s) (length m) (height_of s) (header_of m) (place_in s m)
well_ready s m h e =
    let P = passed (is_hashes m) s m h in
    let q = placed (is_hashes m) s m P in
    placed_ready (length s) (length m) q (usable_facts s P.store).room (omega (arith, q.size))

-- a message settles its anchor with the value worked out
pub anchor_has : (m : List ℕ) (s : List ℕ) → Has (anchor (place_in s m)) (worked m (place_in s m)) (settled m (place_in s m))
unfolding anchor worked settled
anchor_has m s =
    let p = place_in s m in
    settled_anchor (given m p.k) (uncles_of m (2 ^ p.k) p.u) p.k p.top 0 0 p.u

-- where a well-formed message's anchor is held with the value that its hashes chain to, no held hash differs, or a pair is shown
pub message_or_shown : (s m : List ℕ) → Chained s → Bytes s → Bytes m → header_number (is_hashes m) s m ≡ 0 → length m ≡ message_size (header_of m)
    → held_at s (anchor (place_in s m)) ≡ true → hash_at s (anchor (place_in s m)) ≡ worked m (place_in s m)
    → ShownAt (height_of s) (held_by s) (by_message s m) ⊎ (agrees s (settled m (place_in s m)) ≡ true)
unfolding GivesAt
message_or_shown s m c bs bm h e k v =
    let r = well_ready s m h e in
    agrees_or_shown s (by_message s m) (settled m (place_in s m)) (anchor (place_in s m)) (worked m (place_in s m)) c bs (message_whole s m r) (λ n u x. x)
    (message_octets s m bm r) (anchor_has m s) k v

not_both : {A : Type 0} (b : Bool) → b ≡ false → A ⊎ (b ≡ true) → A
not_both b f (inl x) = x
not_both b f (inr t) = absurd (false≢true (sym f ∙ t))

-- CONFLICT SHOWS A PAIR: a message
pub conflict_shows : (s m : List ℕ) → Ours s → Bytes s → Bytes m → take_number s m ≡ conflict → ShownAt (height_of s) (held_by s) (by_message s m)
conflict_shows s m o bs bm e =
    let q = take_conflicts s m e in
    not_both (agrees s (settled m (place_in s m))) q.differs (message_or_shown s m o.chained bs bm q.header q.size q.held q.chains)

-- a layer
pub layer_conflict_shows : (s layer : List ℕ) → Ours s → Bytes s → Bytes layer → layer_number s layer ≡ conflict → ShownAt (height_of s) (held_by s) (by_layer s layer)
unfolding layer_number judged_at GivesAt layer_settled
layer_conflict_shows s layer o bs bl e =
    let leaf = layer_leaf layer (layer_of_pieces s) in
    let k = height_of s - layer_of_pieces s in
    let t = (exactly_of (layer_chain s layer) conflict (layer_tests s layer) refl).0 e in
    let j = t.1.1.1 in
    not_both (agrees s (subtree leaf k 1 0)) j.1.1
    (agrees_or_shown s (by_layer s layer) (subtree leaf k 1 0) 1 (node leaf k 0) o.chained bs
    (layer_whole s layer (layered s (usable_facts s t.0) t.1.0)) (λ n u x. x) (layer_gives_octets s layer bl)
    (subtree_top leaf k 1 0) j.0 (same_true (hash_at s 1) (node leaf k 0) j.1.0))

-- a piece
pub piece_conflict_shows : (s : List ℕ) (i : ℕ) (piece : List ℕ) → Ours s → Bytes s → piece_number s i piece ≡ conflict
    → ShownAt (height_of s) (held_by s) (by_piece s i piece)
unfolding piece_number judged_at GivesAt
piece_conflict_shows s i piece o bs e =
    let leaf = leaf_of piece in
    let k = piece_height s in
    let n = node_number (height_of s) (piece_height s) i in
    let t = (exactly_of (piece_chain s i piece) conflict (piece_tests s i piece) refl).0 e in
    let j = t.1.1.1 in
    not_both (agrees s (subtree leaf k n 0)) j.1.1
    (agrees_or_shown s (by_piece s i piece) (subtree leaf k n 0) n (node leaf k 0) o.chained bs
    (piece_whole s i piece (Rattle.pieces.proofs.PiecesLaws.piece_in_lem s (usable_facts s t.0) i (ltb-true i (piece_count (file_length s) (piece_length s)) t.1.0))) (λ m u x. x)
    (subtree_octets leaf (leaf_octets piece) k n 0)
    (subtree_top leaf k n 0) j.0 (same_true (hash_at s n) (node leaf k 0) j.1.0))
