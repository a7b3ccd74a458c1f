-- 02, request 1, joined to the store: a store just opened with a history's N, piece length and root takes its piece layer.
-- That blocks and pieces of the file are then judged 0 once their hashes are held, or two strings are shown, is `true_block_believed`
-- and `true_piece_believed` of the promises: the file is the history's bytes.
-- Assumes nothing.
use Rattle.std.specs.Prelude.{◌≡◌, true, not, ◌||◌, List, ℕ, ◌+◌, ◌-◌, ◌*◌, ◌^◌, ◌≤◌, ◌<◌, length, take, eqb}
use Rattle.std.proofs.Math.Path.{ap, ap₂, sym}
use Rattle.std.proofs.Common.{◌∙◌, arith, ne_eqb}
use Rattle.std.proofs.Math.Bool.{or-true}
use Rattle.std.proofs.Math.Decide.{ℕ_discrete}
use Rattle.octets.specs.Octets.{same}
use Rattle.octets.specs.OctetsLaws.{same_eq}
use Rattle.tree.specs.Geometry.{block_count, height, covering, is_piece_length, piece_layer, has_layer, piece_count}
use Rattle.tree.proofs.GeometryLaws.{piece_length_form, pieces_covering, node_number_root, node_number_range, node_number_distinct, has_longer}
use Rattle.tree.specs.Values.{node, leaf_of, pieces_root, whole_layer, layer_leaf}
use Rattle.tree.proofs.ValuesLaws.{layer_octets, layer_cut, node_of_layer, root_octets}
use Rattle.cells.specs.Cells.{held_at, hash_at}
use Rattle.cells.specs.Entries.{Entry, agrees_at}
use Rattle.cells.specs.EntriesLaws.{In, in_agrees}
use Rattle.store.specs.Store.{file_length, piece_length, height_of, positions, facts_in_range, store_size, opened}
use Rattle.store.specs.StoreLaws.{range_piece, positions_some, opened_file, opened_piece, opened_height, opened_facts, opened_usable, opened_held, opened_hash}
use Rattle.pieces.specs.Pieces.{layer_of_pieces, layer_settled, layer_number}
use Rattle.pieces.specs.Asks.{Layered}
use Rattle.pieces.proofs.PiecesLaws.{layered, InLayers, settled_in_layers, loads_answered}
use Rattle.history.specs.Answers.{layer_bytes, end_answer, end_layer}
use Rattle.history.proofs.DecidingLaws.{bytes_some}
use Rattle.history.proofs.Histories.{Logged, logged, logged_end, logged_layer}
use Rattle.history.specs.declared.History.{History}
use Rattle.history.specs.declared.HistoryEnd.{HistoryEnd}

module _ (x b : List ℕ) (plen : ℕ) (ok : facts_in_range (length x) plen ≡ true) (fits : store_size (length x) ≤ length b) (good : is_piece_length plen ≡ true)
    (longer : has_layer (length x) plen ≡ true) where
  size : length (pieces_root x) ≡ 32
  size = (root_octets x).size

  -- the store that was opened
  abbrev s : List ℕ
  s = opened b (length x) plen (pieces_root x)

  file_is : file_length s ≡ length x
  file_is = opened_file b (length x) plen (pieces_root x) ok fits size

  piece_is : piece_length s ≡ plen
  piece_is = opened_piece b (length x) plen (pieces_root x) ok fits size

  height_is : height_of s ≡ height (block_count (length x))
  height_is = opened_height b (length x) plen (pieces_root x) ok fits size

  has : has_layer (file_length s) (piece_length s) ≡ true
  has = ap₂ has_layer file_is piece_is ∙ longer

  layer_is : layer_of_pieces s ≡ piece_layer plen
  unfolding layer_of_pieces
  layer_is = ap piece_layer piece_is

  lies : Layered s
  lies = layered s (opened_facts b (length x) plen (pieces_root x) ok fits size) has

  abbrev own : List ℕ
  own = whole_layer x (piece_layer plen)

  own_cells : length own ≡ 32 * covering (block_count (length x)) (piece_layer plen)
  unfolding whole_layer
  own_cells = (layer_octets x (piece_layer plen) (covering (block_count (length x)) (piece_layer plen))).size

  -- what the layer works out is the file's
  node_is : (k j : ℕ) → node (layer_leaf own (layer_of_pieces s)) k j ≡ node (leaf_of x) (piece_layer plen + k) j
  unfolding whole_layer
  node_is k j =
      ap (λ (p : ℕ). node (layer_leaf own p) k j) layer_is
      ∙ node_of_layer x own (piece_layer plen) own_cells (layer_cut x (piece_layer plen) (covering (block_count (length x)) (piece_layer plen))) k j

  root_is : node (layer_leaf own (layer_of_pieces s)) (height_of s - layer_of_pieces s) 0 ≡ pieces_root x
  unfolding pieces_root
  root_is =
      let e : piece_layer plen + (height_of s - layer_of_pieces s) ≡ height (block_count (length x)) = omega (arith, lies.above, layer_is, height_is) in
      node_is (height_of s - layer_of_pieces s) 0 ∙ ap (λ (h : ℕ). node (leaf_of x) h 0) e

  hash_is : hash_at s 1 ≡ pieces_root x
  hash_is = opened_hash b (length x) plen (pieces_root x) ok fits size

  -- the root alone is held, so nothing else can differ
  entry_agrees : (e : Entry) → In e (layer_settled s own) → agrees_at s e.at e.hash ≡ true
  unfolding agrees_at positions
  entry_agrees e i = by_place (ℕ_discrete e.at 1)
    where
      p : InLayers s own e
      p = settled_in_layers s own lies e i

      within : (1 ≤ e.at) × (e.at < 2 * 2 ^ height_of s)
      within =
          let w = node_number_range (height_of s) p.l p.i p.inside in
          (omega (arith, w.0, p.position), omega (arith, w.1, p.position))

      held_is : held_at s e.at ≡ eqb e.at 1
      held_is =
          opened_held b (length x) plen (pieces_root x) ok fits size e.at within.0 (omega (arith, within.1, ap (λ (h : ℕ). 2 ^ h) height_is))

      by_place : Dec (e.at ≡ 1) → (not (held_at s e.at) || same (hash_at s e.at) e.hash) ≡ true
      by_place (no n) = rw (held_is, ne_eqb e.at 1 n)
      by_place (yes o) =
          let top = node_number_distinct (height_of s) p.l p.i (height_of s) 0 p.upto (omega arith) p.inside (at_top (height_of s)) (sym p.position ∙ o ∙ sym (node_number_root (height_of s))) in
          let value : e.hash ≡ pieces_root x = p.value ∙ ap₂ (λ (l j : ℕ). node (layer_leaf own (layer_of_pieces s)) (l - layer_of_pieces s) j) top.0 top.1 ∙ root_is in
          let same_hash : hash_at s e.at ≡ e.hash = ap (hash_at s) o ∙ hash_is ∙ sym value in
          rw (same_eq (hash_at s e.at) e.hash same_hash) (or-true (not (held_at s e.at)))
        where
          at_top : (h : ℕ) → 0 < 2 ^ (h - h)
          at_top h = let z : h - h ≡ 0 = omega arith in rw z (omega arith)

  -- THE FILE'S PIECE LAYER is answered 0 by a store that was just opened for it
  pub own_layer_loads : layer_number s own ≡ 0
  unfolding layer_settled
  own_layer_loads =
      loads_answered s own
      (record {
        store = opened_usable b (length x) plen (pieces_root x) ok fits size;
        longer = has;
        size =
            own_cells
            ∙ ap (λ (c : ℕ). 32 * c) (sym (pieces_covering (length x) (piece_layer plen)) ∙ ap₂ piece_count (sym file_is) (sym (piece_is ∙ (piece_length_form plen good).1)));
        root =
            record {
              held = opened_held b (length x) plen (pieces_root x) ok fits size 1 (omega arith) (two (height (block_count (length x))));
              alike = hash_is ∙ sym root_is;
              agree = in_agrees s (layer_settled s own) entry_agrees;
            };
      })
    where
      two : (h : ℕ) → 1 < positions h
      two h = omega (arith, positions_some h)

-- so is the layer that a history has written, with what its end says
pub logged_loads : (plen : ℕ) → is_piece_length plen ≡ true → {x : List ℕ} {t : History} {layer : List ℕ} (b : List ℕ) → Logged plen x t layer
    → layer_bytes (length x) plen ≤ length layer → has_layer (length x) plen ≡ true → store_size (length x) ≤ length b
    → let answer : HistoryEnd = end_answer t layer in
    layer_number (opened b answer.length plen answer.root) (take answer.layer_size (end_layer t layer)) ≡ 0
logged_loads plen good {x} {t} {layer} b g room longer fits =
    let short = (logged plen good g).1 in
    let some : 1 ≤ length x = some_bytes in
    let ok : facts_in_range (length x) plen ≡ true = sym (range_piece (length x) plen some (omega arith)) ∙ good in
    let e = logged_end plen good g room in
    let w = logged_layer plen good g room longer in
    ap (λ (a : HistoryEnd). layer_number (opened b a.length plen a.root) (take a.layer_size (end_layer t layer))) e
    ∙ ap (λ (l : List ℕ). layer_number (opened b (length x) plen (pieces_root x)) l)
    (ap (λ (n : ℕ). take n (end_layer t layer)) (sym (bytes_some (length x) plen longer)) ∙ w)
    ∙ own_layer_loads x b plen ok fits good longer
  where
    some_bytes : 1 ≤ length x
    some_bytes = omega (arith, has_longer (length x) plen longer)
