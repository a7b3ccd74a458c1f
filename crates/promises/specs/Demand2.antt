-- 00, demand 2, sentence by sentence. Its words: crates/words, files Held, Messages, Pieces. Each number by entry point: EachNumber.antt;
-- which hashes, blocks and pieces are the file's: FromRootToBlock.antt.
-- Assumes nothing.
use Rattle.std.specs.Prelude.{◌≡◌, refl, true, List, ◌↔◌, ◌⊎◌, ℕ, suc, ◌+◌, ◌-◌, ◌*◌, ◌/◌, ◌^◌, ◌≤◌, ◌<◌, length}
use Rattle.std.proofs.Common.{ap}
use Rattle.numbers.specs.Numbers.{done}
use Rattle.numbers.specs.declared.Answer.{Answer}
use Rattle.sha256.specs.Sha256.{pair_hash}
use Rattle.store.specs.Store.{height_of, held_answer}
use Rattle.settling.specs.Path.{sibling}
use Rattle.header.specs.Header.{header_size, header_of, message_root, is_hashes, is_reject, message_size}
use Rattle.messages.specs.Take.{take_answer, take_after}
use Rattle.serve.specs.Serve.{serve_answer}
use Rattle.pieces.specs.Pieces.{layer_of_pieces, layer_answer, layer_after}
use Rattle.words.specs.Held.{Holds, All, unheld_among}
use Rattle.words.specs.Messages.{uncles_in, hash_in, top_layer, top_index, anchor_layer, anchor_index, Settles, ChainsTo, WellFormed, Acceptable, Rejected, sent}
use Rattle.words.specs.Pieces.{LayerFormed, LayerSettles}
use Rattle.words.specs.History.{OurStore, Call, after, Teaches}
use Rattle.knowledge.specs.FormedWhen.{well_formed}

-- "Trees, torrents and messages mean what BEP 52, BEP 3 and FIPS 180-4 say.": what they mean are the definitions in the files specs/ of
-- sha256 and below it, tree, header, bencode, meaning.

-- "A well-formed reply" (`WellFormed`: it passes 9, 1, 2, 3 and 4) "is taken exactly when its padding is right, its hashes chain to its
-- anchor, already held, and no held hash differs from it;"
pub taken_exactly_when : (s m : List ℕ) → WellFormed s m → ((take_answer s m).number ≡ 0) ↔ Acceptable s m
unfolding take_answer
taken_exactly_when s m w = Rattle.knowledge.specs.HeldWhen.taken_exactly_when s m ((well_formed s m).0 w)

-- "then its positions and no others become held.": held is then what was held, with the same bytes, and what the message settles,
pub held_after : (s m : List ℕ) → (take_answer s m).number ≡ 0 → (l i : ℕ) (v : List ℕ) → Holds (take_after s m) l i v ↔ (Holds s l i v ⊎ Settles m l i v)
unfolding take_answer
held_after = Rattle.knowledge.specs.HeldAfter.held_after

-- and nothing else teaches: but for a message, a layer and an opening no call makes a hash held or takes one away, and none changes its bytes
pub held_stays : (s : List ℕ) (c : Call) → (Teaches c → ⊥) → (l i : ℕ) → held_answer (after c s) l i ≡ held_answer s l i
held_stays = Rattle.knowledge.specs.Independence.held_stays

-- 01: "A message settles 2·length − 1 + 2u positions: given hashes, their parents, the anchor." All of them in the tree, each with one hash;
-- and the count is those that were not held
pub settles_in_tree : (s m : List ℕ) → WellFormed s m → (l i : ℕ) (v : List ℕ) → Settles m l i v → (l ≤ height_of s) × (i < 2 ^ (height_of s - l))
settles_in_tree s m w = Rattle.knowledge.specs.SettledMany.settles_in_tree s m ((well_formed s m).0 w)

pub settles_many : (s m : List ℕ) → WellFormed s m → All (Settles m) (2 * (header_of m).len - 1 + 2 * uncles_in m)
settles_many s m w = Rattle.knowledge.specs.SettledMany.settles_many s m ((well_formed s m).0 w)

pub anchor_settled : (s m : List ℕ) → WellFormed s m → (w : List ℕ) → ChainsTo m w ↔ Settles m (anchor_layer m) (anchor_index m) w
anchor_settled s m w = Rattle.knowledge.specs.ChainsTo.chain_settles s m ((well_formed s m).0 w)

pub count_is_newly_held : (s m : List ℕ) → (take_answer s m).number ≡ 0
    → (A : All (Settles m) (2 * (header_of m).len - 1 + 2 * uncles_in m)) × ((take_answer s m).count ≡ unheld_among s A.all)
unfolding take_answer
count_is_newly_held = Rattle.knowledge.specs.SettledMany.counted

pub count_at_most : (s m : List ℕ) → (take_answer s m).number ≡ 0 → (take_answer s m).count ≤ 2 * (header_of m).len - 2 + 2 * uncles_in m
unfolding take_answer
count_at_most = Rattle.knowledge.specs.SettledMany.count_bound

-- 01, "Loading a piece layer": the same for a layer. It settles layer p and all above it, and no others
pub layer_held_after : (s layer : List ℕ) → (layer_answer s layer).number ≡ 0
    → (l i : ℕ) (v : List ℕ) → Holds (layer_after s layer) l i v ↔ (Holds s l i v ⊎ LayerSettles s layer l i v)
unfolding layer_answer
layer_held_after = Rattle.knowledge.specs.HeldAfter.layer_held_after

pub layer_settles_where : (s layer : List ℕ) → LayerFormed s layer
    → (l i : ℕ) → ((v : List ℕ) × LayerSettles s layer l i v) ↔ ((layer_of_pieces s ≤ l) × (l ≤ height_of s) × (i < 2 ^ (height_of s - l)))
layer_settles_where = Rattle.knowledge.specs.HeldAfter.layer_settles_where

pub layer_count_is_newly_held : (s layer : List ℕ) → (layer_answer s layer).number ≡ 0
    → (A : All (LayerSettles s layer) (2 * 2 ^ (height_of s - layer_of_pieces s) - 1)) × ((layer_answer s layer).count ≡ unheld_among s A.all)
unfolding layer_answer
layer_count_is_newly_held = Rattle.knowledge.specs.SettledMany.layer_counted

-- "Our replies are read back as what was held.": the bytes that kd_serve leaves beside 0 are a hashes message with the request's root and
-- header, of the size that it fixes;
module _ (s m out : List ℕ) (z : (serve_answer s m out).number ≡ 0) where
  pub sent_has_header : (is_hashes (sent s m out) ≡ true) × (message_root (sent s m out) ≡ message_root m) × (header_of (sent s m out) ≡ header_of m)
      × (length (sent s m out) ≡ message_size (header_of (sent s m out)))
  sent_has_header = Rattle.knowledge.specs.Sent.sent_has_header s m out z

  -- each hash of its run is the hash held at its position,
  pub sent_run : (j : ℕ) → j < (header_of m).len → Holds s (header_of m).base ((header_of m).index + j) (hash_in (sent s m out) j)
  sent_run = Rattle.knowledge.specs.Sent.sent_run s m out z

  -- and each uncle the hash held beside the path;
  pub sent_uncle : (j : ℕ) → j < uncles_in m → Holds s (top_layer m + j) (sibling (top_index m / 2 ^ j)) (hash_in (sent s m out) ((header_of m).len + j))
  sent_uncle = Rattle.knowledge.specs.Sent.sent_uncle s m out z

  -- where a store answers those bytes 0, it holds each of these positions with the hash that was held here,
  module _ (t : List ℕ) (y : (take_answer t (sent s m out)).number ≡ 0) where
    pub sent_run_there : (j : ℕ) → j < (header_of m).len → Holds (take_after t (sent s m out)) (header_of m).base ((header_of m).index + j) (hash_in (sent s m out) j)
    sent_run_there = Rattle.knowledge.specs.Sent.sent_run_there s m out z t (unfold take_answer in y)

    pub sent_uncle_there : (j : ℕ) → j < uncles_in m
        → Holds (take_after t (sent s m out)) (top_layer m + j) (sibling (top_index m / 2 ^ j)) (hash_in (sent s m out) ((header_of m).len + j))
    sent_uncle_there = Rattle.knowledge.specs.Sent.sent_uncle_there s m out z t (unfold take_answer in y)

    -- each parent of two with the hash of left then right, and the anchor with the hash that the reply's hashes chain to;
    pub sent_parent_there : (l i : ℕ) (x w : List ℕ) → Settles (sent s m out) l (2 * i) x → Settles (sent s m out) l (2 * i + 1) w
        → Holds (take_after t (sent s m out)) (suc l) i (pair_hash x w)
    sent_parent_there = Rattle.knowledge.specs.Sent.sent_parent_there s m out z t (unfold take_answer in y)

    pub sent_anchor_there : (w : List ℕ) → ChainsTo (sent s m out) w → Holds (take_after t (sent s m out)) (anchor_layer m) (anchor_index m) w
    sent_anchor_there = Rattle.knowledge.specs.Sent.sent_anchor_there s m out z t (unfold take_answer in y)

  -- and the store itself, if only this build has written it, answers them 0 with count 0
  pub sent_own : OurStore s → take_answer s (sent s m out) ≡ done 0
  sent_own = Rattle.knowledge.specs.Sent.sent_own s m out z

-- 01, "Serving": a refused request is answered by "a reject with the same 48 bytes, and that number"
pub reject_reads_back : (s m out : List ℕ) → Rejected (serve_answer s m out).number
    → ((serve_answer s m out).count ≡ header_size) × (is_reject (sent s m out) ≡ true) × (message_root (sent s m out) ≡ message_root m) × (header_of (sent s m out) ≡ header_of m)
reject_reads_back s m out r =
    let w = (Rattle.knowledge.specs.ServedWhen.serve_rejects s m out (serve_answer s m out).number r).0 refl in
    let c = Rattle.knowledge.specs.ServedWhen.reject_sent s m out (serve_answer s m out).number r w.0 w.1 in
    let b = Rattle.knowledge.specs.ServedWhen.reject_reads_back s m out (serve_answer s m out).number r w.0 w.1 in
    (ap (λ (a : Answer). a.count) c.0, b.0, b.1, b.2)
