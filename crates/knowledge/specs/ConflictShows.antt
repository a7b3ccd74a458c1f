-- Demand 3: in a store that only this build has written, "conflict" shows two different 64-byte strings with one SHA-256; and a reply of
-- another such store is taken unless the two stores show such a pair.
-- Assumes nothing.
use Rattle.std.specs.Prelude.{◌≡◌, refl, List, ◌⊎◌, ℕ, ◌+◌, ◌-◌, ◌/◌, ◌^◌}
use Rattle.std.proofs.Math.Path.{ap}
use Rattle.std.proofs.Common.{sym, subst, inl, inr, arith}
use Rattle.numbers.specs.Numbers.{conflict}
use Rattle.tree.specs.Geometry.{block_count, height}
use Rattle.store.specs.Store.{file_length, facts_root, blocks_of, height_of, held_answer}
use Rattle.header.specs.declared.Header.{Header}
use Rattle.header.specs.Header.{is_hashes}
use Rattle.messages.specs.Take.{take_number}
use Rattle.messages.specs.TakeLaws.{passed}
use Rattle.serve.specs.Serve.{reply_to, request_number, serve_answer}
use Rattle.pieces.specs.Pieces.{layer_number, piece_number}
use Rattle.pieces.specs.Hybrid.{hybrid_number}
use Rattle.pieces.proofs.HybridLaws.{hybrid_v2}
use Rattle.words.specs.History.{Bytes, OurStore}
use Rattle.words.specs.Messages.{anchor_layer, anchor_index, sent}
use Rattle.words.specs.Shown.{held_by, by_message, by_layer, by_piece, Shown}
use Rattle.knowledge.specs.OwnBytes.{ours_have, ours_bytes}
use Rattle.knowledge.specs.Conflict.{take_conflicts, conflict_shows, layer_conflict_shows, piece_conflict_shows}
use Rattle.knowledge.specs.AnchorHeld.{asked_held}
use Rattle.knowledge.specs.ReadBack.{reply_has_header}
use Rattle.knowledge.specs.Replies.{other_store_reply, header_here, reply_carries}
use Rattle.knowledge.specs.JudgedWhen.{layer_8, piece_8}
use Rattle.knowledge.specs.Shown.{Positioned, shown, reads_held, reads_message, reads_layer, reads_piece}
use Rattle.knowledge.specs.Sent.{served_then_valid, served_then_reply}

-- what a store of ours holds, by layer and index
pub ours_reads : {s : List ℕ} → OurStore s → Positioned (height_of s) (held_by s)
ours_reads {s} o = reads_held s (ours_have o).chained.facts

-- IN A STORE THAT ONLY THIS BUILD HAS WRITTEN, "conflict" shows two different 64-byte strings with one SHA-256, one as the store holds
-- them and one as the message gives them or works them out,
pub our_conflict_shows : {s : List ℕ} (m : List ℕ) → OurStore s → Bytes m → take_number s m ≡ conflict → Shown (height_of s) (held_by s) (by_message s m)
our_conflict_shows {s} m o bm e =
    let q = take_conflicts s m e in
    shown (height_of s) (held_by s) (by_message s m) (ours_reads o) (reads_message s m (record { header = q.header; size = q.size }))
    (conflict_shows s m (ours_have o) (ours_bytes o) bm e)

-- or as the layer does,
pub our_layer_conflict_shows : {s : List ℕ} (l : List ℕ) → OurStore s → Bytes l → layer_number s l ≡ conflict → Shown (height_of s) (held_by s) (by_layer s l)
our_layer_conflict_shows {s} l o bl e =
    shown (height_of s) (held_by s) (by_layer s l) (ours_reads o) (reads_layer s l ((layer_8 s l).0 e).0) (layer_conflict_shows s l (ours_have o) (ours_bytes o) bl e)

-- or as the piece does
pub our_piece_conflict_shows : {s : List ℕ} (i : ℕ) (piece : List ℕ) → OurStore s → piece_number s i piece ≡ conflict → Shown (height_of s) (held_by s) (by_piece s i piece)
our_piece_conflict_shows {s} i piece o e =
    shown (height_of s) (held_by s) (by_piece s i piece) (ours_reads o) (reads_piece s i piece ((piece_8 s i piece).0 e).0) (piece_conflict_shows s i piece (ours_have o) (ours_bytes o) e)

-- also by both halves of a hybrid
pub our_hybrid_conflict_shows : {s : List ℕ} (i : ℕ) (piece v1 : List ℕ) (zeros : ℕ) → OurStore s → hybrid_number s i piece v1 zeros ≡ conflict
    → Shown (height_of s) (held_by s) (by_piece s i piece)
our_hybrid_conflict_shows {s} i piece v1 zeros o e = our_piece_conflict_shows i piece o ((hybrid_v2 s i piece v1 zeros conflict refl (λ z. omega arith)).0 e)

-- ---- another store's reply

module _ {s t : List ℕ} (os : OurStore s) (ot : OurStore t) (files : file_length s ≡ file_length t) (roots : facts_root s ≡ facts_root t) where
  heights : height_of s ≡ height_of t
  unfolding height_of blocks_of
  heights = ap (λ (n : ℕ). height (block_count n)) files

  reads_other : Positioned (height_of t) (held_by s)
  reads_other = subst (λ (h : ℕ). Positioned h (held_by s)) heights (ours_reads os)

  reply_taken_or_shown : (m : List ℕ) → request_number s m ≡ 0 → (held_answer t (anchor_layer (reply_to s m)) (anchor_index (reply_to s m))).number ≡ 0
      → Shown (height_of t) (held_by t) (held_by s) ⊎ (take_number t (reply_to s m) ≡ 0)
  reply_taken_or_shown m z h =
      let r = reply_to s m in
      let p = header_here s t (reply_to s m) (ours_have os) (ours_have ot) (ours_bytes os) (ours_bytes ot) files roots (reply_carries s m z) in
      elim (other_store_reply m os ot files roots z (asked_held (is_hashes (reply_to s m)) t (reply_to s m) (passed (is_hashes (reply_to s m)) t (reply_to s m) p) h)) [
        | inl x ↦ inl (shown (height_of t) (held_by t) (held_by s) (ours_reads ot) reads_other x)
        | inr y ↦ inr y
      ]

  -- ANOTHER STORE'S REPLY, its anchor held here: the bytes that a store of ours served with 0 are taken by another such store of the same
  -- length and root (piece lengths may differ) in which kd_held gives their anchor, or the two stores show two different 64-byte
  -- strings with one SHA-256
  pub other_store_reply_taken : (m out : List ℕ) → (serve_answer s m out).number ≡ 0 → (held_answer t (anchor_layer m) (anchor_index m)).number ≡ 0
      → Shown (height_of t) (held_by t) (held_by s) ⊎ (take_number t (sent s m out) ≡ 0)
  other_store_reply_taken m out z h =
      let v = served_then_valid s m out z in
      let e = (served_then_reply s m out z).1 in
      rw e
      (reply_taken_or_shown m v
      (subst (λ (x : Header). (held_answer t (x.base + height x.len + (x.proof - (height x.len - 1))) (x.index / x.len / 2 ^ (x.proof - (height x.len - 1)))).number ≡ 0)
      (sym (reply_has_header s m v).2) h))
