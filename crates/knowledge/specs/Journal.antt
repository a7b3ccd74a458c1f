-- A journal: a host that keeps the messages and layers that were answered 0, and offers some of them again to a store opened with the same facts,
-- holds a part of what was held, with the same bytes.
-- Assumes nothing.
use Rattle.std.specs.Prelude.{◌≡◌, true, List, ℕ, ◌<◌}
use Rattle.std.proofs.Math.Path.{ap, sym}
use Rattle.std.proofs.Common.{◌∙◌, subst, inl, inr}
use Rattle.std.proofs.Math.Decide.{ℕ_discrete}
use Rattle.octets.specs.Octets.{Octets}
use Rattle.tree.specs.Geometry.{block_count, height, piece_layer}
use Rattle.cells.specs.Cells.{held_at}
use Rattle.store.specs.Store.{usable, file_length, piece_length, facts_root, blocks_of, height_of, positions, open_answer, open_after, Facts}
use Rattle.store.specs.StoreLaws.{usable_facts, used_held, open_done, opened_piece}
use Rattle.messages.specs.Take.{take_number, take_answer, take_after}
use Rattle.marks.specs.Marks.{marks_put}
use Rattle.pieces.specs.Pieces.{layer_of_pieces, layer_number, layer_answer, layer_after}
use Rattle.pieces.proofs.PiecesLaws.{layer_refused}
use Rattle.saved.specs.Form.{length_in, piece_length_in}
use Rattle.saved.specs.Save.{save_answer}
use Rattle.saved.specs.Saved.{load_answer, load_after}
use Rattle.words.specs.Held.{Holds}
use Rattle.words.specs.History.{Begins, Steps, begin, next, Each, OurStore, ours}
use Rattle.words.specs.Messages.{Settles}
use Rattle.words.specs.Pieces.{LayerSettles}
use Rattle.words.specs.Saving.{save_of}
use Rattle.words.specs.Hearing.{Took, TookLayer, last, before, Again}
use Rattle.knowledge.specs.Through.{PreservedBy, each_through}
use Rattle.knowledge.specs.MarksApart.{marks_held}
use Rattle.knowledge.specs.Grows.{Grown, grown_same, grown_on, grown_take, grown_layer, grown_marks, grown_moved, steps_grow}
use Rattle.knowledge.specs.Again.{knowledge_only_grows}
use Rattle.knowledge.specs.Invariant.{ours_opened}
use Rattle.knowledge.specs.OwnBytes.{begins_ours, ours_have, ours_bytes}
use Rattle.knowledge.specs.HeldAfter.{settles_then_holds, held_after, layer_settles_then_holds, layer_held_after}
use Rattle.knowledge.specs.RootAlone.{range_exactly, opening_0}
use Rattle.knowledge.specs.LoadedWhen.{load_holds, load_names, load_usable}
use Rattle.knowledge.specs.LoadedMarks.{save_is}
use Rattle.knowledge.specs.ThereAndBack.{names_length, names_piece, save_holds}
use Rattle.knowledge.specs.AnyOrder.{Within, back, take_stays, opened_names, opened_within}

-- what a layer settles depends on the length and the piece length alone
layer_same : (s t d : List ℕ) → height_of t ≡ height_of s → piece_length t ≡ piece_length s → (l i : ℕ) (v : List ℕ) → LayerSettles s d l i v → LayerSettles t d l i v
layer_same s t d eh ep l i v x =
    let p : layer_of_pieces t ≡ layer_of_pieces s = unfold layer_of_pieces in ap piece_layer ep in
    rw (eh, p) x

-- ---- what was answered 0 is held

pub took_holds : {m s t : List ℕ} {h : Steps s t} → Took m t h → (l i : ℕ) (v : List ℕ) → Settles m l i v → Holds t l i v
unfolding take_answer
took_holds {m} (last {t} h b x z) l i v y = settles_then_holds t m z l i v y
took_holds (before k w) l i v y = knowledge_only_grows (next begin k) l i v (took_holds w l i v y)

pub took_layer_holds : {d s t : List ℕ} {h : Steps s t} → Facts s → TookLayer d t h → (l i : ℕ) (v : List ℕ) → LayerSettles s d l i v → Holds t l i v
unfolding layer_answer
took_layer_holds {d} {s} f (last {t} h b x z) l i v y =
    let g = (steps_grow f h).same in
    layer_settles_then_holds t d z l i v (layer_same s t d g.layers g.piece l i v y)
took_layer_holds f (before k w) l i v y = knowledge_only_grows (next begin k) l i v (took_layer_holds f w l i v y)

-- ---- offered again

module _ {s t : List ℕ} (f : Facts s) (h : Steps s t) (r : List ℕ) (fr : Facts r) (layers : height_of r ≡ height_of s) (pieces : piece_length r ≡ piece_length s) where
  -- what is held by then is held by t
  Part : List ℕ → Type 0
  Part a = Grown r a × Within a t

  same_part : (a u : List ℕ) → Part a → Grown a u → ((q : ℕ) → q < positions (height_of a) → held_at u q ≡ held_at a q) → Part u
  unfolding Part
  same_part a u p g e = (grown_on p.0 g, λ l i v x. p.1 l i v (back a u p.0.facts g (λ q lo hi k. sym (e q hi) ∙ k) l i v x))

  took_part : (a m : List ℕ) → Took m t h → Within a t → Within (take_after a m) t
  took_part a m y w =
      elim (ℕ_discrete (take_number a m) 0) [
        | no ne ↦ subst (λ (x : List ℕ). Within x t) (sym (take_stays a m ne)) w
        | yes z ↦ λ l i v x. elim ((held_after a m z l i v).0 x) [ inl k ↦ w l i v k | inr k ↦ took_holds y l i v k ]
      ]

  layer_part : (a d : List ℕ) → Grown r a → TookLayer d t h → Within a t → Within (layer_after a d) t
  layer_part a d g y w =
      elim (ℕ_discrete (layer_number a d) 0) [
        | no ne ↦ subst (λ (x : List ℕ). Within x t) (sym (layer_refused a d ne)) w
        | yes z ↦
            λ l i v x. elim ((layer_held_after a d z l i v).0 x) [
              | inl k ↦ w l i v k
              | inr k ↦ took_layer_holds f y l i v (layer_same a s d (sym (g.same.layers ∙ layers)) (sym (g.same.piece ∙ pieces)) l i v k)
            ]
      ]

  keeps : PreservedBy (Again h) Part
  unfolding Part
  keeps =
      record {
        taken = λ a m bm y p. (grown_on p.0 (grown_take a m p.0.facts), took_part a m y p.1);
        loaded = λ a d bd y p. (grown_on p.0 (grown_layer a d p.0.facts), layer_part a d p.0 y p.1);
        remarked = λ a i n x g l c p. unfold Part in same_part a (marks_put a i n x) p (grown_marks a i n x g l) (marks_held a g i n x l);
        moved = λ a u b e p. unfold Part in same_part a u p (grown_moved a u p.0.facts e) (used_held a u p.0.facts e.bytes);
      }

  pub again_within : {a : List ℕ} {k : Steps r a} → Within r t → Each (Again h) a k → Within a t
  unfolding Part
  again_within w x = (each_through (Again h) Part keeps x (grown_same r fr, w)).1

-- A PART OF WHAT WAS HELD: whatever of a store's messages and layers that were answered 0 are offered again, in whatever order, after an opening with
-- its facts
pub journal_within : {s t : List ℕ} → Begins s → (h : Steps s t) → (b : List ℕ) (n plen : ℕ) (root : List ℕ) → Octets 32 root → (open_answer b n plen).number ≡ 0
    → file_length t ≡ n → piece_length t ≡ plen → facts_root t ≡ root → {r : List ℕ} {k : Steps (open_after b n plen root) r} → Each (Again h) r k
    → (l i : ℕ) (v : List ℕ) → Holds r l i v → Holds t l i v
journal_within {s} {t} w h b n plen root o z en ep er {r} {k} x =
    again_within f h (open_after b n plen root) (ours_opened b n plen root o.size z).chained.facts layers pieces
    (opened_within b n plen root t o.size z (ours w h) en er) x
  where
    f : Facts s
    f = (begins_ours w).chained.facts

    grown : Grown s t
    grown = steps_grow f h

    layers : height_of (open_after b n plen root) ≡ height_of s
    layers =
        unfold height_of blocks_of in
        ap (λ (y : ℕ). height (block_count y)) ((opened_names b n plen root o.size z).0 ∙ sym en ∙ grown.same.file)

    pieces : piece_length (open_after b n plen root) ≡ piece_length s
    pieces =
        let q = (opening_0 b n plen).0 z in
        let ok = (range_exactly n plen).1 q.0 in
        ap piece_length (sym (open_done b n plen root ok q.1).1) ∙ opened_piece b n plen root ok q.1 o.size ∙ sym ep ∙ grown.same.piece

-- THE SAME FROM A SAVE ON: what was answered 0 since a store was saved, offered again after a load of that save
pub journal_since_save : {s u t : List ℕ} → Begins s → Steps s u → (out : List ℕ) → (save_answer u out).number ≡ 0 → (h : Steps u t) → (b : List ℕ)
    → (load_answer b (save_of u out)).number ≡ 0 → {r : List ℕ} {k : Steps (load_after b (save_of u out)) r} → Each (Again h) r k
    → (l i : ℕ) (v : List ℕ) → Holds r l i v → Holds t l i v
journal_since_save {s} {u} {t} w g out y h b z {r} {k} x =
    again_within f h (load_after b (save_of u out)) (usable_facts (load_after b (save_of u out)) usable_then) layers pieces within x
  where
    o : OurStore u
    o = ours w g

    f : Facts u
    f = (ours_have o).chained.facts

    usable_then : usable (load_after b (save_of u out)) ≡ true
    usable_then = load_usable b (save_of u out) z

    file : file_length (load_after b (save_of u out)) ≡ file_length u
    file = (load_names b (save_of u out) z).0 ∙ ap length_in (save_is u out y) ∙ names_length u f (ours_bytes o)

    layers : height_of (load_after b (save_of u out)) ≡ height_of u
    layers = unfold height_of blocks_of in ap (λ (n : ℕ). height (block_count n)) file

    pieces : piece_length (load_after b (save_of u out)) ≡ piece_length u
    pieces = (load_names b (save_of u out) z).2 ∙ ap piece_length_in (save_is u out y) ∙ names_piece u f (ours_bytes o)

    within : Within (load_after b (save_of u out)) t
    within l i v q = knowledge_only_grows h l i v ((save_holds u out (ours_bytes o) y l i v).0 ((load_holds b (save_of u out) z l i v).0 q))
