-- The premises of Saved can be met: a marked block that is marked still after a save and a load; and saved bytes that are 32 to a load and that a repair
-- takes, dropping something.
-- Assumes nothing.
use Rattle.std.specs.Prelude.{◌≡◌, true, ℕ, zero, suc, ◌+◌, ◌-◌, ◌*◌, ◌^◌, ◌≤◌, ◌<◌, length, replicate, List, [], ◌∷◌}
use Rattle.std.proofs.Math.Path.{refl, ap, sym}
use Rattle.std.proofs.Common.{◌∙◌, inr, arith}
use Rattle.std.proofs.Math.ListN.{length-replicate}
use Rattle.std.proofs.Math.Dec.{lit<}
use Rattle.octets.specs.Octets.{zero_hash}
use Rattle.octets.specs.OctetsLaws.{zero_octets}
use Rattle.numbers.specs.Numbers.{done, not_saved}
use Rattle.tree.specs.Geometry.{block_count, height}
use Rattle.settling.specs.Path.{sibling}
use Rattle.settling.specs.PathLaws.{sibling_even}
use Rattle.store.specs.Store.{file_length, store_size}
use Rattle.store.specs.StoreLaws.{facts_usable, blocks_most, height_most}
use Rattle.marks.specs.Marks.{marked_answer}
use Rattle.saved.specs.Form.{Place, Saved, saved_bytes, rank, Rising, none, more, Ordered, length_in, piece_length_in, root_in, height_in, place_count, layer_in, index_in, formed, place_in, places_to, value_in}
use Rattle.saved.proofs.ReadLaws.{read_back}
use Rattle.saved.specs.Save.{save_answer}
use Rattle.saved.specs.Saved.{load_answer, load_after, repair_answer}
use Rattle.saved.proofs.CountLaws.{places_many}
use Rattle.words.specs.History.{Bytes, OurStore}
use Rattle.words.specs.Answers.{InRange}
use Rattle.words.specs.Saving.{WholeOpening, OfForm, Ready, NamedBy, Loadable, Repairable, save_of}
use Rattle.knowledge.specs.OwnBytes.{ours_have, ours_bytes}
use Rattle.knowledge.specs.OursMeet.{ours_meet}
use Rattle.knowledge.specs.RootAlone.{range_exactly}
use Rattle.knowledge.specs.SaveBytes.{ordered_bytes}
use Rattle.promises.specs.Blank.{blank, blank_room}
use Rattle.promises.specs.TwoBlocks.{range, one_high}
use Rattle.promises.specs.Saved.{save_0, save_fits, save_loads, loads_same_marks, form_exactly, load_32, load_0, repair_0, load_drops_nothing}

-- ---- a store of ours is saved and loaded

module _ {s : List ℕ} (o : OurStore s) where
  room : List ℕ
  room = replicate (2 * store_size (file_length s)) 0

  saves : (save_answer s room).number ≡ 0
  unfolding room
  saves =
      let u = facts_usable s (ours_have o).chained.facts in
      (save_0 s (replicate (2 * store_size (file_length s)) 0)).1
      (u, omega (arith, save_fits s (replicate (2 * store_size (file_length s)) 0) u (ours_bytes o), length-replicate {A = ℕ} (2 * store_size (file_length s)) 0))

  -- into fresh memory, with the same marks
  pub saved_and_loaded : (out : List ℕ) × ((save_answer s out).number ≡ 0) × ((load_answer (blank (file_length s)) (save_of s out)).number ≡ 0)
      × ((j : ℕ) → marked_answer s j ≡ done 1 → marked_answer (load_after (blank (file_length s)) (save_of s out)) j ≡ done 1)
  saved_and_loaded = (
    room,
    saves,
    save_loads s room (ours_bytes o) (ours_meet o) saves (blank (file_length s)) (blank_room (file_length s)),
    λ j. (loads_same_marks s room (ours_bytes o) (ours_meet o) saves (blank (file_length s)) (blank_room (file_length s)) j).1,
  )

-- ---- a leaf without its sibling

unfoldable pub lone : Saved
lone =
    record {
      n = 32768;
      plen = 16384;
      root = zero_hash;
      places = record { layer = 0; index = 0; hash = zero_hash } ∷ (record { layer = 1; index = 0; hash = zero_hash } ∷ []);
      marks = [];
    }

step : {r : ℕ} {L : List Place} (l i : ℕ) → l ≤ 1 → i < 2 ^ (1 - l) → r ≤ rank 1 l i → Rising 1 (suc (rank 1 l i)) L → Rising 1 r (record { layer = l; index = i; hash = zero_hash } ∷ L)
step l i a b c R = more a b zero_octets c R

lone_ordered : Ordered lone
unfolding lone
lone_ordered = record { root = zero_octets; places = rw one_high rises; marks = none }
  where
    rises : Rising 1 0 (record { layer = 0; index = 0; hash = zero_hash } ∷ (record { layer = 1; index = 0; hash = zero_hash } ∷ []))
    rises =
        let a : 0 ≤ rank 1 0 0 = omega arith in
        let b : suc (rank 1 0 0) ≤ rank 1 1 0 = unfold rank in omega arith in
        step 0 0 (omega arith) (omega arith) a (step 1 0 (omega arith) (omega arith) b none)

-- the save of that
unfoldable pub lone_leaf : List ℕ
lone_leaf = saved_bytes lone

lone_range : InRange 32768 16384
lone_range = (range_exactly 32768 16384).0 range

lone_form : OfForm lone_leaf
unfolding lone_leaf lone
lone_form = record { value = lone; ordered = unfold lone in lone_ordered; range = lone_range; bytes = refl }

lone_bytes : Bytes lone_leaf
unfolding lone_leaf
lone_bytes = ordered_bytes lone lone_ordered

says : WholeOpening lone_leaf × InRange (length_in lone_leaf) (piece_length_in lone_leaf) × (formed lone_leaf ≡ true)
says = (form_exactly lone_leaf lone_bytes).1 lone_form

value_is : value_in lone_leaf ≡ lone
unfolding lone_leaf
value_is =
    (read_back lone lone_ordered (unfold lone in blocks_most 32768 lone_range.most) (unfold lone in height_most 32768 lone_range.most) (unfold lone in lit< tt) (unfold lone in lit< tt)).2

length_is : length_in lone_leaf ≡ 32768
length_is = unfold value_in lone in ap (λ (v : Saved). v.n) value_is

root_is : root_in lone_leaf ≡ zero_hash
root_is = unfold value_in lone in ap (λ (v : Saved). v.root) value_is

height_is : height_in lone_leaf ≡ 1
height_is = ap (λ (n : ℕ). height (block_count n)) length_is ∙ one_high

places_are : places_to lone_leaf (place_count lone_leaf) ≡ record { layer = 0; index = 0; hash = zero_hash } ∷ (record { layer = 1; index = 0; hash = zero_hash } ∷ [])
places_are = unfold value_in lone in ap (λ (v : Saved). v.places) value_is

two : place_count lone_leaf ≡ 2
two = sym (places_many lone_leaf (place_count lone_leaf)) ∙ ap length places_are

pair_is : place_in lone_leaf 0 ∷ (place_in lone_leaf 1 ∷ []) ≡ record { layer = 0; index = 0; hash = zero_hash } ∷ (record { layer = 1; index = 0; hash = zero_hash } ∷ [])
pair_is = let e : places_to lone_leaf 2 ≡ place_in lone_leaf 0 ∷ (place_in lone_leaf 1 ∷ []) = unfold places_to in refl in sym e ∙ ap (places_to lone_leaf) (sym two) ∙ places_are

head : Place → List Place → Place
head d [] = d
head d (x ∷ L) = x

tail : List Place → List Place
tail [] = []
tail (x ∷ L) = L

first_is : place_in lone_leaf 0 ≡ record { layer = 0; index = 0; hash = zero_hash }
first_is = unfold head in ap (head (place_in lone_leaf 0)) pair_is

second_is : place_in lone_leaf 1 ≡ record { layer = 1; index = 0; hash = zero_hash }
second_is = unfold head tail in ap (λ (L : List Place). head (place_in lone_leaf 0) (tail L)) pair_is

ready : Ready (blank 32768) lone_leaf
ready = record { opening = says.0; range = says.1; room = rw length_is (blank_room 32768) }

-- the leaf is named, its sibling is not
not_loadable : Loadable lone_leaf → ⊥
not_loadable L =
    let leaf : NamedBy lone_leaf 0 0 zero_hash =
    record { k = 0; low = rw two (lit< tt); layer = ap (λ (x : Place). x.layer) first_is; index = ap (λ (x : Place). x.index) first_is; hash = ap (λ (x : Place). x.hash) first_is } in
    let low : 0 < height_in lone_leaf = rw height_is (lit< tt) in
    let y = (L.clauses.beside 0 0 zero_hash low leaf).1 in
    by y.k (rw two at y.low) y.layer y.index
  where
    by : (k : ℕ) → k < 2 → layer_in lone_leaf k ≡ 0 → index_in lone_leaf k ≡ sibling 0 → ⊥
    by zero l p q = let e : index_in lone_leaf 0 ≡ 0 = ap (λ (x : Place). x.index) first_is in let s : sibling 0 ≡ 0 + 1 = sibling_even 0 refl in omega arith
    by (suc zero) l p q = let e : layer_in lone_leaf 1 ≡ 1 = ap (λ (x : Place). x.layer) second_is in omega arith
    by (suc (suc k)) l p q = omega arith

repairable : Repairable lone_leaf
repairable =
    record {
      form = says.2;
      root =
          record {
            k = 1;
            low = rw two (lit< tt);
            layer = ap (λ (x : Place). x.layer) second_is ∙ sym height_is;
            index = ap (λ (x : Place). x.index) second_is;
            hash = ap (λ (x : Place). x.hash) second_is ∙ sym root_is;
          };
    }

-- 32 to a load; a repair takes it, and drops something
pub a_repair_that_drops : ((load_answer (blank 32768) lone_leaf).number ≡ not_saved) × ((repair_answer (blank 32768) lone_leaf).number ≡ 0)
    × ((repair_answer (blank 32768) lone_leaf).dropped ≡ 0 → ⊥)
a_repair_that_drops =
    let z = (repair_0 (blank 32768) lone_leaf).1 (ready, repairable) in (
      (load_32 (blank 32768) lone_leaf).1 (inr (ready, not_loadable)),
      z,
      λ d. not_loadable ((load_0 (blank 32768) lone_leaf).0 ((load_drops_nothing (blank 32768) lone_leaf).1 (z, d))).1,
    )
