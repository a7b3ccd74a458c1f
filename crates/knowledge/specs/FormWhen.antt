-- Bytes have the saved form exactly if they are the bytes of a value in order: opening, positions rising, marks rising, end.
-- Assumes nothing.
use Rattle.std.specs.Prelude.{◌≡◌, true, ◌↔◌, length, List, [], ◌∷◌, ◌++◌, ℕ, zero, suc, ◌+◌, ◌-◌, ◌*◌, ◌^◌, ◌≤◌, ◌<◌}
use Rattle.std.proofs.Math.Path.{refl, ap, sym}
use Rattle.std.proofs.Common.{arith}
use Rattle.octets.specs.Octets.{Octets}
use Rattle.octets.specs.OctetsLaws.{cut_octets}
use Rattle.store.specs.StoreLaws.{blocks_most, height_most, piece_length_most, range_says}
use Rattle.saved.specs.Form.{Place, Saved, saved_bytes, rank, Rising, none, more, RisingBlocks, Ordered, length_in, piece_length_in, root_in, blocks_in, height_in, mark_count, place_count, hash_in, block_in, next_rank, places_good, next_block, marks_good, marks_from, formed, place_in, places_to, marks_to, value_in}
use Rattle.saved.proofs.SoundLaws.{place_at, place_says}
use Rattle.saved.proofs.PrefixLaws.{form_says, mark_at, mark_says}
use Rattle.saved.proofs.ReadLaws.{read_back}
use Rattle.saved.proofs.ExactLaws.{written_back}
use Rattle.words.specs.History.{Bytes}
use Rattle.words.specs.Answers.{InRange}
use Rattle.words.specs.Saving.{WholeOpening, OfForm}
use Rattle.knowledge.specs.RootAlone.{range_exactly}
use Rattle.knowledge.specs.LoadedWhen.{opens_exactly}
use Rattle.knowledge.specs.SaveBytes.{every_byte}

-- ---- rising lists, one more at the end

module _ (h : ℕ) where
  -- the least rank behind a list that is read from rank r on
  ends : ℕ → List Place → ℕ
  ends r [] = r
  ends r (x ∷ L) = ends (suc (rank h x.layer x.index)) L

  ends_more : (r : ℕ) (L : List Place) (x : Place) → ends r (L ++ (x ∷ [])) ≡ suc (rank h x.layer x.index)
  unfolding ends
  ends_more r [] x = refl
  ends_more r (y ∷ L) x = ends_more (suc (rank h y.layer y.index)) L x

  rising_more : (r : ℕ) (L : List Place) (x : Place) → Rising h r L → x.layer ≤ h → x.index < 2 ^ (h - x.layer) → Octets 32 x.hash → ends r L ≤ rank h x.layer x.index
      → Rising h r (L ++ (x ∷ []))
  unfolding ends
  rising_more r [] x none a b o l = more a b o l none
  rising_more r (y ∷ L) x (more c d p m R) a b o l = more c d p m (rising_more (suc (rank h y.layer y.index)) L x R a b o l)

ends_blocks : ℕ → List ℕ → ℕ
ends_blocks i [] = i
ends_blocks i (j ∷ L) = ends_blocks (suc j) L

ends_blocks_more : (i : ℕ) (L : List ℕ) (j : ℕ) → ends_blocks i (L ++ (j ∷ [])) ≡ suc j
unfolding ends_blocks
ends_blocks_more i [] j = refl
ends_blocks_more i (k ∷ L) j = ends_blocks_more (suc k) L j

blocks_more : (c i : ℕ) (L : List ℕ) (j : ℕ) → RisingBlocks c i L → j < c → ends_blocks i L ≤ j → RisingBlocks c i (L ++ (j ∷ []))
unfolding ends_blocks
blocks_more c i [] j none a l = more l a none
blocks_more c i (k ∷ L) j (more b d R) a l = more b d (blocks_more c (suc k) L j R a l)

-- ---- what bytes of the form say is in order

module _ (b : List ℕ) (bb : Bytes b) (h p : ℕ) (G : places_good h b p ≡ true) (long : 45 + 41 * p ≤ length b) where
  places_rise : (k : ℕ) → k ≤ p → Rising h 0 (places_to b k) × (ends h 0 (places_to b k) ≡ next_rank h b k)
  unfolding places_to next_rank ends
  places_rise zero l = (none, refl)
  places_rise (suc k) l =
      let r = places_rise k (omega arith) in
      let P = place_says h b k (place_at h b p G k (omega arith)) in
      let o : Octets 32 (hash_in b k) = unfold hash_in in cut_octets (54 + 41 * k) 32 bb (omega arith) in
      (rising_more h 0 (places_to b k) (place_in b k) r.0 P.low P.inside o (omega (arith, r.1, P.from)), ends_more h 0 (places_to b k) (place_in b k))

module _ (b : List ℕ) (c at m : ℕ) (G : marks_good c b at m ≡ true) where
  marks_rise : (k : ℕ) → k ≤ m → RisingBlocks c 0 (marks_to b at k) × (ends_blocks 0 (marks_to b at k) ≡ next_block b at k)
  unfolding marks_to next_block ends_blocks
  marks_rise zero l = (none, refl)
  marks_rise (suc k) l =
      let r = marks_rise k (omega arith) in
      let M = mark_says c b at k (mark_at c b at m G k (omega arith)) in
      (blocks_more c 0 (marks_to b at k) (block_in b at k) r.0 M.inside (omega (arith, r.1, M.from)), ends_blocks_more 0 (marks_to b at k) (block_in b at k))

value_ordered : (b : List ℕ) → Bytes b → 45 ≤ length b → formed b ≡ true → Ordered (value_in b)
unfolding value_in
value_ordered b bb l g =
    let F = form_says b g in
    record {
      root = unfold root_in in cut_octets 13 32 bb (omega arith);
      places = (places_rise b bb (height_in b) (place_count b) F.places (omega (arith, F.size)) (place_count b) (omega arith)).0;
      marks = (marks_rise b (blocks_in b) (marks_from b) (mark_count b) F.marks (mark_count b) (omega arith)).0;
    }

-- THE FORM exactly
pub form_exactly : (b : List ℕ) → Bytes b → (WholeOpening b × InRange (length_in b) (piece_length_in b) × (formed b ≡ true)) ↔ OfForm b
form_exactly b bb = (
  λ w.
      record {
        value = value_in b;
        ordered = value_ordered b bb w.0.long w.2;
        range = unfold value_in in w.1;
        bytes = sym (written_back b (every_byte b bb) ((opens_exactly b).1 w.0) w.2);
      },
  λ w. by w.value w.ordered w.range w.bytes,
)
  where
    by : (v : Saved) → Ordered v → InRange v.n v.plen → b ≡ saved_bytes v → WholeOpening b × InRange (length_in b) (piece_length_in b) × (formed b ≡ true)
    by v O r e =
        let ok = range_says v.n v.plen ((range_exactly v.n v.plen).1 r) in
        let R = read_back v O (blocks_most v.n r.most) (height_most v.n r.most) (omega (arith, r.most)) (omega (arith, piece_length_most v.plen ok.2)) in
        let n : length_in (saved_bytes v) ≡ v.n = unfold value_in in ap (λ (x : Saved). x.n) R.2 in
        let q : piece_length_in (saved_bytes v) ≡ v.plen = unfold value_in in ap (λ (x : Saved). x.plen) R.2 in
        rw e ((opens_exactly (saved_bytes v)).0 R.0, rw (n, q) r, R.1)
