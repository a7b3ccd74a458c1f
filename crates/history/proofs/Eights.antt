-- Eight whole blocks, as the code takes them: the leaf of each is the hash of its bytes, since no block is under way.
-- Assumes nothing.
use Rattle.std.specs.Prelude.{◌≡◌, refl, List, [], true, false, ℕ, min, ◌+◌, ◌-◌, ◌*◌, ◌/◌, ◌%◌, ◌≤◌, ◌<◌, length, take, drop}
use Rattle.std.proofs.Common.{ap, ap₂, sym, ◌∙◌, arith, drop_of_length-le}
use Rattle.octets.specs.Octets.{cut}
use Rattle.sha256.specs.Sha256.{sha256}
use Rattle.lanes.specs.Hashes.{eighth_hash}
use Rattle.running.specs.Bursts.{state_of, said_by, absorbed, hash_of}
use Rattle.running.specs.BurstsLaws.{absorbed_more, hash_of_state, state_total, state_tail, same_said}
use Rattle.tree.specs.Geometry.{block_length, is_piece_length}
use Rattle.history.specs.Growing.{node_count, finishing, grown_by, noted, noted_by}
use Rattle.history.proofs.DecidingLaws.{part_length, fits}
use Rattle.history.specs.Parts.{NoneBegun, Part, PartSize, Due, Grows, with_leaf}
use Rattle.history.specs.Answers.{no_room_for, Possible}
use Rattle.history.specs.declared.History.{History}
use Rattle.history.proofs.Steps.{grow_whole, grown_turn, noted_turn, note_law, grown_none, noted_end}

-- a running hash without bytes says what the first one does
begun_says : (s : History) → NoneBegun s → said_by s.block ≡ said_by (state_of [])
unfolding said_by
begun_says s n = rw (n.words, n.tail, n.total, state_total [], state_tail []) refl

begun_leaf : (s : History) (part : List ℕ) → NoneBegun s → sha256 part ≡ hash_of (absorbed s.block part)
begun_leaf s part n =
    sym (ap hash_of ((same_said s.block (state_of []) part (begun_says s n)).0 ∙ absorbed_more [] part) ∙ hash_of_state part)

-- a block by its leaf
pub block_grown : (s : History) (part leaf : List ℕ) → NoneBegun s → length part ≡ block_length → leaf ≡ sha256 part → with_leaf s leaf ≡ grown_by s part
unfolding with_leaf
block_grown s part leaf n l e =
    let q = grow_whole s part (absorbed s.block part) (state_of []) leaf (finishing node_count s.nodes 0 (s.length / block_length) leaf) (omega (arith, l)) (omega (arith, l, n.whole))
    (omega (arith, l, n.whole)) refl (e ∙ begun_leaf s part n) refl refl in
    ap (λ (k : ℕ). record { piece_length = s.piece_length; length = s.length + k; block = state_of []; nodes = finishing node_count s.nodes 0 (s.length / block_length) leaf }) (sym l)
    ∙ q

none_begun_then : (s : History) (leaf : List ℕ) → NoneBegun s → NoneBegun (with_leaf s leaf)
unfolding with_leaf
none_begun_then s leaf n =
    record { whole = omega (arith, n.whole); words = refl; tail = state_tail []; total = state_total [] }

-- x of the eight blocks are taken
pub record Eights (s : History) (part layer₀ : List ℕ) (x : ℕ) (t : History) (layer : List ℕ) : Type 0 where
  pub kept : t.piece_length ≡ s.piece_length
  pub length_then : t.length ≡ s.length + block_length * x
  pub none : NoneBegun t
  pub room : length layer ≡ length layer₀
  pub grown_then : grown_by t (drop (block_length * x) part) ≡ grown_by s part
  pub noted_then : noted_by t layer (drop (block_length * x) part) ≡ noted_by s layer₀ part

pub eights_none : (s : History) (part layer : List ℕ) → NoneBegun s → Eights s part layer 0 s layer
eights_none s part layer n =
    let z : block_length * 0 ≡ 0 = omega arith in
    record {
      kept = refl;
      length_then = omega arith;
      none = n;
      room = refl;
      grown_then = ap (λ (k : ℕ). grown_by s (drop k part)) z;
      noted_then = ap (λ (k : ℕ). noted_by s layer (drop k part)) z;
    }

pub eights_more : (s t u : History) (part layer₀ layer after leaf : List ℕ) (x : ℕ) → Eights s part layer₀ x t layer → x < 8 → length part ≡ 8 * block_length
    → is_piece_length s.piece_length ≡ true → leaf ≡ eighth_hash part x → after ≡ noted t layer → length after ≡ length layer → u ≡ with_leaf t leaf
    → Eights s part layer₀ (x + 1) u after
unfolding eighth_hash cut with_leaf
eights_more s t u part layer₀ layer after leaf x p b l good el en ea eu =
    let a : ℕ = block_length * x in
    let w : a + block_length ≤ length part = omega (arith, l, b) in
    let m : List ℕ = take (a + block_length - a) (drop a part) in
    let lm : length m ≡ block_length = part_length part a block_length w in
    let i : length part / 8 ≡ block_length = omega (arith, l) in
    let j : x * block_length ≡ a = omega arith in
    let k : block_length ≡ a + block_length - a = omega arith in
    let h : leaf ≡ sha256 m =
    el ∙ ap (λ (y : ℕ). sha256 (take y (drop (x * y) part))) i ∙ ap₂ (λ (y z : ℕ). sha256 (take y (drop z part))) k j in
    let g : u ≡ grown_by t m = eu ∙ block_grown t m leaf p.none lm h in
    let e : a + block_length ≡ block_length * (x + 1) = omega arith in
    let good' : is_piece_length t.piece_length ≡ true = ap is_piece_length p.kept ∙ good in
    record {
      kept = rw eu p.kept;
      length_then = rw eu (omega (arith, p.length_then));
      none = rw eu (none_begun_then t leaf p.none);
      room = ea ∙ p.room;
      grown_then = ap (λ (n : ℕ). grown_by u (drop n part)) (sym e) ∙ grown_turn s t u part a (a + block_length) (omega arith) p.grown_then g;
      noted_then =
          ap (λ (n : ℕ). noted_by u after (drop n part)) (sym e)
          ∙ noted_turn s t u part layer₀ layer after a (a + block_length) (omega arith) p.noted_then g (en ∙ sym (note_law t layer m good' (omega (arith, lm)) (omega (arith, lm, p.none.whole))));
    }

pub eights_last : (s t : History) (part layer₀ layer : List ℕ) (x : ℕ) → Eights s part layer₀ x t layer → x ≡ 8 → length part ≡ 8 * block_length → Grows s part layer₀ t layer
eights_last s t part layer₀ layer x p e l =
    let d : drop (block_length * x) part ≡ [] = drop_of_length-le part {i = block_length * x} (omega (arith, l, e)) in
    record {
      state = sym (grown_none t (drop (block_length * x) part) d) ∙ p.grown_then;
      noted = sym (noted_end t layer (drop (block_length * x) part) d) ∙ p.noted_then;
      kept = p.kept;
      length_then = omega (arith, p.length_then, l, e);
      inside = p.none.total ∙ sym p.none.whole;
      tail = p.none.tail ∙ sym (ap (λ (n : ℕ). n % 64) p.none.total);
    }

-- a piece that the next block runs past has its place
pub eights_due : (s t : History) (part layer₀ layer : List ℕ) (x : ℕ) → Eights s part layer₀ x t layer → x < 8 → length part ≡ 8 * block_length
    → Due s (length part) (length layer₀)
    → (is_piece_length t.piece_length ≡ true) × (0 < t.length → t.length % t.piece_length ≡ 0 → 32 * (t.length / t.piece_length) ≤ length layer)
eights_due s t part layer₀ layer x p b l d = (
  ap is_piece_length p.kept ∙ d.pieces,
  λ n e.
      let q = d.places t.length (omega (arith, p.length_then)) (omega (arith, p.length_then, l, b)) n (rw p.kept at e) in
      rw (p.kept, p.room) q,
)

-- ---- a part of a burst

pub part_within : (s : History) (left r : ℕ) → r ≡ min (block_length - s.length % block_length) left → PartSize s left r
part_within s left r e =
    record { some = λ h. omega (arith, e); most = omega (arith, e); within = λ h. omega (arith, e); eight = λ h. absurd (omega (arith, e)) }

pub part_eight : (s : History) (left : ℕ) → 8 * block_length ≤ left → s.length % block_length ≡ 0 → s.block.words ≡ (state_of []).words → PartSize s left (8 * block_length)
part_eight s left l e w = record { some = λ h. omega arith; most = l; within = λ h. absurd (omega arith); eight = λ h. (refl, e, w) }

pub part_of : (s : History) (left r k : ℕ) → PartSize s left r → k ≡ r → s.block.total ≡ s.length % block_length → s.block.tail_size ≡ s.block.total % 64 → Part s k
part_of s left r k p e i t =
    record {
      within = λ h. omega (arith, e, p.within (omega (arith, e)));
      eight =
          λ h.
          let q = p.eight (omega (arith, e)) in
          let z : s.block.total ≡ 0 = i ∙ q.1 in
          (e ∙ q.0, record { whole = q.1; words = q.2; tail = t ∙ ap (λ (n : ℕ). n % 64) z; total = z });
      inside = i;
      tail = t;
    }

-- on the way through a burst that has room, so has each part
pub due_at : (s t : History) (k m j n : ℕ) → Possible s → no_room_for s k m ≡ false → t.piece_length ≡ s.piece_length → s.length ≤ t.length
    → t.length + j ≤ s.length + k → n ≡ m → Due t j n
due_at s t k m j n w f q a b e =
    record {
      pieces = ap is_piece_length q ∙ w.pieces;
      places = λ x c d p z. rw (q, e) (fits s k m x w f (omega arith) (omega arith) p (rw q at z));
    }
