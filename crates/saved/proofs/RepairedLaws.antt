-- A REPAIRED STORE is usable, with the facts that the bytes name.
-- Assumes nothing.
use Rattle.std.specs.Prelude.{◌≡◌, refl, Bool, true, false, List, ℕ, zero, suc, ◌+◌, ◌-◌, ◌*◌, ◌≤◌, ◌<◌}
use Rattle.std.proofs.Common.{◌∙◌, arith}
use Rattle.std.proofs.Math.ListN.{length}
use Rattle.octets.specs.OctetsLaws.{cut_length}
use Rattle.tree.specs.Geometry.{node_number}
use Rattle.tree.proofs.GeometryLaws.{node_number_range}
use Rattle.cells.specs.CellsLaws.{put_length}
use Rattle.store.specs.Store.{piece_length, file_length, facts_root, blocks_of, height_of, positions, Facts}
use Rattle.store.specs.StoreLaws.{put_facts, put_same_facts, opened_facts_root, opened_file, opened_piece}
use Rattle.saved.specs.Form.{length_in, piece_length_in, root_in, blocks_in, height_in, place_count, layer_in, index_in, hash_in, places_good}
use Rattle.saved.specs.Saved.{joins, with_place, mended, opening_number, rooted, begun, repaired}
use Rattle.saved.proofs.SoundLaws.{place_at, place_says, rooted_formed}
use Rattle.saved.proofs.PrefixLaws.{FormIn, form_says}
use Rattle.saved.proofs.LoadLaws.{StillSame, Opens, opening_says, root_long, first, first_facts, first_height, first_blocks}
use Rattle.saved.proofs.MendedLaws.{mended_yes, mended_no, mended_none, mended_one}

same_on : {s t u : List ℕ} → StillSame s t → StillSame t u → StillSame s u
same_on a b =
    record {
      facts = b.facts;
      same =
          record {
            file = b.same.file ∙ a.same.file;
            piece = b.same.piece ∙ a.same.piece;
            root = b.same.root ∙ a.same.root;
            blocks = b.same.blocks ∙ a.same.blocks;
            layers = b.same.layers ∙ a.same.layers;
          };
      size = b.size ∙ a.size;
    }

same_self : (s : List ℕ) → Facts s → StillSame s s
same_self s f = record { facts = f; same = record { file = refl; piece = refl; root = refl; blocks = refl; layers = refl }; size = refl }

module _ (h c : ℕ) (b : List ℕ) (p : ℕ) (G : places_good h b p ≡ true) (long : 45 + 41 * p ≤ length b) where
  place_same : (s : List ℕ) (k : ℕ) → k < p → Facts s → height_of s ≡ h → StillSame s (with_place h b s k)
  place_same s k l f e =
      let r = node_number_range h (layer_in b k) (index_in b k) (place_says h b k (place_at h b p G k l)).inside in
      let below : node_number h (layer_in b k) (index_in b k) < positions (height_of s) = rw e (unfold positions in r.1) in
      let size : length (hash_in b k) ≡ 32 = unfold hash_in in cut_length b (54 + 41 * k) 32 (omega arith) in
      record {
        facts = put_facts s f (node_number h (layer_in b k) (index_in b k)) r.0 below (hash_in b k) size;
        same = put_same_facts s f (node_number h (layer_in b k) (index_in b k)) r.0 below (hash_in b k) size;
        size = put_length s (positions (height_of s)) (node_number h (layer_in b k) (index_in b k)) f.room below (hash_in b k) size;
      }

  mended_same : (k : ℕ) (s : List ℕ) → k ≤ p → Facts s → height_of s ≡ h → StillSame s (mended h c b s k)
  mended_same zero s l f e = rw (mended_none h c b s) (same_self s f)
  mended_same (suc zero) s l f e = rw (mended_one h c b s) (same_self s f)
  mended_same (suc (suc k)) s l f e =
      let a = place_same s k (omega arith) f e in
      let d = place_same (with_place h b s k) (k + 1) (omega arith) a.facts (a.same.layers ∙ e) in
      let t = same_on a d in
      by (joins h c b s k) refl t (mended_same k (with_place h b (with_place h b s k) (k + 1)) (omega arith) t.facts (t.same.layers ∙ e)) (mended_same (suc k) s (omega arith) f e)
    where
      by : (x : Bool) → joins h c b s k ≡ x → StillSame s (with_place h b (with_place h b s k) (k + 1))
          → StillSame (with_place h b (with_place h b s k) (k + 1)) (mended h c b (with_place h b (with_place h b s k) (k + 1)) k) → StillSame s (mended h c b s (suc k))
          → StillSame s (mended h c b s (suc (suc k)))
      by true q t x y = rw (mended_yes h c b s k q) (same_on t x)
      by false q t x y = rw (mended_no h c b s k q) y

module _ (s b : List ℕ) (z : opening_number (length s) b ≡ 0) (g : rooted b ≡ true) where
  O : Opens (length s) b
  O = opening_says (length s) b z

  F : FormIn b
  F = form_says b (rooted_formed b g)

  begun_facts : Facts (begun s b)
  begun_facts = unfold first in first_facts s b O F

  begun_height : height_of (begun s b) ≡ height_in b
  begun_height = unfold first in first_height s b O F

  begun_blocks : blocks_of (begun s b) ≡ blocks_in b
  begun_blocks = unfold first in first_blocks s b O F

  begun_root : facts_root (begun s b) ≡ root_in b
  begun_root = opened_facts_root s (length_in b) (piece_length_in b) (root_in b) O.range O.room (root_long b O.whole)

  still : StillSame (begun s b) (repaired s b)
  unfolding repaired
  still = mended_same (height_in b) (blocks_in b) b (place_count b) F.places (omega (arith, F.size)) (place_count b - 1) (begun s b) (omega arith) begun_facts begun_height

  pub repaired_facts : Facts (repaired s b)
  repaired_facts = still.facts

  pub repaired_height : height_of (repaired s b) ≡ height_in b
  repaired_height = still.same.layers ∙ begun_height

  pub repaired_blocks : blocks_of (repaired s b) ≡ blocks_in b
  repaired_blocks = still.same.blocks ∙ begun_blocks

  pub repaired_root : facts_root (repaired s b) ≡ root_in b
  repaired_root = still.same.root ∙ begun_root

  pub repaired_file : file_length (repaired s b) ≡ length_in b
  repaired_file = still.same.file ∙ opened_file s (length_in b) (piece_length_in b) (root_in b) O.range O.room (root_long b O.whole)

  pub repaired_piece : piece_length (repaired s b) ≡ piece_length_in b
  repaired_piece = still.same.piece ∙ opened_piece s (length_in b) (piece_length_in b) (root_in b) O.range O.room (root_long b O.whole)

  pub repaired_length : length (repaired s b) ≡ length (begun s b)
  repaired_length = still.size
