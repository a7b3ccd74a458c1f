-- The premises of specs/HybridExample can be met, with every byte said. It stands here, and not there, so that an edit of what is judged is refused.
-- Assumes nothing.
use Rattle.std.specs.Prelude.{ℕ, replicate}
use Rattle.std.proofs.lemmas.List.{length-replicate}
use Rattle.sha256.specs.Sha256.{pair_hash}
use Rattle.tree.specs.Values.{leaf_of}
use Rattle.store.specs.Store.{open_after}
use Rattle.messages.specs.Take.{take_after}
use Rattle.promises.specs.Blank.{blank, blank_bytes, blank_room}
use Rattle.promises.specs.Example.{two_leaves}
use Rattle.promises.specs.Witness.{met_after}
use Rattle.promises.specs.HybridExample.{Judged, judged_by_both}

-- with every byte said
pub a_hybrid_piece_judged :
    Judged (replicate 32768 0)
    (take_after (open_after (blank 32768) 32768 16384 (pair_hash (leaf_of (replicate 32768 0) 0) (leaf_of (replicate 32768 0) 1))) (two_leaves (leaf_of (replicate 32768 0) 0) (leaf_of (replicate 32768 0) 1)))
a_hybrid_piece_judged = judged_by_both _ _ (met_after (replicate 32768 0) (blank 32768) (length-replicate {A = ℕ} 32768 0) (blank_bytes 32768) (blank_room 32768))
