-- Two hashes are one block, and the padding, by the sums of its words, the other.
-- Assumes nothing.
use Rattle.lanes.specs.Hashes.{parent_of}
use Rattle.lanes.specs.Lanes.{state_in}
use Rattle.lanes.proofs.Messages.{pair_of}
use Rattle.lanes.proofs.hashes.pairs8.Goals as goal

pub returns : goal.returns
unfolding parent_of
returns c = let s = c.args.bytes.now in
    let k = c.round_words-k in
    let x = c.pair_sums-x in
    record {
      size = c.digests.ensures.size;
      hashes =
          λ j h.
          let u = state_in c.compress8-t.result j in
          pair_of k.result x.result s _ (state_in c.start8.result j) u (state_in c.compress_sums8.result j) j k.ensures x.ensures (c.start8.ensures.1 j h) c.requires h
          (c.compress8-t.ensures.1 j h) (c.compress_sums8.ensures.1 j h) (c.digests.ensures.hashes j h);
    }
