-- The loop's invariant: the first j hashes are written.
-- Assumes nothing.
use Rattle.std.proofs.Common.{arith, ◌*◌, ◌<◌, ◌/◌, length, ◌≡◌, refl, ap, ◌∙◌}
use Rattle.lanes.specs.Lanes.{state_in}
use Rattle.sha256.specs.Sha256Laws.{sha256_octets}
use Rattle.sha256.specs.Sha256.{sha256}
use Rattle.octets.specs.Octets.{cut}
use Rattle.lanes.proofs.Messages.{hash_of}
use Rattle.lanes.proofs.Filling.{filled_none, filled_one}
use Rattle.lanes.specs.Hashes.{eighth_hash}
use Rattle.lanes.proofs.hashes.hash8.Goals as goal

pub loop-j-init : goal.loop-j-init
loop-j-init c = (filled_none _ 256 _ refl)

pub loop-j-preserved : goal.loop-j-preserved
unfolding eighth_hash
loop-j-preserved c = let s = c.args.bytes.now in
    let n = length s / 8 in
    let l = c.loop-j in
    let h = c.message_hash-h.result in
    let b : l.j < 8 = omega arith in
    let z = state_in c.start8.result l.j in
    let e : h ≡ sha256 (cut s (l.j * n) n) =
    hash_of c.round_words-k.result (cut s (l.j * n) n) h z c.round_words-k.ensures (c.start8.ensures.1 l.j b) (c.message_hash-h.ensures z (c.whole_blocks8-t.ensures.1 l.j b)) in
    let k : length h ≡ 32 = ap length e ∙ (sha256_octets (cut s (l.j * n) n)).size in
    (filled_one (eighth_hash s) 256 l.j l.r _ h l.invariant (omega arith) k e c.put_hash.ensures)

pub returns : goal.returns
returns c = let e : c.loop-j.j ≡ 8 = omega arith in rw e at c.loop-j.invariant
