-- The first block from its bytes, the second by the table: the two blocks of the message.
-- Assumes nothing.
use Rattle.std.proofs.Common.{arith, length, length-append, ◌≡◌, ap, ◌∙◌}
use Rattle.rounds.specs.Block.{compress}
use Rattle.sha256.specs.Sha256.{digest, sha256, pair_hash}
use Rattle.sha256.proofs.Messages.{front, pair_law}
use Rattle.sha256.proofs.pair.Goals as goal

pub returns : goal.returns
unfolding pair_hash sha256
returns c = let k = c.round_words-k in
    let x = c.pair_sums-x in
    let j = c.joined-b in
    let z = c.start in
    let t = c.compress-t in
    let lj : length j.result ≡ 64 = ap length j.ensures ∙ length-append c.args.left c.args.right ∙ omega (arith, c.well_formed.0.1.0.1, c.well_formed.1.0.1.0.1) in
    c.digest.ensures
    ∙ ap digest
    (c.compress_sums.ensures
    ∙ pair_law k.result x.result j.result c.args.left c.args.right z.result t.result k.ensures x.ensures j.ensures z.ensures lj
    (t.ensures ∙ ap (compress k.result z.result) (front j.result lj)))
