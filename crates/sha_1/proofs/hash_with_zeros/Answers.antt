use Rattle.std.proofs.Common.{arith, ℕ, ◌+◌, ◌-◌, ◌%◌, length, take, replicate, ◌≡◌, refl, ap, ◌∙◌}
use Rattle.sha_1.proofs.Messages.{few_law, many_law}
use Rattle.sha_1.specs.Sha1.{digest, sha1}
use Rattle.sha_1.proofs.hash_with_zeros.Goals as goal

pub returns-then-zeros-room : goal.returns-then-zeros-room
unfolding sha1
returns-then-zeros-room c = let s = c.args.bytes.now in
    let n = c.args.zeros in
    let k : length s % 64 + n - 0 ≡ length s % 64 + n = omega arith in
    c.digest.ensures
    ∙ ap digest
    (c.finish.ensures
    ∙ few_law s _ c.filled-block.result c.start.result c.whole_blocks-t.result n refl c.filled-block.ensures c.start.ensures c.whole_blocks-t.ensures _ c.if-zeros-room.true (ap (λ (j : ℕ). take j c.filled-block.result) k))

pub returns : goal.returns
unfolding sha1
returns c = let s = c.args.bytes.now in
    let n = c.args.zeros in
    let m = (n - (64 - length s % 64)) % 64 in
    let k : m - 0 ≡ m = omega arith in
    c.digest-2.ensures
    ∙ ap digest
    (c.finish-2.ensures
    ∙ many_law s _ c.filled-block.result c.start.result c.whole_blocks-t.result n refl c.filled-block.ensures c.start.ensures c.whole_blocks-t.ensures _ c.compress-u.result c.zero_blocks-v.result c.if-zeros-room.false c.compress-u.ensures c.zero_blocks-v.ensures (ap (λ (j : ℕ). take j (replicate 64 0)) k))
