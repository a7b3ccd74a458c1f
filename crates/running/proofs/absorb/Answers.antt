use Rattle.std.proofs.Common.{◌++◌, arith, ℕ, ◌+◌, ◌-◌, ◌<◌, length, take, drop, ◌≡◌, refl, ap, ◌∙◌, rules}
use Rattle.padding.specs.Running.{tail_array}
use Rattle.rounds.specs.declared.State.{State}
use Rattle.rounds.specs.Block.{compress}
use Rattle.running.proofs.Absorbing.{beside_law, block_law, with_counts}
use Rattle.running.proofs.absorb.Goals as goal

pub returns-then-burst-room : goal.returns-then-burst-room
returns-then-burst-room c = let h = c.args.hashing in
    let s = c.args.burst.now in
    let l8 : length h.words ≡ 8 = (let it : length c.args.hashing.words ≡ 8 = search rules in it) in
    (beside_law h s c.filled-tail.result (h.tail_size + length s) _ l8 ((let it : length c.args.hashing.tail ≡ 64 = search rules in it)) (omega arith) c.filled-tail.ensures refl (omega arith), omega arith)

pub returns : goal.returns
returns c = let h = c.args.hashing in
    let s = c.args.burst.now in
    let ks = c.round_words-k in
    let first = c.filled-first in
    let l64 = (let it : length c.args.hashing.tail ≡ 64 = search rules in it) in
    let z : 64 - h.tail_size - 0 ≡ 64 - h.tail_size = omega arith in
    let small : h.tail_size < 64 = omega (arith, c.requires.0) in
    with_counts h s l64 c.requires.0
    (block_law h s ks.result first.result _ _ c.to_words.result c.filled-waiting.result c.compress-t.result c.whole_blocks-u.result _ _ l64 small c.if-burst-room.false ks.ensures
    (first.ensures ∙ ap (λ (k : ℕ). tail_array (take h.tail_size h.tail ++ take k s)) z)
    (c.compress-t.ensures ∙ ap (λ (t : State). compress ks.result t (take 64 (drop 0 first.result))) c.from_words.ensures)
    refl c.whole_blocks-u.ensures refl c.to_words.ensures c.filled-waiting.ensures refl (omega arith))
