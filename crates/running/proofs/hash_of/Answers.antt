use Rattle.std.proofs.Common.{arith, ◌-◌, ◌%◌, length, ◌≡◌, ap, ◌∙◌, rules}
use Rattle.sha256.specs.Sha256.{digest}
use Rattle.running.proofs.Absorbing.{end_as_coded}
use Rattle.running.specs.Bursts.{hash_of}
use Rattle.running.proofs.hash_of.Goals as goal

pub slice_bounds-finish-end : goal.slice_bounds-finish-end
slice_bounds-finish-end c = let l64 = (let it : length c.args.hashing.tail ≡ 64 = search rules in it) in search rules

pub returns : goal.returns
unfolding hash_of
returns c = let e : c.args.hashing.total % 64 - 0 ≡ c.args.hashing.tail_size = omega (arith, c.requires) in
    c.digest.ensures ∙ ap digest (c.finish.ensures ∙ end_as_coded c.args.hashing c.round_words-k.result (c.args.hashing.total % 64 - 0) c.from_words-state.result e c.round_words-k.ensures c.from_words-state.ensures)
