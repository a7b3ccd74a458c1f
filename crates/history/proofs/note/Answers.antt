use Rattle.std.proofs.Common.{arith, ◌-◌, ◌*◌, ◌/◌, length, ◌≡◌, ap, sym, ◌∙◌, rules}
use Rattle.octets.specs.Octets.{pasted}
use Rattle.history.specs.Growing.{node_count, node_at}
use Rattle.history.proofs.Steps.{noted_none, noted_not, noted_yes, piece_layer_below, quotient_some}
use Rattle.tree.proofs.GeometryLaws.{piece_some}
use Rattle.history.proofs.note.Goals as goal

pub returns-then-n-eq0 : goal.returns-then-n-eq0
returns-then-n-eq0 c = sym (noted_none c.args.history c.args.layer.now c.if-n-eq0.true)

pub nonzero_rem-n : goal.nonzero_rem-n
nonzero_rem-n c = piece_some c.args.history.piece_length c.requires.0

pub returns-then-n-plen-ne0 : goal.returns-then-n-plen-ne0
returns-then-n-plen-ne0 c = sym (noted_not c.args.history c.args.layer.now c.if-n-plen-ne0.true)

pub overflow_mul-p : goal.overflow_mul-p
overflow_mul-p c = omega (arith, c.piece_layer-p.ensures, piece_layer_below c.args.history.piece_length c.requires.0)

pub hash_at-hash-requires : goal.hash_at-hash-requires
hash_at-hash-requires c = omega (arith, (let it : length c.args.history.nodes ≡ 32 * node_count = search rules in it), c.piece_layer-p.ensures, piece_layer_below c.args.history.piece_length c.requires.0)

pub nonzero_div-i : goal.nonzero_div-i
nonzero_div-i c = piece_some c.args.history.piece_length c.requires.0

pub overflow_sub-i : goal.overflow_sub-i
overflow_sub-i c = quotient_some c.args.history.length c.args.history.piece_length c.if-n-eq0.false c.if-n-plen-ne0.false

pub overflow_mul-i : goal.overflow_mul-i
overflow_mul-i c = let w = c.requires.1 (omega (arith, c.if-n-eq0.false)) c.if-n-plen-ne0.false in omega arith

pub put_hash-requires : goal.put_hash-requires
put_hash-requires c = let w = c.requires.1 (omega (arith, c.if-n-eq0.false)) c.if-n-plen-ne0.false in
    let q = quotient_some c.args.history.length c.args.history.piece_length c.if-n-eq0.false c.if-n-plen-ne0.false in omega arith

pub returns : goal.returns
unfolding node_at
returns c = let h = c.args.history in
    c.put_hash.ensures
    ∙ ap (pasted c.args.layer.now (32 * (h.length / h.piece_length - 1))) (c.hash_at-hash.ensures ∙ ap (node_at h.nodes) c.piece_layer-p.ensures)
    ∙ sym (noted_yes h c.args.layer.now c.if-n-eq0.false c.if-n-plen-ne0.false)
