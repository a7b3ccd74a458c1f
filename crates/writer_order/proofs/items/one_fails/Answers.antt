use Rattle.std.proofs.Common.{arith, refl, sym, ◌∙◌}
use Rattle.writer_order.specs.ItemLaws.{record_there, none_yet, none_so_far, one_there, content_some}
use Rattle.writer_order.proofs.items.one_fails.Goals as goal

pub loop-i-init : goal.loop-i-init
loop-i-init g c = λ test told. none_yet test c.args.list.now c.args.text.now

pub fails-requires : goal.fails-requires
fails-requires g c = c.requires.1 _ (record_there c.args.list.now c.args.text.now c.loop-i.i c.requires.0 c.loop-i-test.true)

pub returns-then-fails : goal.returns-then-fails
returns-then-fails g c = let l = c.args.list.now in
    let t = c.args.text.now in
    λ test told. content_some test l t _ _ refl (sym (one_there test l t _ c.loop-i.i c.loop-i-test.true
    (sym (told _ _ (record_there l t c.loop-i.i c.requires.0 c.loop-i-test.true) c.fails.ensures) ∙ c.if-fails.true)))

pub loop-i-preserved : goal.loop-i-preserved
loop-i-preserved g c = let l = c.args.list.now in
    let t = c.args.text.now in
    λ test told. none_so_far test l t c.loop-i.i (c.loop-i.invariant test told)
    (sym (told _ _ (record_there l t c.loop-i.i c.requires.0 c.loop-i-test.true) c.fails.ensures) ∙ c.if-fails.false)

pub returns : goal.returns
returns g c = λ test told. content_some test c.args.list.now c.args.text.now c.loop-i.i _ (omega arith)
    (sym (c.loop-i.invariant test told))
