use Rattle.messages.proofs.Padding.{run_past, run_before}
use Rattle.messages.proofs.padded.run_padded.Goals as goal

pub returns-then-c-index : goal.returns-then-c-index
returns-then-c-index c = run_past c.args.run.now c.pad_value-v.result c.args.blocks c.args.base c.args.index c.args.len c.covering-c.result c.all_from.result c.covering-c.ensures c.pad_value-v.ensures c.if-c-index.true c.all_from.ensures

pub returns : goal.returns
returns c = run_before c.args.run.now c.pad_value-v.result c.args.blocks c.args.base c.args.index c.args.len c.covering-c.result c.all_from-2.result c.covering-c.ensures c.pad_value-v.ensures c.all_from-2.ensures
