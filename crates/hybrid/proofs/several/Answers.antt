use Rattle.std.proofs.Common.{[], sym, ◌∙◌}
use Rattle.hybrid.specs.HalfLaws.{several_amiss, several_count, several_differ, several_same, list_ahead, walk_differs, walk_same, read_count}
use Rattle.hybrid.proofs.several.Goals as goal

pub returns-then-n-files : goal.returns-then-n-files
returns-then-n-files c = λ vs e fs k q l. several_count c.args.list.now _ vs _ _ _ (c.in_ok-sums.ensures vs e) (λ z. c.if-n-files.true (z ∙ read_count _ fs ∙ sym l))

pub returns-in_err-sums : goal.returns-in_err-sums
returns-in_err-sums c = rw c.from_residual.ensures (λ vs e fs k q l. several_amiss c.args.list.now _ vs _ (c.in_err-sums.ensures vs e))

pub returns-in_err-compare_directory : goal.returns-in_err-compare_directory
returns-in_err-compare_directory c = rw c.from_residual-in_err-compare_directory.ensures (λ vs e fs k q l.
    let a = list_ahead c.args.list.now c.args.plen vs [] _ _ (c.in_ok-sums.ensures vs e) e in
    several_differ c.args.list.now _ vs _ _ _ (c.in_ok-sums.ensures vs e) (walk_differs _ _ _ _ fs k q vs a c.in_err-compare_directory.ensures))

pub returns : goal.returns
returns c = λ vs e fs k q l.
    let a = list_ahead c.args.list.now c.args.plen vs [] _ _ (c.in_ok-sums.ensures vs e) e in
    let m = walk_same _ _ _ _ fs k q vs a _ _ c.in_ok-compare_directory.ensures in
    several_same c.args.list.now _ vs _ _ _ (c.in_ok-sums.ensures vs e) (c.if-n-files.false ∙ l ∙ sym (read_count _ fs)) m.0 m.1
