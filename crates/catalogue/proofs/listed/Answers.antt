use Rattle.std.proofs.Common.{rules, refl, arith, ℕ, sym}
use Rattle.numbers.specs.Refusals.{refused_is_some}
use Rattle.catalogue.proofs.Filling.{whole, list_few, list_ready, list_room, list_short, list_done, list_refused_lem}
use Rattle.std.proofs.lemmas.List.{length-replicate}
use Rattle.filetree.specs.Count.{most_roots}
use Rattle.catalogue.proofs.listed.Goals as goal

pub overflow_mul-size : goal.overflow_mul-size
overflow_mul-size c = let x = list_few _ _ c.in_ok-c.ensures refl in omega arith

pub slice_bounds-list_in-count : goal.slice_bounds-list_in-count
slice_bounds-list_in-count c = (whole _ _ c.in_ok-c.ensures refl).opened.tree_forward

pub slice_bounds-list_in-start : goal.slice_bounds-list_in-start
slice_bounds-list_in-start c = (whole _ _ c.in_ok-c.ensures refl).opened.tree_forward

pub slice_bounds-list_in-end : goal.slice_bounds-list_in-end
slice_bounds-list_in-end c = (whole _ _ c.in_ok-c.ensures refl).opened.tree_within

pub slice_bounds-list_in-count-2 : goal.slice_bounds-list_in-count-2
slice_bounds-list_in-count-2 c = (whole _ _ c.in_ok-c.ensures refl).opened.layers_forward

pub slice_bounds-list_in-start-2 : goal.slice_bounds-list_in-start-2
slice_bounds-list_in-start-2 c = (whole _ _ c.in_ok-c.ensures refl).opened.layers_forward

pub slice_bounds-list_in-end-2 : goal.slice_bounds-list_in-end-2
slice_bounds-list_in-end-2 c = (whole _ _ c.in_ok-c.ensures refl).opened.layers_within

pub slice_bounds-list_in-end-3 : goal.slice_bounds-list_in-end-3
slice_bounds-list_in-end-3 c = sym (length-replicate {A = ℕ} most_roots 0)

pub returns-then-out-size : goal.returns-then-out-size
returns-then-out-size c = let w = list_short _ _ c.in_ok-c.ensures refl _ c.if-out-size.true _ refl in record { answer = w.0; left = w.1 }

pub list_in-requires : goal.list_in-requires
list_in-requires c = (list_ready _ _ c.in_ok-c.ensures refl, length-replicate {A = ℕ} most_roots 0, list_room _ _ c.in_ok-c.ensures refl _ c.if-out-size.false)

pub returns-in_err-c-clause-answer : goal.returns-in_err-c-clause-answer
returns-in_err-c-clause-answer c = let w = list_refused_lem _ _ c.in_err-c.ensures c.args.out.now (refused_is_some _) _ refl in search (rules, w)

pub returns-in_err-c-clause-left : goal.returns-in_err-c-clause-left
returns-in_err-c-clause-left c = (list_refused_lem _ _ c.in_err-c.ensures c.args.out.now (refused_is_some _) _ refl).1

pub returns : goal.returns
returns c = let w = list_done _ _ c.in_ok-c.ensures refl _ c.if-out-size.false _ refl _ c.list_in.ensures in record { answer = w.0; left = w.1 }
