-- The entries passed have other keys: the search from i on finds what the search of the whole finds, `FindAt`.
use Rattle.std.proofs.Common.{arith, ◌<◌, length, sym, ◌∙◌}
use Rattle.bencode.specs.PartsLaws.{entry_ends, find_no_dictionary}
use Rattle.bencode.proofs.Finding.{find_start, find_stop, find_here, find_on, dictionary_within}
use Rattle.bencode.proofs.parts.find.Goals as goal

pub returns-then-not-is_dictionary : goal.returns-then-not-is_dictionary
returns-then-not-is_dictionary c = sym (find_no_dictionary _ _ _ (sym c.is_dictionary.ensures ∙ c.if-not-is_dictionary.true))

pub overflow_add-i : goal.overflow_add-i
overflow_add-i c = let below : c.args.at < length c.args.bytes.now = dictionary_within _ _ (sym c.is_dictionary.ensures ∙ c.if-not-is_dictionary.false) in omega arith

pub loop-entry-init : goal.loop-entry-init
loop-entry-init c = find_start _ _ _ (sym c.is_dictionary.ensures ∙ c.if-not-is_dictionary.false)

pub slice_bounds-same-count : goal.slice_bounds-same-count
slice_bounds-same-count c = (entry_ends _ _ _ _ _ (sym c.in-Some.ensures)).1

pub slice_bounds-same-start : goal.slice_bounds-same-start
slice_bounds-same-start c = (entry_ends _ _ _ _ _ (sym c.in-Some.ensures)).1

pub slice_bounds-same-end : goal.slice_bounds-same-end
slice_bounds-same-end c = let ends = entry_ends _ _ _ _ _ (sym c.in-Some.ensures) in let before_end = ends.2 in let within = ends.3 in omega arith

pub returns-then-same : goal.returns-then-same
returns-then-same c = sym (find_here _ _ _ _ _ _ _ (sym c.in-Some.ensures) c.loop-entry.invariant (sym c.same.ensures ∙ c.if-same.true))

pub loop-entry-smaller : goal.loop-entry-smaller
loop-entry-smaller c = let ends = entry_ends _ _ _ _ _ (sym c.in-Some.ensures) in let a = ends.0 in let b = ends.1 in let k = ends.2 in omega arith

pub loop-entry-preserved : goal.loop-entry-preserved
loop-entry-preserved c = find_on _ _ _ _ _ _ _ (sym c.in-Some.ensures) c.loop-entry.invariant (sym c.same.ensures ∙ c.if-same.false)

pub returns : goal.returns
returns c = sym (find_stop _ _ _ _ c.loop-entry.invariant (sym c.in_default.ensures))
