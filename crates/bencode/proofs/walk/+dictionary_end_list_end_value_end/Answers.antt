use Rattle.std.proofs.Common.{arith, rules, sym, ◌∙◌}
use Rattle.bencode.proofs.Walking.{list_start, list_none, list_closed, list_amiss, list_on, dictionary_start, dictionary_none, dictionary_closed, dictionary_no_key, dictionary_amiss, dictionary_on, key_ends, entry_ends, value_none, value_integer, value_list_deep, value_list, value_dictionary_deep, value_dictionary, value_string}
use Rattle.bencode.specs.EndsLaws.{value_ends}
use Rattle.bencode.proofs.walk.+dictionary_end_list_end_value_end.Goals as goal

pub dictionary_end-returns-then-bytes-i-eq101 : goal.dictionary_end-returns-then-bytes-i-eq101
dictionary_end-returns-then-bytes-i-eq101 t c = sym (dictionary_closed c.loop-i.invariant.0 c.loop-i-test.true c.if-bytes-i-eq101.true)

pub dictionary_end-returns-in-None : goal.dictionary_end-returns-in-None
dictionary_end-returns-in-None t c = sym (dictionary_no_key c.loop-i.invariant.0 c.loop-i-test.true c.if-bytes-i-eq101.false
    (sym c.in-None.ensures))

pub dictionary_end-loop-i-smaller : goal.dictionary_end-loop-i-smaller
dictionary_end-loop-i-smaller t c = let e = sym c.in-Some.ensures in
    let v = sym c.in_ok-i-in-Some.ensures in
    let further = entry_ends _ _ _ _ _ _ _ e v in omega arith

pub dictionary_end-loop-i-preserved : goal.dictionary_end-loop-i-preserved
dictionary_end-loop-i-preserved t c = let e = sym c.in-Some.ensures in
    let v = sym c.in_ok-i-in-Some.ensures in (
      dictionary_on c.loop-i.invariant.0 c.loop-i-test.true c.if-bytes-i-eq101.false e _ v (entry_ends _ _ _ _ _ _ _ e v),
      ((key_ends _ _ _ _ _ e).1, (key_ends _ _ _ _ _ e).2),
    )

pub dictionary_end-returns-in_err-i-in-Some : goal.dictionary_end-returns-in_err-i-in-Some
dictionary_end-returns-in_err-i-in-Some t c = let e = sym c.in-Some.ensures in
    let w = dictionary_amiss c.loop-i.invariant.0 c.loop-i-test.true c.if-bytes-i-eq101.false e _ (sym c.in_err-i-in-Some.ensures) in
    search (rules, w)

pub dictionary_end-loop-i-init : goal.dictionary_end-loop-i-init
dictionary_end-loop-i-init t c = (dictionary_start _ _ _, tt)

pub dictionary_end-value_end-requires : goal.dictionary_end-value_end-requires
dictionary_end-value_end-requires t c = (omega arith, tt)

pub dictionary_end-returns : goal.dictionary_end-returns
dictionary_end-returns t c = sym (dictionary_none c.loop-i.invariant.0 c.loop-i-test.false)

pub list_end-returns-then-bytes-i-eq101 : goal.list_end-returns-then-bytes-i-eq101
list_end-returns-then-bytes-i-eq101 t c = sym (list_closed c.loop-i.invariant c.loop-i-test.true c.if-bytes-i-eq101.true)

pub list_end-loop-i-smaller : goal.list_end-loop-i-smaller
list_end-loop-i-smaller t c = let v = sym c.in_ok-i.ensures in
    let further = value_ends _ _ _ _ v in omega arith

pub list_end-loop-i-preserved : goal.list_end-loop-i-preserved
list_end-loop-i-preserved t c = let v = sym c.in_ok-i.ensures in
    list_on c.loop-i.invariant c.loop-i-test.true c.if-bytes-i-eq101.false _ v (value_ends _ _ _ _ v).0

pub list_end-returns-in_err-i : goal.list_end-returns-in_err-i
list_end-returns-in_err-i t c = let w = list_amiss c.loop-i.invariant c.loop-i-test.true c.if-bytes-i-eq101.false _ (sym c.in_err-i.ensures) in
    search (rules, w)

pub list_end-loop-i-init : goal.list_end-loop-i-init
list_end-loop-i-init t c = list_start _ _ _

pub list_end-value_end-requires : goal.list_end-value_end-requires
list_end-value_end-requires t c = (omega arith, tt)

pub list_end-returns : goal.list_end-returns
list_end-returns t c = sym (list_none c.loop-i.invariant c.loop-i-test.false)

pub value_end-returns-then-c-eq105 : goal.value_end-returns-then-c-eq105
value_end-returns-then-c-eq105 t c = sym (value_integer _ _ c.if-bytes-at.false _ c.if-c-eq105.true ∙ sym c.integer_end.ensures)

pub value_end-returns-then-levels-eq0 : goal.value_end-returns-then-levels-eq0
value_end-returns-then-levels-eq0 t c = sym (value_list_deep _ _ c.if-bytes-at.false c.if-c-eq105.false _ c.if-c-eq108.true c.if-levels-eq0.true)

pub value_end-returns-then-c-eq108 : goal.value_end-returns-then-c-eq108
value_end-returns-then-c-eq108 t c = sym (value_list _ _ c.if-bytes-at.false c.if-c-eq105.false _ c.if-c-eq108.true c.if-levels-eq0.false ∙ sym c.list_end.ensures)

pub value_end-returns-then-levels-eq0-2 : goal.value_end-returns-then-levels-eq0-2
value_end-returns-then-levels-eq0-2 t c = sym (value_dictionary_deep _ _ c.if-bytes-at.false c.if-c-eq105.false c.if-c-eq108.false _ c.if-c-eq100.true c.if-levels-eq0-2.true)

pub value_end-returns-then-c-eq100 : goal.value_end-returns-then-c-eq100
value_end-returns-then-c-eq100 t c = sym (value_dictionary _ _ c.if-bytes-at.false c.if-c-eq105.false c.if-c-eq108.false _ c.if-c-eq100.true c.if-levels-eq0-2.false
    ∙ sym c.dictionary_end.ensures)

pub value_end-returns : goal.value_end-returns
value_end-returns t c = sym (value_string _ _ c.if-bytes-at.false c.if-c-eq105.false c.if-c-eq108.false _ c.if-c-eq100.false ∙ sym c.string_end.ensures)

pub value_end-returns-then-bytes-at : goal.value_end-returns-then-bytes-at
value_end-returns-then-bytes-at t c = sym (value_none _ _ _ c.if-bytes-at.true)

pub value_end-overflow_sub-levels : goal.value_end-overflow_sub-levels
value_end-overflow_sub-levels t c = omega arith

pub value_end-list_end-requires : goal.value_end-list_end-requires
value_end-list_end-requires t c = (omega arith, tt)

pub value_end-overflow_sub-levels-then-c-eq100 : goal.value_end-overflow_sub-levels-then-c-eq100
value_end-overflow_sub-levels-then-c-eq100 t c = omega arith

pub value_end-dictionary_end-requires : goal.value_end-dictionary_end-requires
value_end-dictionary_end-requires t c = (omega arith, tt)
