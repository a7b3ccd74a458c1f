use Rattle.std.proofs.Common.{arith, sym, ◌∙◌}
use Rattle.header.proofs.Rules.{length_two, length_log, rules_1, rules_2, rules_3, rules_4, rules_5}
use Rattle.header.proofs.keeps_rules.Goals as goal

pub returns-then-not-length_rule : goal.returns-then-not-length_rule
returns-then-not-length_rule c = rules_1 c.args.header c.args.height (sym c.if-not-length_rule.ensures)

pub nonzero_rem-index : goal.nonzero_rem-index
nonzero_rem-index c = omega (arith, length_two c.args.header.len (sym c.if-not-length_rule.ensures))

pub returns-then-index-len-ne0 : goal.returns-then-index-len-ne0
returns-then-index-len-ne0 c = let a = c.args in
    rules_2 a.header a.height (sym c.if-not-length_rule.ensures) c.if-index-len-ne0.true

pub overflow_add-base : goal.overflow_add-base
overflow_add-base c = omega (arith, c.requires.0.base, c.log2-k.ensures, length_log c.args.header.len (sym c.if-not-length_rule.ensures))

pub returns-then-height-base : goal.returns-then-height-base
returns-then-height-base c = let a = c.args in
    rules_3 a.header a.height (sym c.if-not-length_rule.ensures) c.if-index-len-ne0.false c.log2-k.result c.log2-k.ensures c.if-height-base.true

pub returns-then-height-base-2 : goal.returns-then-height-base-2
returns-then-height-base-2 c = let a = c.args in
    rules_4 a.header a.height (sym c.if-not-length_rule.ensures) c.if-index-len-ne0.false c.log2-k.result c.log2-k.ensures c.if-height-base.false c.if-height-base-2.true

pub index_rule-requires : goal.index_rule-requires
index_rule-requires c = let pre = c.requires in
    (pre.0, omega (arith, c.if-height-base.false), pre.1)

pub returns : goal.returns
returns c = let a = c.args in
    c.index_rule.ensures
    ∙ rules_5 a.header a.height (sym c.if-not-length_rule.ensures) c.if-index-len-ne0.false c.log2-k.result c.log2-k.ensures c.if-height-base.false c.if-height-base-2.false
