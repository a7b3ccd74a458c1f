use Rattle.std.proofs.Common.{length-set, arith, refl, sym, ◌∙◌}
use Rattle.layers.proofs.Indexing.{index_start, index_last, index_narrow, index_full, index_behind, index_more}
use Rattle.layers.proofs.index.Goals as goal

pub loop-start-init : goal.loop-start-init
loop-start-init c = (index_start _ _ _, refl)

pub overflow_sub-value : goal.overflow_sub-value
overflow_sub-value c = (index_behind _ _ _ _ _ c.loop-start.invariant.0 _ _ _ (sym c.in-Some.ensures)).2

pub shape_of-keys-then-value-start-ne-ROOT : goal.shape_of-keys-then-value-start-ne-ROOT
shape_of-keys-then-value-start-ne-ROOT c = c.loop-start.invariant.1

pub returns-then-value-start-ne-ROOT : goal.returns-then-value-start-ne-ROOT
returns-then-value-start-ne-ROOT c = index_narrow _ _ _ _ _ c.loop-start.invariant.0 _ _ _ (sym c.in-Some.ensures) c.if-value-start-ne-ROOT.true

pub shape_of-keys-then-n-most : goal.shape_of-keys-then-n-most
shape_of-keys-then-n-most c = c.loop-start.invariant.1

pub returns-then-n-most : goal.returns-then-n-most
returns-then-n-most c = index_full _ _ _ _ _ c.loop-start.invariant.0 _ _ _ (sym c.in-Some.ensures) c.if-n-most.true

pub overflow_cast-keys : goal.overflow_cast-keys
overflow_cast-keys c = let x = (index_behind _ _ _ _ _ c.loop-start.invariant.0 _ _ _ (sym c.in-Some.ensures)).3 in let y = c.requires.0 in omega arith

pub bounds-keys-n : goal.bounds-keys-n
bounds-keys-n c = let x = c.loop-start.invariant.1 in let y = c.requires.1 in let z = c.if-n-most.false in omega arith

pub loop-start-smaller : goal.loop-start-smaller
loop-start-smaller c = let x = index_behind _ _ _ _ _ c.loop-start.invariant.0 _ _ _ (sym c.in-Some.ensures) in let y = x.0 in let z = x.1 in omega arith

pub loop-start-preserved : goal.loop-start-preserved
loop-start-preserved c = let x = c.loop-start.invariant.1 in let y = c.requires.1 in let z = c.if-n-most.false in (index_more _ _ _ _ _ c.loop-start.invariant.0 _ _ _ (sym c.in-Some.ensures) c.if-value-start-ne-ROOT.false c.if-n-most.false (omega arith), length-set c.loop-start.keys c.loop-start.n _ ∙ x)

pub shape_of-keys : goal.shape_of-keys
shape_of-keys c = c.loop-start.invariant.1

pub returns : goal.returns
returns c = index_last _ _ _ _ _ c.loop-start.invariant.0 (sym c.in_default.ensures) _ refl
