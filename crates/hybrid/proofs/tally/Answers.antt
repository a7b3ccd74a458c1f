use Rattle.std.proofs.Common.{arith, sym, ◌∙◌, rules}
use Rattle.hybrid.specs.Entry.{Reads}
use Rattle.hybrid.specs.EntryLaws.{ok_none, ok_some}
use Rattle.hybrid.specs.TallyLaws.{tally_start, read_ended, bad_no_end, entry_no_end, tally_bad, tally_between, tally_many, tally_more, counted_few}
use Rattle.hybrid.proofs.tally.Goals as goal

pub loop-entry-init : goal.loop-entry-init
loop-entry-init c = (search rules, search rules, λ vs e. tally_start _ _ vs e)

pub returns-in_err-entry : goal.returns-in_err-entry
returns-in_err-entry c = let r = ok_none (Reads c.args.list.now c.loop-entry.i) _ c.read_v1.ensures c.in_err-entry.ensures.value in
    rw c.from_residual.ensures (λ vs e. tally_bad _ _ _ _ _ vs (c.loop-entry.invariant.2 vs e) (bad_no_end _ _ r) r)

pub returns : goal.returns
returns c = let r = rw c.in_default.is at (ok_some (Reads c.args.list.now c.loop-entry.i) _ _ c.read_v1.ensures c.in_ok-entry.ensures.value) in
    λ vs e. read_ended _ _ _ _ _ vs (c.loop-entry.invariant.2 vs e) r

pub returns-then-not-stands_right : goal.returns-then-not-stands_right
returns-then-not-stands_right c = let r = rw c.in-Some.is at (ok_some (Reads c.args.list.now c.loop-entry.i) _ _ c.read_v1.ensures c.in_ok-entry.ensures.value) in
    λ vs e. tally_between _ _ _ _ _ vs (c.loop-entry.invariant.2 vs e) (entry_no_end _ _ _ _ _ _ r) _ _ _ _ r (sym c.stands_right.ensures ∙ c.if-not-stands_right.true)

pub returns-then-length-total : goal.returns-then-length-total
returns-then-length-total c = let r = rw c.in-Some.is at (ok_some (Reads c.args.list.now c.loop-entry.i) _ _ c.read_v1.ensures c.in_ok-entry.ensures.value) in
    λ vs e. tally_many _ _ _ _ _ vs (c.loop-entry.invariant.2 vs e) (entry_no_end _ _ _ _ _ _ r) _ _ _ _ r (sym c.stands_right.ensures ∙ c.if-not-stands_right.false) c.if-length-total.true

pub counted-files-requires : goal.counted-files-requires
counted-files-requires c = let r = rw c.in-Some.is at (ok_some (Reads c.args.list.now c.loop-entry.i) _ _ c.read_v1.ensures c.in_ok-entry.ensures.value) in
    let x = r.ends in omega (arith, x.0, x.1, c.loop-entry.invariant.0, c.requires.1)

pub loop-entry-smaller : goal.loop-entry-smaller
loop-entry-smaller c = let r = rw c.in-Some.is at (ok_some (Reads c.args.list.now c.loop-entry.i) _ _ c.read_v1.ensures c.in_ok-entry.ensures.value) in
    let x = r.ends in omega (arith, x.0, x.1)

pub loop-entry-preserved : goal.loop-entry-preserved
loop-entry-preserved c = let r = rw c.in-Some.is at (ok_some (Reads c.args.list.now c.loop-entry.i) _ _ c.read_v1.ensures c.in_ok-entry.ensures.value) in
    let x = r.ends in (
      counted_few c.in-Some.entry.padding _ _ _ _ c.counted-files.ensures c.loop-entry.invariant.0 x.0,
      omega arith,
      λ vs e. tally_more _ _ _ _ _ vs (c.loop-entry.invariant.2 vs e) (entry_no_end _ _ _ _ _ _ r) _ _ _ _ r (sym c.stands_right.ensures ∙ c.if-not-stands_right.false) c.if-length-total.false _ c.counted-files.ensures,
    )
