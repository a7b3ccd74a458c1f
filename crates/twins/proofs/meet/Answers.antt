use Rattle.std.proofs.Common.{arith, refl}
use Rattle.twins.proofs.Meeting.{met_empty, met_here, met_never}
use Rattle.twins.proofs.meet.Goals as goal

pub returns-then-length-eq0 : goal.returns-then-length-eq0
returns-then-length-eq0 c = met_empty c.args.tree.now c.args.roots.now _ c.args.room.now _ _ _ c.if-length-eq0.true

pub overflow_add-past : goal.overflow_add-past
overflow_add-past c = let x = c.requires.3 c.if-length-eq0.false in omega arith

pub slice_bounds-search-end : goal.slice_bounds-search-end
slice_bounds-search-end c = let x = c.requires.3 c.if-length-eq0.false in omega arith

pub search-at-requires : goal.search-at-requires
search-at-requires c = (c.requires.0.room, c.requires.0.fit, c.requires.0.ascending)

pub returns-then-at-count : goal.returns-then-at-count
returns-then-at-count c = met_here c.args.tree.now c.args.roots.now _ c.args.room.now _ _ _ c.if-length-eq0.false _ c.search-at.ensures c.if-at-count.true _ _ refl c.size_at-known.ensures

pub returns : goal.returns
returns c = absurd (met_never c.args.tree.now c.args.roots.now _ c.args.room.now 0 _ _ c.if-length-eq0.false _ c.search-at.ensures c.if-at-count.false (c.requires.4 c.if-length-eq0.false))
