use Rattle.std.proofs.Common.{arith, refl, sym, ◌∙◌}
use Rattle.filetree.specs.TokenLaws.{leaf_ends, leaf_fewer, fewer_behind, opened_ends}
use Rattle.twins.specs.WalkLaws.{levels_left, going_start, going_bad, going_end, going_closed, file_stands, going_differs, going_file, inside_ahead, inside_differs, inside_behind, going_directory}
use Rattle.twins.proofs.+compare_directory.Goals as goal

pub loop-i-preserved-in-Leaf : goal.loop-i-preserved-in-Leaf
loop-i-preserved-in-Leaf t c = let rooted = c.requires.0 in
    let e = sym (rw c.in-Leaf.is at c.in_ok-read_token.ensures) in (
      c.meet-known.auto.room ∙ c.loop-i.invariant.0,
      λ w. going_file w (c.loop-i.invariant.1 w) c.loop-i-test.true e rooted _ _ c.meet-known.ensures
          (sym c.differs.ensures ∙ c.if-differs.false) _ c.one_more-layered.ensures,
    )

pub overflow_sub-below : goal.overflow_sub-below
overflow_sub-below t c = let left = levels_left c.requires.2 in omega arith

pub loop-i-init : goal.loop-i-init
loop-i-init t c = (refl, λ w. going_start w)

pub shape_of-room-in_err-read_token : goal.shape_of-room-in_err-read_token
shape_of-room-in_err-read_token t c = c.loop-i.invariant.0

pub returns-in_err-read_token : goal.returns-in_err-read_token
returns-in_err-read_token t c = rw c.from_residual.ensures (λ w. absurd (going_bad w (c.loop-i.invariant.1 w) (sym c.in_err-read_token.ensures)))

pub shape_of-room-in-Closed : goal.shape_of-room-in-Closed
shape_of-room-in-Closed t c = c.loop-i.invariant.0

pub returns-in-Closed : goal.returns-in-Closed
returns-in-Closed t c = λ w. going_closed w (c.loop-i.invariant.1 w) c.loop-i-test.true (sym (rw c.in-Closed.is at c.in_ok-read_token.ensures))

pub meet-known-requires : goal.meet-known-requires
meet-known-requires t c = let pre = c.requires in let short = pre.1 in let w = pre.2 in
    let g = c.loop-i.invariant.1 w in let h = c.loop-i-test.true in
    let e = sym (rw c.in-Leaf.is at c.in_ok-read_token.ensures) in
    (pre.0, g.known.sized, omega arith, λ o. ((leaf_ends _ _ _ _ _ _ _ e).2 o).1, file_stands w g h e)

pub shape_of-room-then-differs : goal.shape_of-room-then-differs
shape_of-room-then-differs t c = c.meet-known.auto.room ∙ c.loop-i.invariant.0

pub returns-then-differs : goal.returns-then-differs
returns-then-differs t c = let e = sym (rw c.in-Leaf.is at c.in_ok-read_token.ensures) in
    λ w. going_differs w (c.loop-i.invariant.1 w) c.loop-i-test.true e c.requires.0 _ _
    c.meet-known.ensures (sym c.differs.ensures ∙ c.if-differs.true)

pub one_more-layered-requires : goal.one_more-layered-requires
one_more-layered-requires t c = let pre = c.requires in let short = pre.1 in
    let few = (c.loop-i.invariant.1 pre.2).few in let h = c.loop-i-test.true in omega arith

pub loop-i-smaller-in-Leaf : goal.loop-i-smaller-in-Leaf
loop-i-smaller-in-Leaf t c = leaf_fewer _ _ _ _ _ _ _ (sym (rw c.in-Leaf.is at c.in_ok-read_token.ensures))

pub overflow_add-end : goal.overflow_add-end
overflow_add-end t c = let short = c.requires.1 in
    let inside = (opened_ends _ _ _ _ (sym (rw c.in-Opened.is at c.in_ok-read_token.ensures))).1 in omega arith

pub compare_directory-requires : goal.compare_directory-requires
compare_directory-requires t c = let pre = c.requires in let w = pre.2 in let left = levels_left w in
    let e = sym (rw c.in-Opened.is at c.in_ok-read_token.ensures) in
    (omega arith, (pre.0, pre.1, inside_ahead w (c.loop-i.invariant.1 w) c.loop-i-test.true e))

pub loop-i-smaller : goal.loop-i-smaller
loop-i-smaller t c = let h = c.loop-i-test.true in let e = sym (rw c.in-Opened.is at c.in_ok-read_token.ensures) in
    let w = c.requires.2 in let g = c.loop-i.invariant.1 w in
    let ends = inside_behind w g h e _ _ _ (c.in_ok-inside-in-Opened.ensures (inside_ahead w g h e)) in
    fewer_behind _ _ _ ends.0 ends.1

pub loop-i-preserved : goal.loop-i-preserved
loop-i-preserved t c = let h = c.loop-i-test.true in let e = sym (rw c.in-Opened.is at c.in_ok-read_token.ensures) in (
  c.compare_directory.auto.room ∙ c.loop-i.invariant.0,
  λ w. let g = c.loop-i.invariant.1 w in
      going_directory w g h e _ _ _ (c.in_ok-inside-in-Opened.ensures (inside_ahead w g h e)),
)

pub shape_of-room-in_err-inside-in-Opened : goal.shape_of-room-in_err-inside-in-Opened
shape_of-room-in_err-inside-in-Opened t c = c.compare_directory.auto.room ∙ c.loop-i.invariant.0

pub returns-in_err-inside-in-Opened : goal.returns-in_err-inside-in-Opened
returns-in_err-inside-in-Opened t c = let h = c.loop-i-test.true in let e = sym (rw c.in-Opened.is at c.in_ok-read_token.ensures) in
    rw c.from_residual-in_err-inside-in-Opened.ensures (λ w. let g = c.loop-i.invariant.1 w in
    inside_differs w g h e (c.in_err-inside-in-Opened.ensures (inside_ahead w g h e)))

pub shape_of-room : goal.shape_of-room
shape_of-room t c = c.loop-i.invariant.0

pub returns : goal.returns
returns t c = λ w. absurd (going_end w (c.loop-i.invariant.1 w) c.loop-i-test.false)
