use Rattle.twins.proofs.Meeting.{forgotten, forgotten_room}
use Rattle.twins.specs.WalkLaws.{tree_ahead, tree_agrees, tree_differs}
use Rattle.twins.proofs.compare.Goals as goal

pub compare_directory-requires : goal.compare_directory-requires
compare_directory-requires c = let f = c.forget.ensures in
    (c.requires.0, c.requires.3, tree_ahead _ _ _ _ c.requires.0 c.requires.1 _ (forgotten_room c.args.room.now _ _ f c.requires.2) (forgotten c.args.room.now _ _ f))

pub returns : goal.returns
returns c = let f = c.forget.ensures in
    tree_agrees _ _ _ _ c.requires.0 c.requires.1 _ _ _ _
    (c.in_ok-all.ensures (tree_ahead _ _ _ _ c.requires.0 c.requires.1 _ (forgotten_room c.args.room.now _ _ f c.requires.2) (forgotten c.args.room.now _ _ f)))

pub returns-in_err-all : goal.returns-in_err-all
returns-in_err-all c = let f = c.forget.ensures in
    rw c.from_residual.ensures
    (tree_differs _ _ _ _ c.requires.0 c.requires.1
    (c.in_err-all.ensures (tree_ahead _ _ _ _ c.requires.0 c.requires.1 _ (forgotten_room c.args.room.now _ _ f c.requires.2) (forgotten c.args.room.now _ _ f))))
