use Rattle.std.proofs.Common.{List, ℕ, ◌+◌, ap, sym, ◌∙◌, ap₂}
use Rattle.writer_lists.specs.PathsLaws.{before_self}
use Rattle.writer_lists.specs.ListsLaws.{slice_end, path_right, slice_fits, slice_path, one_path_lem}
use Rattle.writer_lists.specs.Lists.{item_at}
use Rattle.writer_meaning.specs.Content.{path_before}
use Rattle.writer_lists.proofs.paths.lower.Goals as goal

pub returns-then-m-n : goal.returns-then-m-n
returns-then-m-n c = let k = c.args in sym
    (ap (λ (l : List (List ℕ)). path_before (item_at k.list.now k.text.now k.one).path l)
    (sym (one_path_lem k.list.now k.text.now k.one k.other _ _ _ _ c.word_at-s.ensures.0
    c.word_at-m.ensures.0 c.word_at-t.ensures.0
    c.word_at-n.ensures.0 c.if-s-t.true c.if-m-n.true)) ∙ before_self
    (item_at k.list.now k.text.now k.one).path)

pub slice_bounds-path_before-end : goal.slice_bounds-path_before-end
slice_bounds-path_before-end c = slice_end c.args.list.now c.args.text.now
    (c.args.one + 48) _ _ (path_right c.args.list.now c.args.text.now c.args.one c.requires.2).0
    c.word_at-s.ensures.0 c.word_at-m.ensures.0

pub slice_bounds-path_before-end-2 : goal.slice_bounds-path_before-end-2
slice_bounds-path_before-end-2 c = slice_end c.args.list.now c.args.text.now
    (c.args.other + 48) _ _ (path_right c.args.list.now c.args.text.now c.args.other c.requires.3).0
    c.word_at-t.ensures.0 c.word_at-n.ensures.0

pub path_before-requires : goal.path_before-requires
path_before-requires c = let l = c.args.list.now in let t =
    c.args.text.now in (
      slice_fits l t c.args.one _ _ c.requires.2
          c.word_at-s.ensures.0
          c.word_at-m.ensures.0,
      slice_fits l t c.args.other _ _ c.requires.3
          c.word_at-t.ensures.0 c.word_at-n.ensures.0,
    )

pub returns : goal.returns
returns c = let k = c.args in c.path_before.ensures ∙ ap₂
    path_before (slice_path k.list.now k.text.now k.one _ _
    c.word_at-s.ensures.0
    c.word_at-m.ensures.0)
    (slice_path k.list.now k.text.now k.other _ _ c.word_at-t.ensures.0
    c.word_at-n.ensures.0)
