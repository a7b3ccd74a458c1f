use Rattle.std.proofs.Common.{◌+◌, ◌∙◌, ap₂}
use Rattle.writer_meaning.specs.Number.{begins}
use Rattle.writer_lists.specs.ListsLaws.{slice_end, path_right, slice_fits, slice_path}
use Rattle.writer_lists.proofs.paths.leads.Goals as goal

pub slice_bounds-path_begins-end : goal.slice_bounds-path_begins-end
slice_bounds-path_begins-end c = slice_end c.args.list.now
    c.args.text.now
    (c.args.one + 48) _ _
    (path_right c.args.list.now
    c.args.text.now c.args.one
    c.requires.2).0 c.word_at-s.ensures.0
    c.word_at-m.ensures.0

pub slice_bounds-path_begins-end-2 : goal.slice_bounds-path_begins-end-2
slice_bounds-path_begins-end-2 c = slice_end c.args.list.now
    c.args.text.now
    (c.args.other + 48) _ _
    (path_right c.args.list.now
    c.args.text.now
    c.args.other
    c.requires.3).0 c.word_at-t.ensures.0
    c.word_at-n.ensures.0

pub path_begins-requires : goal.path_begins-requires
path_begins-requires c = (
  slice_fits c.args.list.now
      c.args.text.now
      c.args.one _ _
      c.requires.2
      c.word_at-s.ensures.0 c.word_at-m.ensures.0,
  slice_fits c.args.list.now
      c.args.text.now
      c.args.other _ _
      c.requires.3 c.word_at-t.ensures.0
      c.word_at-n.ensures.0,
)

pub returns : goal.returns
returns c = c.path_begins.ensures ∙ ap₂ begins (slice_path
    c.args.list.now
    c.args.text.now
    c.args.one _ _
    c.word_at-s.ensures.0
    c.word_at-m.ensures.0)
    (slice_path c.args.list.now
    c.args.text.now
    c.args.other _ _
    c.word_at-t.ensures.0 c.word_at-n.ensures.0)
