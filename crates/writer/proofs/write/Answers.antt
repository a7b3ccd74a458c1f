use Rattle.std.proofs.Common.{ℕ, sym, ◌∙◌}
use Rattle.std.proofs.lemmas.List.{length-replicate}
use Rattle.writer_order.specs.Order.{most_files}
use Rattle.writer.proofs.write.Goals as goal

pub slice_bounds-write_with-end : goal.slice_bounds-write_with-end
slice_bounds-write_with-end c = sym (length-replicate {A = ℕ} most_files 0)

pub slice_bounds-write_with-end-2 : goal.slice_bounds-write_with-end-2
slice_bounds-write_with-end-2 c = sym (length-replicate {A = ℕ} most_files 0)

pub write_with-requires : goal.write_with-requires
write_with-requires c = (length-replicate {A = ℕ} most_files 0, length-replicate {A = ℕ} most_files 0)

pub shape_of-out : goal.shape_of-out
shape_of-out c = c.write_with.auto.out

pub returns : goal.returns
returns c = (c.from.ensures ∙ c.write_with.ensures.0, c.write_with.ensures.1)
