use Rattle.std.proofs.Common.{arith, sym, ◌∙◌}
use Rattle.layers.proofs.Finding.{found_here, found_nowhere}
use Rattle.layers.proofs.Searching.{index_within}
use Rattle.layers.proofs.find_layer.Goals as goal

pub search-i-requires : goal.search-i-requires
search-i-requires c = (c.requires.room, index_within _ _ _ c.requires, c.requires.ascending)

pub overflow_cast-key : goal.overflow_cast-key
overflow_cast-key c = let x = index_within _ _ _ c.requires _ c.if-i-count.true in omega arith

pub overflow_add-key : goal.overflow_add-key
overflow_add-key c = let x = index_within _ _ _ c.requires _ c.if-i-count.true in omega arith

pub returns-then-i-count : goal.returns-then-i-count
returns-then-i-count c = c.read_string.ensures ∙ sym (found_here _ _ _ c.requires _ _ c.search-i.ensures c.if-i-count.true)

pub returns : goal.returns
returns c = sym (found_nowhere _ _ _ c.requires _ _ c.search-i.ensures c.if-i-count.false)
