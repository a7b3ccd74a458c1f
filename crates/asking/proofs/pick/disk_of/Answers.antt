-- Each field is the callee's.
use Rattle.store.specs.StoreLaws.{usable_facts}
use Rattle.asking.proofs.pick.disk_of.Goals as goal

pub blocks_of-blocks-requires : goal.blocks_of-blocks-requires
blocks_of-blocks-requires c = (usable_facts _ c.requires).long

pub returns : goal.returns
returns c = record { start = c.marks_start-start.ensures; each = c.each_piece-each.ensures; blocks = c.blocks_of-blocks.ensures }
