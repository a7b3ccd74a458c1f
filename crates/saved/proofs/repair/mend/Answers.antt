use Rattle.saved.proofs.repair.mend.Goals as goal

pub mend_by-requires : goal.mend_by-requires
mend_by-requires c = (c.requires.0, c.requires.1, c.requires.2, c.requires.3, c.pad_values-pads.ensures)

pub returns : goal.returns
returns c = c.mend_by.ensures
