use Rattle.saved.proofs.Answers.{sound_height, sound_places, formed_sized, rooted_form, rooted_root}
use Rattle.saved.proofs.repair.is_rooted.Goals as goal

pub is_formed-ok-requires : goal.is_formed-ok-requires
is_formed-ok-requires c = sound_height _ _ _ _ c.number_at-n.ensures.0 c.block_count-c.ensures c.height-h.ensures c.requires.1

pub returns-then-not-ok : goal.returns-then-not-ok
returns-then-not-ok c = rooted_form _ _ _ _ c.number_at-n.ensures.0 c.block_count-c.ensures c.height-h.ensures _ c.is_formed-ok.ensures (c.if-not-ok.true)

pub place_count-p-requires : goal.place_count-p-requires
place_count-p-requires c = formed_sized _ _ c.is_formed-ok.ensures (c.if-not-ok.false)

pub root_right-requires : goal.root_right-requires
root_right-requires c = let w = sound_places _ _ _ _ c.number_at-n.ensures.0 c.block_count-c.ensures c.height-h.ensures _ c.is_formed-ok.ensures (c.if-not-ok.false) _ c.place_count-p.ensures in ((sound_height _ _ _ _ c.number_at-n.ensures.0 c.block_count-c.ensures c.height-h.ensures c.requires.1).0, w.0, w.1, c.place_count-p.ensures)

pub returns : goal.returns
returns c = rooted_root _ _ _ _ c.number_at-n.ensures.0 c.block_count-c.ensures c.height-h.ensures _ c.is_formed-ok.ensures (c.if-not-ok.false) _ c.root_right.ensures
