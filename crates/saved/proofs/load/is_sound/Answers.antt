use Rattle.std.proofs.Common.{rules}
use Rattle.saved.proofs.Answers.{sound_height, sound_form, sound_places, sound_root, sound_chain, formed_sized}
use Rattle.saved.proofs.load.is_sound.Goals as goal

pub is_formed-ok-requires : goal.is_formed-ok-requires
is_formed-ok-requires c = sound_height _ _ _ _ c.number_at-n.ensures.0 c.block_count-c.ensures c.height-h.ensures c.requires.1

pub returns-then-not-ok : goal.returns-then-not-ok
returns-then-not-ok c = sound_form _ _ _ _ c.number_at-n.ensures.0 c.block_count-c.ensures c.height-h.ensures _ c.is_formed-ok.ensures (c.if-not-ok.true)

pub place_count-p-requires : goal.place_count-p-requires
place_count-p-requires c = formed_sized _ _ c.is_formed-ok.ensures (c.if-not-ok.false)

pub root_right-root-requires : goal.root_right-root-requires
root_right-root-requires c = let w = sound_places _ _ _ _ c.number_at-n.ensures.0 c.block_count-c.ensures c.height-h.ensures _ c.is_formed-ok.ensures (c.if-not-ok.false) _ c.place_count-p.ensures in ((sound_height _ _ _ _ c.number_at-n.ensures.0 c.block_count-c.ensures c.height-h.ensures c.requires.1).0, w.0, w.1, c.place_count-p.ensures)

pub returns-then-not-root : goal.returns-then-not-root
returns-then-not-root c = sound_root _ _ _ _ c.number_at-n.ensures.0 c.block_count-c.ensures c.height-h.ensures _ c.is_formed-ok.ensures (c.if-not-ok.false) _ c.place_count-p.ensures _ c.root_right-root.ensures (c.if-not-root.true)

pub claimed-k-requires : goal.claimed-k-requires
claimed-k-requires c = let w = sound_places _ _ _ _ c.number_at-n.ensures.0 c.block_count-c.ensures c.height-h.ensures _ c.is_formed-ok.ensures (c.if-not-ok.false) _ c.place_count-p.ensures in ((sound_height _ _ _ _ c.number_at-n.ensures.0 c.block_count-c.ensures c.height-h.ensures c.requires.1).0, w.0, w.1)

pub overflow_add-result : goal.overflow_add-result
overflow_add-result c = let w = (sound_places _ _ _ _ c.number_at-n.ensures.0 c.block_count-c.ensures c.height-h.ensures _ c.is_formed-ok.ensures (c.if-not-ok.false) _ c.place_count-p.ensures).0 in let e = c.claimed-k.ensures.1 in search rules

pub returns : goal.returns
returns c = sound_chain _ _ _ _ c.number_at-n.ensures.0 c.block_count-c.ensures c.height-h.ensures _ c.is_formed-ok.ensures (c.if-not-ok.false) _ c.place_count-p.ensures _ c.root_right-root.ensures (c.if-not-root.false) _ c.claimed-k.ensures.0
