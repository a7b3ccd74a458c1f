use Rattle.saved.proofs.Answers.{opening_short, opening_kind, opening_facts, opening_room, opening_done}
use Rattle.saved.proofs.load.opening_number.Goals as goal

pub returns-then-bytes-lt45 : goal.returns-then-bytes-lt45
returns-then-bytes-lt45 c = opening_short _ _ c.if-bytes-lt45.true

pub returns-then-bytes-ne1 : goal.returns-then-bytes-ne1
returns-then-bytes-ne1 c = opening_kind _ _ c.if-bytes-lt45.false c.if-bytes-ne1.true

pub returns-then-due-ne0 : goal.returns-then-due-ne0
returns-then-due-ne0 c = opening_facts _ _ c.if-bytes-lt45.false c.if-bytes-ne1.false _ _ c.number_at-n.ensures.0 c.number_at-plen.ensures.0 _ c.store_size-due.ensures c.if-due-ne0.true

pub returns-then-size-due : goal.returns-then-size-due
returns-then-size-due c = opening_room _ _ c.if-bytes-lt45.false c.if-bytes-ne1.false _ _ c.number_at-n.ensures.0 c.number_at-plen.ensures.0 _ c.store_size-due.ensures c.if-due-ne0.false c.if-size-due.true

pub returns : goal.returns
returns c = opening_done _ _ c.if-bytes-lt45.false c.if-bytes-ne1.false _ _ c.number_at-n.ensures.0 c.number_at-plen.ensures.0 _ c.store_size-due.ensures c.if-due-ne0.false c.if-size-due.false
