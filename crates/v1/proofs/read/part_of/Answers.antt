use Rattle.std.proofs.Common.{arith}
use Rattle.v1.specs.ReadLaws.{piece_own, piece_among, part_empty, part_last, part_done}
use Rattle.v1.proofs.read.part_of.Goals as goal

pub returns-then-length-eq0 : goal.returns-then-length-eq0
returns-then-length-eq0 c = part_empty _ _ _ _ _ _ c.requires.1 c.if-length-eq0.true

pub overflow_sub-last : goal.overflow_sub-last
overflow_sub-last c = let t = c.requires.1 in let e = c.piece_count-count.ensures in let l = part_last _ _ _ _ _ _ t c.if-length-eq0.false _ e in let o = piece_own _ _ _ _ _ _ t _ l in let m = piece_among _ _ _ _ _ _ t _ l in let w = t.within in let x = t.few in let y = t.room in let z = t.small in omega arith

pub overflow_mul-last : goal.overflow_mul-last
overflow_mul-last c = let t = c.requires.1 in let e = c.piece_count-count.ensures in let l = part_last _ _ _ _ _ _ t c.if-length-eq0.false _ e in let o = piece_own _ _ _ _ _ _ t _ l in let m = piece_among _ _ _ _ _ _ t _ l in let w = t.within in let x = t.few in let y = t.room in let z = t.small in omega arith

pub overflow_add-start : goal.overflow_add-start
overflow_add-start c = let t = c.requires.1 in let e = c.piece_count-count.ensures in let l = part_last _ _ _ _ _ _ t c.if-length-eq0.false _ e in let o = piece_own _ _ _ _ _ _ t _ l in let m = piece_among _ _ _ _ _ _ t _ l in let w = t.within in let x = t.few in let y = t.room in let z = t.small in omega arith

pub overflow_sub-length : goal.overflow_sub-length
overflow_sub-length c = let t = c.requires.1 in let e = c.piece_count-count.ensures in let l = part_last _ _ _ _ _ _ t c.if-length-eq0.false _ e in let o = piece_own _ _ _ _ _ _ t _ l in let m = piece_among _ _ _ _ _ _ t _ l in let w = t.within in let x = t.few in let y = t.room in let z = t.small in omega arith

pub zeros_behind-zeros-requires : goal.zeros_behind-zeros-requires
zeros_behind-zeros-requires c = let t = c.requires.1 in let e = c.piece_count-count.ensures in let l = part_last _ _ _ _ _ _ t c.if-length-eq0.false _ e in let o = piece_own _ _ _ _ _ _ t _ l in let m = piece_among _ _ _ _ _ _ t _ l in let w = t.within in let x = t.few in let y = t.room in let z = t.small in omega arith

pub overflow_mul-result : goal.overflow_mul-result
overflow_mul-result c = let t = c.requires.1 in let e = c.piece_count-count.ensures in let l = part_last _ _ _ _ _ _ t c.if-length-eq0.false _ e in let o = piece_own _ _ _ _ _ _ t _ l in let m = piece_among _ _ _ _ _ _ t _ l in let w = t.within in let x = t.few in let y = t.room in let z = t.small in omega arith

pub overflow_add-result : goal.overflow_add-result
overflow_add-result c = let t = c.requires.1 in let e = c.piece_count-count.ensures in let l = part_last _ _ _ _ _ _ t c.if-length-eq0.false _ e in let o = piece_own _ _ _ _ _ _ t _ l in let m = piece_among _ _ _ _ _ _ t _ l in let w = t.within in let x = t.few in let y = t.room in let z = t.small in omega arith

pub overflow_mul-result-2 : goal.overflow_mul-result-2
overflow_mul-result-2 c = let t = c.requires.1 in let e = c.piece_count-count.ensures in let l = part_last _ _ _ _ _ _ t c.if-length-eq0.false _ e in let o = piece_own _ _ _ _ _ _ t _ l in let m = piece_among _ _ _ _ _ _ t _ l in let w = t.within in let x = t.few in let y = t.room in let z = t.small in omega arith

pub returns : goal.returns
returns c = part_done _ _ _ _ _ _ c.requires.1 c.if-length-eq0.false _ c.piece_count-count.ensures _ c.zeros_behind-zeros.ensures
