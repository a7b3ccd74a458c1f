use Rattle.std.proofs.Common.{arith}
use Rattle.v1.specs.ReadLaws.{piece_own, piece_among, piece_none, piece_done}
use Rattle.v1.proofs.read.piece_of.Goals as goal

pub returns-then-piece-count : goal.returns-then-piece-count
returns-then-piece-count c = λ pieces e m. piece_none _ _ _ _ _ _ c.piece_count-count.ensures c.if-piece-count.true pieces

pub overflow_mul-at : goal.overflow_mul-at
overflow_mul-at c = let h = rw c.piece_count-count.ensures at c.if-piece-count.false in let t = c.requires in let o = piece_own _ _ _ _ _ _ t _ h in let m = piece_among _ _ _ _ _ _ t _ h in let w = t.within in let x = t.few in let y = t.room in let z = t.small in omega arith

pub overflow_add-first : goal.overflow_add-first
overflow_add-first c = let h = rw c.piece_count-count.ensures at c.if-piece-count.false in let t = c.requires in let o = piece_own _ _ _ _ _ _ t _ h in let m = piece_among _ _ _ _ _ _ t _ h in let w = t.within in let x = t.few in let y = t.room in let z = t.small in omega arith

pub overflow_mul-first : goal.overflow_mul-first
overflow_mul-first c = let h = rw c.piece_count-count.ensures at c.if-piece-count.false in let t = c.requires in let o = piece_own _ _ _ _ _ _ t _ h in let m = piece_among _ _ _ _ _ _ t _ h in let w = t.within in let x = t.few in let y = t.room in let z = t.small in omega arith

pub overflow_add-sought : goal.overflow_add-sought
overflow_add-sought c = let h = rw c.piece_count-count.ensures at c.if-piece-count.false in let t = c.requires in let o = piece_own _ _ _ _ _ _ t _ h in let m = piece_among _ _ _ _ _ _ t _ h in let w = t.within in let x = t.few in let y = t.room in let z = t.small in omega arith

pub hash_at-hash-requires : goal.hash_at-hash-requires
hash_at-hash-requires c = let h = rw c.piece_count-count.ensures at c.if-piece-count.false in let t = c.requires in let o = piece_own _ _ _ _ _ _ t _ h in let m = piece_among _ _ _ _ _ _ t _ h in let w = t.within in let x = t.few in let y = t.room in let z = t.small in omega arith

pub overflow_add-start : goal.overflow_add-start
overflow_add-start c = let h = rw c.piece_count-count.ensures at c.if-piece-count.false in let t = c.requires in let o = piece_own _ _ _ _ _ _ t _ h in let m = piece_among _ _ _ _ _ _ t _ h in let w = t.within in let x = t.few in let y = t.room in let z = t.small in omega arith

pub overflow_sub-length : goal.overflow_sub-length
overflow_sub-length c = let h = rw c.piece_count-count.ensures at c.if-piece-count.false in let t = c.requires in let o = piece_own _ _ _ _ _ _ t _ h in let m = piece_among _ _ _ _ _ _ t _ h in let w = t.within in let x = t.few in let y = t.room in let z = t.small in omega arith

pub zeros_behind-zeros-requires : goal.zeros_behind-zeros-requires
zeros_behind-zeros-requires c = let h = rw c.piece_count-count.ensures at c.if-piece-count.false in let t = c.requires in let o = piece_own _ _ _ _ _ _ t _ h in let m = piece_among _ _ _ _ _ _ t _ h in let w = t.within in let x = t.few in let y = t.room in let z = t.small in omega arith

pub returns : goal.returns
returns c = λ pieces e m. piece_done _ _ _ _ _ _ c.requires _ _ c.piece_count-count.ensures c.if-piece-count.false pieces e m _ c.hash_at-hash.ensures _ c.zeros_behind-zeros.ensures
