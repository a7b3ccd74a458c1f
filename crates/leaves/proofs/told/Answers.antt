-- Each way out is one case of the definition; head and leaves are put one behind the other.
use Rattle.std.proofs.Common.{rules, arith, refl, sym, ◌∙◌}
use Rattle.numbers.specs.Refusals.{refused_is_some}
use Rattle.leaves.proofs.Writing.{not_right, long, low, count_is, index_fits, none_told, too_short, all_put}
use Rattle.leaves.proofs.told.Goals as goal

pub returns-in_err-piece_number : goal.returns-in_err-piece_number
returns-in_err-piece_number c = let a = c.args in
    let w = not_right a.store.now a.piece a.bytes.now a.out.now _ c.in_err-piece_number.ensures (refused_is_some _) _ refl in
    record { answer = search (rules, w); left = w.1 }

pub piece_height-k-requires : goal.piece_height-k-requires
piece_height-k-requires c = let a = c.args in
    let z = sym c.in_ok-piece_number.ensures in
    long a.store.now a.piece a.bytes.now z

pub returns-then-k-eq0 : goal.returns-then-k-eq0
returns-then-k-eq0 c = let a = c.args in
    let z = sym c.in_ok-piece_number.ensures in
    let w = none_told a.store.now a.piece a.bytes.now z a.out.now (sym c.piece_height-k.ensures ∙ c.if-k-eq0.true) _ refl in
    record { answer = w.0; left = w.1 }

pub overflow_shl-c : goal.overflow_shl-c
overflow_shl-c c = let a = c.args in
    let z = sym c.in_ok-piece_number.ensures in
    omega (arith, c.piece_height-k.ensures, low a.store.now a.piece a.bytes.now z)

pub overflow_mul-size : goal.overflow_mul-size
overflow_mul-size c = let a = c.args in
    let z = sym c.in_ok-piece_number.ensures in
    let e = count_is a.store.now a.piece a.bytes.now z _ c.piece_height-k.ensures in
    let f = index_fits a.store.now a.piece a.bytes.now z _ e in
    omega (arith, f)

pub overflow_add-size : goal.overflow_add-size
overflow_add-size c = let a = c.args in
    let z = sym c.in_ok-piece_number.ensures in
    let e = count_is a.store.now a.piece a.bytes.now z _ c.piece_height-k.ensures in
    let f = index_fits a.store.now a.piece a.bytes.now z _ e in
    omega (arith, f)

pub returns-then-out-size : goal.returns-then-out-size
returns-then-out-size c = let a = c.args in
    let z = sym c.in_ok-piece_number.ensures in
    let e = count_is a.store.now a.piece a.bytes.now z _ c.piece_height-k.ensures in
    let w = too_short a.store.now a.piece a.bytes.now z (λ y. c.if-k-eq0.false (c.piece_height-k.ensures ∙ y)) a.out.now (omega (arith, e, c.if-out-size.true)) _ refl in
    record { answer = w.0; left = w.1 }

pub facts_root-root-requires : goal.facts_root-root-requires
facts_root-root-requires c = let a = c.args in
    let z = sym c.in_ok-piece_number.ensures in
    long a.store.now a.piece a.bytes.now z

pub overflow_mul-index : goal.overflow_mul-index
overflow_mul-index c = let a = c.args in
    let z = sym c.in_ok-piece_number.ensures in
    let e = count_is a.store.now a.piece a.bytes.now z _ c.piece_height-k.ensures in
    let f = index_fits a.store.now a.piece a.bytes.now z _ e in
    omega (arith, f)

pub put_leaves-requires : goal.put_leaves-requires
put_leaves-requires c = omega (arith, c.put_head.auto.out, c.if-out-size.false)

pub shape_of-out : goal.shape_of-out
shape_of-out c = c.put_leaves.auto.out ∙ c.put_head.auto.out

pub returns : goal.returns
returns c = let a = c.args in
    let z = sym c.in_ok-piece_number.ensures in
    let k = c.piece_height-k.ensures in
    let e = count_is a.store.now a.piece a.bytes.now z _ k in
    let w = all_put a.store.now a.piece a.bytes.now z (λ y. c.if-k-eq0.false (k ∙ y)) a.out.now _ e (omega (arith, c.if-out-size.false)) _ _ _
    c.facts_root-root.ensures c.put_head.ensures c.put_leaves.ensures _ refl in
    record { answer = w.0; left = w.1 }
