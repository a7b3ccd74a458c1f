use Rattle.std.proofs.Common.{length-append, ◌++◌, arith, length, take, drop, ◌≡◌, ap, ◌∙◌}
use Rattle.padding.specs.Padding.{padding}
use Rattle.padding.specs.PaddingLaws.{length_padding, zeros_short, zeros_long}
use Rattle.padding.specs.CuttingLaws.{last_one, last_two}
use Rattle.padding.proofs.finish.Goals as goal

pub returns-then-bytes-lt56 : goal.returns-then-bytes-lt56
returns-then-bytes-lt56 g c = let a = c.args in
    let x = a.bytes.now ++ padding a.total in
    let l : length x ≡ 64 = length-append a.bytes.now (padding a.total) ∙ omega (arith, length_padding a.total, zeros_short (length a.bytes.now) a.total (omega arith) (omega arith)) in
    c.take-t.ensures ∙ last_one (g.H.Rounds.taken a.rounds.now) c.pad-b.result x a.state l c.pad-b.ensures.1

pub returns : goal.returns
returns g c = let a = c.args in
    let f = g.H.Rounds.taken a.rounds.now in
    let x = a.bytes.now ++ padding a.total in
    let q = c.pad-b in
    let l : length x ≡ 128 = length-append a.bytes.now (padding a.total) ∙ omega (arith, length_padding a.total, zeros_long (length a.bytes.now) a.total (omega arith) (omega arith)) in
    c.take.ensures
    ∙ ap (λ t. f t (take 64 (drop 64 q.result))) c.take-t.ensures
    ∙ last_two f q.result x a.state l q.ensures.0 q.ensures.1
