-- Round after round: what the step at i + k leaves is k + 1 rounds from i on.
use Rattle.rounds.specs.StageLaws.{rounds_by_next}
use Rattle.rounds.proofs.step16.Goals as goal

pub returns : goal.returns
returns c =
    let x = c.args.x.now in
    let i = c.args.i in
    λ z h.
    let h1 = c.step-s1.ensures z h in
    let h2 = rounds_by_next x z i 1 (c.step-s2.ensures z h1) in
    let h3 = rounds_by_next x z i 2 (c.step-s3.ensures z h2) in
    let h4 = rounds_by_next x z i 3 (c.step-s4.ensures z h3) in
    let h5 = rounds_by_next x z i 4 (c.step-s5.ensures z h4) in
    let h6 = rounds_by_next x z i 5 (c.step-s6.ensures z h5) in
    let h7 = rounds_by_next x z i 6 (c.step-s7.ensures z h6) in
    let h8 = rounds_by_next x z i 7 (c.step-s8.ensures z h7) in
    let h9 = rounds_by_next x z i 8 (c.step-s9.ensures z h8) in
    let h10 = rounds_by_next x z i 9 (c.step-s10.ensures z h9) in
    let h11 = rounds_by_next x z i 10 (c.step-s11.ensures z h10) in
    let h12 = rounds_by_next x z i 11 (c.step-s12.ensures z h11) in
    let h13 = rounds_by_next x z i 12 (c.step-s13.ensures z h12) in
    let h14 = rounds_by_next x z i 13 (c.step-s14.ensures z h13) in
    let h15 = rounds_by_next x z i 14 (c.step-s15.ensures z h14) in
    rounds_by_next x z i 15 (c.step.ensures z h15)
