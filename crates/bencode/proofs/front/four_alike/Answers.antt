use Rattle.bencode.specs.FrontLaws.{four_told}
use Rattle.bencode.proofs.front.four_alike.Goals as goal

pub returns : goal.returns
returns c = let start = c.args in
    four_told start.one.now start.other.now start.i _ _ _ _ _ _ _ _ c.wide-a.ensures c.wide-b.ensures c.wide-c.ensures
    c.wide-d.ensures c.wide-e.ensures c.wide-f.ensures c.wide-g.ensures c.wide-h.ensures
