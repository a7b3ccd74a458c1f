use Rattle.torrent.specs.OneFileLaws.{alone_long, alone_size, name_inside, alone_same, alone_other}
use Rattle.torrent.proofs.both.alone.Goals as goal

pub returns-then-elements-ne1 : goal.returns-then-elements-ne1
returns-then-elements-ne1 c = λ plen h. alone_long _ _ _ c.find_file-f.ensures c.requires.1 _ _ plen h c.if-elements-ne1.true

pub returns-then-length-n : goal.returns-then-length-n
returns-then-length-n c = λ plen h. alone_size _ _ _ c.find_file-f.ensures c.requires.1 _ _ plen h c.if-length-n.true

pub slice_bounds-same-count : goal.slice_bounds-same-count
slice_bounds-same-count c = (name_inside _ _ _ c.find_file-f.ensures c.requires.1 c.if-elements-ne1.false).0

pub slice_bounds-same-start : goal.slice_bounds-same-start
slice_bounds-same-start c = (name_inside _ _ _ c.find_file-f.ensures c.requires.1 c.if-elements-ne1.false).0

pub slice_bounds-same-end : goal.slice_bounds-same-end
slice_bounds-same-end c = (name_inside _ _ _ c.find_file-f.ensures c.requires.1 c.if-elements-ne1.false).1

pub returns-then-same : goal.returns-then-same
returns-then-same c = λ plen h. alone_same _ _ _ c.find_file-f.ensures c.requires.1 _ _ plen h c.if-elements-ne1.false c.if-length-n.false _ c.same.ensures c.if-same.true

pub returns : goal.returns
returns c = λ plen h. alone_other _ _ _ c.find_file-f.ensures c.requires.1 _ _ plen h c.if-elements-ne1.false c.if-length-n.false _ c.same.ensures c.if-same.false
