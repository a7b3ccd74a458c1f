-- One layer up for each uncle, by recursion on the layers left: two positions written, then the rest, as `rose_up` says; the count is at most two a layer.
use Rattle.settling.proofs.+write_path.Given as goal

abbrev pub decreases-write_path : goal.decreases-write_path
decreases-write_path l = l.count
