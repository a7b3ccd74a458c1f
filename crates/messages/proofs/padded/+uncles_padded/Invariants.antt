use Rattle.messages.proofs.padded.+uncles_padded.Given as goal

abbrev pub decreases-uncles_padded : goal.decreases-uncles_padded
decreases-uncles_padded l = l.count
