use Rattle.std.proofs.Common.{[], refl, ap, ◌∙◌}
use Rattle.running.proofs.Absorbing.{begin_law}
use Rattle.running.specs.Bursts.{to_words}
use Rattle.padding.specs.Running.{tail_array}
use Rattle.running.proofs.begin.Goals as goal

pub returns : goal.returns
unfolding tail_array
returns c = begin_law c.to_words-words.result (tail_array []) (c.to_words-words.ensures ∙ ap to_words c.start.ensures) refl
