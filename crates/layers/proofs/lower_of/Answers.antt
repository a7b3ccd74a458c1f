use Rattle.layers.proofs.Finding.{lower_first, lower_none_yet, lower_later}
use Rattle.layers.proofs.lower_of.Goals as goal

pub returns-in-None : goal.returns-in-None
returns-in-None c = lower_none_yet _ c.in-None.is _ _ c.err.ensures.value

pub returns-in-LayersAmiss : goal.returns-in-LayersAmiss
returns-in-LayersAmiss c = lower_first _ _ c.in-Some.is c.in-LayersAmiss.is _

pub returns-in_default : goal.returns-in_default
returns-in_default c = lower_later _ _ c.in-Some.is c.in_default.not-LayersAmiss _ _ _ c.err-in_default.ensures.value c.or.ensures
