use Rattle.flows.proofs.Cuts.{weak}
use Rattle.flows.proofs.duality_is_weak.Goals as goal

pub returns : goal.returns
returns c = λ nodes L arcs xs p o f s. weak o f s
