use Rattle.flows.proofs.Cuts.{conserved}
use Rattle.flows.proofs.flow_is_conserved.Goals as goal

pub returns : goal.returns
returns c = λ nodes L arcs xs p o f s. conserved o f s
