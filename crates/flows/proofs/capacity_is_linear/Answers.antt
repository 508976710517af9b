use Rattle.flows.proofs.Cuts.{linear}
use Rattle.flows.proofs.capacity_is_linear.Goals as goal

pub returns : goal.returns
returns c = linear
