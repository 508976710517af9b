use Rattle.flows.proofs.Cuts.{fewer_counted}
use Rattle.flows.proofs.counted_arcs_fall.Goals as goal

pub returns : goal.returns
returns c = fewer_counted
