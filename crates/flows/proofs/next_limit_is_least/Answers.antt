use Rattle.flows.proofs.Cuts.{next_limit_lem}
use Rattle.flows.proofs.next_limit_is_least.Goals as goal

pub returns : goal.returns
returns c = next_limit_lem
