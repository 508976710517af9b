use Rattle.flows.proofs.Cuts.{no_limit}
use Rattle.flows.proofs.uncounted_cut_rules_out.Goals as goal

pub returns : goal.returns
returns c = no_limit
