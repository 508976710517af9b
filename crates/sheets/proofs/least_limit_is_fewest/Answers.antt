use Rattle.sheets.proofs.Fewest.{none_fewer}
use Rattle.sheets.proofs.least_limit_is_fewest.Goals as goal

pub returns : goal.returns
returns c = none_fewer
