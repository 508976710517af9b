use Rattle.std.proofs.Common.{rules}
use Rattle.limit_search.proofs.Figures.{rounded}
use Rattle.limit_search.proofs.rounded_up.Goals as goal

pub returns : goal.returns
returns c = search (rules, rounded)
