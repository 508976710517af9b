use Rattle.std.proofs.Common.{sym}
use Rattle.push_engine.proofs.Nodes.{excess_at}
use Rattle.push_engine.proofs.preflow.Preflow.excess.Goals as goal

pub returns : goal.returns
returns c = sym (excess_at c.args.self.now c.args.node)
