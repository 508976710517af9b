use Rattle.std.proofs.Common.{sym}
use Rattle.push_engine.proofs.Nodes.{height_at}
use Rattle.push_engine.proofs.preflow.Preflow.height.Goals as goal

pub returns : goal.returns
returns c = sym (height_at c.args.self.now c.args.node)
