use Rattle.std.proofs.Common.{arith}
use Rattle.push_engine.specs.Preflows.{excess_of}
use Rattle.path_engine.proofs.Arcs.{end_in}
use Rattle.push_engine.proofs.Pushes.{gets_le}
use Rattle.push_engine.proofs.Nodes.{excess_at, excess_taken}
use Rattle.push_engine.proofs.preflow.Preflow.send.Goals as goal

pub overflow_sub-self : goal.overflow_sub-self
overflow_sub-self c = omega (arith, excess_at c.args.self.now c.args.node, c.requires.waits)

pub overflow_add-self : goal.overflow_add-self
overflow_add-self c =
    let p = c.args.self.now in
    let to = rw c.arcs.ensures at c.far_end.ensures in
    let far = end_in p.task.net.net.now c.args.k c.requires.inside c.args.node in
    let gets = gets_le p.task p.flow (excess_of p) c.requires.holds.load c.args.node c.far_end.result c.args.amount c.requires.node (rw to far) c.requires.waits in
    omega (arith, excess_taken p c.args.amount c.args.node c.far_end.result, p.task.wanted.small)
