use Rattle.push_engine.specs.Preflows.{pending}
use Rattle.push_engine.proofs.Queues.{called}
use Rattle.push_engine.proofs.preflow.Preflow.settle.Goals as goal

pub discharge-requires : goal.discharge-requires
discharge-requires c =
    let k = called (pending c.loop-node.work.preflow) c.in-Some.node c.loop-node.queue c.pop.new.self c.in-Some.ensures c.loop-node.invariant.1 in
    record { waits = k.0; queued = k.1 }
