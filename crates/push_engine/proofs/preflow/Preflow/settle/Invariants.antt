use Rattle.std.proofs.Common.{◌≡◌}
use Rattle.push_engine.specs.Preflows.{effort}
use Rattle.push_engine.specs.Lines.{Queued}
use Rattle.push_engine.proofs.preflow.Preflow.settle.Given as goal

abbrev pub invariant-loop-node : goal.invariant-loop-node
invariant-loop-node l = (l.work.preflow.task ≡ l.initial.work.preflow.task) × Queued l.work.preflow l.queue

abbrev pub decreases-loop-node : goal.decreases-loop-node
decreases-loop-node l = effort l.work.preflow
