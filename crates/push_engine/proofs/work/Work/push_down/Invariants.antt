use Rattle.std.proofs.Common.{◌≡◌}
use Rattle.push_engine.specs.Moves.{CanRelabel}
use Rattle.push_engine.specs.Lines.{Working}
use Rattle.push_engine.proofs.work.Work.push_down.Given as goal
use Rattle.path_engine.specs.Searches.{arcs_in}

abbrev pub invariant-loop-k : goal.invariant-loop-k
invariant-loop-k l =
    record {
      arcs : l.arcs ≡ arcs_in l.self.preflow.task.net;
      working : Working l.initial.self.preflow l.node l.self.preflow l.queue;
      next : CanRelabel l.self.preflow l.node l.next l.k;
    }
