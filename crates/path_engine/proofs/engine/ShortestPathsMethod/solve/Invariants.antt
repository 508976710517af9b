use Rattle.std.proofs.Common.{◌≡◌, ◌+◌}
use Rattle.flows.specs.Flows.{size}
use Rattle.path_engine.specs.Searches.{arcs_in, Carries}
use Rattle.path_engine.proofs.engine.ShortestPathsMethod.solve.Given as goal

abbrev pub invariant-loop-missing : goal.invariant-loop-missing
invariant-loop-missing l = Carries l.limited l.flow × (size (arcs_in l.limited) l.flow + l.missing ≡ l.initial.missing)

abbrev pub decreases-loop-missing : goal.decreases-loop-missing
decreases-loop-missing l = l.missing
