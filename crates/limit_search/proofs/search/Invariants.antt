use Rattle.std.proofs.Common.{◌≡◌, ◌+◌, ◌-◌, ◌%◌, ◌^◌}
use Rattle.flows.specs.Flows.{counted_arcs}
use Rattle.network.specs.Nets.{arcs_of}
use Rattle.limit_search.proofs.Going.{Going}
use Rattle.limit_search.proofs.search.Given as goal

abbrev pub invariant-runs : goal.invariant-runs
invariant-runs g l =
    Going l.net.nodes l.wanted.value (arcs_of l.net) l.initial.trail l.trail l.limit.0 l.runs
    × (g.E.Engine.count l.engine % 2 ^ 32 ≡ (g.E.Engine.count l.initial.engine + l.runs) % 2 ^ 32)

abbrev pub decreases-runs : goal.decreases-runs
decreases-runs g l = counted_arcs (arcs_of l.net) - l.runs
