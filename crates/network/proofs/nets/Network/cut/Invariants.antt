use Rattle.std.proofs.Common.{◌≡◌, ◌*◌, ◌≤◌}
use Rattle.flows.specs.Sums.{sum_to, only}
use Rattle.flows.specs.Flows.{arc_at, inside, crosses, fixed_of, counted_of}
use Rattle.network.proofs.nets.Network.cut.Given as goal

abbrev pub invariant-loop-arc : goal.invariant-loop-arc
invariant-loop-arc l =
    (l.fixed ≡ sum_to l.arc-index (λ i. only (crosses (inside l.side.bits) (arc_at l.arc-items i)) (fixed_of (arc_at l.arc-items i).capacity)))
    × (l.counted ≡ sum_to l.arc-index (λ i. only (crosses (inside l.side.bits) (arc_at l.arc-items i)) (counted_of (arc_at l.arc-items i).capacity)))
    × (l.fixed ≤ 2000000 * l.arc-index)
    × (l.counted ≤ l.arc-index)
