-- What one run of a flow engine means.
use Rattle.std.specs.Prelude.{◌≡◌, ℕ, ◌<◌, ◌≤◌, List, length, slice_index}
use Rattle.flows.specs.declared.Arc.{Arc}
use Rattle.flows.specs.Flows.{IsFlow, IsSide, inside, size, side_capacity}
use Rattle.network.specs.declared.engines.Answer.{Answer}
use Rattle.network.specs.declared.engines.Answer.TheVariants.{Reached, Short}

-- the list holds a flow of the wanted size W under the limit L
pub record Reaches (nodes L W : ℕ) (arcs : List Arc) (flow : List ℕ) : Type 0 where
  pub is_flow : IsFlow nodes L arcs flow
  pub full : size arcs flow ≡ W

-- the list holds a flow of smaller size, and the side s has just that capacity under L
pub record FallsShort (nodes L W s : ℕ) (arcs : List Arc) (flow : List ℕ) : Type 0 where
  pub is_flow : IsFlow nodes L arcs flow
  pub smaller : size arcs flow < W
  pub is_side : IsSide nodes (inside s)
  pub tight : size arcs flow ≡ side_capacity (inside s) L arcs

-- what a run that gave this answer has shown
abbrev pub Shown : (nodes L W : ℕ) → List Arc → List ℕ → Answer → Type 0
Shown nodes L W arcs flow Reached = Reaches nodes L W arcs flow
Shown nodes L W arcs flow (Short side) = FallsShort nodes L W side.bits arcs flow

-- list places after the last arc are 0
abbrev pub ZeroAfter : List Arc → List ℕ → Type 0
ZeroAfter arcs flow = (k : ℕ) → length arcs ≤ k → slice_index flow k ≡ 0
