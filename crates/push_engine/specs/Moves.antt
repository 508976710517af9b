-- The moves of a preflow: what allows them, and what they keep.
use Rattle.std.specs.Prelude.{◌≡◌, ℕ, ◌+◌, ◌<◌, ◌≤◌, false, length, slice_index}
use Rattle.push_engine.specs.declared.preflow.Task.{Task}
use Rattle.push_engine.specs.declared.preflow.Preflow.{Preflow}
use Rattle.path_engine.specs.Residual.{end_at}
use Rattle.path_engine.specs.Searches.{arcs_in, nodes_in, residual_in}
use Rattle.push_engine.specs.Preflows.{heights_of, ceiling, Holds, effort, pending}

-- more can go from the node v by the arc k, to a lower node
pub record CanPush (p : Preflow) (v k : ℕ) : Type 0 where
  pub inside : k < length (arcs_in p.task.net)
  pub some : 0 < residual_in p.task.net p.flow k v
  pub down : slice_index (heights_of p) (end_at (arcs_in p.task.net) k v) < slice_index (heights_of p) v

-- the node v can be raised to the height h, as far as the first n arcs say
pub record CanRelabel (p : Preflow) (v h n : ℕ) : Type 0 where
  pub higher : slice_index (heights_of p) v < h
  pub low : h ≤ ceiling (nodes_in p.task.net) v
  pub steep : (k : ℕ) → k < n → 0 < residual_in p.task.net p.flow k v → h ≤ slice_index (heights_of p) (end_at (arcs_in p.task.net) k v) + 1

-- one or more moves
pub record Stepped (p q : Preflow) : Type 0 where
  pub same : q.task ≡ p.task
  pub holds : Holds q
  pub less : effort q < effort p

-- nothing is left to be done
pub record Settled (t : Task) (p : Preflow) : Type 0 where
  pub same : p.task ≡ t
  pub holds : Holds p
  pub idle : (u : ℕ) → pending p u ≡ false
