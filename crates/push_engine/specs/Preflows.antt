-- Preflows with heights: x is what each arc carries, e the excess, what waits at each node, and d how
-- high each node stands.
use Rattle.std.specs.Prelude.{◌≡◌, ℕ, ◌+◌, ◌-◌, ◌*◌, ◌<◌, ◌≤◌, min, Bool, cond, not, ◌&&◌, List, length, map, replicate, ◌==◌, nat_lt, slice_index, slice_index_or, slice_set}
use Rattle.flows.specs.declared.Arc.{Arc}
use Rattle.flows.specs.Sums.{sum_to, only}
use Rattle.flows.specs.Flows.{EachArc, arc_at, capacity_under, inflow, outflow}
use Rattle.network.specs.Runs.{ZeroAfter}
use Rattle.push_engine.specs.declared.preflow.Task.{Task}
use Rattle.push_engine.specs.declared.preflow.Node.{Node}
use Rattle.push_engine.specs.declared.preflow.Preflow.{Preflow}
use Rattle.path_engine.specs.Residual.{end_at}
use Rattle.path_engine.specs.Searches.{arcs_in, nodes_in, residual_in}

-- the limit and the wanted size of a task
abbrev pub limit_of : Task → ℕ
limit_of t = t.net.limit.value

abbrev pub wanted_of : Task → ℕ
wanted_of t = t.wanted.value

-- what waits at each node, and how high each node stands
unfoldable pub excess_of : Preflow → List ℕ
excess_of p = map (λ (n : Node). n.excess) p.nodes

unfoldable pub heights_of : Preflow → List ℕ
heights_of p = map (λ (n : Node). n.height) p.nodes

-- how high a node may stand: node 0 as high as there are nodes, and others twice as high
abbrev pub ceiling : ℕ → ℕ → ℕ
ceiling nodes v = cond (v == 0) nodes (2 * nodes)

-- what waits at the first n nodes, each weighed
abbrev pub weigh : (ℕ → ℕ) → List ℕ → ℕ → ℕ
weigh w e n = sum_to n (λ v. slice_index e v * w v)

-- the wanted size W comes in at node 0
abbrev pub supply : ℕ → ℕ → ℕ
supply W v = only (v == 0) W

-- no arc carries more than its capacity, and what comes into a node leaves it or waits there
pub record Load (t : Task) (x e : List ℕ) : Type 0 where
  pub arcs_held : length x ≡ 256
  pub nodes_held : length e ≡ 64
  pub fits : EachArc (λ a f. f ≤ capacity_under (limit_of t) a) (arcs_in t.net) x
  pub rest : ZeroAfter (arcs_in t.net) x
  pub balanced : (v : ℕ) → inflow v (arcs_in t.net) x + supply (wanted_of t) v ≡ outflow v (arcs_in t.net) x + slice_index e v
  pub whole : weigh (λ _. 1) e (nodes_in t.net) ≡ wanted_of t

-- no residual arc leads down by more than one
abbrev pub Steep : Task → List ℕ → List ℕ → Type 0
Steep t x d = (k u : ℕ) → k < length (arcs_in t.net) → 0 < residual_in t.net x k u → slice_index d u ≤ slice_index d (end_at (arcs_in t.net) k u) + 1

-- the heights: no node stands above its ceiling, and node 1 stands at 0
pub record Labels (t : Task) (x d : List ℕ) : Type 0 where
  pub held : length d ≡ 64
  pub low : (v : ℕ) → slice_index d v ≤ ceiling (nodes_in t.net) v
  pub sink : slice_index d 1 ≡ 0
  pub steep : Steep t x d

-- what holds of a preflow after every move
pub record Holds (p : Preflow) : Type 0 where
  pub load : Load p.task p.flow (excess_of p)
  pub labels : Labels p.task p.flow (heights_of p)

-- what falls with each move: the heights at which the excess waits, and those by which the nodes can
-- still rise, weighed by more than all the excess
abbrev pub effort : Preflow → ℕ
effort p =
    weigh (λ v. slice_index (heights_of p) v) (excess_of p) (nodes_in p.task.net) + sum_to (nodes_in p.task.net) (λ v. (wanted_of p.task + 1) * (2 * nodes_in p.task.net - slice_index (heights_of p) v))

-- whether something is to be done at a node: it is not node 1, something waits there, and it stands
-- below its ceiling
abbrev pub pending : Preflow → ℕ → Bool
pending p v = nat_lt v (nodes_in p.task.net) && (not (v == 1) && (nat_lt 0 (slice_index (excess_of p) v) && nat_lt (slice_index (heights_of p) v) (ceiling (nodes_in p.task.net) v)))

-- what an arc that carries f carries after the amount m left the node v by it
abbrev pub carried_after : Arc → ℕ → ℕ → ℕ → ℕ
carried_after a f v m = cond (a.tail == v) (f + m) (f - m)

-- the most that can be pushed from the node v by the arc k: all that the arc takes, or all that waits
abbrev pub pushable : Preflow → ℕ → ℕ → ℕ
pushable p k v = min (residual_in p.task.net p.flow k v) (slice_index (excess_of p) v)

-- a node at height 0 where nothing waits
abbrev pub no_node : Node
no_node = record { excess = 0; height = 0 }

abbrev pub node_at : List Node → ℕ → Node
node_at l v = slice_index_or l v no_node

-- the amount m is taken from the node a, and given to the node b
abbrev pub taken : ℕ → ℕ → List Node → List Node
taken m a l = slice_set l a (record { excess = (node_at l a).excess - m; height = (node_at l a).height })

abbrev pub given : ℕ → ℕ → List Node → List Node
given m b l = slice_set l b (record { excess = (node_at l b).excess + m; height = (node_at l b).height })

-- the preflow after the amount m left the node v by the arc k
abbrev pub sent : Preflow → ℕ → ℕ → ℕ → Preflow
sent p k v m = record {
  task = p.task;
  flow = slice_set p.flow k (carried_after (arc_at (arcs_in p.task.net) k) (slice_index p.flow k) v m);
  nodes = given m (end_at (arcs_in p.task.net) k v) (taken m v p.nodes);
}

-- the preflow after the node v was raised to the height h
abbrev pub raised : Preflow → ℕ → ℕ → Preflow
raised p v h = record { task = p.task; flow = p.flow; nodes = slice_set p.nodes v (record { excess = (node_at p.nodes v).excess; height = h }) }

-- nothing flows yet, and all that is wanted waits at node 0
abbrev pub fresh : Task → Preflow
fresh t = record { task = t; flow = replicate 256 0; nodes = slice_set (replicate 64 no_node) 0 (record { excess = wanted_of t; height = 0 }) }
