-- What holds while a search runs and while more is sent: N is a network under a limit, x what each of
-- its arcs carries, and w the visits that wait in line.
use Rattle.std.specs.Prelude.{◌≡◌, ℕ, zero, suc, ◌+◌, ◌-◌, ◌^◌, ◌<◌, ◌≤◌, min, Bool, true, false, cond, ◌≢◌, List, [], ◌∷◌, length, replicate, ◌==◌, bit_or, slice_index, slice_index_or, slice_set}
use Rattle.std.specs.List.{All}
use Rattle.flows.specs.declared.Arc.{Arc}
use Rattle.flows.specs.Flows.{IsFlow, inside, size}
use Rattle.network.specs.Nets.{arcs_of}
use Rattle.network.specs.Runs.{ZeroAfter}
use Rattle.line.specs.declared.node.Visit.{Visit}
use Rattle.path_engine.specs.declared.steps.LimitedNet.{LimitedNet}
use Rattle.path_engine.specs.declared.steps.Step.{Step}
use Rattle.path_engine.specs.declared.search.Goal.{Goal}
use Rattle.path_engine.specs.declared.search.Goal.TheVariants.{Sink}
use Rattle.path_engine.specs.declared.search.Label.{Label}
use Rattle.path_engine.specs.declared.search.Search.{Search}
use Rattle.path_engine.specs.Residual.{end_at, residual, Closed, Shortest, Route}

-- the arcs of a network under a limit, and how many nodes it has
abbrev pub arcs_in : LimitedNet → List Arc
arcs_in N = arcs_of N.net.now

abbrev pub nodes_in : LimitedNet → ℕ
nodes_in N = N.net.now.nodes

-- how much more can leave u by its arc k
abbrev pub residual_in : LimitedNet → List ℕ → ℕ → ℕ → ℕ
residual_in N x k u = residual N.limit.value (arcs_in N) x k u

-- what stands where no node is
abbrev pub no_label : Label
no_label = record { depth = 0; room = 0 }

-- whether a node was reached, what is known of it, how many arcs lead there, and how much more can go there
abbrev pub has : Search → ℕ → Bool
has s = inside s.reached.bits

abbrev pub label_at : Search → ℕ → Label
label_at s v = slice_index_or s.labels v no_label

abbrev pub depth_at : Search → ℕ → ℕ
depth_at s v = (label_at s v).depth

abbrev pub room_at : Search → ℕ → ℕ
room_at s v = (label_at s v).room

-- how many of the first n nodes are not in a set
unfoldable pub outside : (ℕ → Bool) → ℕ → ℕ
outside p zero = 0
outside p (suc n) = outside p n + cond (p n) 0 1

-- what falls as visits leave the line
abbrev pub effort : Search → List Visit → ℕ
effort s w = length w + outside (has s) 64

-- the arc k led from u to v, among nodes of the depths d and the rooms r
pub record Led (N : LimitedNet) (x : List ℕ) (p : ℕ → Bool) (d r : ℕ → ℕ) (v k u : ℕ) : Type 0 where
  pub inside : k < length (arcs_in N)
  pub there : end_at (arcs_in N) k v ≡ u
  pub back : end_at (arcs_in N) k u ≡ v
  pub from : p u ≡ true
  pub deeper : d u + 1 ≡ d v
  pub narrow : r v ≡ min (residual_in N x k u) (r u)

-- the arc k led to v
abbrev pub LedTo : LimitedNet → List ℕ → Search → ℕ → ℕ → Type 0
LedTo N x s v k = (u : ℕ) × Led N x (has s) (depth_at s) (room_at s) v k u

-- no visit of a line is to v
abbrev pub NoneTo : ℕ → List Visit → Type 0
NoneTo v w = All (λ e. e.node ≢ v) w

-- an arc led to each node that was reached, and more can go there; if the node does not wait, the
-- arc is written down
pub record Tree (N : LimitedNet) (x : List ℕ) (s : Search) (w : List Visit) : Type 0 where
  pub came_long : length s.came ≡ 64
  pub labels_long : length s.labels ≡ 64
  pub below : (v : ℕ) → has s v ≡ true → v < 64
  pub source : has s 0 ≡ true
  pub root : depth_at s 0 ≡ 0
  pub some : (v : ℕ) → has s v ≡ true → 0 < room_at s v
  pub most : (v : ℕ) → has s v ≡ true → room_at s v ≤ room_at s 0
  pub low : (v : ℕ) → has s v ≡ true → depth_at s v + outside (has s) 64 < 64
  pub led : (v : ℕ) → has s v ≡ true → v ≢ 0 → (k : ℕ) × LedTo N x s v k × (NoneTo v w → slice_index s.came v ≡ k)

-- v was reached, at most one arc further than u
abbrev pub Beside : Search → ℕ → ℕ → Type 0
Beside s u v = (has s v ≡ true) × (depth_at s v ≤ depth_at s u + 1)

-- a visit waits for a node that was reached, with the arc that led there
abbrev pub Waits : LimitedNet → List ℕ → Search → Visit → Type 0
Waits N x s e = (has s e.node ≡ true) × (e.node ≢ 0 → LedTo N x s e.node e.arc)

-- no visit is to a node nearer than one before it
abbrev pub Rising : (ℕ → ℕ) → List Visit → Type 0
Rising d [] = Unit {0}
Rising d (e ∷ w) = All (λ f. d e.node ≤ d f.node) w × Rising d w

-- no node that was reached lies more than one arc further than u
abbrev pub Near : Search → ℕ → Type 0
Near s u = (v : ℕ) → has s v ≡ true → depth_at s v ≤ depth_at s u + 1

-- between two visits: each residual arc was followed of the nodes that do not wait, or if the search
-- stops at node 1, of those among them that lie more than one arc before it
pub record Met (N : LimitedNet) (x : List ℕ) (aim : Goal) (s : Search) (w : List Visit) : Type 0 where
  pub tree : Tree N x s w
  pub waits : All (Waits N x s) w
  pub followed : (k u : ℕ) → k < length (arcs_in N) → has s u ≡ true → 0 < residual_in N x k u → NoneTo u w → (aim ≡ Sink → has s 1 ≡ true → depth_at s u + 1 < depth_at s 1) → Beside s u (end_at (arcs_in N) k u)
  pub once : length w + outside (has s) 64 ≤ 64
  pub rising : Rising (depth_at s) w
  pub near : All (λ e. Near s e.node) w

-- while the node n is expanded: of its arcs those before j were followed
pub record Turn (N : LimitedNet) (x : List ℕ) (s : Search) (w : List Visit) (n j : ℕ) : Type 0 where
  pub tree : Tree N x s w
  pub here : has s n ≡ true
  pub waits : All (Waits N x s) w
  pub followed : (k u : ℕ) → k < length (arcs_in N) → has s u ≡ true → 0 < residual_in N x k u → NoneTo u w → (u ≡ n → k < j) → Beside s u (end_at (arcs_in N) k u)
  pub once : length w + outside (has s) 64 < 64
  pub rising : Rising (depth_at s) w
  pub later : All (λ e. depth_at s n ≤ depth_at s e.node) w
  pub near : Near s n

-- what a search found: so many residual arcs lead to a node as it is deep, to node 1 no fewer, and
-- unless it stopped at node 1, no residual arc leads out of what was reached
pub record Searched (N : LimitedNet) (x : List ℕ) (aim : Goal) (s : Search) : Type 0 where
  pub tree : Tree N x s []
  pub leads : (v : ℕ) → has s v ≡ true → Route N.limit.value (arcs_in N) x (depth_at s v) v
  pub nearest : has s 1 ≡ true → Shortest N.limit.value (arcs_in N) x 1 (depth_at s 1)
  pub closed : (aim ≡ Sink → has s 1 ≡ false) → Closed N.limit.value (arcs_in N) x (has s)

-- node 0 alone
abbrev pub begun : ℕ → Search
begun most = record { reached = record { bits = 1 }; came = replicate 64 0; labels = slice_set (replicate 64 no_label) 0 record { depth = 0; room = most } }

-- one node more, by a step from u
abbrev pub discovered : Search → ℕ → Step → Search
discovered s u t = record {
  reached = record { bits = bit_or s.reached.bits (2 ^ t.to) };
  came = s.came;
  labels = slice_set s.labels t.to record { depth = depth_at s u + 1; room = min t.residual (room_at s u) };
}

-- a visit's arc is written down
abbrev pub noted : Search → Visit → Search
noted s e = record { reached = s.reached; came = slice_set s.came e.node e.arc; labels = s.labels }

-- the list holds a flow, at every node number below 64
pub record Carries (N : LimitedNet) (x : List ℕ) : Type 0 where
  pub long : length x ≡ 256
  pub is_flow : IsFlow 64 N.limit.value (arcs_in N) x
  pub rest : ZeroAfter (arcs_in N) x

-- the amount m comes to the node v by the arc a in the place k
abbrev pub passed : Arc → List ℕ → ℕ → ℕ → ℕ → List ℕ
passed a y k v m = slice_set y k (cond (a.tail == v) (slice_index y k - m) (slice_index y k + m))

-- the flow y is larger than the flow x by m
pub record Grown (N : LimitedNet) (x y : List ℕ) (m : ℕ) : Type 0 where
  pub carries : Carries N y
  pub more : size (arcs_in N) y ≡ size (arcs_in N) x + m
