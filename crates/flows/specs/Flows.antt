-- Flows and cuts of a network, over its list of arcs. Node 0 is the source and node 1 the sink.
use Rattle.std.specs.Prelude.{◌≡◌, ℕ, ◌/◌, ◌%◌, ◌^◌, ◌<◌, ◌≤◌, Bool, true, false, not, ◌&&◌, List, length, ◌==◌, slice_index, slice_index_or}
use Rattle.flows.specs.Sums.{sum_to, only, limit_step}
use Rattle.flows.specs.declared.Arc.{Arc}
use Rattle.flows.specs.declared.Capacity.{Capacity}
use Rattle.flows.specs.declared.Capacity.TheVariants.{Fixed, Counted}

-- what a read past the last arc gives
abbrev pub no_arc : Arc
no_arc = record { tail = 0; head = 0; capacity = Fixed 0 }

abbrev pub arc_at : List Arc → ℕ → Arc
arc_at arcs i = slice_index_or arcs i no_arc

-- P holds of each arc and what flows on it
abbrev pub EachArc : (Arc → ℕ → Type 0) → List Arc → List ℕ → Type 0
EachArc P arcs xs = (i : ℕ) → i < length arcs → P (arc_at arcs i) (slice_index xs i)

-- the sum of f over the arcs and what flows on each
abbrev pub sum_flow : (Arc → ℕ → ℕ) → List Arc → List ℕ → ℕ
sum_flow f arcs xs = sum_to (length arcs) (λ i. f (arc_at arcs i) (slice_index xs i))

-- the sum of f over the arcs
abbrev pub sum_arcs : (Arc → ℕ) → List Arc → ℕ
sum_arcs f arcs = sum_to (length arcs) (λ i. f (arc_at arcs i))

-- what an arc can carry under the limit L: a counted arc carries up to L
abbrev pub under : ℕ → Capacity → ℕ
under L (Fixed c) = c
under L Counted = L

abbrev pub capacity_under : ℕ → Arc → ℕ
capacity_under L a = under L a.capacity

-- the part of a capacity that no limit changes
abbrev pub fixed_of : Capacity → ℕ
fixed_of (Fixed c) = c
fixed_of Counted = 0

-- 1 for a counted arc
abbrev pub counted_of : Capacity → ℕ
counted_of (Fixed c) = 0
counted_of Counted = 1

-- what enters and what leaves the node v
abbrev pub inflow : ℕ → List Arc → List ℕ → ℕ
inflow v = sum_flow (λ a x. only (a.head == v) x)

abbrev pub outflow : ℕ → List Arc → List ℕ → ℕ
outflow v = sum_flow (λ a x. only (a.tail == v) x)

-- a flow under the limit L: no arc carries more than its capacity, and at each node but source and
-- sink as much enters as leaves
pub record IsFlow (nodes L : ℕ) (arcs : List Arc) (xs : List ℕ) : Type 0 where
  pub fits : EachArc (λ a x. x ≤ capacity_under L a) arcs xs
  pub kept : (v : ℕ) → 1 < v → v < nodes → inflow v arcs xs ≡ outflow v arcs xs

-- the size of a flow: what leaves the source
abbrev pub size : List Arc → List ℕ → ℕ
size = outflow 0

-- some flow under the limit L has the size W
pub record Admits (nodes W : ℕ) (arcs : List Arc) (L : ℕ) : Type 0 where
  pub flow : List ℕ
  pub is_flow : IsFlow nodes L arcs flow
  pub full : size arcs flow ≡ W

-- whether a set of nodes, kept as a number, holds the node v: its bit v stands
abbrev pub inside : ℕ → ℕ → Bool
inside s v = s / 2 ^ v % 2 == 1

-- a side of a cut, by the test whether it holds a node: it holds the source, not the sink, and
-- nothing that is no node of the network
pub record IsSide (nodes : ℕ) (p : ℕ → Bool) : Type 0 where
  pub source : p 0 ≡ true
  pub sink : p 1 ≡ false
  pub below : (v : ℕ) → nodes ≤ v → p v ≡ false

-- an arc crosses a side from a node in it to a node out of it, and enters it the other way
abbrev pub crosses : (ℕ → Bool) → Arc → Bool
crosses p a = p a.tail && not (p a.head)

abbrev pub enters : (ℕ → Bool) → Arc → Bool
enters p a = p a.head && not (p a.tail)

-- what flows across a side, and what flows back into it
abbrev pub crossing : (ℕ → Bool) → List Arc → List ℕ → ℕ
crossing p = sum_flow (λ a x. only (crosses p a) x)

abbrev pub entering : (ℕ → Bool) → List Arc → List ℕ → ℕ
entering p = sum_flow (λ a x. only (enters p a) x)

-- the capacity of a side under the limit L: that of the arcs which cross it
abbrev pub side_capacity : (ℕ → Bool) → ℕ → List Arc → ℕ
side_capacity p L = sum_arcs (λ a. only (crosses p a) (capacity_under L a))

-- the capacity P of the uncounted arcs that cross a side
abbrev pub fixed_across : (ℕ → Bool) → List Arc → ℕ
fixed_across p = sum_arcs (λ a. only (crosses p a) (fixed_of a.capacity))

-- the number K of the counted arcs that cross a side
abbrev pub counted_across : (ℕ → Bool) → List Arc → ℕ
counted_across p = sum_arcs (λ a. only (crosses p a) (counted_of a.capacity))

-- the number of all counted arcs
abbrev pub counted_arcs : List Arc → ℕ
counted_arcs = sum_arcs (λ a. counted_of a.capacity)

-- each arc that crosses the side is full, and each that enters it is empty
abbrev pub Tight : (ℕ → Bool) → ℕ → List Arc → List ℕ → Type 0
Tight p L = EachArc (λ a x. (crosses p a ≡ true → x ≡ capacity_under L a) × (enters p a ≡ true → x ≡ 0))

-- the next limit after a side
abbrev pub next_limit : (ℕ → Bool) → ℕ → List Arc → ℕ
next_limit p W arcs = limit_step W (fixed_across p arcs) (counted_across p arcs)

-- no arc ends at the source
abbrev pub FromSource : List Arc → Type 0
FromSource arcs = (i : ℕ) → i < length arcs → 0 < (arc_at arcs i).head
