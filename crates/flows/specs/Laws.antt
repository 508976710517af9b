-- The laws of flows and cuts. A side is the test p whether it holds a node.
use Rattle.std.specs.Prelude.{◌≡◌, ℕ, ◌+◌, ◌*◌, ◌<◌, ◌≤◌, Bool, List}
use Rattle.flows.specs.declared.Arc.{Arc}
use Rattle.flows.specs.Flows.{IsFlow, IsSide, Admits, FromSource, Tight, size, crossing, entering, side_capacity, fixed_across, counted_across, next_limit}

-- a side's capacity is P + K * L
abbrev pub LinearCapacity : Type 0
LinearCapacity = (p : ℕ → Bool) (L : ℕ) (arcs : List Arc) → side_capacity p L arcs ≡ fixed_across p arcs + counted_across p arcs * L

-- the size of a flow and what enters a side are together what leaves it
abbrev pub Conservation : Type 0
Conservation = (nodes L : ℕ) (arcs : List Arc) (xs : List ℕ) (p : ℕ → Bool) → FromSource arcs → IsFlow nodes L arcs xs → IsSide nodes p
    → size arcs xs + entering p arcs xs ≡ crossing p arcs xs

-- no flow is larger than the capacity of any side
abbrev pub WeakDuality : Type 0
WeakDuality = (nodes L : ℕ) (arcs : List Arc) (xs : List ℕ) (p : ℕ → Bool) → FromSource arcs → IsFlow nodes L arcs xs → IsSide nodes p
    → size arcs xs ≤ side_capacity p L arcs

-- full arcs out of a side and empty arcs into it make the two equal, and conversely
abbrev pub TightCut : Type 0
TightCut = (nodes L : ℕ) (arcs : List Arc) (xs : List ℕ) (p : ℕ → Bool) → FromSource arcs → IsFlow nodes L arcs xs → IsSide nodes p
    → (Tight p L arcs xs → size arcs xs ≡ side_capacity p L arcs) × (size arcs xs ≡ side_capacity p L arcs → Tight p L arcs xs)

-- a cut without counted arcs below W rules out every limit
abbrev pub NoLimit : Type 0
NoLimit = (nodes W : ℕ) (arcs : List Arc) (p : ℕ → Bool) → FromSource arcs → IsSide nodes p → counted_across p arcs ≡ 0 → fixed_across p arcs < W
    → (L : ℕ) → Admits nodes W arcs L → ⊥

-- where the limit goes on from L
pub record Raised (nodes L W : ℕ) (arcs : List Arc) (p : ℕ → Bool) : Type 0 where
  pub higher : L < next_limit p W arcs
  pub within : next_limit p W arcs ≤ W
  pub least : (other : ℕ) → other < next_limit p W arcs → Admits nodes W arcs other → ⊥

-- a cut with a counted arc, below W under L: the next limit is above L, at most W, and no smaller
-- limit admits W
abbrev pub NextLimit : Type 0
NextLimit = (nodes L W : ℕ) (arcs : List Arc) (p : ℕ → Bool) → FromSource arcs → IsSide nodes p → 0 < counted_across p arcs → side_capacity p L arcs < W
    → Raised nodes L W arcs p

-- a side p of just the capacity of a flow under L, below W, and a side q below W under the next
-- limit: q has fewer counted arcs than p
abbrev pub FewerCounted : Type 0
FewerCounted = (nodes L W : ℕ) (arcs : List Arc) (xs : List ℕ) (p q : ℕ → Bool) → FromSource arcs → IsFlow nodes L arcs xs → IsSide nodes p → IsSide nodes q
    → size arcs xs ≡ side_capacity p L arcs → side_capacity p L arcs < W → 0 < counted_across p arcs → side_capacity q (next_limit p W arcs) arcs < W
    → counted_across q arcs < counted_across p arcs
