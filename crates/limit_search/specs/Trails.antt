-- What a search leaves behind: its trail, and how it ended.
use Rattle.std.specs.Prelude.{◌≡◌, ℕ, ◌+◌, ◌-◌, ◌<◌, ◌≤◌, Bool, List, length, slice_index_or}
use Rattle.flows.specs.declared.Arc.{Arc}
use Rattle.flows.specs.Flows.{IsSide, Admits, inside, side_capacity, fixed_across, counted_across, counted_arcs, next_limit}
use Rattle.network.specs.declared.sides.Cut.{Cut}
use Rattle.limit_search.specs.declared.Step.{Step}
use Rattle.limit_search.specs.declared.Found.{Found}
use Rattle.limit_search.specs.declared.Found.TheVariants.{Planned, Short}
use Rattle.network.specs.Runs.{Reaches, FallsShort}

abbrev pub no_step : Step
no_step = record { limit = 0; size = 0; side = record { bits = 0 } }

-- the step of the run j, from 0
abbrev pub step_at : List Step → ℕ → Step
step_at trail j = slice_index_or trail j no_step

-- whether the side of a step holds a node
abbrev pub side_of : Step → ℕ → Bool
side_of x = inside x.side.bits

-- the step of a run that fell short: its size is below W, and is its side's capacity under its limit
pub record ShortStep (nodes W : ℕ) (arcs : List Arc) (x : Step) : Type 0 where
  pub is_side : IsSide nodes (side_of x)
  pub below : x.size < W
  pub tight : x.size ≡ side_capacity (side_of x) x.limit arcs

-- a trail shows every run: it has as many steps as runs, their limits are by the rule, and each but
-- the last is of a run that fell short at a cut with a counted arc
pub record ShowsRuns (nodes W : ℕ) (arcs : List Arc) (trail : List Step) (runs : ℕ) : Type 0 where
  pub some : 0 < runs
  pub steps : runs ≤ length trail
  pub first : (step_at trail 0).limit ≡ 0
  pub next : (j : ℕ) → j + 1 < runs → (step_at trail (j + 1)).limit ≡ next_limit (side_of (step_at trail j)) W arcs
  pub short : (j : ℕ) → j + 1 < runs → ShortStep nodes W arcs (step_at trail j)
  pub counted : (j : ℕ) → j + 1 < runs → 0 < counted_across (side_of (step_at trail j)) arcs
  -- fewer counted arcs cross each side than the one before
  pub fewer : (j : ℕ) → j + 1 < runs → (step_at trail (j + 1)).size < W → counted_across (side_of (step_at trail (j + 1))) arcs < counted_across (side_of (step_at trail j)) arcs

-- from the place n on the trail is as it was
abbrev pub Untouched : List Step → List Step → ℕ → Type 0
Untouched before trail n = (k : ℕ) → n ≤ k → slice_index_or trail k no_step ≡ slice_index_or before k no_step

-- the search found its cost: the last run alone reached W, and no smaller limit admits W
pub record PlannedBy (nodes W : ℕ) (arcs : List Arc) (trail : List Step) (flow : List ℕ) (cost runs : ℕ) : Type 0 where
  pub shows : ShowsRuns nodes W arcs trail runs
  pub few : runs ≤ counted_arcs arcs + 1
  pub last : step_at trail (runs - 1) ≡ record { limit = cost; size = W; side = record { bits = 0 } }
  pub reaches : Reaches nodes cost W arcs flow
  pub least : (L : ℕ) → L < cost → Admits nodes W arcs L → ⊥

-- the search fell short: the last run alone ended at a cut with no counted arc, and no limit at
-- all admits W
pub record ShortBy (nodes W : ℕ) (arcs : List Arc) (trail : List Step) (flow : List ℕ) (limit : ℕ) (cut : Cut) (runs : ℕ) : Type 0 where
  pub shows : ShowsRuns nodes W arcs trail runs
  pub few : runs ≤ counted_arcs arcs + 1
  pub last : ShortStep nodes W arcs (step_at trail (runs - 1))
  pub limit_is : (step_at trail (runs - 1)).limit ≡ limit
  pub side_is : (step_at trail (runs - 1)).side ≡ cut.side
  pub falls : FallsShort nodes limit W cut.side.bits arcs flow
  pub fixed_is : cut.fixed ≡ fixed_across (inside cut.side.bits) arcs
  pub counted_is : cut.counted ≡ counted_across (inside cut.side.bits) arcs
  pub none : cut.counted ≡ 0
  pub never : (L : ℕ) → Admits nodes W arcs L → ⊥

abbrev pub Ends : (nodes W : ℕ) → List Arc → List Step → List ℕ → Found → Type 0
Ends nodes W arcs trail flow (Planned cost runs) = PlannedBy nodes W arcs trail flow cost runs
Ends nodes W arcs trail flow (Short limit cut runs) = ShortBy nodes W arcs trail flow limit cut runs

abbrev pub runs_of : Found → ℕ
runs_of (Planned cost runs) = runs
runs_of (Short limit cut runs) = runs
