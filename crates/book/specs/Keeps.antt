-- What an outcome promises of the job's book. The rows are the sheet of the plan in force, as it is
-- shown, and the steps are the trail, as it is shown.
use Rattle.std.specs.Prelude.{◌≡◌, ℕ, ◌+◌, ◌-◌, ◌<◌, ◌≤◌, Bool, true, List, length}
use Rattle.flows.specs.declared.Arc.{Arc}
use Rattle.flows.specs.Sums.{sum_to, only}
use Rattle.flows.specs.Flows.{inside, crosses, fixed_across}
use Rattle.network.specs.declared.sides.Cut.{Cut}
use Rattle.limit_search.specs.declared.Step.{Step}
use Rattle.limit_search.specs.Trails.{step_at, side_of, ShortStep, ShowsRuns}
use Rattle.sheets.specs.declared.NozzleState.{NozzleState}
use Rattle.records.specs.declared.TypeRecord.{TypeRecord}
use Rattle.sheets.specs.Sheets.{IsSheet, type_at, in_service}
use Rattle.sheets.specs.Boards.{is_entered, total, node_count, board_arcs, exit}
use Rattle.book.specs.Books.{orders_in}

-- the job's network, and how many pieces are wanted: the planner's means, by the book
abbrev pub nodes_in : List TypeRecord → List NozzleState → ℕ
nodes_in types nozzles = node_count (orders_in types) nozzles

abbrev pub arcs_in : List TypeRecord → List NozzleState → List Arc
arcs_in types nozzles = board_arcs (orders_in types) nozzles

abbrev pub total_in : List TypeRecord → ℕ
total_in types = total (orders_in types)

-- how many nozzles are in service
abbrev pub in_service_count : List NozzleState → ℕ
in_service_count nozzles = sum_to (length nozzles) (λ j. only (in_service nozzles j) 1)

-- how many nozzles in service cross a side: those whose arc to the sink does
abbrev pub nozzles_across : List TypeRecord → List NozzleState → (ℕ → Bool) → ℕ
nozzles_across types nozzles p = sum_to (length nozzles) (λ j. only (in_service nozzles j) (only (crosses p (exit (orders_in types) j)) 1))

-- every quantity and every mask is there
abbrev pub Complete : List TypeRecord → Type 0
Complete types = (t : ℕ) → t < length types → is_entered (type_at types t) ≡ true

-- the trail shows every run of the planning: as many steps as runs, at most one more than there are
-- nozzles in service, and fewer nozzles cross each side than the one before
pub record TrailKept (types : List TypeRecord) (nozzles : List NozzleState) (steps : List Step) (runs : ℕ) : Type 0 where
  pub count : length steps ≡ runs
  pub shows : ShowsRuns (nodes_in types nozzles) (total_in types) (arcs_in types nozzles) steps runs
  pub few : runs ≤ in_service_count nozzles + 1
  pub fewer : (j : ℕ) → j + 1 < runs → (step_at steps (j + 1)).size < total_in types → nozzles_across types nozzles (side_of (step_at steps (j + 1))) < nozzles_across types nozzles (side_of (step_at steps j))

-- planned: the rows are a sheet of the book, as many as the cost, and no sheet of the book has fewer;
-- the last run reached all pieces under the cost
pub record PlannedKept (types : List TypeRecord) (nozzles : List NozzleState) (rows : List (List ℕ)) (steps : List Step) (cost runs : ℕ) : Type 0 where
  pub complete : Complete types
  pub sheet : IsSheet types nozzles rows
  pub long : length rows ≡ cost
  pub fewest : (other : List (List ℕ)) → IsSheet types nozzles other → cost ≤ length other
  pub trail : TrailKept types nozzles steps runs
  pub last_limit : (step_at steps (runs - 1)).limit ≡ cost
  pub last_size : (step_at steps (runs - 1)).size ≡ total_in types
  pub last_side : (step_at steps (runs - 1)).side.bits ≡ 0

-- short: there is no sheet of any length. The side shown has a capacity, under the last limit, below
-- the total, and no nozzle crosses it; the cut has its figures
pub record ShortKept (types : List TypeRecord) (nozzles : List NozzleState) (steps : List Step) (runs : ℕ) (cut : Cut) : Type 0 where
  pub complete : Complete types
  pub none : (rows : List (List ℕ)) → IsSheet types nozzles rows → ⊥
  pub trail : TrailKept types nozzles steps runs
  pub last : ShortStep (nodes_in types nozzles) (total_in types) (arcs_in types nozzles) (step_at steps (runs - 1))
  pub side_is : (step_at steps (runs - 1)).side.bits ≡ cut.side.bits
  pub uncrossed : nozzles_across types nozzles (inside cut.side.bits) ≡ 0
  pub fixed_is : cut.fixed ≡ fixed_across (inside cut.side.bits) (arcs_in types nozzles)
  pub counted_is : cut.counted ≡ 0
