-- Examples worked by hand, in one table.
use Rattle.std.specs.Prelude.{◌≡◌, ℕ, ◌+◌, ◌-◌, ◌*◌, ◌<◌, ◌≤◌, not, List, [], ◌∷◌, map, length, Some, None, ◌==◌}
use Rattle.flows.specs.Sums.{sum_to, only, limit_step}
use Rattle.network.specs.declared.sides.Cut.{Cut}
use Rattle.limit_search.specs.declared.Step.{Step}
use Rattle.sheets.specs.declared.NozzleState.TheVariants.{InService, Out}
use Rattle.records.specs.declared.TypeRecord.{TypeRecord}
use Rattle.sheets.specs.Sheets.{IsSheet, entry}
use Rattle.jobformat.specs.Format.{Entry, Contents, FileOf}
use Rattle.book.specs.declared.Outcome.TheVariants.{None as Unplanned}
use Rattle.book.specs.declared.faults.JobFault.TheVariants.{NotEntered}
use Rattle.book.specs.Faults.{number_of, layer_of, place_of}
use Rattle.book.specs.Books.{Book}
use Rattle.book.specs.Turns.{refusal, plan}
use Rattle.book.specs.Keeps.{PlannedKept, ShortKept}
use Rattle.worked.specs.Boards.{Board, step, cut, row, two, two_types, one_each, nothing, too_low, not_entered}

-- an example, with its figures
pub data Example : Type 0 where
  -- from a cut of uncounted capacity P with K counted arcs, the next limit for the wanted size W
  limit : (W P K next : ℕ) → Example
  -- a board's cost, how many runs it takes to find it, a sheet of so many rows, and the steps of the runs
  planned : (b : Board) (cost runs : ℕ) (rows : List (List ℕ)) (trail : List Step) → Example
  -- a board without a sheet, how many runs it takes to find that, the last cut, and the steps of the runs
  short : (b : Board) (runs : ℕ) (last : Cut) (trail : List Step) → Example
  -- a board whose planning is refused, the lowest type with a gap, and the refusal's number, layer and place
  gap : (b : Board) (kind number layer place : ℕ) → Example
  -- in each sheet of so many subtours, how many pieces a nozzle takes at least and at most
  takes : (b : Board) (subtours nozzle least most : ℕ) → Example

-- what a file says of a type, without a name
abbrev pub unnamed : TypeRecord → Entry
unnamed x = record { quantity = x.quantity; mask = x.mask; limit = x.limit; name = None }

-- what the file of a board says
abbrev pub contents : Board → Contents
contents b = record { types = length b.types; nozzles = length b.nozzles; entries = map unnamed b.types }

-- the bytes of a board are the file that says so
abbrev pub IsRead : Board → Type 0
IsRead b = FileOf b.bytes (contents b)

-- a board as the book of a job that is not planned yet
abbrev pub book_of : ℕ → Board → Book
book_of job b = record { number = job; types = b.types; nozzles = b.nozzles; outcome = Unplanned }

-- how many pieces the nozzle j, from 0, takes in all
abbrev pub load : List (List ℕ) → ℕ → ℕ
load rows j = sum_to (length rows) (λ i. only (not (entry rows i j == 0)) 1)

-- When an example is right. The next limit is by the rule, and the least under which the cut lets W
-- through. Of a plan and of a shortage all holds that a planning promises. A gap is
-- refused as the book says. A nozzle takes so many pieces in whatever sheet of that length.
abbrev pub Right : Example → Type 0
Right (limit W P K next) = (limit_step W P K ≡ next) × (W ≤ P + K * next) × ((other : ℕ) → other < next → P + K * other < W)
Right (planned b cost runs rows trail) = IsRead b × PlannedKept b.types b.nozzles rows trail cost runs
Right (short b runs last trail) = IsRead b × ShortKept b.types b.nozzles trail runs last
Right (gap b kind number layer place) =
    IsRead b × ((job : ℕ) → refusal (book_of job b) plan ≡ Some (NotEntered kind)) × (number_of (NotEntered kind) ≡ number) × (layer_of (NotEntered kind) ≡ layer) × (place_of (NotEntered kind) ≡ place)
Right (takes b subtours nozzle least most) =
    IsRead b × (1 ≤ nozzle) × (nozzle ≤ length b.nozzles) × ((rows : List (List ℕ)) → IsSheet b.types b.nozzles rows → length rows ≡ subtours → (least ≤ load rows (nozzle - 1)) × (load rows (nozzle - 1) ≤ most))

-- each example of a table is right
abbrev pub AllRight : List Example → Type 0
AllRight [] = Unit {0}
AllRight (e ∷ es) = Right e × AllRight es

-- the table
abbrev pub examples : List Example
examples =
    limit 18 4 2 7
    ∷ limit 18 9 1 9
    ∷ limit 7 0 2 4
    ∷ planned two_types 4 2 (row 1 1 ∷ row 1 2 ∷ row 1 2 ∷ row 1 0 ∷ []) (step 0 0 61 ∷ step 4 7 0 ∷ [])
    ∷ takes two_types 4 1 3 4
    ∷ planned (one_each two) 6 3 (row 1 2 ∷ row 1 0 ∷ row 1 0 ∷ row 1 0 ∷ row 1 0 ∷ row 1 0 ∷ []) (step 0 0 61 ∷ step 4 5 21 ∷ step 6 7 0 ∷ [])
    ∷ short (one_each (InService ∷ Out ∷ [])) 2 (cut 9 6 0) (step 0 0 29 ∷ step 7 6 9 ∷ [])
    ∷ planned nothing 0 1 [] (step 0 0 0 ∷ [])
    ∷ short too_low 2 (cut 5 3 0) (step 0 0 13 ∷ step 5 3 5 ∷ [])
    ∷ gap not_entered 1 6 3 1
    ∷ []
