-- A job's book: the figures that turns are judged by. It holds no flow and no trail.
use Rattle.std.specs.Prelude.{ℕ, ◌-◌, Bool, true, false, ◌&&◌, List, [], ◌∷◌, ◌++◌, replicate, Some, None, Option, nat_le, slice_index_or, slice_set}
use Rattle.sheets.specs.declared.NozzleState.{NozzleState}
use Rattle.sheets.specs.declared.NozzleState.TheVariants.{InService, Out, Scrapped}
use Rattle.records.specs.declared.TypeRecord.{TypeRecord}
use Rattle.sheets.specs.declared.Order.{Order}
use Rattle.sheets.specs.Sheets.{type_at}
use Rattle.limit_search.specs.declared.Found.{Found}
use Rattle.limit_search.specs.declared.Found.TheVariants.{Planned as FoundPlanned, Short as FoundShort}
use Rattle.book.specs.declared.Outcome.{Outcome}
use Rattle.book.specs.declared.Outcome.TheVariants.{None as Unplanned, Planned, Short}

-- types and nozzles are numbered from 1, and stand in their order
pub record Book : Type 0 where
  pub number : ℕ
  pub types : List TypeRecord
  pub nozzles : List NozzleState
  pub outcome : Outcome

-- a number from 1 to count
abbrev pub within : ℕ → ℕ → Bool
within n count = nat_le 1 n && nat_le n count

-- a type of which nothing is entered, and that has no limit
abbrev pub blank : TypeRecord
blank = record { quantity = None; mask = None; limit = None }

-- a job as it is opened: nothing entered, no limits, all nozzles in service, no outcome
abbrev pub opened_book : (number types nozzles : ℕ) → Book
opened_book number k r = record { number = number; types = replicate k blank; nozzles = replicate r InService; outcome = Unplanned }

-- the state of the nozzle n, asked for only where the job has such a nozzle
abbrev pub state_at : Book → ℕ → NozzleState
state_at b n = slice_index_or b.nozzles (n - 1) InService

abbrev pub is_out : NozzleState → Bool
is_out InService = false
is_out Out = true
is_out Scrapped = false

-- the record of the type t is changed, and every other one keeps its values
abbrev pub with_type : Book → ℕ → (TypeRecord → TypeRecord) → Book
with_type b t f = record { number = b.number; types = slice_set b.types (t - 1) (f (type_at b.types (t - 1))); nozzles = b.nozzles; outcome = Unplanned }

abbrev pub with_quantity : ℕ → TypeRecord → TypeRecord
with_quantity q x = record { quantity = Some q; mask = x.mask; limit = x.limit }

abbrev pub with_mask : ℕ → Option ℕ → TypeRecord → TypeRecord
with_mask m l x = record { quantity = x.quantity; mask = Some m; limit = l }

-- the nozzle n has another state
abbrev pub with_state : ℕ → NozzleState → List NozzleState → List NozzleState
with_state n s nozzles = slice_set nozzles (n - 1) s

-- other states of the nozzles, and an outcome
abbrev pub with_nozzles : Book → List NozzleState → Outcome → Book
with_nozzles b nozzles o = record { number = b.number; types = b.types; nozzles = nozzles; outcome = o }

abbrev pub with_outcome : Book → Outcome → Book
with_outcome b o = with_nozzles b b.nozzles o

-- how a planning ended, by how its search did
abbrev pub outcome_of : Found → Outcome
outcome_of (FoundPlanned cost runs) = Planned cost runs
outcome_of (FoundShort limit cut runs) = Short runs cut

-- what a plan in force costs, if there is one
abbrev pub cost_in : Outcome → Option ℕ
cost_in Unplanned = None
cost_in (Planned cost runs) = Some cost
cost_in (Short runs cut) = None

-- the runs of a planning
abbrev pub runs_of : Outcome → ℕ
runs_of Unplanned = 0
runs_of (Planned cost runs) = runs
runs_of (Short runs cut) = runs

-- the order of a type, where its quantity and its mask were entered; else there is none
abbrev pub order_in : Option ℕ → Option ℕ → Option ℕ → List Order
order_in (Some q) (Some m) limit = record { quantity = q; mask = m; limit = limit } ∷ []
order_in (Some q) None limit = []
order_in None (Some m) limit = []
order_in None None limit = []

-- the orders of a book: where nothing is missing, one for each type
abbrev pub orders_in : List TypeRecord → List Order
orders_in [] = []
orders_in (x ∷ xs) = order_in x.quantity x.mask x.limit ++ orders_in xs
