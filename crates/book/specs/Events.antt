-- What happens to a job, turn by turn.
use Rattle.std.specs.Prelude.{◌≡◌, ℕ, ◌-◌, List, [], ◌∷◌, Some, None, slice_index_or}
use Rattle.sheets.specs.declared.NozzleState.TheVariants.{InService, Out, Scrapped}
use Rattle.limit_search.specs.declared.Step.{Step}
use Rattle.limit_search.specs.Trails.{step_at}
use Rattle.book.specs.declared.Outcome.{Outcome}
use Rattle.book.specs.declared.Outcome.TheVariants.{None as Unplanned, Planned, Short}
use Rattle.book.specs.declared.faults.JobFault.{JobFault}
use Rattle.book.specs.Books.{Book, opened_book, with_type, with_quantity, with_mask, with_state, with_nozzles, with_outcome}
use Rattle.book.specs.Turns.{Turn, opening, enter_quantity, enter_mask, take_out, give_back, scrap, exchange, plan, show_subtour, show_step, refusal}
use Rattle.book.specs.Keeps.{PlannedKept, ShortKept}

-- a job as its users see it: its book, the sheet of its plan in force, and the trail of its outcome;
-- without a plan there are no rows, and without an outcome no steps
pub record State : Type 0 where
  pub book : Book
  pub rows : List (List ℕ)
  pub steps : List Step

-- what a turn is answered with
pub data Reply : Type 0 where
  refused : JobFault → Reply
  done : Reply
  -- a ticket with these numbers
  gave : (job nozzle : ℕ) → Reply
  -- the outcome of a planning
  ended : Outcome → Reply
  -- the row of a subtour
  row : List ℕ → Reply
  -- a step of the trail
  step : Step → Reply

-- what the outcome promises
abbrev pub Promise : State → Outcome → Type 0
Promise s Unplanned = (s.rows ≡ []) × (s.steps ≡ [])
Promise s (Planned cost runs) = PlannedKept s.book.types s.book.nozzles s.rows s.steps cost runs
Promise s (Short runs cut) = (s.rows ≡ []) × ShortKept s.book.types s.book.nozzles s.steps runs cut

-- what stands after every turn
abbrev pub Kept : State → Type 0
Kept s = Promise s s.book.outcome

-- nothing of an earlier plan is left
abbrev pub fresh : Book → State
fresh b = record { book = b; rows = []; steps = [] }

-- the book is another, and the plan with its trail stays
abbrev pub with_book : State → Book → State
with_book s b = record { book = b; rows = s.rows; steps = s.steps }

-- an outcome that a planning may end with
abbrev pub IsEnd : Outcome → Type 0
IsEnd Unplanned = ⊥
IsEnd (Planned cost runs) = Unit {0}
IsEnd (Short runs cut) = Unit {0}

-- what an accepted turn answers, and what it makes of the job
abbrev pub Accepts : State → Turn → Reply → State → Type 0
Accepts s (opening number k r) a s' = (a ≡ done) × (s' ≡ fresh (opened_book number k r))
Accepts s (enter_quantity t q) a s' = (a ≡ done) × (s' ≡ fresh (with_type s.book t (with_quantity q)))
Accepts s (enter_mask t m l) a s' = (a ≡ done) × (s' ≡ fresh (with_type s.book t (with_mask m l)))
Accepts s (take_out n) a s' = (a ≡ gave s.book.number n) × (s' ≡ fresh (with_nozzles s.book (with_state n Out s.book.nozzles) Unplanned))
Accepts s (give_back job n) a s' = (a ≡ done) × (s' ≡ fresh (with_nozzles s.book (with_state n InService s.book.nozzles) Unplanned))
Accepts s (scrap job n) a s' = (a ≡ done) × (s' ≡ with_book s (with_nozzles s.book (with_state n Scrapped s.book.nozzles) s.book.outcome))
Accepts s (exchange job m n) a s' =
    (a ≡ gave s.book.number n) × (s' ≡ fresh (with_nozzles s.book (with_state n Out (with_state m InService s.book.nozzles)) Unplanned))
Accepts s plan a s' = (o : Outcome) × ((a ≡ ended o) × IsEnd o × (s'.book ≡ with_outcome s.book o))
Accepts s (show_subtour n places) a s' = (a ≡ row (slice_index_or s.rows (n - 1) [])) × (s' ≡ s)
Accepts s (show_step n) a s' = (a ≡ step (step_at s.steps (n - 1))) × (s' ≡ s)

-- a turn that the book does not refuse
pub record Accepted (s : State) (t : Turn) (a : Reply) (s' : State) : Type 0 where
  pub allowed : refusal s.book t ≡ None
  pub accepts : Accepts s t a s'

-- a turn that the book refuses, and that changes nothing
pub record RefusedBy (s : State) (t : Turn) (f : JobFault) (s' : State) : Type 0 where
  pub fault : refusal s.book t ≡ Some f
  pub same : s' ≡ s

-- a turn is refused or accepted as the book says
abbrev pub Answered : State → Turn → Reply → State → Type 0
Answered s t (refused f) s' = RefusedBy s t f s'
Answered s t done s' = Accepted s t done s'
Answered s t (gave job nozzle) s' = Accepted s t (gave job nozzle) s'
Answered s t (ended o) s' = Accepted s t (ended o) s'
Answered s t (row bytes) s' = Accepted s t (row bytes) s'
Answered s t (step x) s' = Accepted s t (step x) s'

-- either way, what the outcome promises then stands
pub record Happens (s : State) (t : Turn) (a : Reply) (s' : State) : Type 0 where
  pub answered : Answered s t a s'
  pub kept : Kept s'

-- a turn and its answer
pub record Event : Type 0 where
  pub turn : Turn
  pub reply : Reply

-- one event after another; what the outcome promises stands after each
pub data Run : State → List Event → State → Type 0 where
  stop : {s : State} → Run s [] s
  next : {s s' s'' : State} {e : Event} {es : List Event} → Happens s e.turn e.reply s' → Run s' es s'' → Run s (e ∷ es) s''
