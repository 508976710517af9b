-- What a job value is, by its book and by what its users see of its plan, and what its turns answer.
use Rattle.std.specs.Prelude.{◌≡◌, ℕ, ◌-◌, Bool, true, false, List, [], map, length, take, drop, Some, None, Ok, Err, Result}
use Rattle.sheets.specs.declared.NozzleState.{NozzleState}
use Rattle.records.specs.declared.TypeRecord.{TypeRecord}
use Rattle.sheets.specs.declared.boards.Board.{Board}
use Rattle.sheets.specs.Boards.{entered, sheet_of}
use Rattle.sheets.specs.Made.{orders_of, nozzles_of}
use Rattle.limit_search.specs.declared.Step.{Step}
use Rattle.book.specs.declared.Outcome.{Outcome}
use Rattle.book.specs.declared.Outcome.TheVariants.{None as Unplanned, Planned, Short}
use Rattle.book.specs.declared.faults.JobFault.{JobFault}
use Rattle.book.specs.declared.faults.JobFault.TheVariants.{NotOut}
use Rattle.book.specs.Books.{Book, orders_in, runs_of, with_outcome}
use Rattle.book.specs.Turns.{Turn, take_out, plan, show_subtour, show_step, held_out, refusal}
use Rattle.book.specs.Events.{State, done, gave, ended, row, step, Promise, IsEnd, Accepted}
use Rattle.job.specs.declared.job.Job.{Job}
use Rattle.job.specs.declared.job.Ticket.{Ticket}
use Rattle.job.specs.declared.job.Returned.{Returned}

abbrev pub book_of : Job → Book
book_of j = record { number = j.number; types = j.types.items; nozzles = j.nozzles.items; outcome = j.outcome }

-- the sheet of a plan in force, by the flow
abbrev pub rows_by : Outcome → List TypeRecord → List NozzleState → List ℕ → List (List ℕ)
rows_by Unplanned types nozzles flow = []
rows_by (Planned cost runs) types nozzles flow = sheet_of (orders_in types) nozzles flow cost
rows_by (Short runs cut) types nozzles flow = []

-- a job with this book, as its users see it
abbrev pub plan_state : Book → List ℕ → List Step → State
plan_state b flow trail = record { book = b; rows = rows_by b.outcome b.types b.nozzles flow; steps = take (runs_of b.outcome) trail }

abbrev pub state_of : Job → State
state_of j = plan_state (book_of j) j.flow j.trail

-- why the book of a job refuses a turn
abbrev pub Refusing : Job → Turn → JobFault → Type 0
Refusing j t f = refusal (book_of j) t ≡ Some f

-- a refused turn leaves the whole job as it was
abbrev pub Refused : Job → Turn → JobFault → Job → Type 0
Refused j t f j' = Refusing j t f × (j' ≡ j)

-- a turn that answers nothing but that it is done
abbrev pub Done : Job → Turn → Result Unit JobFault → Job → Type 0
Done j t (Ok _) j' = Accepted (state_of j) t done (state_of j')
Done j t (Err f) j' = Refused j t f j'

-- a turn that answers a ticket
abbrev pub Gave : Job → Turn → Result Ticket JobFault → Job → Type 0
Gave j t (Ok ticket) j' = Accepted (state_of j) t (gave ticket.job ticket.nozzle) (state_of j')
Gave j t (Err f) j' = Refused j t f j'

-- a turn that uses its ticket up, or hands the same ticket back
abbrev pub Spent : Job → Turn → Ticket → Result Unit Returned → Job → Type 0
Spent j t ticket (Ok _) j' = Accepted (state_of j) t done (state_of j')
Spent j t ticket (Err e) j' = Refused j t e.fault j' × (e.ticket ≡ ticket)

-- a turn that uses its ticket up and answers another, or hands the same ticket back
abbrev pub Swapped : Job → Turn → Ticket → Result Ticket Returned → Job → Type 0
Swapped j t ticket (Ok new) j' = Accepted (state_of j) t (gave new.job new.nozzle) (state_of j')
Swapped j t ticket (Err e) j' = Refused j t e.fault j' × (e.ticket ≡ ticket)

-- a number that the job has stands one place earlier in its table
abbrev pub Found : Bool → ℕ → JobFault → Result ℕ JobFault → Type 0
Found has n f (Ok i) = (has ≡ true) × (i ≡ n - 1)
Found has n f (Err e) = (has ≡ false) × (e ≡ f)

-- a nozzle in service may be taken out, and stands one place earlier in its table
abbrev pub Serving : Job → ℕ → Result ℕ JobFault → Type 0
Serving j n (Ok i) = (refusal (book_of j) (take_out n) ≡ None) × (i ≡ n - 1)
Serving j n (Err f) = Refusing j (take_out n) f

-- a ticket that is used up, whose nozzle is out and stands one place earlier in its table, or the
-- same ticket handed back
abbrev pub Released : Job → Ticket → Result ℕ Returned → Type 0
Released j ticket (Ok i) = (held_out (book_of j) ticket.job ticket.nozzle ≡ true) × (i ≡ ticket.nozzle - 1)
Released j ticket (Err e) = (held_out (book_of j) ticket.job ticket.nozzle ≡ false) × (e.fault ≡ NotOut ticket.nozzle) × (e.ticket ≡ ticket)

-- a planning
abbrev pub Ended : Job → Result Outcome JobFault → Job → Type 0
Ended j (Ok o) j' = Accepted (state_of j) plan (ended o) (state_of j')
Ended j (Err f) j' = Refused j plan f j'

-- the board of a book of which nothing is missing
abbrev pub Boarded : Job → Result Board JobFault → Type 0
Boarded j (Ok board) = ((book_of j).types ≡ map entered (orders_of board)) × ((book_of j).nozzles ≡ nozzles_of board)
Boarded j (Err f) = Refusing j plan f

-- what a search for a plan leaves: an outcome with its promise
abbrev pub Sought : Job → List ℕ → List Step → Result Outcome JobFault → Type 0
Sought j flow trail (Ok o) = (refusal (book_of j) plan ≡ None) × IsEnd o × Promise (plan_state (with_outcome (book_of j) o) flow trail) o
Sought j flow trail (Err f) = Refusing j plan f

-- a row is written into the first places, and the later ones stay
abbrev pub RowShown : Job → ℕ → List ℕ → Result Unit JobFault → List ℕ → Type 0
RowShown j n out (Ok _) out' =
    Accepted (state_of j) (show_subtour n (length out)) (row (take (length (book_of j).nozzles) out')) (state_of j)
    × (drop (length (book_of j).nozzles) out' ≡ drop (length (book_of j).nozzles) out)
RowShown j n out (Err f) out' = Refusing j (show_subtour n (length out)) f × (out' ≡ out)

abbrev pub StepShown : Job → ℕ → Result Step JobFault → Type 0
StepShown j n (Ok x) = Accepted (state_of j) (show_step n) (step x) (state_of j)
StepShown j n (Err f) = Refusing j (show_step n) f
