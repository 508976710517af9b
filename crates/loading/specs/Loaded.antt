-- What loading a job file makes of a job.
use Rattle.std.specs.Prelude.{◌≡◌, ℕ, suc, List, [], ◌∷◌, ◌++◌, map, replicate, Some, None, Ok, Err, Option, Result}
use Rattle.jobformat.specs.declared.FileFault.{FileFault}
use Rattle.jobformat.specs.Format.{Entry, Contents}
use Rattle.sheets.specs.declared.NozzleState.TheVariants.{InService}
use Rattle.records.specs.declared.TypeRecord.{TypeRecord}
use Rattle.book.specs.declared.Outcome.TheVariants.{None as Unplanned}
use Rattle.book.specs.declared.faults.JobFault.{JobFault}
use Rattle.book.specs.declared.faults.JobFault.TheVariants.{File}
use Rattle.book.specs.Books.{Book}
use Rattle.book.specs.Turns.{Turn, opening, enter_quantity, enter_mask}
use Rattle.book.specs.Events.{done, fresh, Event, Run}
use Rattle.job.specs.declared.job.Job.{Job}
use Rattle.job.specs.Jobs.{state_of}

-- what a record says of its type, without the name
abbrev pub type_of : Entry → TypeRecord
type_of e = record { quantity = e.quantity; mask = e.mask; limit = e.limit }

-- the book that a file says: a type for each record, all nozzles in service, no outcome
abbrev pub loaded_book : ℕ → Contents → Book
loaded_book number c = record { number = number; types = map type_of c.entries; nozzles = replicate c.nozzles InService; outcome = Unplanned }

-- a turn that is accepted
abbrev pub accepted : Turn → Event
accepted t = record { turn = t; reply = done }

-- the turn that enters a quantity of the type t, where there is one
abbrev pub quantity_turns : ℕ → Option ℕ → List Event
quantity_turns t None = []
quantity_turns t (Some q) = accepted (enter_quantity t q) ∷ []

-- the turn that enters a mask with its limit, where there is a mask
abbrev pub mask_turns : ℕ → Option ℕ → Option ℕ → List Event
mask_turns t None l = []
mask_turns t (Some m) l = accepted (enter_mask t m l) ∷ []

-- the turns that enter the record of the type t
abbrev pub entry_turns : ℕ → Entry → List Event
entry_turns t e = quantity_turns t e.quantity ++ mask_turns t e.mask e.limit

-- the turns that enter records in their order, the first of the type t
abbrev pub entries_turns : ℕ → List Entry → List Event
entries_turns t [] = []
entries_turns t (e ∷ es) = entry_turns t e ++ entries_turns (suc t) es

-- the turns of a whole file: the job is opened, and then its records are entered
abbrev pub file_turns : ℕ → Contents → List Event
file_turns number c = accepted (opening number c.types c.nozzles) ∷ entries_turns 1 c.entries

-- what loading answers, by what reading the bytes answers: a file leaves the job as the file says,
-- and a fault is passed on and leaves the whole job as it was
abbrev pub Loads : ℕ → Result Contents FileFault → Job → Result Unit JobFault → Job → Type 0
Loads number (Ok c) j r j' = (r ≡ Ok tt) × (state_of j' ≡ fresh (loaded_book number c))
Loads number (Err f) j r j' = (r ≡ Err (File f)) × (j' ≡ j)

-- a file is loaded by a run of turns that any user could have taken
abbrev pub LoadsByTurns : ℕ → Result Contents FileFault → Job → Job → Type 0
LoadsByTurns number (Ok c) j j' = Run (state_of j) (file_turns number c) (state_of j')
LoadsByTurns number (Err f) j j' = Unit {0}
