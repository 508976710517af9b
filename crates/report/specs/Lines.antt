-- The lines of a planner's answers, byte by byte, and what writing one into lent memory answers.
use Rattle.std.specs.Prelude.{◌≡◌, ℕ, ◌-◌, ◌<◌, ◌≤◌, List, [], ◌∷◌, ◌++◌, length, take, drop, Some, None, Ok, Err, codes, decimal, Option, Result, slice_index_or}
use Rattle.book.specs.declared.Outcome.{Outcome}
use Rattle.book.specs.declared.Outcome.TheVariants.{None as Unplanned, Planned, Short}
use Rattle.book.specs.declared.faults.JobFault.{JobFault}
use Rattle.book.specs.declared.faults.JobFault.TheVariants.{NoPlan, NoRoom}
use Rattle.book.specs.Faults.{number_of, layer_of, place_of}
use Rattle.book.specs.Turns.{show_subtour, refusal}
use Rattle.job.specs.declared.job.Job.{Job}
use Rattle.job.specs.Jobs.{book_of, state_of}

-- each number behind a space, and the line's end
abbrev pub rest_text : List ℕ → List ℕ
rest_text [] = codes "\n"
rest_text (n ∷ ns) = codes " " ++ (decimal n ++ rest_text ns)

-- a line of numbers, a space apart
abbrev pub numbers_text : List ℕ → List ℕ
numbers_text [] = codes "\n"
numbers_text (n ∷ ns) = decimal n ++ rest_text ns

-- how a planning ended; without an outcome there is no line
abbrev pub outcome_text : Outcome → List ℕ
outcome_text Unplanned = []
outcome_text (Planned cost runs) = codes "planned " ++ (decimal cost ++ (codes " " ++ (decimal runs ++ codes "\n")))
outcome_text (Short runs cut) = codes "short " ++ (decimal runs ++ codes "\n")

abbrev pub outcome_refusal : Outcome → Option JobFault
outcome_refusal Unplanned = Some NoPlan
outcome_refusal (Planned cost runs) = None
outcome_refusal (Short runs cut) = None

abbrev pub refusal_text : JobFault → List ℕ
refusal_text f = codes "refused " ++ (decimal (number_of f) ++ (codes " " ++ (decimal (layer_of f) ++ (codes " " ++ (decimal (place_of f) ++ codes "\n")))))

-- what each nozzle takes in a subtour of the plan in force
abbrev pub subtour_text : Job → ℕ → List ℕ
subtour_text j n = numbers_text (slice_index_or (state_of j).rows (n - 1) [])

-- refused as the job refuses to show the subtour in a byte for each nozzle
abbrev pub subtour_refusal : Job → ℕ → Option JobFault
subtour_refusal j n = refusal (book_of j) (show_subtour n (length (book_of j).nozzles))

-- the n bytes of a text stand in the first places, and the later places are as before
pub record Whole (text out : List ℕ) (n : ℕ) (out' : List ℕ) : Type 0 where
  pub count : n ≡ length text
  pub fits : n ≤ length out
  pub front : take n out' ≡ text
  pub rest : drop n out' ≡ drop n out

-- the places are too few, and all of them are as before
pub record TooFew (text out : List ℕ) (f : JobFault) (out' : List ℕ) : Type 0 where
  pub fault : f ≡ NoRoom (length text)
  pub few : length out < length text
  pub same : out' ≡ out

-- a text is written whole, or not at all
abbrev pub Written : List ℕ → List ℕ → Result ℕ JobFault → List ℕ → Type 0
Written text out (Ok n) out' = Whole text out n out'
Written text out (Err f) out' = TooFew text out f out'

-- a text that may be refused, before its room is looked at
abbrev pub Reported : Option JobFault → List ℕ → List ℕ → Result ℕ JobFault → List ℕ → Type 0
Reported None text out r out' = Written text out r out'
Reported (Some f) text out r out' = (r ≡ Err f) × (out' ≡ out)
