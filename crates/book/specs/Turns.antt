-- The turns of a job, and which of them its book refuses.
use Rattle.std.specs.Prelude.{ℕ, suc, ◌^◌, Bool, true, cond, ◌&&◌, List, [], ◌∷◌, length, Some, None, Option, ◌==◌, nat_le, nat_lt}
use Rattle.records.specs.declared.TypeRecord.{TypeRecord}
use Rattle.sheets.specs.Sheets.{serves}
use Rattle.sheets.specs.Boards.{is_entered}
use Rattle.book.specs.declared.Outcome.{Outcome}
use Rattle.book.specs.declared.Outcome.TheVariants.{None as Unplanned, Planned, Short}
use Rattle.book.specs.declared.faults.JobFault.{JobFault}
use Rattle.book.specs.declared.faults.JobFault.TheVariants.{BadSize, NoSuchType, NoSuchNozzle, TooLarge, NotInService, NotOut, NotEntered, NoPlan, NoSuchPart, NoRoom}
use Rattle.book.specs.Books.{Book, within, state_at, is_out}

-- what a turn passes in, but for an engine: a ticket is its two numbers, the job's and the nozzle's,
-- and lent memory is its number of places
pub data Turn : Type 0 where
  opening : (number types nozzles : ℕ) → Turn
  enter_quantity : (kind quantity : ℕ) → Turn
  enter_mask : (kind mask : ℕ) (limit : Option ℕ) → Turn
  take_out : (nozzle : ℕ) → Turn
  give_back : (job nozzle : ℕ) → Turn
  scrap : (job nozzle : ℕ) → Turn
  -- the ticket, and the nozzle to take out
  exchange : (job own nozzle : ℕ) → Turn
  plan : Turn
  show_subtour : (subtour places : ℕ) → Turn
  show_step : (step : ℕ) → Turn

-- the first test that fails gives the refusal
abbrev pub unless : Bool → JobFault → Option JobFault → Option JobFault
unless ok f rest = cond ok rest (Some f)

-- the ticket is of this job, and its nozzle is out here
abbrev pub held_out : Book → ℕ → ℕ → Bool
held_out b job n = job == b.number && (within n (length b.nozzles) && is_out (state_at b n))

abbrev pub small_limit : Option ℕ → Bool
small_limit None = true
small_limit (Some l) = nat_le l 65535

-- the lowest type, from the number n on, of which a quantity or a mask was not entered
abbrev pub missing : ℕ → List TypeRecord → Option JobFault
missing n [] = None
missing n (x ∷ xs) = cond (is_entered x) (missing (suc n) xs) (Some (NotEntered n))

-- a subtour of a plan in force, and memory for a byte for each of r nozzles
abbrev pub subtour_refusal : Outcome → ℕ → ℕ → ℕ → Option JobFault
subtour_refusal Unplanned n r places = Some NoPlan
subtour_refusal (Planned cost runs) n r places = unless (within n cost) (NoSuchPart n) (unless (nat_le r places) (NoRoom r) None)
subtour_refusal (Short runs cut) n r places = Some NoPlan

-- a step of the trail of any outcome
abbrev pub step_refusal : Outcome → ℕ → Option JobFault
step_refusal Unplanned n = Some NoPlan
step_refusal (Planned cost runs) n = unless (within n runs) (NoSuchPart n) None
step_refusal (Short runs cut) n = unless (within n runs) (NoSuchPart n) None

-- why a book refuses a turn: the table of refusals, read from the top
abbrev pub refusal : Book → Turn → Option JobFault
refusal b (opening number k r) = unless (within k 24 && within r 8) BadSize None
refusal b (enter_quantity t q) = unless (within t (length b.types)) (NoSuchType t) (unless (nat_le q 65535) (TooLarge t) None)
refusal b (enter_mask t m l) = unless (within t (length b.types)) (NoSuchType t) (unless (nat_lt m (2 ^ length b.nozzles) && small_limit l) (TooLarge t) None)
refusal b (take_out n) = unless (within n (length b.nozzles)) (NoSuchNozzle n) (unless (serves (state_at b n)) (NotInService n) None)
refusal b (give_back job n) = unless (held_out b job n) (NotOut n) None
refusal b (scrap job n) = unless (held_out b job n) (NotOut n) None
refusal b (exchange job m n) =
    unless (within n (length b.nozzles)) (NoSuchNozzle n) (unless (serves (state_at b n)) (NotInService n) (unless (held_out b job m) (NotOut m) None))
refusal b plan = missing 1 b.types
refusal b (show_subtour n places) = subtour_refusal b.outcome n (length b.nozzles) places
refusal b (show_step n) = step_refusal b.outcome n
