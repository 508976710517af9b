-- A rack is sound for a job: each ticket in it is of the job and names a nozzle that is out there, and
-- no two name one nozzle.
use Rattle.std.specs.Prelude.{◌≡◌, ℕ, ◌≤◌, List, length, slice_index_or}
use Rattle.sheets.specs.declared.NozzleState.TheVariants.{Out}
use Rattle.book.specs.Books.{Book, state_at}
use Rattle.job.specs.declared.job.Ticket.{Ticket}
use Rattle.desk.specs.declared.slots.Slot.{Slot}
use Rattle.desk.specs.Desks.{free, holding}

pub record Named (b : Book) (t : Ticket) : Type 0 where
  pub here : t.job ≡ b.number
  pub low : 1 ≤ t.nozzle
  pub high : t.nozzle ≤ length b.nozzles
  pub out_there : state_at b t.nozzle ≡ Out

pub record Sound (b : Book) (rack : List Slot) : Type 0 where
  pub names : (i : ℕ) (t : Ticket) → slice_index_or rack i free ≡ holding t → Named b t
  pub apart : (i j : ℕ) (t u : Ticket) → slice_index_or rack i free ≡ holding t → slice_index_or rack j free ≡ holding u → t.nozzle ≡ u.nozzle → i ≡ j
