use Rattle.std.proofs.Common.{◌≡◌, ℕ, ◌<◌, get_or}
use Rattle.job.specs.Jobs.{book_of, state_of}
use Rattle.desk.specs.Desks.{free, Closed}
use Rattle.desk.specs.Racks.{Sound}
use Rattle.desk.proofs.carrying.close.Given as goal

abbrev pub invariant-loop-slot : goal.invariant-loop-slot
invariant-loop-slot l =
    Closed (state_of l.initial.job) l.initial.rack l.slot-index (state_of l.job) l.rack
    × (Sound (book_of l.initial.job) l.initial.rack → Sound (book_of l.job) l.rack × ((j : ℕ) → j < l.slot-index → get_or l.rack j free ≡ free))
