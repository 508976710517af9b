-- What every job keeps.
use Rattle.std.proofs.Common.{◌≡◌, ℕ, ◌≤◌, List, length, take, Some, refl, subst, arith}
use Rattle.network.specs.declared.sides.Cut.{Cut}
use Rattle.limit_search.specs.declared.Step.{Step}
use Rattle.book.specs.declared.Outcome.{Outcome}
use Rattle.book.specs.declared.Outcome.TheVariants.{None as Unplanned, Planned, Short}
use Rattle.book.specs.declared.faults.JobFault.TheVariants.{NoPlan}
use Rattle.book.specs.Books.{Book, orders_in, runs_of, with_outcome}
use Rattle.book.specs.Events.{State, Promise, Kept}
use Rattle.book.specs.Keeps.{PlannedKept, ShortKept}
use Rattle.book.specs.Turns.{step_refusal}
use Rattle.book.proofs.Ended.{service_few}
use Rattle.book.proofs.Props.{planned_out, short_out}
use Rattle.sheets.specs.Boards.{sheet_of}
use Rattle.job.specs.declared.job.Job.{Job}
use Rattle.job.specs.Jobs.{book_of, state_of, plan_state}

-- the ghost fields of a job, and what they say
module _ (b : Book) (flow : List ℕ) (trail : List Step) where
  abbrev pub PlannedGhost : Outcome → Type 0
  PlannedGhost o = (cost runs : ℕ) → o ≡ Planned cost runs → ∥ PlannedKept b.types b.nozzles (sheet_of (orders_in b.types) b.nozzles flow cost) (take runs trail) cost runs ∥₁

  abbrev pub ShortGhost : Outcome → Type 0
  ShortGhost o = (runs : ℕ) (cut : Cut) → o ≡ Short runs cut → ∥ ShortKept b.types b.nozzles (take runs trail) runs cut ∥₁

  abbrev pub Promised : Outcome → Type 0
  Promised o = Promise (plan_state (with_outcome b o) flow trail) o

  pub promise_out : (o : Outcome) → PlannedGhost o → ShortGhost o → Promised o
  promise_out Unplanned p s = (refl, refl)
  promise_out (Planned cost runs) p s = planned_out _ _ _ _ _ _ (p cost runs refl)
  promise_out (Short runs cut) p s = (refl, short_out _ _ _ _ _ (s runs cut refl))

  pub planned_in : (o : Outcome) → Promised o → PlannedGhost o
  planned_in o k cost runs e = let f : Promised (Planned cost runs) = subst Promised e k in ∣ f ∣₁

  pub short_in : (o : Outcome) → Promised o → ShortGhost o
  short_in o k runs cut e = let f : Promised (Short runs cut) = subst Promised e k in ∣ f.1 ∣₁

pub kept_of : (j : Job) → Kept (state_of j)
kept_of j = promise_out (book_of j) j.flow j.trail j.outcome j.planned j.short

-- a trail has at most nine steps, and one at least
few : (s : State) (o : Outcome) → length s.book.nozzles ≤ 8 → Promise s o → runs_of o ≤ 9
few s Unplanned h k = omega arith
few s (Planned cost runs) h k = omega (arith, k.trail.few, service_few s.book.nozzles)
few s (Short runs cut) h k = omega (arith, k.1.trail.few, service_few s.book.nozzles)

pub runs_few : (j : Job) → runs_of j.outcome ≤ 9
runs_few j = few (state_of j) j.outcome j.few_nozzles (kept_of j)

-- without runs there is no step to show
never_run : (s : State) (o : Outcome) (n : ℕ) → Promise s o → runs_of o ≡ 0 → step_refusal o n ≡ Some NoPlan
never_run s Unplanned n k e = refl
never_run s (Planned cost runs) n k e = absurd (omega (arith, e, k.trail.shows.some))
never_run s (Short runs cut) n k e = absurd (omega (arith, e, k.1.trail.shows.some))

pub no_steps : (j : Job) (n : ℕ) → runs_of j.outcome ≡ 0 → step_refusal j.outcome n ≡ Some NoPlan
no_steps j n e = never_run (state_of j) j.outcome n (kept_of j) e
