-- The plan stays, since the scrapped nozzle was out.
use Rattle.std.proofs.Common.{◌≡◌, ℕ, ◌-◌, Bool, true, List, length, take, set, None, sym, refl, ap, arith, length-set}
use mathlib.Core.Logic.{∥∥₁_map}
use Rattle.std.specs.List.{refill}
use Rattle.std.proofs.lemmas.Bool.{and_parts}
use Rattle.arrayvec.specs.ArrayVec.{ArrayVec}
use Rattle.arrayvec.proofs.ArrayVecLemmas.{items-with_items}
use Rattle.sheets.specs.declared.NozzleState.{NozzleState}
use Rattle.sheets.specs.declared.NozzleState.TheVariants.{Scrapped}
use Rattle.book.specs.declared.Outcome.{Outcome}
use Rattle.book.specs.declared.Outcome.TheVariants.{None as Unplanned, Planned, Short}
use Rattle.book.specs.declared.faults.JobFault.TheVariants.{NotOut}
use Rattle.book.specs.Books.{runs_of}
use Rattle.book.specs.Turns.{unless, held_out}
use Rattle.book.proofs.Alike.{Alike, scrapped_alike, planned_same, short_same, rows_same}
use Rattle.job.specs.declared.job.Job.{Job}
use Rattle.job.specs.Jobs.{book_of, rows_by}
use Rattle.job.proofs.job.Job.scrap.Goals as goal

-- the nozzles as they are written
written : (v : ArrayVec NozzleState) (lent : List NozzleState) (place n : ℕ) → lent ≡ v.items → place ≡ n - 1 → refill (length v.items) v.items (set lent place Scrapped) ≡ set v.items (n - 1) Scrapped
written v lent place n e at = rw (e, at) (items-with_items v (set v.items (n - 1) Scrapped) (length-set v.items (n - 1) Scrapped))

-- the nozzles before and after
module _ (j : Job) (job n : ℕ) (h : held_out (book_of j) job n ≡ true) (after : List NozzleState) (e : after ≡ set j.nozzles.items (n - 1) Scrapped) where
  alike : Alike j.nozzles.items after
  alike = rw e (scrapped_alike j.nozzles.items (n - 1) (and_parts _ _ (and_parts _ _ h).1).1)

  rows : (o : Outcome) → rows_by o j.types.items after j.flow ≡ rows_by o j.types.items j.nozzles.items j.flow
  rows Unplanned = refl
  rows (Planned cost runs) = sym (rows_same j.types.items j.nozzles.items after alike j.flow cost)
  rows (Short runs cut) = refl

pub invariant_of-self : goal.invariant_of-self
invariant_of-self c =
    let j = c.args.self.now in
    let n = c.args.ticket.nozzle in
    let e = written j.nozzles c.deref_mut.result.now c.in_ok-place.place n c.deref_mut.ensures.value c.in_ok-place.ensures.1 in
    let a = alike j c.args.ticket.job n c.in_ok-place.ensures.0 _ e in
    record {
      some_types = j.some_types;
      few_types = j.few_types;
      some_nozzles = omega (arith, a.0);
      few_nozzles = omega (arith, a.0);
      planned = λ cost runs p. ∥∥₁_map (j.planned cost runs p) (planned_same j.types.items j.nozzles.items _ a j.flow (take runs j.trail) cost runs);
      short = λ runs cut p. ∥∥₁_map (j.short runs cut p) (short_same j.types.items j.nozzles.items _ a (take runs j.trail) runs cut);
    }

pub returns : goal.returns
returns c =
    let j = c.args.self.now in
    let n = c.args.ticket.nozzle in
    let h = c.in_ok-place.ensures.0 in
    let e = written j.nozzles c.deref_mut.result.now c.in_ok-place.place n c.deref_mut.ensures.value c.in_ok-place.ensures.1 in
    record {
      allowed = ap (λ (x : Bool). unless x (NotOut n) None) h;
      accepts = (
        refl,
        λ i. record {
          book = record { number = j.number; types = j.types.items; nozzles = e i; outcome = j.outcome };
          rows = rows j c.args.ticket.job n h _ e j.outcome i;
          steps = take (runs_of j.outcome) j.trail;
        },
      );
    }
