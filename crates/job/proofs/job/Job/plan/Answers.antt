use Rattle.job.specs.Jobs.{book_of}
use Rattle.job.proofs.Always.{kept_of, planned_in, short_in}
use Rattle.job.proofs.job.Job.plan.Goals as goal

pub invariant_of-self-clause-planned : goal.invariant_of-self-clause-planned
invariant_of-self-clause-planned g c = planned_in (book_of c.args.self.now) c.seek.new.flow c.seek.new.trail _ c.in_ok-outcome.ensures.ends.2

pub invariant_of-self-clause-short : goal.invariant_of-self-clause-short
invariant_of-self-clause-short g c = short_in (book_of c.args.self.now) c.seek.new.flow c.seek.new.trail _ c.in_ok-outcome.ensures.ends.2

pub returns-in_err-outcome-clause-kept : goal.returns-in_err-outcome-clause-kept
returns-in_err-outcome-clause-kept g c = kept_of c.args.self.now
