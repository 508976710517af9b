use Rattle.job.proofs.Always.{kept_of}
use Rattle.job.proofs.job.Job.outcome.Goals as goal

pub returns-clause-kept : goal.returns-clause-kept
returns-clause-kept c = kept_of c.args.self.now
