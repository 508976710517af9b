use Rattle.std.proofs.Common.{◌≤◌, sym, ◌∙◌, rules}
use Rattle.job.proofs.Always.{kept_of, no_steps, runs_few}
use Rattle.job.proofs.job.Job.show_step.Goals as goal

pub returns-then-runs-eq0-clause-shown : goal.returns-then-runs-eq0-clause-shown
returns-then-runs-eq0-clause-shown c = no_steps c.args.self.now c.args.step (sym c.runs-runs.ensures ∙ c.if-runs-eq0.true)

pub bounds-self-step : goal.bounds-self-step
bounds-self-step c = let few : c.runs-runs.result ≤ 9 = rw c.runs-runs.ensures (runs_few c.args.self.now) in search rules

pub returns-then-not-contains-clause-kept : goal.returns-then-not-contains-clause-kept
returns-then-not-contains-clause-kept c = kept_of c.args.self.now

pub returns-clause-kept : goal.returns-clause-kept
returns-clause-kept c = kept_of c.args.self.now
