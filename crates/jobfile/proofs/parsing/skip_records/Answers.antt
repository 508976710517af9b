use Rattle.std.proofs.Common.{◌∙◌}
use Rattle.jobfile.proofs.Runs.{skip_one}
use Rattle.jobfile.proofs.parsing.skip_records.Goals as goal

pub loop-preserved : goal.loop-preserved
loop-preserved c = c.loop.invariant ∙ skip_one _ _ _ _ _ _ c.loop-test.true c.in_ok-rest.ensures
