use Rattle.std.proofs.Common.{length}
use Rattle.jobfile.specs.Opened.{held}
use Rattle.jobfile.proofs.Copies.{Copying}
use Rattle.jobfile.proofs.copying.copy.Given as goal

abbrev pub invariant-loop-record : goal.invariant-loop-record
invariant-loop-record l = Copying l.bytes l.initial.out l.out l.initial.writer l.writer (held l.record-iterator)

abbrev pub decreases-loop-record : goal.decreases-loop-record
decreases-loop-record l = length (held l.record-iterator)
