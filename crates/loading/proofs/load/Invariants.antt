use Rattle.std.proofs.Common.{◌≤◌, length}
use Rattle.jobfile.specs.Opened.{held, contents_of}
use Rattle.job.specs.Jobs.{state_of}
use Rattle.loading.proofs.Entered.{Loading}
use Rattle.loading.proofs.load.Given as goal

abbrev pub invariant-loop-kind : goal.invariant-loop-kind
invariant-loop-kind l = record {
  entered : Loading l.number (contents_of l.initial.kind-iterator.b) (state_of l.initial.job) (state_of l.job) l.kind-iterator.a.start (held l.kind-iterator.b);
  few : length (held l.kind-iterator.b) ≤ (goal.iterator-loop-kind).remaining l.kind-iterator;
}
