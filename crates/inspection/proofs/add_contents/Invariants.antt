use Rattle.std.proofs.Common.{◌≡◌, ◌≤◌, ◌++◌, length, vec_items}
use Rattle.jobfile.specs.Opened.{held}
use Rattle.inspection.specs.Words.{records_text}
use Rattle.inspection.proofs.add_contents.Given as goal

abbrev pub invariant-loop-number : goal.invariant-loop-number
invariant-loop-number l = record {
  told : vec_items l.text ++ records_text l.number-iterator.a.start (held l.number-iterator.b) ≡ vec_items l.initial.text ++ records_text 1 (held l.initial.number-iterator.b);
  few : length (held l.number-iterator.b) ≤ (goal.iterator-loop-number).remaining l.number-iterator;
}
