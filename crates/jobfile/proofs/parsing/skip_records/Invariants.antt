use Rattle.std.proofs.Common.{◌≡◌, ◌-◌}
use Rattle.jobformat.specs.Reading.{records, forget}
use Rattle.jobfile.proofs.parsing.skip_records.Given as goal

abbrev pub invariant-loop : goal.invariant-loop
invariant-loop l = forget (records l.nozzles l.count l.bytes) ≡ forget (records l.nozzles (l.count - l.counter) l.rest)
