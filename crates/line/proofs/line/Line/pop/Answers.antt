use Rattle.std.proofs.Common.{arith}
use Rattle.line.proofs.Waiting.{popped, waiting_count}
use Rattle.line.proofs.line.Line.pop.Goals as goal

pub returns-clause-first : goal.returns-clause-first
returns-clause-first g c =
    let self = c.args.self.now in
    let some = c.if-is_empty.ensures in
    let count = waiting_count self in
    popped self _ _ (omega arith) c.place-self.ensures.is
