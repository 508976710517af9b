use Rattle.std.proofs.Common.{arith}
use Rattle.line.proofs.Waiting.{pushed, waiting_count}
use Rattle.line.proofs.line.Line.push.Goals as goal

pub returns-clause-queued : goal.returns-clause-queued
returns-clause-queued g c =
    let self = c.args.self.now in
    let room = c.if-is_full.ensures in
    let count = waiting_count self in
    pushed self _ _ (omega arith) (cc)
