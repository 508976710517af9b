use Rattle.std.proofs.Common.{arith}
use Rattle.push_engine.proofs.Ends.{started, rest, reaches, short}
use Rattle.push_engine.proofs.engine.PreflowPushMethod.solve.Goals as goal

pub settle-preflow-requires : goal.settle-preflow-requires
settle-preflow-requires c =
    let s = started _ c.new.result c.new.ensures in
    record { holds = s.0; start = s.1 }

pub returns-then-excess-eq0 : goal.returns-then-excess-eq0
returns-then-excess-eq0 c =
    let p = c.settle-preflow.result in
    record {
      shown = reaches _ _ p c.new.ensures c.settle-preflow.ensures (omega arith);
      least = tt;
      rest = rest _ _ p c.new.ensures c.settle-preflow.ensures;
    }

pub returns : goal.returns
returns c =
    let p = c.settle-preflow.result in
    record {
      shown = short _ _ p c.new.ensures c.settle-preflow.ensures c.reach.result.bits (omega arith) c.reach.ensures;
      least = c.reach.ensures;
      rest = rest _ _ p c.new.ensures c.settle-preflow.ensures;
    }
