use Rattle.std.proofs.Common.{arith}
use Rattle.push_engine.proofs.Pending.{pends}
use Rattle.push_engine.proofs.Pushes.{raise_steps}
use Rattle.push_engine.proofs.work.Work.discharge.Goals as goal

pub returns-in-Some-clause-stepped : goal.returns-in-Some-clause-stepped
returns-in-Some-clause-stepped c =
    let d = c.in-Some.ensures in
    let q = c.push_down.new.self.preflow in
    let w = pends q c.args.node d.0.waits in
    let s = raise_steps q c.args.node c.in-Some.height d.0.holds w.inside w.no_sink d.1 in
    rw c.relabel.ensures.raised (record { same = d.0.same; holds = s.holds; less = omega (arith, s.less, d.0.less) })
