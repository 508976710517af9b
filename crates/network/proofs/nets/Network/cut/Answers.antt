use Rattle.std.proofs.Common.{ap, arith}
use Rattle.flows.specs.Flows.{fixed_of}
use Rattle.network.proofs.Facts.{sum_more, at_most, sound_at}
use Rattle.network.proofs.nets.Network.cut.Goals as goal
use Rattle.network.proofs.nets.Network.cut.Goals.{then-crossed_by+in-Fixed, then-crossed_by+in-Counted, else-crossed_by}

pub overflow_add-fixed : goal.overflow_add-fixed
overflow_add-fixed c =
    let s = sound_at c.args.self.now _ c.arcs-arc-items.ensures _ c.loop-arc-test.true in
    omega (arith, at_most c.args.self.now _ c.arcs-arc-items.ensures, ap fixed_of c.in-Fixed.is)

pub loop-arc-preserved : goal.loop-arc-preserved
loop-arc-preserved c =
    let s = sound_at c.args.self.now _ c.arcs-arc-items.ensures _ c.loop-arc-test.true in
    elim c.if-crossed_by.branch [
      | then-crossed_by+in-Fixed w ↦
          let b = w.if-crossed_by.ensures in
          (sum_more _ _ _ _ c.loop-arc.invariant.0 (grind arith), sum_more _ _ _ _ c.loop-arc.invariant.1 (grind arith), omega (arith, ap fixed_of w.in-Fixed.is), omega arith)
      | then-crossed_by+in-Counted w ↦
          let b = w.if-crossed_by.ensures in
          (sum_more _ _ _ _ c.loop-arc.invariant.0 (grind arith), sum_more _ _ _ _ c.loop-arc.invariant.1 (grind arith), omega arith, omega arith)
      | else-crossed_by w ↦
          let b = w.if-crossed_by.ensures in
          (sum_more _ _ _ _ c.loop-arc.invariant.0 (grind arith), sum_more _ _ _ _ c.loop-arc.invariant.1 (grind arith), omega arith, omega arith)
    ]
