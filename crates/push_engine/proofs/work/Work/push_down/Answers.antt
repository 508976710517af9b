use Rattle.std.proofs.Common.{arith}
use Rattle.push_engine.proofs.Rounds.{went, emptied, goes_on, raise_past, raise_full, raise_beside, can_push_down}
use Rattle.push_engine.proofs.work.Work.push_down.Goals as goal
use Rattle.push_engine.proofs.work.Work.push_down.Goals.{then-step-gt0+then-end-height, then-step-gt0+else-end-height+else-excess-eq0, else-step-gt0}

pub returns-then-excess-eq0 : goal.returns-then-excess-eq0
returns-then-excess-eq0 c =
    let i = c.loop-k.invariant.working in
    let can = can_push_down _ _ _ _ i _ c.loop-k.invariant.arcs c.loop-k.k c.step_from-step.result.to c.step_from-step.ensures.to (omega arith) (omega arith) (omega arith) in
    (went _ _ _ _ _ _ _ i can c.push.ensures.pushed c.push.ensures.queued, emptied _ _ _ _ _ _ _ i can c.push.ensures.pushed c.push.ensures.queued (omega arith))

pub loop-k-preserved : goal.loop-k-preserved
loop-k-preserved c =
    let i = c.loop-k.invariant.working in
    let same = c.loop-k.invariant.arcs in
    let next = c.loop-k.invariant.next in
    elim c.if-step-gt0.branch [
      | then-step-gt0+then-end-height w ↦ rw (w.self-is, w.queue-is) (record {
        arcs = same;
        working = i;
        next = raise_beside _ _ _ _ i _ same c.loop-k.k c.step_from-step.result.to c.step_from-step.ensures.to _ _ next (omega arith) (omega arith);
      })
      | then-step-gt0+else-end-height+else-excess-eq0 w ↦
          let can = can_push_down _ _ _ _ i _ same c.loop-k.k c.step_from-step.result.to c.step_from-step.ensures.to (omega arith) (omega arith) (omega arith) in
          let e = w.push.ensures.pushed in
          let b = w.push.ensures.queued in
          rw (w.self-is, w.queue-is, w.next-is) (record {
            arcs = rw e same;
            working = goes_on _ _ _ _ _ _ _ i can e b (omega arith);
            next = raise_past _ _ _ _ _ _ _ i can e b _ next (omega arith);
          })
      | else-step-gt0 w ↦ rw (w.self-is, w.queue-is, w.next-is) (record { arcs = same; working = i; next = raise_full _ _ _ _ i _ same c.loop-k.k _ next (omega arith) })
    ]
