use Rattle.std.proofs.Common.{sym, ◌∙◌, arith, slice_index}
use Rattle.flows.specs.Flows.{arc_at}
use Rattle.path_engine.specs.Searches.{arcs_in}
use Rattle.path_engine.proofs.Arcs.{none_off}
use Rattle.path_engine.proofs.Searches.{skipped_as, joined_as}
use Rattle.path_engine.proofs.search.Search.expand.Goals as goal
use Rattle.path_engine.proofs.search.Search.expand.Goals.{then-ends_at+then-step-gt0+then-not-holds, then-ends_at+else-step-gt0, else-ends_at, else-step-gt0-via-then-step-gt0+else-not-holds, else-step-gt0-via-else-step-gt0}

pub loop-k-preserved : goal.loop-k-preserved
loop-k-preserved c =
    let i = c.loop-k.invariant in
    let l = rw c.arcs-arcs.ensures at c.loop-k-test.true in
    elim c.if-ends_at.branch [
      | then-ends_at+then-step-gt0+then-not-holds w ↦
          let to_is = rw c.arcs-arcs.ensures at w.step_from-step.ensures.to in
          let more-is = rw c.arcs-arcs.ensures at w.step_from-step.ensures.residual in
          let next =
          joined_as c.args.net c.args.flow.now c.loop-k.self c.loop-k.line c.args.node c.loop-k.k c.if-ends_at.self c.if-ends_at.line w.step_from-step.result
          (w.self-is ∙ w.discover.ensures.search) (w.line-is ∙ w.discover.ensures.line) i.0 l to_is more-is w.if-step-gt0.true (sym w.if-not-holds.ensures) in
          (next.0, next.1 ∙ i.1, omega (arith, next.2, i.2))
      | then-ends_at+else-step-gt0 w ↦
          let to_is = rw c.arcs-arcs.ensures at w.step_from-step.ensures.to in
          let more-is = rw c.arcs-arcs.ensures at w.step_from-step.ensures.residual in
          let next =
          skipped_as c.args.net c.args.flow.now c.loop-k.self c.loop-k.line c.args.node c.loop-k.k c.if-ends_at.self c.if-ends_at.line
          w.self-is w.line-is i.0 (λ some. elim w.else-step-gt0.branch [
            | else-step-gt0-via-then-step-gt0+else-not-holds w' ↦ rw (← to_is) (sym w'.if-not-holds.ensures)
            | else-step-gt0-via-else-step-gt0 w' ↦ absurd (omega (arith, more-is, w'.if-step-gt0.false))
          ]) in
          (next.0, next.1 ∙ i.1, omega (arith, next.2, i.2))
      | else-ends_at w ↦
          let off = rw c.arcs-arcs.ensures at w.if-ends_at.ensures in
          let next =
          skipped_as c.args.net c.args.flow.now c.loop-k.self c.loop-k.line c.args.node c.loop-k.k c.if-ends_at.self c.if-ends_at.line
          w.self-is w.line-is i.0 (λ some. absurd (omega (arith, some, none_off c.args.net.limit.value (arc_at (arcs_in c.args.net) c.loop-k.k) (slice_index c.args.flow.now c.loop-k.k) c.args.node (sym off)))) in
          (next.0, next.1 ∙ i.1, omega (arith, next.2, i.2))
    ]
