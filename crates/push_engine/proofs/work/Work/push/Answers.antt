use Rattle.std.proofs.Common.{◌≡◌, [], ◌∷◌, ◌++◌, sym, ◌∙◌, inl, inr, arith, rules}
use Rattle.push_engine.specs.Preflows.{pending}
use Rattle.push_engine.proofs.Queues.{free_idle}
use Rattle.push_engine.proofs.Pending.{pends, past, to_in, push_quiet, push_joins}
use Rattle.push_engine.proofs.Rounds.{pushed}
use Rattle.push_engine.proofs.work.Work.push.Goals as goal
use Rattle.push_engine.proofs.work.Work.push.Goals.{else-not-waited-via-then-not-waited+else-is_pending, else-not-waited-via-else-not-waited}

pub invariant_of-self : goal.invariant_of-self
invariant_of-self c =
    let p = c.args.self.now.preflow in
    let most = rw c.arcs.ensures at c.step_from-step.ensures.residual in
    record { holds = (pushed p _ c.args.node c.args.k c.min.result c.args.self.now.holds c.requires.taken.waits c.requires.can (omega arith) c.send.ensures).holds }

pub invariant_of-self-else-not-waited : goal.invariant_of-self-else-not-waited
invariant_of-self-else-not-waited c =
    let p = c.args.self.now.preflow in
    let most = rw c.arcs.ensures at c.step_from-step.ensures.residual in
    record { holds = (pushed p _ c.args.node c.args.k c.min.result c.args.self.now.holds c.requires.taken.waits c.requires.can (omega arith) c.send.ensures).holds }

pub unwrap-requires : goal.unwrap-requires
unwrap-requires c =
    let p = c.args.self.now.preflow in
    let to = rw c.arcs.ensures at c.step_from-step.ensures.to in
    let far = to_in p _ c.args.node c.args.k _ _ c.args.self.now.holds (pends p c.args.node c.requires.taken.waits).inside c.requires.can.inside (omega arith) to c.send.ensures in
    c.push.ensures.room.1 (free_idle (pending p) c.args.node c.args.queue.now c.requires.taken.queued 64 c.step_from-step.result.to (past p) far (sym c.is_pending-waited.ensures ∙ c.if-not-waited.true))

pub returns-then-is_pending-clause-queued : goal.returns-then-is_pending-clause-queued
returns-then-is_pending-clause-queued c =
    let p = c.args.self.now.preflow in
    let to = rw c.arcs.ensures at c.step_from-step.ensures.to in
    let joined : c.push.new.self ≡ c.args.queue.now ++ c.step_from-step.result.to ∷ [] = search rules in
    push_joins p c.send.new.self c.args.node c.args.k _ c.step_from-step.result.to c.args.self.now.holds (pends p c.args.node c.requires.taken.waits).inside c.requires.can.inside (omega arith) to c.send.ensures
    c.args.queue.now _ c.requires.taken.queued joined (sym c.is_pending-waited.ensures ∙ c.if-not-waited.true) (sym c.is_pending.ensures ∙ c.if-is_pending.true)

pub returns-else-not-waited-clause-queued : goal.returns-else-not-waited-clause-queued
returns-else-not-waited-clause-queued c =
    let p = c.args.self.now.preflow in
    let to = rw c.arcs.ensures at c.step_from-step.ensures.to in
    let out = push_quiet p c.send.new.self c.args.node c.args.k _ c.step_from-step.result.to c.args.self.now.holds (pends p c.args.node c.requires.taken.waits).inside c.requires.can.inside (omega arith) to c.send.ensures
    c.args.queue.now c.requires.taken.queued in
    elim c.else-not-waited.branch [
      | else-not-waited-via-then-not-waited+else-is_pending w ↦ rw w.self-is (out (inr (sym c.is_pending-waited.ensures ∙ w.if-not-waited.true, sym w.is_pending.ensures ∙ w.if-is_pending.false)))
      | else-not-waited-via-else-not-waited w ↦ rw w.self-is (out (inl (sym c.is_pending-waited.ensures ∙ w.if-not-waited.false)))
    ]
