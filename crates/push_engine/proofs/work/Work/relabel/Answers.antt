use Rattle.std.proofs.Common.{◌≡◌, [], ◌∷◌, ◌++◌, sym, arith, rules}
use Rattle.push_engine.specs.Preflows.{pending}
use Rattle.push_engine.proofs.Pushes.{raise_steps}
use Rattle.push_engine.proofs.Queues.{free_self, rested, back}
use Rattle.push_engine.proofs.Pending.{pends, past, raised_but}
use Rattle.push_engine.proofs.work.Work.relabel.Goals as goal

pub invariant_of-self : goal.invariant_of-self
invariant_of-self c =
    let p = c.args.self.now.preflow in
    let v = pends p c.args.node c.requires.taken.waits in
    record { holds = (raise_steps p c.args.node c.args.height c.args.self.now.holds v.inside v.no_sink c.requires.can).holds }

pub unwrap-requires : goal.unwrap-requires
unwrap-requires c =
    let p = c.args.self.now.preflow in
    c.push.ensures.room.1 (free_self (pending p) c.args.node c.args.queue.now c.requires.taken.queued 64 (past p) (omega (arith, (pends p c.args.node c.requires.taken.waits).inside, p.task.net.net.now.counts.1)))

pub returns-then-is_pending-clause-queued : goal.returns-then-is_pending-clause-queued
returns-then-is_pending-clause-queued c =
    let joined : c.push.new.self ≡ c.args.queue.now ++ c.args.node ∷ [] = search rules in
    back _ c.args.node c.args.queue.now (raised_but c.args.self.now.preflow c.args.node c.args.height _ c.requires.taken.queued) _ joined (sym c.if-is_pending.ensures)

pub returns-else-is_pending-clause-queued : goal.returns-else-is_pending-clause-queued
returns-else-is_pending-clause-queued c =
    rested _ c.args.node c.args.queue.now (raised_but c.args.self.now.preflow c.args.node c.args.height _ c.requires.taken.queued) (sym c.if-is_pending.ensures)
