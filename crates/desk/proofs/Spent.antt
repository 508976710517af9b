-- A turn that was to use up the ticket of a slot.
use Rattle.std.proofs.Common.{◌≡◌, ℕ, ◌∙◌, Some, Ok, Err, Result, MatchResult, ap}
use Rattle.book.specs.Turns.{Turn}
use Rattle.job.specs.declared.job.Job.{Job}
use Rattle.job.specs.declared.job.Ticket.{Ticket}
use Rattle.job.specs.declared.job.Returned.{Returned}
use Rattle.job.specs.Jobs.{state_of, Spent}
use Rattle.job.proofs.Always.{kept_of}
use Rattle.desk.specs.declared.Answer.{Answer}
use Rattle.desk.specs.declared.Answer.TheVariants.{Done, Refused}
use Rattle.desk.specs.declared.slots.Slot.{Slot}
use Rattle.desk.specs.Desks.{free, holding, spend, SlotTurn}

pub spent_slot : (turn : ℕ → ℕ → Turn) (j j' : Job) (t : Ticket) (r : Result Unit Returned) (a : Answer) (x x' : Slot) → x.ticket ≡ Some t → Spent j (turn t.job t.nozzle) t r j'
    → MatchResult r (λ _. (a ≡ Done) × (x' ≡ free)) (λ back. (a ≡ Refused back.fault) × (x' ≡ holding back.ticket)) → SlotTurn (spend x turn) (state_of j) x a (state_of j') x'
spent_slot turn j j' t (Ok _) a x x' h g m =
    let full : x ≡ holding t = ap (λ o. record { ticket = o }) h in
    rw (full, m.0) (record { happens = record { answered = g; kept = kept_of j' }; slot = m.1 })
spent_slot turn j j' t (Err back) a x x' h g m =
    let full : x ≡ holding t = ap (λ o. record { ticket = o }) h in
    rw (full, m.0) (record { happens = record { answered = record { fault = g.0.0; same = ap state_of g.0.1 }; kept = kept_of j' }; slot = m.1 ∙ ap holding g.1 })
