use Rattle.std.proofs.Common.{sym, ◌∙◌}
use Rattle.book.specs.Turns.{give_back}
use Rattle.desk.proofs.Spent.{spent_slot}
use Rattle.desk.proofs.slots.Slot.give_back.Goals as goal

pub returns : goal.returns
returns c = spent_slot give_back _ _ _ _ _ _ _ (sym c.take.ensures.value ∙ c.in-Some.is) c.give_back.ensures c.settle.ensures
