use Rattle.std.proofs.Common.{sym, ◌∙◌}
use Rattle.book.specs.Turns.{scrap}
use Rattle.desk.proofs.Spent.{spent_slot}
use Rattle.desk.proofs.slots.Slot.scrap.Goals as goal

pub returns : goal.returns
returns c = spent_slot scrap _ _ _ _ _ _ _ (sym c.take.ensures.value ∙ c.in-Some.is) c.scrap.ensures c.settle.ensures
