use Rattle.std.proofs.Common.{refl}
use Rattle.job.proofs.Always.{kept_of}
use Rattle.desk.specs.declared.Request.TheVariants.{EnterQuantity, EnterMask, TakeOut, GiveBack, Scrap, Exchange}
use Rattle.desk.proofs.Carries.{does_at, done_does, slot_does}
use Rattle.desk.proofs.carrying.carry_one.Goals as goal

pub returns-in-EnterQuantity : goal.returns-in-EnterQuantity
returns-in-EnterQuantity g c =
    let q = EnterQuantity c.in-EnterQuantity.kind c.in-EnterQuantity.quantity in
    does_at _ q _ _ _ c.in-EnterQuantity.is (done_does c.args.job.now c.enter_quantity.new.self _ c.enter_quantity.result _ q _ _ c.enter_quantity.ensures (kept_of c.enter_quantity.new.self) c.into.ensures refl (λ x. refl) (λ x. refl))

pub returns-in-EnterMask : goal.returns-in-EnterMask
returns-in-EnterMask g c =
    let q = EnterMask c.in-EnterMask.kind c.in-EnterMask.mask c.in-EnterMask.limit in
    does_at _ q _ _ _ c.in-EnterMask.is (done_does c.args.job.now c.enter_mask.new.self _ c.enter_mask.result _ q _ _ c.enter_mask.ensures (kept_of c.enter_mask.new.self) c.into-in-EnterMask.ensures refl (λ x. refl) (λ x. refl))

pub returns-in-TakeOut : goal.returns-in-TakeOut
returns-in-TakeOut g c =
    let q = TakeOut c.in-TakeOut.nozzle c.in-TakeOut.slot in
    does_at _ q _ _ _ c.in-TakeOut.is (slot_does q c.in-TakeOut.slot _ _ _ _ _ _ _ c.if-slot-rack.true (λ r. refl) (λ r. refl) c.take_out.ensures)

pub returns-in-GiveBack : goal.returns-in-GiveBack
returns-in-GiveBack g c =
    let q = GiveBack c.in-GiveBack.slot in
    does_at _ q _ _ _ c.in-GiveBack.is (slot_does q c.in-GiveBack.slot _ _ _ _ _ _ _ c.if-slot-rack-2.true (λ r. refl) (λ r. refl) c.give_back.ensures)

pub returns-in-Scrap : goal.returns-in-Scrap
returns-in-Scrap g c =
    let q = Scrap c.in-Scrap.slot in
    does_at _ q _ _ _ c.in-Scrap.is (slot_does q c.in-Scrap.slot _ _ _ _ _ _ _ c.if-slot-rack-3.true (λ r. refl) (λ r. refl) c.scrap.ensures)

pub returns-in-Exchange : goal.returns-in-Exchange
returns-in-Exchange g c =
    let q = Exchange c.in-Exchange.slot c.in-Exchange.nozzle in
    does_at _ q _ _ _ c.in-Exchange.is (slot_does q c.in-Exchange.slot _ _ _ _ _ _ _ c.if-slot-rack-4.true (λ r. refl) (λ r. refl) c.exchange.ensures)
