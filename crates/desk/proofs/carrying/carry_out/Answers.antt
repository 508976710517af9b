use Rattle.std.proofs.Common.{◌+◌, ◌<◌, map, length, take, drop, refl, ap, arith, rules}
use Rattle.std.proofs.lemmas.List.{get_or-take, length-take, take_more, take_more_set, drop-set-lt, drop-drop}
use Rattle.job.specs.Jobs.{state_of}
use Rattle.job.proofs.Always.{kept_of}
use Rattle.desk.specs.declared.Request.TheVariants.{EnterQuantity}
use Rattle.desk.specs.Desks.{Carried, stop, world}
use Rattle.desk.proofs.Carries.{carried_more, recorded}
use Rattle.desk.proofs.Racks.{sound_kept}
use Rattle.desk.proofs.carrying.carry_out.Goals as goal

pub loop-i-init : goal.loop-i-init
loop-i-init g c = (stop, refl)

pub loop-i-preserved : goal.loop-i-preserved
loop-i-preserved g c =
    let n = c.min-n.result in
    let requests = c.args.requests.now in
    let few : c.loop-i.i < n = omega (arith, length-take n requests) in
    let in-answers : c.loop-i.i < length c.loop-i.answers = omega arith in
    let in-requests : c.loop-i.i < length requests = omega arith in
    let one = rw (get_or-take n requests c.loop-i.i (EnterQuantity 0 0) few) at c.carry_one.ensures in
    let past : c.loop-i.i < c.loop-i.i + 1 = omega arith in (
      rw (take_more requests c.loop-i.i (EnterQuantity 0 0), take_more_set) (carried_more _ _ c.loop-i.invariant.0 one),
      rw (drop-set-lt, ← drop-drop, ← drop-drop) (ap (drop 1) c.loop-i.invariant.1),
    )

pub returns : goal.returns
returns g c =
    let all : Carried (world (state_of c.args.job.now) c.args.rack.now (map g.E.Engine.count c.args.engines.now)) (take c.min-n.result c.args.requests.now) (take c.min-n.result c.loop-i.answers) (world (state_of c.loop-i.job) c.loop-i.rack (map g.E.Engine.count c.loop-i.engines)) = search rules in
    record { count = search rules; carried = all; run = recorded all; kept = kept_of c.loop-i.job; sound = sound_kept all; rest = search rules }
