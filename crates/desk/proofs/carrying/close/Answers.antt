use Rattle.std.proofs.Common.{◌≡◌, ℕ, ◌<◌, [], ◌∷◌, ◌++◌, length, set, refl, subst, arith}
use Rattle.std.proofs.lemmas.List.FromFn.{map-range_with_len_more}
use Rattle.job.specs.Jobs.{state_of}
use Rattle.desk.specs.declared.Request.TheVariants.{GiveBack}
use Rattle.desk.specs.Desks.{World, world, Does, Closed, stop}
use Rattle.desk.proofs.Carries.{slot_does, carried_more}
use Rattle.desk.proofs.Racks.{sound_does, one_free}
use Rattle.desk.proofs.carrying.close.Goals as goal

before : goal.After-give_back → World
before c = world (state_of c.loop-slot.job) c.loop-slot.rack []

after : goal.After-give_back → World
after c = world (state_of c.give_back.new.job) (set c.loop-slot.rack c.loop-slot.slot-index c.give_back.new.self) []

-- the ticket of one slot more is given back
back_does : (c : goal.After-give_back) → Does (before c) (GiveBack c.loop-slot.slot-index) c.give_back.result (after c)
unfolding before after
back_does c =
    let there : c.loop-slot.slot-index < length c.loop-slot.rack = omega (arith, c.loop-slot.auto.rack) in
    slot_does (GiveBack c.loop-slot.slot-index) c.loop-slot.slot-index _ [] _ _ _ _ _ there (λ r. refl) (λ r. refl) c.give_back.ensures

pub loop-slot-init : goal.loop-slot-init
loop-slot-init c = (([], stop), λ s. (s, λ j h. absurd (omega arith)))

pub loop-slot-preserved : goal.loop-slot-preserved
unfolding before after
loop-slot-preserved c =
    let d = back_does c in
    let there : c.loop-slot.slot-index < length c.loop-slot.rack = omega (arith, c.loop-slot.auto.rack) in
    let done = c.loop-slot.invariant.0 in (
      (done.0 ++ (c.give_back.result ∷ []), rw (map-range_with_len_more GiveBack 0 c.loop-slot.slot-index c.loop-slot.slot-index (omega arith)) (carried_more _ _ done.1 d)),
      λ s. let h = c.loop-slot.invariant.1 s in (sound_does (before c) (after c) (GiveBack c.loop-slot.slot-index) c.give_back.result d h.0, one_free (before c) (after c) c.loop-slot.slot-index c.give_back.result there d h.0 h.1),
    )

pub returns : goal.returns
returns c =
    let all : c.loop-slot.slot-index ≡ length c.args.rack.now = omega arith in
    record {
      closed = subst (λ (n : ℕ). Closed (state_of c.args.job.now) c.args.rack.now n (state_of c.loop-slot.job) c.loop-slot.rack) all c.loop-slot.invariant.0;
      free = λ s j h. (c.loop-slot.invariant.1 s).1 j (omega (arith, c.loop-slot.auto.rack));
    }
