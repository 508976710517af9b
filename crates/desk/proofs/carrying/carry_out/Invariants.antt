use Rattle.std.proofs.Common.{◌≡◌, map, take, drop}
use Rattle.job.specs.Jobs.{state_of}
use Rattle.desk.specs.Desks.{Carried, world}
use Rattle.desk.proofs.carrying.carry_out.Given as goal

abbrev pub invariant-loop-i : goal.invariant-loop-i
invariant-loop-i g l =
    Carried (world (state_of l.initial.job) l.initial.rack (map g.E.Engine.count l.initial.engines)) (take l.i l.requests) (take l.i l.answers) (world (state_of l.job) l.rack (map g.E.Engine.count l.engines))
    × (drop l.i l.answers ≡ drop l.i l.initial.answers)
