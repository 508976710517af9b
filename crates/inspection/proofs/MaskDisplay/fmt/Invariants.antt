use Rattle.std.specs.Fmt.{HasWritten, IsPlainFormatter}
use Rattle.inspection.specs.Words.{members}
use Rattle.inspection.proofs.MaskDisplay.fmt.Given as goal

abbrev pub invariant-loop-j : goal.invariant-loop-j
invariant-loop-j g l =
    IsPlainFormatter l.initial.f → HasWritten g.W.Write.write_str_gives l.initial.f (members l.mask l.j) l.f
