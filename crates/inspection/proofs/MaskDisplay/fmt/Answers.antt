use Rattle.std.proofs.Common.{sym, rules}
use Rattle.std.proofs.Output.{has_written_append, has_written_of_eq}
use Rattle.inspection.proofs.Members.{member_on, member_off}
use Rattle.inspection.proofs.MaskDisplay.fmt.Goals as goal
use Rattle.inspection.proofs.MaskDisplay.fmt.Goals.{then-mask-j-eq1+in_ok-write-in-Some, else-mask-j-eq1}

pub loop-j-preserved : goal.loop-j-preserved
loop-j-preserved g c p =
    let m = c.in-Some.mask in
    let j = c.loop-j.j in
    elim c.if-mask-j-eq1.branch [
      | then-mask-j-eq1+in_ok-write-in-Some w ↦ has_written_of_eq _ _ _ _ _ (sym (member_on m j w.if-mask-j-eq1.true)) (has_written_append _ _ _ _ _ _ (c.loop-j.invariant p) (search rules))
      | else-mask-j-eq1 w ↦ has_written_of_eq _ _ _ _ _ (sym (member_off m j w.if-mask-j-eq1.false)) (rw w.f-is (c.loop-j.invariant p))
    ]
