use Rattle.std.proofs.Common.{Some, None, sym, ◌∙◌, arith}
use Rattle.std.proofs.lemmas.Grind.{common_steps}
use Rattle.jobfile.proofs.Names.{graphics_at}
use Rattle.jobfile.proofs.parsing.graphics.Goals as goal

pub returns-in-Some : goal.returns-in-Some
returns-in-Some c =
    sym (graphics_at c.args.bytes.now c.args.n (Some c.in-Some.i) (sym c.in-Some.is ∙ c.first_wrong.ensures.is))

pub returns : goal.returns
returns c =
    let all = graphics_at c.args.bytes.now c.args.n None (sym c.in_default.is ∙ c.first_wrong.ensures.is) in
    grind (arith, common_steps, all)
