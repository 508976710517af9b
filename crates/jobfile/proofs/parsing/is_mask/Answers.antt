use Rattle.std.proofs.Common.{◌^◌, ◌≤◌, sym, ◌∙◌, arith, pow_mono, lt-ltb, le-leb}
use Rattle.jobfile.proofs.parsing.is_mask.Goals as goal

pub returns-then-nozzles-ge8 : goal.returns-then-nozzles-ge8
returns-then-nozzles-ge8 c =
    let big : 2 ^ 8 ≤ 2 ^ c.args.nozzles = pow_mono {i = 8} {j = c.args.nozzles} c.if-nozzles-ge8.true in
    le-leb 8 c.args.nozzles (omega arith) ∙ sym (lt-ltb c.args.mask (2 ^ c.args.nozzles) (omega arith))
