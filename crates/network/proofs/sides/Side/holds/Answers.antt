use Rattle.std.proofs.Common.{◌/◌, ◌^◌, ◌<◌, eqb, ap, arith, pow_mono}
use Rattle.std.proofs.lemmas.Nat.{and_mask, div_below, pow_pos}
use Rattle.std.proofs.lemmas.Bool.Decides.{nat_tests}
use Rattle.network.proofs.sides.Side.holds.Goals as goal

pub returns-then-node-lt64 : goal.returns-then-node-lt64
returns-then-node-lt64 c = ap (λ n. eqb n 1) (and_mask (c.args.self.now.bits / 2 ^ c.args.node) 1)

-- a number of 64 bits has none from 64 on
pub returns-else-node-lt64 : goal.returns-else-node-lt64
returns-else-node-lt64 c =
    let none : c.args.self.now.bits / 2 ^ c.args.node < 1 = div_below _ _ 1 (pow_pos c.args.node) (omega (arith, pow_mono c.if-node-lt64.false)) in
    grind (arith, nat_tests)
