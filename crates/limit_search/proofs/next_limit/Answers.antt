use Rattle.std.proofs.Common.{mul-le-mul_right, arith}
use Rattle.flows.proofs.Cuts.{least_enough}
use Rattle.network.proofs.Facts.{amount_of}
use Rattle.limit_search.proofs.next_limit.Goals as goal

-- the limit is at most what is wanted
pub unwrap-requires : goal.unwrap-requires
unwrap-requires c =
    let cut = c.args.cut in
    let few = least_enough c.value.result cut.fixed cut.counted c.value.result c.requires.some (omega (arith, mul-le-mul_right c.value.result c.requires.some)) in
    amount_of _ _ c.try_from.ensures (omega arith)
