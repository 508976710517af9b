use Rattle.std.proofs.Common.{◌∙◌, arith}
use Rattle.sheets.proofs.Rules.{is_taken}
use Rattle.sheets.proofs.boards.Board.network.Goals as goal

pub unwrap-requires : goal.unwrap-requires
unwrap-requires c =
    is_taken c.arcs-arcs.ensures.sized _ _ (omega arith) (c.as_slice.ensures.value ∙ c.arcs-arcs.ensures.arcs) c.fill.result (λ f e. (rw e at c.fill.ensures).1)
