use Rattle.std.proofs.Common.{◌≡◌, ◌*◌, ◌≤◌}
use Rattle.flows.specs.Sums.{sum_to}
use Rattle.sheets.proofs.Whole.{quantity_of}
use Rattle.sheets.proofs.boards.Board.total.Given as goal

abbrev pub invariant-loop-order : goal.invariant-loop-order
invariant-loop-order l = (l.sum ≡ sum_to l.order-index (quantity_of l.order-items)) × (l.sum ≤ 65535 * l.order-index)
