use Rattle.std.proofs.Common.{sym, ap, ◌∙◌, length, arith}
use Rattle.std.proofs.lemmas.Result.{err_from_is_err_and}
use Rattle.book.specs.Turns.{missing}
use Rattle.book.proofs.Orders.{gap_missing}
use Rattle.job.proofs.job.Job.board.Goals as goal

pub returns-in_err-of : goal.returns-in_err-of
returns-in_err-of c =
    let p = err_from_is_err_and c.from_residual.result c.from_residual.ensures.1 in
    let types = c.as_slice.ensures.value in
    let t = ap length types in
    let n = ap length c.as_slice-2.ensures.value in
    rw (p.1, p.2) (ap (missing 1) (sym types) ∙ gap_missing _ _ _ (omega arith, omega arith, omega arith, omega arith) c.in_err-of.ensures)
