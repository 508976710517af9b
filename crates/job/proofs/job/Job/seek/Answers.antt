use Rattle.std.proofs.Common.{arith}
use Rattle.sheets.specs.Made.{orders_of, nozzles_of}
use Rattle.book.proofs.Orders.{none_missing, entered_are}
use Rattle.book.proofs.Ended.{ends_in, counted_few}
use Rattle.job.specs.Jobs.{book_of}
use Rattle.job.proofs.Ends.{kept_end}
use Rattle.job.proofs.job.Job.seek.Goals as goal

pub returns-in_err-found : goal.returns-in_err-found
returns-in_err-found g c =
    let board = c.in_ok-board.board in
    let short = c.in_err-found.ensures.room.1 in
    absurd (omega (arith, short, counted_few (orders_of board) (nozzles_of board) _ c.network-net.ensures.arcs, board.few_nozzles))

pub returns-clause-ends : goal.returns-clause-ends
returns-clause-ends g c =
    let b = book_of c.args.self.now in
    let board = c.in_ok-board.board in
    let made = c.in_ok-board.ensures in
    let found = c.in_ok-found.found in
    let ends = ends_in b.types b.nozzles (orders_of board) (nozzles_of board) made.0 made.1 _ _ _ c.network-net.ensures.nodes c.total.ensures c.network-net.ensures.arcs
    c.search.new.trail c.search.new.flow found c.in_ok-found.ensures.ends in
    let kept = kept_end b c.search.new.trail c.search.new.flow (entered_are b.types (orders_of board) made.0) found ends in
    rw c.from.ensures (none_missing b.types (orders_of board) made.0, kept.0, kept.1)
