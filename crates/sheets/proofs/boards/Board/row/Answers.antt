use Rattle.std.proofs.Common.{◌<◌, length, get_or, sym, ap, ◌∙◌, arith}
use Rattle.std.proofs.lemmas.List.FromFn.{get_or-map-range_with_len}
use Rattle.std.proofs.lemmas.List.{get_or_append_left, get_or-take, length-take-le}
use Rattle.sheets.specs.Boards.{piece_of}
use Rattle.sheets.specs.Made.{orders_of, nozzles_of}
use Rattle.sheets.proofs.boards.Board.row.Goals as goal

pub returns-clause-row : goal.returns-clause-row
returns-clause-row c = λ j h l.
    let self = c.args.self.now in
    let n = c.min-count.result in
    let row = c.next_pieces-row.result in
    let front = c.copy_from_slice.new.self in
    let made = c.next_pieces-row.ensures in
    let copied = c.copy_from_slice.ensures.after in
    let within : j < length front = omega (arith, ap length copied, length-take-le n row) in
    get_or_append_left front _ 0 j within ∙ ap (λ f. get_or f j 0) copied ∙ get_or-take n row j 0 (omega arith) ∙ made.pieces j (omega arith)
    ∙ sym (get_or-map-range_with_len (piece_of (orders_of self) (nozzles_of self) c.args.flow.now c.args.subtour) 0 (length (nozzles_of self)) j j 0 h (omega arith))
