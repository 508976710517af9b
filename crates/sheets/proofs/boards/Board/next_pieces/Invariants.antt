use Rattle.std.specs.Slice.Iter.{iter_rest}
use Rattle.sheets.proofs.Walk.{Reached}
use Rattle.sheets.proofs.boards.Board.next_pieces.Given as goal

abbrev pub invariant-loop-t : goal.invariant-loop-t
invariant-loop-t l = Reached l.orders l.nozzles l.flow l.subtour l.t 0 (iter_rest l.counts) l.picks

abbrev pub invariant-loop-j : goal.invariant-loop-j
invariant-loop-j l = Reached l.orders l.nozzles l.flow l.subtour l.t l.j (iter_rest l.counts) l.picks
