use Rattle.std.proofs.Common.{◌≡◌, ℕ, ◌<◌, true, map, length, take}
use Rattle.sheets.specs.Sheets.{type_at}
use Rattle.sheets.specs.Boards.{entered, is_entered}
use Rattle.sheets.proofs.boards.Board.of.Given as goal

abbrev pub invariant-loop-t : goal.invariant-loop-t
invariant-loop-t l =
    (take l.t l.types ≡ map entered (take l.t l.table))
    × (length l.table ≡ 24)
    × ((k : ℕ) → k < l.t → is_entered (type_at l.types k) ≡ true)
