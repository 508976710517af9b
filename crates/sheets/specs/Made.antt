-- What a board value holds, and why a book gives none.
use Rattle.std.specs.Prelude.{◌≡◌, ℕ, ◌+◌, ◌<◌, ◌≤◌, true, false, List, length}
use Rattle.sheets.specs.declared.NozzleState.{NozzleState}
use Rattle.records.specs.declared.TypeRecord.{TypeRecord}
use Rattle.sheets.specs.declared.Order.{Order}
use Rattle.sheets.specs.declared.boards.Board.{Board}
use Rattle.sheets.specs.declared.boards.BoardFault.{BoardFault}
use Rattle.sheets.specs.declared.boards.BoardFault.TheVariants.{BadSize, NotEntered}
use Rattle.sheets.specs.Sheets.{type_at}
use Rattle.sheets.specs.Boards.{is_entered}

-- the orders and the nozzles of a board
abbrev pub orders_of : Board → List Order
orders_of b = b.orders.items

abbrev pub nozzles_of : Board → List NozzleState
nozzles_of b = b.nozzles.items

-- 1 to 24 types and 1 to 8 nozzles
abbrev pub SizeOk : ℕ → ℕ → Type 0
SizeOk types nozzles = (1 ≤ types) × (types ≤ 24) × (1 ≤ nozzles) × (nozzles ≤ 8)

-- a book is no board: for its size, which is checked first, or for its lowest type, by its number,
-- of which a quantity or a mask was not entered
abbrev pub Refused : List TypeRecord → List NozzleState → BoardFault → Type 0
Refused types nozzles BadSize = SizeOk (length types) (length nozzles) → ⊥
Refused types nozzles (NotEntered n) = SizeOk (length types) (length nozzles) × (1 ≤ n) × (n ≤ length types) × ((t : ℕ) → t + 1 < n → is_entered (type_at types t) ≡ true) × ((t : ℕ) → t + 1 ≡ n → is_entered (type_at types t) ≡ false)
