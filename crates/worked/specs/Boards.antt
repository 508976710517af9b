-- The boards of the worked examples.
use Rattle.std.specs.Prelude.{ℕ, List, [], ◌∷◌, Some, None}
use Rattle.network.specs.declared.sides.Cut.{Cut}
use Rattle.limit_search.specs.declared.Step.{Step}
use Rattle.sheets.specs.declared.NozzleState.{NozzleState}
use Rattle.sheets.specs.declared.NozzleState.TheVariants.{InService}
use Rattle.records.specs.declared.TypeRecord.{TypeRecord}

-- a board: the bytes of its file, what they say of each type, and the states of the nozzles
pub record Board : Type 0 where
  pub bytes : List ℕ
  pub types : List TypeRecord
  pub nozzles : List NozzleState

-- a type with a quantity and a mask, and without a limit
abbrev pub kind : ℕ → ℕ → TypeRecord
kind q m = record { quantity = Some q; mask = Some m; limit = None }

-- a step of a trail: the limit, the size reached, and the bits of the side
abbrev pub step : ℕ → ℕ → ℕ → Step
step l n s = record { limit = l; size = n; side = record { bits = s } }

-- a cut: the bits of its side, the capacity of its uncounted arcs, and the number of the counted ones
abbrev pub cut : ℕ → ℕ → ℕ → Cut
cut s p k = record { side = record { bits = s }; fixed = p; counted = k }

-- a subtour of two nozzles
abbrev pub row : ℕ → ℕ → List ℕ
row a b = a ∷ b ∷ []

-- one nozzle in service
abbrev pub one : List NozzleState
one = InService ∷ []

-- two nozzles in service
abbrev pub two : List NozzleState
two = InService ∷ InService ∷ []

-- two types and two nozzles; type 1 fits both, type 2 only nozzle 2
abbrev pub two_types : Board
two_types = record { bytes = 0x02 ∷ 0x02 ∷ 0x03 ∷ 0x05 ∷ 0x00 ∷ 0x03 ∷ 0x03 ∷ 0x02 ∷ 0x00 ∷ 0x02 ∷ []; types = kind 5 3 ∷ kind 2 2 ∷ []; nozzles = two }

-- two types, each for one nozzle alone, with the nozzles in these states
abbrev pub one_each : List NozzleState → Board
one_each states = record { bytes = 0x02 ∷ 0x02 ∷ 0x03 ∷ 0x06 ∷ 0x00 ∷ 0x01 ∷ 0x03 ∷ 0x01 ∷ 0x00 ∷ 0x02 ∷ []; types = kind 6 1 ∷ kind 1 2 ∷ []; nozzles = states }

-- one type of quantity 0
abbrev pub nothing : Board
nothing = record { bytes = 0x01 ∷ 0x01 ∷ 0x03 ∷ 0x00 ∷ 0x00 ∷ 0x01 ∷ []; types = kind 0 1 ∷ []; nozzles = one }

-- five pieces for one nozzle that may take three
abbrev pub too_low : Board
too_low = record { bytes = 0x01 ∷ 0x01 ∷ 0x07 ∷ 0x05 ∷ 0x00 ∷ 0x01 ∷ 0x03 ∷ 0x00 ∷ []; types = record { quantity = Some 5; mask = Some 1; limit = Some 3 } ∷ []; nozzles = one }

-- one type whose quantity nobody entered
abbrev pub not_entered : Board
not_entered = record { bytes = 0x01 ∷ 0x01 ∷ 0x02 ∷ 0x01 ∷ []; types = record { quantity = None; mask = Some 1; limit = None } ∷ []; nozzles = one }
