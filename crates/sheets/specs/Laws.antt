-- Sheets and flows.
use Rattle.std.specs.Prelude.{◌≡◌, ℕ, ◌<◌, ◌≤◌, List, map, length, Some, None}
use Rattle.flows.specs.Sums.{sum_to, only}
use Rattle.flows.specs.Flows.{IsFlow, Admits, size, counted_arcs}
use Rattle.network.specs.Rules.{CountsOk, ArcsOk}
use Rattle.sheets.specs.declared.NozzleState.{NozzleState}
use Rattle.records.specs.declared.TypeRecord.{TypeRecord}
use Rattle.sheets.specs.declared.Order.{Order}
use Rattle.sheets.specs.Sheets.{IsSheet, in_service, type_at}
use Rattle.sheets.specs.Boards.{entered, total, node_count, board_arcs, sheet_of, order_at}

-- where a quantity was not entered there is no sheet
abbrev pub NoSheetOfAGap : Type 0
NoSheetOfAGap = (types : List TypeRecord) (nozzles : List NozzleState) (rows : List (List ℕ)) (t : ℕ) → t < length types → (type_at types t).quantity ≡ None → IsSheet types nozzles rows → ⊥

-- a sheet gives a flow of all pieces under the limit of its subtours
abbrev pub SheetGivesFlow : Type 0
SheetGivesFlow = (orders : List Order) (nozzles : List NozzleState) (rows : List (List ℕ)) → IsSheet (map entered orders) nozzles rows
    → Admits (node_count orders nozzles) (total orders) (board_arcs orders nozzles) (length rows)

-- a flow of all pieces under the limit c gives a sheet of c subtours
abbrev pub FlowGivesSheet : Type 0
FlowGivesSheet = (orders : List Order) (nozzles : List NozzleState) (c : ℕ) (xs : List ℕ) → IsFlow (node_count orders nozzles) c (board_arcs orders nozzles) xs → size (board_arcs orders nozzles) xs ≡ total orders
    → IsSheet (map entered orders) nozzles (sheet_of orders nozzles xs c) × (length (sheet_of orders nozzles xs c) ≡ c)

-- if no limit below c admits all pieces, no sheet has fewer than c subtours
abbrev pub NoneFewer : Type 0
NoneFewer = (orders : List Order) (nozzles : List NozzleState) (c : ℕ) → ((L : ℕ) → L < c → Admits (node_count orders nozzles) (total orders) (board_arcs orders nozzles) L → ⊥)
    → (rows : List (List ℕ)) → IsSheet (map entered orders) nozzles rows → c ≤ length rows

-- if no limit at all admits all pieces, there is no sheet of any length
abbrev pub NoSheet : Type 0
NoSheet = (orders : List Order) (nozzles : List NozzleState) → ((L : ℕ) → Admits (node_count orders nozzles) (total orders) (board_arcs orders nozzles) L → ⊥)
    → (rows : List (List ℕ)) → IsSheet (map entered orders) nozzles rows → ⊥

-- a board of 1 to 24 types and 1 to 8 nozzles, with quantities and limits of two bytes
pub record Sized (orders : List Order) (nozzles : List NozzleState) : Type 0 where
  pub some_types : 1 ≤ length orders
  pub few_types : length orders ≤ 24
  pub some_nozzles : 1 ≤ length nozzles
  pub few_nozzles : length nozzles ≤ 8
  pub quantities : (t : ℕ) → t < length orders → (order_at orders t).quantity ≤ 65535
  pub limits : (t m : ℕ) → t < length orders → (order_at orders t).limit ≡ Some m → m ≤ 65535

-- the network of a board keeps the rules of networks, the total is a wanted size, and there are as
-- many counted arcs as nozzles in service
pub record KeepsRules (orders : List Order) (nozzles : List NozzleState) : Type 0 where
  pub counts : CountsOk (node_count orders nozzles) (length (board_arcs orders nozzles))
  pub arcs : ArcsOk (node_count orders nozzles) (length (board_arcs orders nozzles)) (board_arcs orders nozzles)
  pub small : total orders ≤ 2000000
  pub counted : counted_arcs (board_arcs orders nozzles) ≡ sum_to (length nozzles) (λ j. only (in_service nozzles j) 1)

-- each board of that size does
abbrev pub BoardKeepsRules : Type 0
BoardKeepsRules = (orders : List Order) (nozzles : List NozzleState) → Sized orders nozzles → KeepsRules orders nozzles
