-- The network of a board: complete orders, one for each type, and the states of the nozzles.
use Rattle.std.specs.Prelude.{ℕ, zero, suc, ◌+◌, ◌-◌, Bool, cond, ◌&&◌, List, [], ◌∷◌, ◌++◌, map, length, replicate, is_some, Some, None, Option, ◌==◌, slice_index, slice_index_or}
use Rattle.std.specs.List.{range_with_len}
use Rattle.flows.specs.declared.Arc.{Arc}
use Rattle.flows.specs.declared.Capacity.TheVariants.{Fixed, Counted}
use Rattle.flows.specs.Sums.{sum_to}
use Rattle.flows.specs.Flows.{arc_at, inside}
use Rattle.sheets.specs.declared.NozzleState.{NozzleState}
use Rattle.records.specs.declared.TypeRecord.{TypeRecord}
use Rattle.sheets.specs.declared.Order.{Order}
use Rattle.sheets.specs.Sheets.{in_service}

-- the record in which an order is entered
abbrev pub entered : Order → TypeRecord
entered o = record { quantity = Some o.quantity; mask = Some o.mask; limit = o.limit }

-- quantity and mask are there
abbrev pub is_entered : TypeRecord → Bool
is_entered x = is_some x.quantity && is_some x.mask

-- what a read past the last order gives
abbrev pub no_order : Order
no_order = record { quantity = 0; mask = 0; limit = None }

-- the order of the type t
abbrev pub order_at : List Order → ℕ → Order
order_at orders t = slice_index_or orders t no_order

-- the total of all quantities
abbrev pub total : List Order → ℕ
total orders = sum_to (length orders) (λ t. (order_at orders t).quantity)

-- the nozzle j is in service, and a member of the mask of the type t
abbrev pub may : List Order → List NozzleState → ℕ → ℕ → Bool
may orders nozzles t j = in_service nozzles j && inside (order_at orders t).mask j

-- the source is 0 and the sink 1; then come the types, and then the nozzles, in service or not
abbrev pub node_count : List Order → List NozzleState → ℕ
node_count orders nozzles = length orders + length nozzles + 2

abbrev pub type_node : ℕ → ℕ
type_node t = t + 2

abbrev pub nozzle_node : List Order → ℕ → ℕ
nozzle_node orders j = length orders + 2 + j

-- what one nozzle may take of the type t: its limit, or all pieces
abbrev pub most_of : Option ℕ → ℕ → ℕ
most_of None all = all
most_of (Some m) all = m

-- from the source to a type, from a type to a nozzle, from a nozzle to the sink
abbrev pub supply : List Order → ℕ → Arc
supply orders t = record { tail = 0; head = type_node t; capacity = Fixed (order_at orders t).quantity }

abbrev pub choice : List Order → ℕ → ℕ → Arc
choice orders t j = record { tail = type_node t; head = nozzle_node orders j; capacity = Fixed (most_of (order_at orders t).limit (total orders)) }

abbrev pub exit : List Order → ℕ → Arc
exit orders j = record { tail = nozzle_node orders j; head = 1; capacity = Counted }

-- the lists f 0, f 1, .. below n, joined
abbrev pub join_to : {X : Type 0} → ℕ → (ℕ → List X) → List X
join_to zero f = []
join_to (suc n) f = join_to n f ++ f n

-- xs where b holds, else nothing
abbrev pub when : {X : Type 0} → Bool → List X → List X
when b xs = cond b xs []

-- the arcs, in order: source to each type; each type to each nozzle that may take it, by type and
-- then nozzle; each nozzle in service to the sink
abbrev pub board_arcs : List Order → List NozzleState → List Arc
board_arcs orders nozzles =
    join_to (length orders) (λ t. supply orders t ∷ [])
    ++ (join_to (length orders) (λ t. join_to (length nozzles) (λ j. when (may orders nozzles t j) (choice orders t j ∷ [])))
    ++ join_to (length nozzles) (λ j. when (in_service nozzles j) (exit orders j ∷ [])))

-- the picks of the node v: the types upwards, each as often as the flow says, by their numbers
abbrev pub picks : List Arc → List ℕ → ℕ → List ℕ
picks arcs xs v = join_to (length arcs) (λ p. when ((arc_at arcs p).head == v) (replicate (slice_index xs p) ((arc_at arcs p).tail - 1)))

-- what the nozzle j takes in the subtour i, from 0: its pick i, or 0 where it has no more
abbrev pub piece_of : List Order → List NozzleState → List ℕ → ℕ → ℕ → ℕ
piece_of orders nozzles xs i j = slice_index (picks (board_arcs orders nozzles) xs (nozzle_node orders j)) i

-- the subtour i, from 0: what each nozzle takes
abbrev pub row_of : List Order → List NozzleState → List ℕ → ℕ → List ℕ
row_of orders nozzles xs i = map (piece_of orders nozzles xs i) (range_with_len 0 (length nozzles))

-- the sheet of so many subtours
abbrev pub sheet_of : List Order → List NozzleState → List ℕ → ℕ → List (List ℕ)
sheet_of orders nozzles xs cost = map (row_of orders nozzles xs) (range_with_len 0 cost)
