use Rattle.std.proofs.Common.{◌≡◌, ℕ, ◌+◌, ◌*◌, ◌<◌, ◌≤◌, ◌++◌, length, Some}
use Rattle.sheets.specs.Boards.{order_at, join_to}
use Rattle.sheets.specs.Made.{orders_of}
use Rattle.sheets.proofs.Arcs.{supplies, choices, choices_of, exits}
use Rattle.sheets.proofs.boards.Board.arcs.Given as goal

abbrev pub invariant-loop-t : goal.invariant-loop-t
invariant-loop-t l =
    (l.arcs.items ≡ join_to l.t (supplies l.orders))
    × (length l.arcs.items ≤ l.t)
    × ((k : ℕ) → k < l.t → (order_at l.orders k).quantity ≤ 65535)

abbrev pub invariant-loop-t-2 : goal.invariant-loop-t-2
invariant-loop-t-2 l =
    (l.arcs.items ≡ join_to (length l.orders) (supplies l.orders) ++ join_to l.t (choices_of l.orders l.nozzles))
    × (length l.arcs.items ≤ length l.orders + 8 * l.t)
    × ((k : ℕ) → k < l.t → (m : ℕ) → (order_at l.orders k).limit ≡ Some m → m ≤ 65535)

abbrev pub invariant-loop-j : goal.invariant-loop-j
invariant-loop-j l =
    (l.arcs.items ≡ join_to (length l.orders) (supplies l.orders) ++ (join_to l.t (choices_of l.orders l.nozzles) ++ join_to l.j (choices l.orders l.nozzles l.t)))
    × (length l.arcs.items ≤ length l.orders + 8 * l.t + l.j)

abbrev pub invariant-loop-j-2 : goal.invariant-loop-j-2
invariant-loop-j-2 l =
    let orders = orders_of l.self in
    (l.arcs.items ≡ join_to (length orders) (supplies orders) ++ (join_to (length orders) (choices_of orders l.nozzles) ++ join_to l.j (exits orders l.nozzles)))
    × (length l.arcs.items ≤ length orders + 8 * length orders + l.j)
