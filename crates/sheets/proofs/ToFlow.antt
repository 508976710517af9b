-- A sheet gives a flow: each arc carries as much as the sheet takes over it.
use Rattle.std.proofs.Common.{◌≡◌, ℕ, zero, suc, ◌+◌, ◌-◌, ◌<◌, ◌≤◌, true, false, cond, ◌&&◌, eqb, leb, List, map, length, Some, None, Option, ap, inl, inr, arith}
use Rattle.std.proofs.lemmas.List.{get_or-map}
use Rattle.std.proofs.lemmas.Bool.{cases_lt, both_ways, and_left, eqb-true}
use Rattle.std.proofs.lemmas.Bool.Decides.{nat_tests}
use Rattle.flows.specs.declared.Arc.{Arc}
use Rattle.flows.specs.Sums.{sum_to, only}
use Rattle.flows.specs.Flows.{no_arc, inflow, outflow, capacity_under, IsFlow, Admits}
use Rattle.flows.proofs.Sums.{sum_same, sum_none, term_le}
use Rattle.sheets.specs.declared.NozzleState.{NozzleState}
use Rattle.sheets.specs.declared.Order.{Order}
use Rattle.sheets.specs.Sheets.{Within, in_service, entry, taken}
use Rattle.sheets.specs.Boards.{order_at, total, may, node_count, type_node, nozzle_node, most_of, choice, exit, board_arcs}
use Rattle.sheets.proofs.Whole.{IsWhole, quantity_of}
use Rattle.sheets.proofs.Sums.{swap, sum_most, only_none, only_is}
use Rattle.sheets.proofs.Arcs.{in-to, on, out_of, Parts, to_parts, from_parts}
use Rattle.sheets.proofs.Ends.{size_is, type_in, type_out, nozzle_in, nozzle_out}

-- an entry is at most one type
one_type : (e k : ℕ) → sum_to k (λ t. only (eqb e (suc t)) 1) ≡ only (leb 1 e && leb e k) 1
one_type e zero = grind (arith, nat_tests)
one_type e (suc k) = let i = one_type e k in grind (arith, nat_tests)

under_limit : (o : Option ℕ) (n q : ℕ) → Within o n → n ≤ q → n ≤ most_of o q
under_limit None n q w h = h
under_limit (Some m) n q w h = w

module _ {orders : List Order} {nozzles : List NozzleState} {rows : List (List ℕ)} (s : IsWhole orders nozzles rows) where
  abbrev k : ℕ
  k = length orders

  abbrev r : ℕ
  r = length nozzles

  -- how often the nozzle j takes anything
  abbrev load : ℕ → ℕ
  load j = sum_to k (λ t. taken rows t j)

  -- what an arc carries: the quantity, the load, or how often the nozzle takes the type
  abbrev carried : Arc → ℕ
  carried a = cond (eqb a.tail 0) (quantity_of orders (a.head - 2)) (cond (eqb a.head 1) (load (a.tail - (k + 2))) (taken rows (a.tail - 2) (a.head - (k + 2))))

  abbrev flow : List ℕ
  flow = map carried (board_arcs orders nozzles)

  carries : Parts orders nozzles flow (λ a x. (x - carried a) + (carried a - x))
  carries = to_parts orders nozzles flow (λ a x. (x - carried a) + (carried a - x)) (λ p h. rw (get_or-map carried (board_arcs orders nozzles) p no_arc) (omega arith))

  into : (t : ℕ) → t < k → in-to orders nozzles flow t ≡ quantity_of orders t
  into t h = let e : t + 2 - 2 ≡ t = omega arith in omega (arith, carries.0 t h, ap (quantity_of orders) e)

  across : (t j : ℕ) → t < k → j < r → may orders nozzles t j ≡ true → on orders nozzles flow t j ≡ taken rows t j
  across t j h l m =
      let e : t + 2 - 2 ≡ t = omega arith in
      let d : k + 2 + j - (k + 2) ≡ j = omega arith in
      let y : carried (choice orders t j) ≡ taken rows (t + 2 - 2) (k + 2 + j - (k + 2)) = grind (arith, nat_tests) in
      omega (arith, carries.1 t j h l m, y, ap (λ u. taken rows u (k + 2 + j - (k + 2))) e, ap (taken rows t) d)

  away : (j : ℕ) → j < r → in_service nozzles j ≡ true → out_of orders nozzles flow j ≡ load j
  away j l m =
      let d : k + 2 + j - (k + 2) ≡ j = omega arith in
      let y : carried (exit orders j) ≡ load (k + 2 + j - (k + 2)) = grind (arith, nat_tests) in
      omega (arith, carries.2 j l m, y, ap load d)

  -- a nozzle takes no type that it may not take
  unable : (t j : ℕ) → j < r → may orders nozzles t j ≡ false → taken rows t j ≡ 0
  unable t j l m = sum_none _ (length rows) (λ i h. only_none (eqb (entry rows i j) (suc t)) 1 (λ e. absurd (both_ways (may orders nozzles t j) m (s.allowed i j t h l (eqb-true _ _ e)).1)))

  idle : (j : ℕ) → j < r → in_service nozzles j ≡ false → load j ≡ 0
  idle j l m = sum_none _ k (λ t h. unable t j l (and_left (in_service nozzles j) _ m))

  load_le : (j : ℕ) → load j ≤ length rows
  load_le j =
      omega (
        arith,
        swap (λ t i. only (eqb (entry rows i j) (suc t)) 1) k (length rows),
        sum_most (λ i. sum_to k (λ t. only (eqb (entry rows i j) (suc t)) 1)) 1 (length rows) (λ i h. let o = one_type (entry rows i j) k in grind arith),
      )

  taken_le : (t j : ℕ) → t < k → j < r → taken rows t j ≤ total orders
  taken_le t j h l = omega (arith, term_le (taken rows t) j r l, s.whole t h, term_le (quantity_of orders) t k h)

  crossing : (t j : ℕ) → t < k → j < r → only (may orders nozzles t j) (on orders nozzles flow t j) ≡ taken rows t j
  crossing t j h l = only_is (may orders nozzles t j) (on orders nozzles flow t j) (taken rows t j) (across t j h l) (unable t j l)

  kept_type : (t : ℕ) → t < k → inflow (type_node t) (board_arcs orders nozzles) flow ≡ outflow (type_node t) (board_arcs orders nozzles) flow
  kept_type t h = omega (arith, type_in orders nozzles flow t h, into t h, type_out orders nozzles flow t h, sum_same _ _ r (λ j l. crossing t j h l), s.whole t h)

  kept_nozzle : (j : ℕ) → j < r → inflow (nozzle_node orders j) (board_arcs orders nozzles) flow ≡ outflow (nozzle_node orders j) (board_arcs orders nozzles) flow
  kept_nozzle j l = omega (arith, nozzle_in orders nozzles flow j l, sum_same _ _ k (λ t h. crossing t j h l), nozzle_out orders nozzles flow j l, only_is (in_service nozzles j) (out_of orders nozzles flow j) (load j) (away j l) (idle j l))

  is_flow : IsFlow (node_count orders nozzles) (length rows) (board_arcs orders nozzles) flow
  is_flow =
      record {
        fits = λ p h.
            omega (
              arith,
              from_parts orders nozzles flow (λ a x. x - capacity_under (length rows) a) (
                λ t h. omega (arith, into t h),
                λ t j h l m. omega (arith, across t j h l m, under_limit (order_at orders t).limit (taken rows t j) (total orders) (s.limited t j h l) (taken_le t j h l)),
                λ j l m. omega (arith, away j l m, load_le j),
              )
                  p h,
            );
        kept = λ v lo hi.
            elim (cases_lt v (k + 2)) [
              | inl l ↦ let e : v ≡ type_node (v - 2) = omega arith in rw e (kept_type (v - 2) (omega arith))
              | inr l ↦ let e : v ≡ nozzle_node orders (v - (k + 2)) = omega arith in rw e (kept_nozzle (v - (k + 2)) (omega arith))
            ];
      }

  pub to_flow : Admits (node_count orders nozzles) (total orders) (board_arcs orders nozzles) (length rows)
  to_flow = record { flow = flow; is_flow = is_flow; full = omega (arith, size_is orders nozzles flow, sum_same _ _ k into) }
