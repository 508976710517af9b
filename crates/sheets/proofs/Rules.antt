-- The network of a board keeps the rules of networks.
use Rattle.std.proofs.Common.{◌≡◌, ℕ, suc, ◌+◌, ◌-◌, ◌<◌, ◌≤◌, true, eqb, List, [], length, Some, None, Option, Ok, Err, Result, IsOk, refl, ap, arith}
use Rattle.std.proofs.lemmas.Bool.{both_ways}
use Rattle.std.proofs.lemmas.Bool.Decides.{nat_tests}
use Rattle.flows.specs.declared.Arc.{Arc}
use Rattle.flows.specs.Sums.{sum_to, only}
use Rattle.flows.specs.Flows.{arc_at, fixed_of, counted_of, counted_arcs}
use Rattle.flows.proofs.Sums.{sum_none}
use Rattle.network.specs.declared.faults.NetworkFault.{NetworkFault}
use Rattle.network.specs.declared.faults.NetworkFault.TheVariants.{TooLarge, ShortTrail, BadCount, BadArc}
use Rattle.network.specs.Rules.{arc_ok, Refused}
use Rattle.sheets.specs.declared.NozzleState.{NozzleState}
use Rattle.sheets.specs.declared.Order.{Order}
use Rattle.sheets.specs.Sheets.{in_service}
use Rattle.sheets.specs.Boards.{order_at, total, may, node_count, most_of, board_arcs}
use Rattle.sheets.specs.Laws.{Sized, BoardKeepsRules}
use Rattle.sheets.proofs.Whole.{quantity_of}
use Rattle.sheets.proofs.Sums.{sum_most, count_le, sum_ones, sum_none_of, only_none}
use Rattle.sheets.proofs.Arcs.{sum_arcs_lem, from_parts}

most_small : (limit : Option ℕ) (all : ℕ) → all ≤ 2000000 → ((m : ℕ) → limit ≡ Some m → m ≤ 65535) → most_of limit all ≤ 2000000
most_small None all h e = h
most_small (Some m) all h e = omega (arith, e m refl)

module _ {orders : List Order} {nozzles : List NozzleState} (s : Sized orders nozzles) where
  abbrev k : ℕ
  k = length orders

  abbrev r : ℕ
  r = length nozzles

  total_small : total orders ≤ 2000000
  total_small = omega (arith, sum_most (quantity_of orders) 65535 k s.quantities)

  -- what is amiss with an arc
  abbrev amiss : Arc → ℕ → ℕ
  amiss a x =
      (suc a.tail - node_count orders nozzles) + (suc a.head - node_count orders nozzles) + (1 - a.head) + only (eqb a.tail 1) 1 + only (eqb a.tail a.head) 1
      + (fixed_of a.capacity - 2000000)

  fine : (p : ℕ) → p < length (board_arcs orders nozzles) → amiss (arc_at (board_arcs orders nozzles) p) 0 ≡ 0
  fine =
      from_parts orders nozzles [] (λ a x. amiss a 0) (
        λ t h. let q = s.quantities t h in grind (arith, nat_tests),
        λ t j h l m. let q = most_small (order_at orders t).limit (total orders) total_small (λ m. s.limits t m h) in grind (arith, nat_tests),
        λ j l m. grind (arith, nat_tests),
      )

  few : length (board_arcs orders nozzles) ≤ 256
  few =
      omega (
        arith,
        sum_arcs_lem orders nozzles [] (λ a x. 1),
        sum_ones true (length (board_arcs orders nozzles)),
        sum_ones true k,
        sum_most (λ t. sum_to r (λ j. only (may orders nozzles t j) 1)) 8 k (λ t h. omega (arith, count_le (may orders nozzles t) r)),
        count_le (in_service nozzles) r,
      )

  arc_ok_lem : (p : ℕ) → p < length (board_arcs orders nozzles) → arc_ok (node_count orders nozzles) (arc_at (board_arcs orders nozzles) p) ≡ true
  arc_ok_lem p h = let f = fine p h in grind (arith, nat_tests)

-- its counted arcs are those of the nozzles in service
pub counted_service : (orders : List Order) (nozzles : List NozzleState) → counted_arcs (board_arcs orders nozzles) ≡ sum_to (length nozzles) (λ j. only (in_service nozzles j) 1)
counted_service orders nozzles =
    omega (
      arith,
      sum_arcs_lem orders nozzles [] (λ a x. counted_of a.capacity),
      sum_none _ (length orders) (λ t h. refl),
      sum_none_of _ (length orders) (length nozzles) (λ t j h l. only_none (may orders nozzles t j) 0 (λ m. refl)),
    )

pub rules : BoardKeepsRules
rules orders nozzles s = record { counts = (omega arith, omega arith, few s); arcs = arc_ok_lem s; small = total_small s; counted = counted_service orders nozzles }

-- so the network layer never refuses it
pub never : {orders : List Order} {nozzles : List NozzleState} → Sized orders nozzles → (nodes : ℕ) (arcs : List Arc) → nodes ≡ node_count orders nozzles → arcs ≡ board_arcs orders nozzles
    → (f : NetworkFault) → Refused nodes arcs f → ⊥
never s nodes arcs n a BadCount h = h (rw (n, a) (rules _ _ s).counts)
never s nodes arcs n a (BadArc i) h = both_ways _ h.3 (rw (n, a) ((rules _ _ s).arcs i (omega (arith, h.1, ap length a))))
never s nodes arcs n a TooLarge h = h
never s nodes arcs n a (ShortTrail needed) h = h

pub is_taken : {orders : List Order} {nozzles : List NozzleState} → Sized orders nozzles → (nodes : ℕ) (arcs : List Arc) → nodes ≡ node_count orders nozzles → arcs ≡ board_arcs orders nozzles
    → (r : Result Unit NetworkFault) → ((f : NetworkFault) → r ≡ Err f → Refused nodes arcs f) → IsOk r
is_taken s nodes arcs n a (Ok u) h = refl
is_taken s nodes arcs n a (Err f) h = absurd (never s nodes arcs n a f (h f refl))
