-- What flows into and out of each node of a job's network.
use Rattle.std.proofs.Common.{◌≡◌, ℕ, ◌<◌, true, eqb, List, length, refl, ◌∙◌, arith}
use Rattle.flows.specs.Sums.{sum_to, only}
use Rattle.flows.specs.Flows.{inflow, outflow, size}
use Rattle.flows.proofs.Sums.{sum_same, sum_none}
use Rattle.sheets.specs.declared.NozzleState.{NozzleState}
use Rattle.sheets.specs.declared.Order.{Order}
use Rattle.sheets.specs.Sheets.{in_service}
use Rattle.sheets.specs.Boards.{may, type_node, nozzle_node, board_arcs}
use Rattle.sheets.proofs.Sums.{single, sum_none_of, shut, pass}
use Rattle.sheets.proofs.Arcs.{in-to, on, out_of, sum_arcs_lem}

module _ (orders : List Order) (nozzles : List NozzleState) (xs : List ℕ) where
  abbrev k : ℕ
  k = length orders

  abbrev r : ℕ
  r = length nozzles

  pub size_is : size (board_arcs orders nozzles) xs ≡ sum_to k (in-to orders nozzles xs)
  size_is =
      omega (
        arith,
        sum_arcs_lem orders nozzles xs (λ a x. only (eqb a.tail 0) x),
        sum_none_of _ k r (λ t j h l. shut (may orders nozzles t j) (type_node t) 0 (on orders nozzles xs t j) (omega arith)),
        sum_none _ r (λ j l. shut (in_service nozzles j) (nozzle_node orders j) 0 (out_of orders nozzles xs j) (omega arith)),
      )

  module _ (t : ℕ) (h : t < k) where
    pub type_in : inflow (type_node t) (board_arcs orders nozzles) xs ≡ in-to orders nozzles xs t
    type_in =
        omega (
          arith,
          sum_arcs_lem orders nozzles xs (λ a x. only (eqb a.head (type_node t)) x),
          single _ t k h (λ u l ne. shut true (type_node u) (type_node t) (in-to orders nozzles xs u) (omega arith)),
          pass true (type_node t) (type_node t) (in-to orders nozzles xs t) refl,
          sum_none_of _ k r (λ u j l m. shut (may orders nozzles u j) (nozzle_node orders j) (type_node t) (on orders nozzles xs u j) (omega arith)),
          sum_none _ r (λ j l. shut (in_service nozzles j) 1 (type_node t) (out_of orders nozzles xs j) (omega arith)),
        )

    pub type_out : outflow (type_node t) (board_arcs orders nozzles) xs ≡ sum_to r (λ j. only (may orders nozzles t j) (on orders nozzles xs t j))
    type_out =
        omega (
          arith,
          sum_arcs_lem orders nozzles xs (λ a x. only (eqb a.tail (type_node t)) x),
          sum_none _ k (λ u l. shut true 0 (type_node t) (in-to orders nozzles xs u) (omega arith)),
          single _ t k h (λ u l ne. sum_none _ r (λ j m. shut (may orders nozzles u j) (type_node u) (type_node t) (on orders nozzles xs u j) (omega arith))),
          sum_same _ _ r (λ j m. pass (may orders nozzles t j) (type_node t) (type_node t) (on orders nozzles xs t j) refl),
          sum_none _ r (λ j l. shut (in_service nozzles j) (nozzle_node orders j) (type_node t) (out_of orders nozzles xs j) (omega arith)),
        )

  module _ (j : ℕ) (h : j < r) where
    pub nozzle_in : inflow (nozzle_node orders j) (board_arcs orders nozzles) xs ≡ sum_to k (λ t. only (may orders nozzles t j) (on orders nozzles xs t j))
    nozzle_in =
        omega (
          arith,
          sum_arcs_lem orders nozzles xs (λ a x. only (eqb a.head (nozzle_node orders j)) x),
          sum_none _ k (λ u l. shut true (type_node u) (nozzle_node orders j) (in-to orders nozzles xs u) (omega arith)),
          sum_same (λ t. sum_to r (λ i. only (may orders nozzles t i) (only (eqb (nozzle_node orders i) (nozzle_node orders j)) (on orders nozzles xs t i)))) (λ t. only (may orders nozzles t j) (on orders nozzles xs t j)) k
              (λ t l. single _ j r h (λ i m ne. shut (may orders nozzles t i) (nozzle_node orders i) (nozzle_node orders j) (on orders nozzles xs t i) (omega arith))
              ∙ pass (may orders nozzles t j) (nozzle_node orders j) (nozzle_node orders j) (on orders nozzles xs t j) refl),
          sum_none _ r (λ i l. shut (in_service nozzles i) 1 (nozzle_node orders j) (out_of orders nozzles xs i) (omega arith)),
        )

    pub nozzle_out : outflow (nozzle_node orders j) (board_arcs orders nozzles) xs ≡ only (in_service nozzles j) (out_of orders nozzles xs j)
    nozzle_out =
        omega (
          arith,
          sum_arcs_lem orders nozzles xs (λ a x. only (eqb a.tail (nozzle_node orders j)) x),
          sum_none _ k (λ u l. shut true 0 (nozzle_node orders j) (in-to orders nozzles xs u) (omega arith)),
          sum_none_of _ k r (λ t i l m. shut (may orders nozzles t i) (type_node t) (nozzle_node orders j) (on orders nozzles xs t i) (omega arith)),
          single _ j r h (λ i l ne. shut (in_service nozzles i) (nozzle_node orders i) (nozzle_node orders j) (out_of orders nozzles xs i) (omega arith)),
          pass (in_service nozzles j) (nozzle_node orders j) (nozzle_node orders j) (out_of orders nozzles xs j) refl,
        )
