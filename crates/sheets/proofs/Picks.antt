-- What a nozzle takes under a flow, and how often.
use Rattle.std.proofs.Common.{◌≡◌, ℕ, zero, suc, ◌+◌, ◌-◌, ◌<◌, ◌≤◌, Bool, true, false, eqb, List, length, get_or, replicate, refl, ◌∙◌, arith, length-append}
use lib.ListN.{length-replicate, get_or-replicate}
use Rattle.std.proofs.lemmas.List.{get_or_past}
use Rattle.std.proofs.lemmas.Bool.Decides.{nat_tests}
use Rattle.flows.specs.declared.Arc.{Arc}
use Rattle.flows.specs.Sums.{sum_to, only}
use Rattle.flows.specs.Flows.{arc_at, sum_flow, inflow}
use Rattle.flows.proofs.Sums.{sum_same, sum_none}
use Rattle.sheets.specs.declared.NozzleState.{NozzleState}
use Rattle.sheets.specs.declared.Order.{Order}
use Rattle.sheets.specs.Sheets.{in_service}
use Rattle.sheets.specs.Boards.{may, type_node, nozzle_node, join_to, when, board_arcs, picks}
use Rattle.sheets.proofs.Sums.{split, sum_append, sum_ones, single, sum_none_of, shut, shut_in, pass}
use Rattle.sheets.proofs.Arcs.{in-to, on, out_of, sum_arcs_lem}

length-join : {X : Type 0} (g : ℕ → List X) (n : ℕ) → length (join_to n g) ≡ sum_to n (λ p. length (g p))
length-join g zero = refl
length-join g (suc n) = omega (arith, length-append (join_to n g) (g n), length-join g n)

length-copies : (g : Bool) (n w : ℕ) → length (when g (replicate n w)) ≡ only g n
length-copies true n w = length-replicate n w
length-copies false n w = refl

-- how often v stands in a list
abbrev pub tally : ℕ → List ℕ → ℕ
tally v l = sum_to (length l) (λ i. only (eqb (get_or l i 0) v) 1)

tally-join : (v : ℕ) (g : ℕ → List ℕ) (n : ℕ) → tally v (join_to n g) ≡ sum_to n (λ p. tally v (g p))
tally-join v g zero = refl
tally-join v g (suc n) = omega (arith, sum_append (λ p x. only (eqb x v) 1) 0 (join_to n g) (g n), tally-join v g n)

tally-copies : (g : Bool) (v n w : ℕ) → tally v (when g (replicate n w)) ≡ only g (only (eqb w v) n)
tally-copies true v n w = rw length-replicate (sum_same _ _ n (λ i h. rw get_or-replicate) ∙ sum_ones (eqb w v) n)
tally-copies false v n w = refl

-- past the end nothing is taken
pub tally_past : (t n : ℕ) (l : List ℕ) → sum_to (length l + n) (λ i. only (eqb (get_or l i 0) (suc t)) 1) ≡ tally (suc t) l
tally_past t n l =
    omega (
      arith,
      split (length l) n (λ i. only (eqb (get_or l i 0) (suc t)) 1),
      sum_none (λ i. only (eqb (get_or l (length l + i) 0) (suc t)) 1) n (λ i h. rw (get_or_past l (length l + i) 0 (omega arith)) (grind (arith, nat_tests))),
    )

pub picks_length : (arcs : List Arc) (xs : List ℕ) (v : ℕ) → length (picks arcs xs v) ≡ inflow v arcs xs
picks_length arcs xs v = length-join _ (length arcs) ∙ sum_same _ _ (length arcs) (λ p h. length-copies (eqb (arc_at arcs p).head v) (get_or xs p 0) ((arc_at arcs p).tail - 1))

picks_tally : (arcs : List Arc) (xs : List ℕ) (v w : ℕ) → tally w (picks arcs xs v) ≡ sum_flow (λ a x. only (eqb a.head v) (only (eqb (a.tail - 1) w) x)) arcs xs
picks_tally arcs xs v w =
    tally-join w _ (length arcs) ∙ sum_same _ _ (length arcs) (λ p h. tally-copies (eqb (arc_at arcs p).head v) w (get_or xs p 0) ((arc_at arcs p).tail - 1))

module _ (orders : List Order) (nozzles : List NozzleState) (xs : List ℕ) (j : ℕ) where
  abbrev k : ℕ
  k = length orders

  abbrev r : ℕ
  r = length nozzles

  by_types : (v : ℕ)
      → tally v (picks (board_arcs orders nozzles) xs (nozzle_node orders j))
      ≡ sum_to k (λ t. sum_to r (λ i. only (may orders nozzles t i) (only (eqb (nozzle_node orders i) (nozzle_node orders j)) (only (eqb (type_node t - 1) v) (on orders nozzles xs t i)))))
  by_types v =
      omega (
        arith,
        picks_tally (board_arcs orders nozzles) xs (nozzle_node orders j) v,
        sum_arcs_lem orders nozzles xs (λ a x. only (eqb a.head (nozzle_node orders j)) (only (eqb (a.tail - 1) v) x)),
        sum_none _ k (λ u l. shut true (type_node u) (nozzle_node orders j) (only (eqb (0 - 1) v) (in-to orders nozzles xs u)) (omega arith)),
        sum_none _ r (λ i l. shut (in_service nozzles i) 1 (nozzle_node orders j) (only (eqb (nozzle_node orders i - 1) v) (out_of orders nozzles xs i)) (omega arith)),
      )

  pub picks_none : (t : ℕ) → k ≤ t → tally (suc t) (picks (board_arcs orders nozzles) xs (nozzle_node orders j)) ≡ 0
  picks_none t h = omega (arith, by_types (suc t), sum_none_of _ k r (λ u i l m. shut_in (may orders nozzles u i) (eqb (nozzle_node orders i) (nozzle_node orders j)) (type_node u - 1) (suc t) (on orders nozzles xs u i) (omega arith)))

  pub picks_are : (t : ℕ) → t < k → j < r → tally (suc t) (picks (board_arcs orders nozzles) xs (nozzle_node orders j)) ≡ only (may orders nozzles t j) (on orders nozzles xs t j)
  picks_are t h l =
      omega (
        arith,
        by_types (suc t),
        single _ t k h (λ u m ne. sum_none _ r (λ i m. shut_in (may orders nozzles u i) (eqb (nozzle_node orders i) (nozzle_node orders j)) (type_node u - 1) (suc t) (on orders nozzles xs u i) (omega arith))),
        single _ j r l (λ i m ne. shut (may orders nozzles t i) (nozzle_node orders i) (nozzle_node orders j) (only (eqb (type_node t - 1) (suc t)) (on orders nozzles xs t i)) (omega arith)),
        pass (may orders nozzles t j) (nozzle_node orders j) (nozzle_node orders j) (only (eqb (type_node t - 1) (suc t)) (on orders nozzles xs t j)) refl,
        pass (may orders nozzles t j) (type_node t - 1) (suc t) (on orders nozzles xs t j) (omega arith),
      )
