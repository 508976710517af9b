-- A flow gives a sheet.
use Rattle.std.proofs.Common.{◌≡◌, ℕ, suc, ◌+◌, ◌-◌, ◌<◌, ◌≤◌, eqb, List, [], length, get_or, Some, None, Option, ap, ◌∙◌, inl, inr, arith}
use Rattle.std.proofs.lemmas.List.FromFn.{length-map-range_with_len, get_or-map-range_with_len}
use Rattle.std.proofs.lemmas.Bool.{cases_lt, cases_Bool, eq-eqb}
use Rattle.flows.specs.Sums.{sum_to, only}
use Rattle.flows.specs.Flows.{size, capacity_under, IsFlow}
use Rattle.flows.proofs.Sums.{sum_same, sum_equal, term_le}
use Rattle.sheets.specs.declared.NozzleState.{NozzleState}
use Rattle.sheets.specs.declared.Order.{Order}
use Rattle.sheets.specs.Sheets.{Within, in_service, entry, taken}
use Rattle.sheets.specs.Boards.{order_at, total, may, node_count, type_node, nozzle_node, most_of, board_arcs, picks, row_of, sheet_of}
use Rattle.sheets.proofs.Whole.{IsWhole, quantity_of}
use Rattle.sheets.proofs.Sums.{only_le}
use Rattle.sheets.proofs.Arcs.{in-to, on, out_of, Parts, to_parts}
use Rattle.sheets.proofs.Ends.{size_is, type_in, type_out, nozzle_out}
use Rattle.sheets.proofs.Picks.{tally, tally_past, picks_length, picks_none, picks_are}

within : (o : Option ℕ) (n q : ℕ) → n ≤ most_of o q → Within o n
within None n q h = tt
within (Some m) n q h = h

module _ (orders : List Order) (nozzles : List NozzleState) (c : ℕ) (xs : List ℕ) (flow : IsFlow (node_count orders nozzles) c (board_arcs orders nozzles) xs) (all : size (board_arcs orders nozzles) xs ≡ total orders) where
  abbrev k : ℕ
  k = length orders

  abbrev r : ℕ
  r = length nozzles

  abbrev picked : ℕ → List ℕ
  picked j = picks (board_arcs orders nozzles) xs (nozzle_node orders j)

  abbrev rows : List (List ℕ)
  rows = sheet_of orders nozzles xs c

  fit : Parts orders nozzles xs (λ a x. x - capacity_under c a)
  fit = to_parts orders nozzles xs (λ a x. x - capacity_under c a) (λ p h. omega (arith, flow.fits p h))

  full : (t : ℕ) → t < k → in-to orders nozzles xs t ≡ quantity_of orders t
  full = sum_equal (in-to orders nozzles xs) (quantity_of orders) k (λ t h. omega (arith, fit.0 t h)) (omega (arith, size_is orders nozzles xs, all))

  short : (j : ℕ) → j < r → length (picked j) ≤ c
  short j l =
      omega (
        arith,
        picks_length (board_arcs orders nozzles) xs (nozzle_node orders j),
        flow.kept (nozzle_node orders j) (omega arith) (omega arith),
        nozzle_out orders nozzles xs j l,
        only_le (in_service nozzles j) (out_of orders nozzles xs j) c (λ m. omega (arith, fit.2 j l m)),
      )

  pub long : length rows ≡ c
  long = length-map-range_with_len (row_of orders nozzles xs) 0 c

  entry_is : (i j : ℕ) → i < c → j < r → entry rows i j ≡ get_or (picked j) i 0
  entry_is i j h l =
      ap (λ row. get_or row j 0) (get_or-map-range_with_len (row_of orders nozzles xs) 0 c i i [] h (omega arith))
      ∙ get_or-map-range_with_len (λ j. get_or (picked j) i 0) 0 r j j 0 l (omega arith)

  taken_is : (t j : ℕ) → j < r → taken rows t j ≡ tally (suc t) (picked j)
  taken_is t j l =
      let d : length (picked j) + (c - length (picked j)) ≡ c = omega (arith, short j l) in
      ap (λ n. sum_to n (λ i. only (eqb (entry rows i j) (suc t)) 1)) long
      ∙ sum_same _ (λ i. only (eqb (get_or (picked j) i 0) (suc t)) 1) c (λ i h. ap (λ e. only (eqb e (suc t)) 1) (entry_is i j h l))
      ∙ rw d at (tally_past t (c - length (picked j)) (picked j))

  drawn : (t j : ℕ) → t < k → j < r → taken rows t j ≡ only (may orders nozzles t j) (on orders nozzles xs t j)
  drawn t j h l = taken_is t j l ∙ picks_are orders nozzles xs j t h l

  taken_some : (i j t : ℕ) → i < length rows → entry rows i j ≡ suc t → 1 ≤ taken rows t j
  taken_some i j t h e = let y = term_le (λ i. only (eqb (entry rows i j) (suc t)) 1) i (length rows) h in rw (eq-eqb (entry rows i j) (suc t) e) at y

  pub is_whole : IsWhole orders nozzles rows
  is_whole =
      record {
        wide = λ i h. ap length (get_or-map-range_with_len (row_of orders nozzles xs) 0 c i i [] (omega (arith, long)) (omega arith)) ∙ length-map-range_with_len _ 0 r;
        allowed = λ i j t h l e.
            elim (cases_lt t k) [
              | inl m ↦
                  elim (cases_Bool (may orders nozzles t j)) [
                    | inl y ↦ (m, y)
                    | inr n ↦ absurd (omega (arith, taken_some i j t h e, drawn t j m l, rw n at (drawn t j m l)))
                  ]
              | inr m ↦ absurd (omega (arith, taken_some i j t h e, taken_is t j l, picks_none orders nozzles xs j t m))
            ];
        whole = λ t h. omega (arith, sum_same _ _ r (λ j l. drawn t j h l), type_out orders nozzles xs t h, flow.kept (type_node t) (omega arith) (omega arith), type_in orders nozzles xs t h, full t h);
        limited = λ t j h l.
            within (order_at orders t).limit (taken rows t j) (total orders)
            (omega (arith, drawn t j h l, only_le (may orders nozzles t j) (on orders nozzles xs t j) (most_of (order_at orders t).limit (total orders)) (λ m. omega (arith, fit.1 t j h l m))));
      }
