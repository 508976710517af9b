-- A sheet of complete orders, read by their figures.
use Rattle.std.proofs.Common.{◌≡◌, ℕ, suc, ◌<◌, true, List, [], map, length, get_or, Some, sym, ap, arith}
use lib.ListN.{length-map}
use Rattle.std.proofs.lemmas.List.{get_or-map}
use Rattle.std.proofs.lemmas.Bool.{and_parts}
use Rattle.flows.specs.Sums.{sum_to}
use Rattle.sheets.specs.declared.NozzleState.{NozzleState}
use Rattle.records.specs.declared.TypeRecord.{TypeRecord}
use Rattle.sheets.specs.declared.Order.{Order}
use Rattle.sheets.specs.Sheets.{IsSheet, Within, type_at, is_member, in_service, entry, taken}
use Rattle.sheets.specs.Boards.{entered, no_order, order_at, may}

-- the quantity of the type t
abbrev pub quantity_of : List Order → ℕ → ℕ
quantity_of orders t = (order_at orders t).quantity

-- the rules of a sheet, where all is entered
pub record IsWhole (orders : List Order) (nozzles : List NozzleState) (rows : List (List ℕ)) : Type 0 where
  pub wide : (i : ℕ) → i < length rows → length (get_or rows i []) ≡ length nozzles
  pub allowed : (i j t : ℕ) → i < length rows → j < length nozzles → entry rows i j ≡ suc t → (t < length orders) × (may orders nozzles t j ≡ true)
  pub whole : (t : ℕ) → t < length orders → sum_to (length nozzles) (taken rows t) ≡ quantity_of orders t
  pub limited : (t j : ℕ) → t < length orders → j < length nozzles → Within (order_at orders t).limit (taken rows t j)

module _ (orders : List Order) where
  -- the records of the orders, and their number
  as_many : length (map entered orders) ≡ length orders
  as_many = length-map orders entered

  at : (t : ℕ) → t < length orders → type_at (map entered orders) t ≡ entered (order_at orders t)
  at t h = get_or-map entered orders t no_order _ h

  module _ (nozzles : List NozzleState) (rows : List (List ℕ)) where
    pub to_whole : IsSheet (map entered orders) nozzles rows → IsWhole orders nozzles rows
    to_whole s =
        record {
          wide = s.wide;
          allowed = λ i j t h l e.
              let k : t < length orders = omega (arith, s.known i j t h l e, as_many) in
              let m : is_member (entered (order_at orders t)).mask j ≡ true = rw (at t k) at (s.member i j t h l e) in
              (k, rw (s.serving i j t h l e) m);
          whole = λ t h. cc (s.whole t (omega (arith, as_many)), ap (λ (x : TypeRecord). x.quantity) (at t h));
          limited = λ t j h l. rw (at t h) at (s.limited t j (omega (arith, as_many)) l);
        }

    pub from_whole : IsWhole orders nozzles rows → IsSheet (map entered orders) nozzles rows
    from_whole s =
        record {
          wide = s.wide;
          known = λ i j t h l e. omega (arith, (s.allowed i j t h l e).0, as_many);
          serving = λ i j t h l e. (and_parts _ _ (s.allowed i j t h l e).1).0;
          member = λ i j t h l e. rw (at t (s.allowed i j t h l e).0) (and_parts (in_service nozzles j) _ (s.allowed i j t h l e).1).1;
          whole = λ t h. let k : t < length orders = omega (arith, as_many) in rw (at t k) (ap Some (sym (s.whole t k)));
          limited = λ t j h l. let k : t < length orders = omega (arith, as_many) in rw (at t k) (s.limited t j k l);
        }
