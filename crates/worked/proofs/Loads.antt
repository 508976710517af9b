-- How many pieces a nozzle takes in a sheet, at least and at most.
use Rattle.std.proofs.Common.{◌≡◌, ℕ, zero, suc, ◌+◌, ◌*◌, ◌<◌, ◌≤◌, not, ◌&&◌, eqb, leb, List, length, inl, inr, arith}
use Rattle.std.proofs.lemmas.Bool.{cases_lt}
use Rattle.std.proofs.lemmas.Bool.Decides.{nat_tests}
use Rattle.flows.specs.Sums.{sum_to, only}
use Rattle.flows.proofs.Sums.{sum_le, sum_same}
use Rattle.sheets.specs.declared.NozzleState.{NozzleState}
use Rattle.records.specs.declared.TypeRecord.{TypeRecord}
use Rattle.sheets.specs.Sheets.{IsSheet, entry, taken}
use Rattle.sheets.proofs.Sums.{swap, sum_most, only_le}
use Rattle.sheets.proofs.Whole.{quantity_of, to_whole}
use Rattle.book.specs.Books.{orders_in}
use Rattle.book.specs.Keeps.{Complete, total_in}
use Rattle.worked.specs.Examples.{load}
use Rattle.worked.proofs.Ready.{whole}

-- all terms but one are at most c
but_one : (f : ℕ → ℕ) (c j n : ℕ) → j < n → ((i : ℕ) → f i ≤ c) → sum_to n f + c ≤ f j + n * c
but_one f c j zero h e = absurd (omega arith)
but_one f c j (suc n) h e =
    elim (cases_lt j n) [
      | inl l ↦ omega (arith, but_one f c j n l e, e n)
      | inr l ↦ let at : j ≡ n = omega arith in rw at (omega (arith, sum_most f c n (λ i h. e i)))
    ]

-- an entry is of one type at most
one_type : (x k : ℕ) → sum_to k (λ t. only (eqb x (suc t)) 1) ≤ only (not (eqb x 0) && leb x k) 1
one_type x zero = grind (arith, nat_tests)
one_type x (suc k) = let i = one_type x k in grind (arith, nat_tests)

module _ (rows : List (List ℕ)) (j : ℕ) where
  -- the pieces of the first k types
  of_types : (k : ℕ) → sum_to k (λ t. taken rows t j) ≤ load rows j
  of_types k =
      omega (
        arith,
        swap (λ t i. only (eqb (entry rows i j) (suc t)) 1) k (length rows),
        sum_le (λ i. sum_to k (λ t. only (eqb (entry rows i j) (suc t)) 1)) (λ i. only (not (eqb (entry rows i j) 0)) 1) (length rows) (λ i h. let o = one_type (entry rows i j) k in grind (arith, nat_tests)),
      )

  -- at most one in each subtour
  pub load_most : load rows j ≤ length rows
  load_most = omega (arith, sum_most (λ i. only (not (eqb (entry rows i j) 0)) 1) 1 (length rows) (λ i h. only_le (not (eqb (entry rows i j) 0)) 1 1 (λ e. omega arith)))

-- at least what the other nozzles cannot take
pub load_least : (types : List TypeRecord) (nozzles : List NozzleState) (rows : List (List ℕ)) (j : ℕ) → Complete types → IsSheet types nozzles rows → j < length nozzles → total_in types + length rows ≤ load rows j + length nozzles * length rows
load_least types nozzles rows j c s h =
    let k : ℕ = length (orders_in types) in
    let w = to_whole (orders_in types) nozzles rows (rw (whole types c) s) in
    omega (
      arith,
      sum_same (λ t. sum_to (length nozzles) (taken rows t)) (quantity_of (orders_in types)) k w.whole,
      swap (taken rows) k (length nozzles),
      sum_le (λ j. sum_to k (λ t. taken rows t j)) (load rows) (length nozzles) (λ j l. of_types rows j k),
      but_one (load rows) (length rows) j (length nozzles) h (load_most rows),
    )
