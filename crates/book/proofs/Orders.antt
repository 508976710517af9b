-- The orders of a book in which nothing is missing.
use Rattle.std.proofs.Common.{◌≡◌, ℕ, zero, suc, ◌+◌, ◌<◌, ◌≤◌, Bool, true, false, cond, List, [], ◌∷◌, map, length, Some, None, sym, refl, ap, ◌∙◌, arith}
use lib.ListN.{length-map}
use Rattle.std.proofs.lemmas.List.{get_or-map}
use Rattle.sheets.specs.declared.NozzleState.{NozzleState}
use Rattle.records.specs.declared.TypeRecord.{TypeRecord}
use Rattle.sheets.specs.declared.Order.{Order}
use Rattle.sheets.specs.declared.boards.BoardFault.{BoardFault}
use Rattle.sheets.specs.declared.boards.BoardFault.TheVariants.{BadSize, NotEntered as Gap}
use Rattle.sheets.specs.Sheets.{type_at}
use Rattle.sheets.specs.Boards.{entered, is_entered, no_order}
use Rattle.sheets.specs.Made.{Refused, SizeOk}
use Rattle.book.specs.declared.faults.JobFault.TheVariants.{NotEntered}
use Rattle.book.specs.Books.{orders_in}
use Rattle.book.specs.Faults.{of_board}
use Rattle.book.specs.Turns.{missing}
use Rattle.book.specs.Keeps.{Complete}

-- entered orders are found again
pub orders_back : (orders : List Order) → orders_in (map entered orders) ≡ orders
orders_back [] = refl
orders_back (o ∷ os) = ap (λ (l : List Order). o ∷ l) (orders_back os)

module _ (types : List TypeRecord) (orders : List Order) (e : types ≡ map entered orders) where
  pub orders_are : orders_in types ≡ orders
  orders_are = ap orders_in e ∙ orders_back orders

  pub entered_are : map entered (orders_in types) ≡ types
  entered_are = ap (map entered) orders_are ∙ sym e

  pub complete : Complete types
  complete t h =
      let k : t < length orders = omega (arith, ap length e, length-map orders entered) in
      ap (λ (l : List TypeRecord). is_entered (type_at l t)) e ∙ ap is_entered (get_or-map entered orders t no_order _ k)

-- so that nothing is missing
none_in : (n : ℕ) (orders : List Order) → missing n (map entered orders) ≡ None
none_in n [] = refl
none_in n (o ∷ os) = none_in (suc n) os

pub none_missing : (types : List TypeRecord) (orders : List Order) → types ≡ map entered orders → missing 1 types ≡ None
none_missing types orders e = ap (missing 1) e ∙ none_in 1 orders

step : (b : Bool) (n : ℕ) (x : TypeRecord) (xs : List TypeRecord) → is_entered x ≡ b → missing n (x ∷ xs) ≡ cond b (missing (suc n) xs) (Some (NotEntered n))
step b n x xs e = ap (λ (p : Bool). cond p (missing (suc n) xs) (Some (NotEntered n))) e

-- the lowest gap is the type at the place t, numbered from n
lowest : (n t : ℕ) (types : List TypeRecord) → t < length types → ((u : ℕ) → u < t → is_entered (type_at types u) ≡ true) → is_entered (type_at types t) ≡ false
    → missing n types ≡ Some (NotEntered (n + t))
lowest n t [] h before here = absurd (omega arith)
lowest n zero (x ∷ xs) h before here = step false n x xs here ∙ ap (λ (m : ℕ). Some (NotEntered m)) (omega arith)
lowest n (suc t) (x ∷ xs) h before here =
    step true n x xs (before 0 (omega arith))
    ∙ (lowest (suc n) t xs (omega arith) (λ u l. before (suc u) (omega arith)) here ∙ ap (λ (m : ℕ). Some (NotEntered m)) (omega arith))

lowest_at : (t n : ℕ) (types : List TypeRecord) → n ≡ t + 1 → (n ≤ length types) × ((u : ℕ) → u + 1 < n → is_entered (type_at types u) ≡ true) × ((u : ℕ) → u + 1 ≡ n → is_entered (type_at types u) ≡ false)
    → missing 1 types ≡ Some (NotEntered n)
lowest_at t n types e h =
    lowest 1 t types (omega (arith, h.0)) (λ u l. h.1 u (omega arith)) (h.2 t (omega arith)) ∙ ap (λ (m : ℕ). Some (NotEntered m)) (omega arith)

-- a book of a board's size that is no board is refused at its lowest gap
pub gap_missing : (types : List TypeRecord) (nozzles : List NozzleState) (f : BoardFault) → SizeOk (length types) (length nozzles) → Refused types nozzles f → missing 1 types ≡ Some (of_board f)
gap_missing types nozzles BadSize ok h = absurd (h ok)
gap_missing types nozzles (Gap zero) ok h = absurd (omega (arith, h.1))
gap_missing types nozzles (Gap (suc n)) ok h = lowest_at n (suc n) types (omega arith) (h.2, h.3, h.4)

-- nothing is missing of a book that is complete
pub complete_none : (n : ℕ) (types : List TypeRecord) → Complete types → missing n types ≡ None
complete_none n [] h = refl
complete_none n (x ∷ xs) h = step true n x xs (h 0 (omega arith)) ∙ complete_none (suc n) xs (λ t l. h (suc t) (omega arith))
