-- What is shown of a plan.
use Rattle.std.proofs.Common.{◌≡◌, ℕ, ◌+◌, ◌-◌, ◌<◌, ◌≤◌, List, [], map, length, get_or, take, drop, Some, None, sym, ap, ◌∙◌, ap₂, arith}
use Rattle.std.proofs.lemmas.List.FromFn.{get_or-map-range_with_len}
use Rattle.std.proofs.lemmas.List.{ext_get_or, length-take-le, length-drop, get_or-take, get_or-drop}
use Rattle.sheets.specs.declared.NozzleState.{NozzleState}
use Rattle.sheets.specs.declared.Order.{Order}
use Rattle.sheets.specs.Boards.{entered, row_of}
use Rattle.book.specs.declared.Outcome.{Outcome}
use Rattle.book.specs.declared.Outcome.TheVariants.{None as Unplanned, Planned, Short}
use Rattle.book.specs.declared.faults.JobFault.{JobFault}
use Rattle.book.specs.Books.{orders_in}
use Rattle.book.specs.Events.{State, Promise}
use Rattle.book.specs.Turns.{missing}
use Rattle.book.proofs.Orders.{orders_are, complete_none}
use Rattle.job.specs.declared.job.Job.{Job}
use Rattle.job.specs.Jobs.{book_of, state_of, rows_by}
use Rattle.job.proofs.Always.{kept_of}

-- a plan in force is of a book in which nothing is missing
planned_none : (s : State) (o : Outcome) (cost runs : ℕ) → o ≡ Planned cost runs → Promise s o → missing 1 s.book.types ≡ None
planned_none s Unplanned cost runs e k = cc
planned_none s (Planned c r) cost runs e k = complete_none 1 s.book.types k.complete
planned_none s (Short r cut) cost runs e k = cc

pub never_missing : (j : Job) (cost runs : ℕ) (f : JobFault) → j.outcome ≡ Planned cost runs → missing 1 (book_of j).types ≡ Some f → ⊥
never_missing j cost runs f e m = cc (planned_none (state_of j) j.outcome cost runs e (kept_of j))

-- the row of the board that the book makes is the subtour of the plan's sheet
pub row_is : (j : Job) (cost runs n : ℕ) → j.outcome ≡ Planned cost runs → 1 ≤ n → n ≤ cost → (orders : List Order) (states : List NozzleState) → (book_of j).types ≡ map entered orders → (book_of j).nozzles ≡ states
    → row_of orders states j.flow (n - 1) ≡ get_or (state_of j).rows (n - 1) []
row_is j cost runs n is l h orders states e s =
    let b = book_of j in
    sym (
    ap (λ (o : Outcome). get_or (rows_by o b.types b.nozzles j.flow) (n - 1) []) is
    ∙ (get_or-map-range_with_len (row_of (orders_in b.types) b.nozzles j.flow) 0 cost (n - 1) (n - 1) [] (omega arith) (omega arith)
    ∙ ap₂ (λ (x : List Order) (y : List NozzleState). row_of x y j.flow (n - 1)) (orders_are b.types orders e) s)
    )

-- bytes that were written into the first places, and later ones that were not
module _ (out out' w : List ℕ) (r : ℕ) (same : length out' ≡ length out) (room : r ≤ length out) where
  pub front : length w ≡ r → ((k : ℕ) → k < r → get_or out' k 0 ≡ get_or w k 0) → take r out' ≡ w
  front e h =
      let l = length-take-le r out' (omega arith) in
      ext_get_or 0 (take r out') w (omega arith) (λ k m. get_or-take r out' k 0 (omega arith) ∙ h k (omega arith))

  pub back : ((k : ℕ) → r ≤ k → get_or out' k 0 ≡ get_or out k 0) → drop r out' ≡ drop r out
  back h =
      let l = length-drop r out' in
      let m = length-drop r out in
      ext_get_or 0 (drop r out') (drop r out) (omega arith) (λ k z. get_or-drop r out' k 0 ∙ (h (r + k) (omega arith) ∙ sym (get_or-drop r out k 0)))
