-- The row that a job shows is the line's.
use Rattle.std.proofs.Common.{◌≡◌, ℕ, ◌-◌, ◌≤◌, List, [], ◌++◌, length, get_or, take, None, Option, Result, sym, ap, ◌∙◌, subst, arith}
use Rattle.std.proofs.lemmas.List.{take-append-le}
use Rattle.book.specs.declared.faults.JobFault.{JobFault}
use Rattle.book.specs.Events.{row, Accepted}
use Rattle.book.specs.Turns.{show_subtour, refusal}
use Rattle.job.specs.declared.job.Job.{Job}
use Rattle.job.specs.Jobs.{book_of, state_of}
use Rattle.report.specs.Lines.{numbers_text, subtour_text, subtour_refusal, Written, Reported}

same_row : (a b : List ℕ) → row a ≡ row b → a ≡ b
same_row a b h = cc

not_refused : (o : Option JobFault) (text line out : List ℕ) (r : Result ℕ JobFault) (out' : List ℕ) → o ≡ None → text ≡ line → Written text out r out' → Reported o line out r out'
not_refused o text line out r out' none same h =
    let P : Option JobFault → Type 0 = λ x. Reported x line out r out' in
    let Q : List ℕ → Type 0 = λ t. Written t out r out' in
    subst P (sym none) (subst Q same h)

pub row_line : (j : Job) (n k p : ℕ) (shown post numbers out : List ℕ) (r : Result ℕ JobFault) (out' : List ℕ)
    → k ≡ length (book_of j).nozzles → p ≡ k → length shown ≡ p
    → Accepted (state_of j) (show_subtour n p) (row (take (length (book_of j).nozzles) shown)) (state_of j)
    → take k numbers ≡ take k (shown ++ post)
    → Written (numbers_text (take (k - 0) numbers)) out r out'
    → Reported (subtour_refusal j n) (subtour_text j n) out r out'
row_line j n k p shown post numbers out r out' all places long accepted copied h =
    let none : subtour_refusal j n ≡ None = ap (λ i. refusal (book_of j) (show_subtour n i)) (sym (places ∙ all)) ∙ accepted.allowed in
    let whole : k - 0 ≡ k = omega arith in
    let fits : k ≤ length shown = omega arith in
    let bytes = same_row (take (length (book_of j).nozzles) shown) (get_or (state_of j).rows (n - 1) []) accepted.accepts.0 in
    let shows = ap (λ i. take i numbers) whole ∙ copied ∙ take-append-le k shown post fits ∙ ap (λ i. take i shown) all ∙ bytes in
    not_refused (subtour_refusal j n) (numbers_text (take (k - 0) numbers)) (subtour_text j n) out r out' none (ap numbers_text shows) h
