-- Sums below n.
use Rattle.std.proofs.Common.{◌≡◌, ℕ, zero, suc, ◌+◌, ◌*◌, ◌<◌, ◌≤◌, ◌≢◌, inl, inr, List, length, take, refl, ap, ◌∙◌, add-one, arith}
use Rattle.std.specs.List.{sum_by}
use Rattle.std.proofs.lemmas.Bool.{cases_lt}
use Rattle.std.proofs.Math.Seq.{take-length}
use Rattle.std.proofs.lemmas.List.Sums.{sum_by_more}
use Rattle.flows.specs.declared.Arc.{Arc}
use Rattle.flows.specs.Sums.{sum_to}
use Rattle.flows.specs.Flows.{no_arc, arc_at, sum_arcs}

pub sum_balance : (f g h k : ℕ → ℕ) → ((i : ℕ) → f i + g i ≡ h i + k i) → (n : ℕ) → sum_to n f + sum_to n g ≡ sum_to n h + sum_to n k
sum_balance f g h k e zero = omega arith
sum_balance f g h k e (suc n) = omega (arith, e n, sum_balance f g h k e n)

pub sum_same : (f g : ℕ → ℕ) (n : ℕ) → ((i : ℕ) → i < n → f i ≡ g i) → sum_to n f ≡ sum_to n g
sum_same f g zero e = omega arith
sum_same f g (suc n) e = omega (arith, e n (omega arith), sum_same f g n (λ i h. e i (omega arith)))

pub sum_none : (f : ℕ → ℕ) (n : ℕ) → ((i : ℕ) → i < n → f i ≡ 0) → sum_to n f ≡ 0
sum_none f zero e = omega arith
sum_none f (suc n) e = omega (arith, e n (omega arith), sum_none f n (λ i h. e i (omega arith)))

pub sum_le : (f g : ℕ → ℕ) (n : ℕ) → ((i : ℕ) → i < n → f i ≤ g i) → sum_to n f ≤ sum_to n g
sum_le f g zero e = omega arith
sum_le f g (suc n) e = omega (arith, e n (omega arith), sum_le f g n (λ i h. e i (omega arith)))

-- where the larger terms come to no more, the terms are equal
pub sum_equal : (f g : ℕ → ℕ) (n : ℕ) → ((i : ℕ) → i < n → f i ≤ g i) → sum_to n g ≤ sum_to n f → (i : ℕ) → i < n → f i ≡ g i
sum_equal f g zero e s i h = absurd (omega arith)
sum_equal f g (suc n) e s i h =
    let m = sum_le f g n (λ j l. e j (omega arith)) in
    let r = e n (omega arith) in
    elim (cases_lt i n) [
      | inl l ↦ sum_equal f g n (λ j y. e j (omega arith)) (omega arith) i l
      | inr l ↦ let at : i ≡ n = omega arith in rw at (omega arith)
    ]

pub sum_linear : (f g h : ℕ → ℕ) (c n : ℕ) → ((i : ℕ) → f i ≡ g i + h i * c) → sum_to n f ≡ sum_to n g + sum_to n h * c
sum_linear f g h c zero e = omega arith
sum_linear f g h c (suc n) e = omega (arith, e n, sum_linear f g h c n e)

-- one term changes
pub sum_change : (f g : ℕ → ℕ) (i n : ℕ) → i < n → ((j : ℕ) → j ≢ i → f j ≡ g j) → sum_to n f + g i ≡ sum_to n g + f i
sum_change f g i zero h e = absurd (omega arith)
sum_change f g i (suc n) h e =
    elim (cases_lt i n) [
      | inl l ↦ let ne : n ≢ i = omega arith in omega (arith, sum_change f g i n l e, e n ne)
      | inr l ↦ let at : i ≡ n = omega arith in let u = sum_same f g n (λ j k. e j (omega arith)) in rw at (omega arith)
    ]

-- one term of a sum
pub term_le : (f : ℕ → ℕ) (i n : ℕ) → i < n → f i ≤ sum_to n f
term_le f i zero h = absurd (omega arith)
term_le f i (suc n) h =
    elim (cases_lt i n) [
      | inl l ↦ omega (arith, term_le f i n l)
      | inr l ↦ let at : i ≡ n = omega arith in rw at (omega arith)
    ]

-- a sum over the places of a list of arcs, as the library's sum over its elements
sum_taken : (f : Arc → ℕ) (arcs : List Arc) (n : ℕ) → n ≤ length arcs → sum_to n (λ i. f (arc_at arcs i)) ≡ sum_by f (take n arcs)
sum_taken f arcs zero h = refl
sum_taken f arcs (suc n) h =
    let more : sum_by f (take (suc n) arcs) ≡ sum_by f (take n arcs) + f (arc_at arcs n) = rw add-one at (sum_by_more f arcs n no_arc (omega arith)) in
    omega (arith, sum_taken f arcs n (omega arith))

pub sum_arcs_by : (f : Arc → ℕ) (arcs : List Arc) → sum_arcs f arcs ≡ sum_by f arcs
sum_arcs_by f arcs = sum_taken f arcs (length arcs) (omega arith) ∙ ap (sum_by f) (take-length arcs)
