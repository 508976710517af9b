-- Sums over a job's arcs.
use Rattle.std.proofs.Common.{◌≡◌, ℕ, zero, suc, ◌+◌, ◌<◌, Bool, true, false, List, [], ◌∷◌, ◌++◌, length, get_or, refl, ◌∙◌, arith}
use Rattle.flows.specs.declared.Arc.{Arc}
use Rattle.flows.specs.Sums.{sum_to, only}
use Rattle.flows.specs.Flows.{no_arc, arc_at, sum_flow}
use Rattle.flows.proofs.Sums.{sum_same, sum_none, term_le}
use Rattle.sheets.specs.declared.NozzleState.{NozzleState}
use Rattle.sheets.specs.declared.Order.{Order}
use Rattle.sheets.specs.Sheets.{in_service}
use Rattle.sheets.specs.Boards.{may, supply, choice, exit, join_to, when, board_arcs}
use Rattle.sheets.proofs.Sums.{sum_append, sum_none_of, only_true, only_none}

-- the sum of f over arcs, with what x says of each place
abbrev along : (Arc → ℕ → ℕ) → List Arc → (ℕ → ℕ) → ℕ
along f arcs x = sum_to (length arcs) (λ p. f (arc_at arcs p) (x p))

along_join : (f : Arc → ℕ → ℕ) (g : ℕ → List Arc) (x : ℕ → ℕ) (n : ℕ) → along f (join_to n g) x ≡ sum_to n (λ i. along f (g i) (λ p. x (length (join_to i g) + p)))
along_join f g x zero = refl
along_join f g x (suc n) = omega (arith, sum_append (λ p a. f a (x p)) no_arc (join_to n g) (g n), along_join f g x n)

along_when : (f : Arc → ℕ → ℕ) (b : Bool) (a : Arc) (x : ℕ → ℕ) → along f (when b (a ∷ [])) x ≡ only b (f a (x 0))
along_when f true a x = omega arith
along_when f false a x = refl

-- the arcs of a job, part by part
abbrev pub supplies : List Order → ℕ → List Arc
supplies orders t = supply orders t ∷ []

abbrev pub choices : List Order → List NozzleState → ℕ → ℕ → List Arc
choices orders nozzles t j = when (may orders nozzles t j) (choice orders t j ∷ [])

abbrev pub choices_of : List Order → List NozzleState → ℕ → List Arc
choices_of orders nozzles t = join_to (length nozzles) (choices orders nozzles t)

abbrev pub exits : List Order → List NozzleState → ℕ → List Arc
exits orders nozzles j = when (in_service nozzles j) (exit orders j ∷ [])

module _ (orders : List Order) (nozzles : List NozzleState) (xs : List ℕ) where
  -- what flows on the arcs: to the type t, from it to the nozzle j, and on to the sink
  unfoldable pub in-to : ℕ → ℕ
  in-to t = get_or xs (length (join_to t (supplies orders)) + 0) 0

  unfoldable pub on : ℕ → ℕ → ℕ
  on t j = get_or xs (length (join_to (length orders) (supplies orders)) + (length (join_to t (choices_of orders nozzles)) + (length (join_to j (choices orders nozzles t)) + 0))) 0

  unfoldable pub out_of : ℕ → ℕ
  out_of j = get_or xs (length (join_to (length orders) (supplies orders)) + (length (join_to (length orders) (choices_of orders nozzles)) + (length (join_to j (exits orders nozzles)) + 0))) 0

  -- a sum over the arcs, by types and nozzles
  pub sum_arcs_lem : (f : Arc → ℕ → ℕ)
      → sum_flow f (board_arcs orders nozzles) xs
      ≡ sum_to (length orders) (λ t. f (supply orders t) (in-to t))
      + (sum_to (length orders) (λ t. sum_to (length nozzles) (λ j. only (may orders nozzles t j) (f (choice orders t j) (on t j))))
      + sum_to (length nozzles) (λ j. only (in_service nozzles j) (f (exit orders j) (out_of j))))
  unfolding in-to on out_of
  sum_arcs_lem f =
      let S = join_to (length orders) (supplies orders) in
      let C = join_to (length orders) (choices_of orders nozzles) in
      let E = join_to (length nozzles) (exits orders nozzles) in
      let x : ℕ → ℕ = λ p. get_or xs p 0 in
      let xc : ℕ → ℕ = λ p. x (length S + p) in
      let xe : ℕ → ℕ = λ p. xc (length C + p) in
      omega (
        arith,
        sum_append (λ p a. f a (x p)) no_arc S (C ++ E),
        sum_append (λ p a. f a (xc p)) no_arc C E,
        along_join f (supplies orders) x (length orders),
        sum_same (λ t. along f (supplies orders t) (λ p. x (length (join_to t (supplies orders)) + p))) (λ t. f (supply orders t) (in-to t)) (length orders) (λ t h. omega arith),
        along_join f (choices_of orders nozzles) xc (length orders),
        sum_same (λ t. along f (choices_of orders nozzles t) (λ p. xc (length (join_to t (choices_of orders nozzles)) + p))) (λ t. sum_to (length nozzles) (λ j. only (may orders nozzles t j) (f (choice orders t j) (on t j)))) (length orders)
            (λ t h. along_join f (choices orders nozzles t) (λ p. xc (length (join_to t (choices_of orders nozzles)) + p)) (length nozzles)
            ∙ sum_same _ _ (length nozzles) (λ j h. along_when f (may orders nozzles t j) (choice orders t j) _)),
        along_join f (exits orders nozzles) xe (length nozzles),
        sum_same (λ j. along f (exits orders nozzles j) (λ p. xe (length (join_to j (exits orders nozzles)) + p))) (λ j. only (in_service nozzles j) (f (exit orders j) (out_of j))) (length nozzles)
            (λ j h. along_when f (in_service nozzles j) (exit orders j) _),
      )

  -- what is 0 on each arc is 0 on each part, and the other way round
  abbrev pub Parts : (Arc → ℕ → ℕ) → Type 0
  Parts f =
      ((t : ℕ) → t < length orders → f (supply orders t) (in-to t) ≡ 0)
      × ((t j : ℕ) → t < length orders → j < length nozzles → may orders nozzles t j ≡ true → f (choice orders t j) (on t j) ≡ 0)
      × ((j : ℕ) → j < length nozzles → in_service nozzles j ≡ true → f (exit orders j) (out_of j) ≡ 0)

  pub to_parts : (f : Arc → ℕ → ℕ) → ((p : ℕ) → p < length (board_arcs orders nozzles) → f (arc_at (board_arcs orders nozzles) p) (get_or xs p 0) ≡ 0) → Parts f
  to_parts f e =
      let z : sum_flow f (board_arcs orders nozzles) xs ≡ 0 = sum_none _ (length (board_arcs orders nozzles)) e in
      let s = sum_arcs_lem f in (
        λ t h. omega (arith, term_le (λ t. f (supply orders t) (in-to t)) t (length orders) h),
        λ t j h l m.
            omega (
              arith,
              term_le (λ t. sum_to (length nozzles) (λ j. only (may orders nozzles t j) (f (choice orders t j) (on t j)))) t (length orders) h,
              term_le (λ j. only (may orders nozzles t j) (f (choice orders t j) (on t j))) j (length nozzles) l,
              only_true (may orders nozzles t j) (f (choice orders t j) (on t j)) m,
            ),
        λ j l m. omega (arith, term_le (λ j. only (in_service nozzles j) (f (exit orders j) (out_of j))) j (length nozzles) l, only_true (in_service nozzles j) (f (exit orders j) (out_of j)) m),
      )

  pub from_parts : (f : Arc → ℕ → ℕ) → Parts f → (p : ℕ) → p < length (board_arcs orders nozzles) → f (arc_at (board_arcs orders nozzles) p) (get_or xs p 0) ≡ 0
  from_parts f e p h =
      omega (
        arith,
        term_le (λ p. f (arc_at (board_arcs orders nozzles) p) (get_or xs p 0)) p (length (board_arcs orders nozzles)) h,
        sum_arcs_lem f,
        sum_none _ (length orders) e.0,
        sum_none_of _ (length orders) (length nozzles) (λ t j h l. only_none (may orders nozzles t j) (f (choice orders t j) (on t j)) (e.1 t j h l)),
        sum_none _ (length nozzles) (λ j l. only_none (in_service nozzles j) (f (exit orders j) (out_of j)) (e.2 j l)),
      )
