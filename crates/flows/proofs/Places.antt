-- Lists of what flows on each arc: of zeros, and where one number changes.
use Rattle.std.proofs.Common.{◌≡◌, ℕ, zero, suc, ◌+◌, ◌<◌, Bool, List, length, get_or, set, replicate, refl, inl, inr, arith, get_or-set_other, get_or-set_same}
use Rattle.std.proofs.lemmas.Bool.{cases_eq}
use Rattle.flows.specs.declared.Arc.{Arc}
use Rattle.flows.specs.Sums.{only}
use Rattle.flows.specs.Flows.{sum_flow, arc_at, EachArc}
use Rattle.flows.proofs.Sums.{sum_change}

-- a list of zeros holds 0 everywhere, and past its end too
pub zeros : (n k : ℕ) → ◌≡◌ {A = ℕ} (get_or (replicate n 0) k 0) 0
zeros zero k = refl
zeros (suc n) zero = refl
zeros (suc n) (suc k) = zeros n k

only_sum : (t : Bool) (a b c : ℕ) → a ≡ b + c → only t a ≡ only t b + only t c
only_sum t a b c e = grind arith

module _ (arcs : List Arc) (xs : List ℕ) (i y : ℕ) (h : i < length arcs) (k : i < length xs) where
  -- what a write does to any sum over the arcs
  pub sum_set : (f : Arc → ℕ → ℕ) → sum_flow f arcs (set xs i y) + f (arc_at arcs i) (get_or xs i 0) ≡ sum_flow f arcs xs + f (arc_at arcs i) y
  sum_set f = rw get_or-set_same at (sum_change (λ j. f (arc_at arcs j) (get_or (set xs i y) j 0)) (λ j. f (arc_at arcs j) (get_or xs j 0)) i (length arcs) h (λ j ne. rw get_or-set_other))

  -- to a sum over the arcs that pass a test
  pub sum_more : (m : ℕ) → y ≡ get_or xs i 0 + m → (p : Arc → Bool) → sum_flow (λ a x. only (p a) x) arcs (set xs i y) ≡ sum_flow (λ a x. only (p a) x) arcs xs + only (p (arc_at arcs i)) m
  sum_more m e p = omega (arith, sum_set (λ a x. only (p a) x), only_sum (p (arc_at arcs i)) y (get_or xs i 0) m e)

  pub sum_less : (m : ℕ) → get_or xs i 0 ≡ y + m → (p : Arc → Bool) → sum_flow (λ a x. only (p a) x) arcs (set xs i y) + only (p (arc_at arcs i)) m ≡ sum_flow (λ a x. only (p a) x) arcs xs
  sum_less m e p = omega (arith, sum_set (λ a x. only (p a) x), only_sum (p (arc_at arcs i)) (get_or xs i 0) y m e)

  pub each_set : (P : Arc → ℕ → Type 0) → EachArc P arcs xs → P (arc_at arcs i) y → EachArc P arcs (set xs i y)
  each_set P e p j l = elim (cases_eq j i) [ inl q ↦ rw (q, get_or-set_same) p | inr ne ↦ rw get_or-set_other (e j l) ]
