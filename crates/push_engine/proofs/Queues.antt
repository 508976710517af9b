-- The waiting line: how often each node stands in it, as what is pending changes.
use Rattle.std.proofs.Common.{◌≡◌, ℕ, ◌+◌, ◌<◌, ◌≤◌, Bool, true, false, not, ◌&&◌, eqb, ◌≢◌, List, [], ◌∷◌, ◌++◌, length, sym, refl, ◌∙◌, inl, inr, arith}
use Rattle.std.proofs.lemmas.Bool.{cases_eq, cases_lt}
use Rattle.std.proofs.lemmas.Bool.Decides.{nat_tests}
use Rattle.flows.specs.Sums.{sum_to, only}
use Rattle.flows.proofs.Sums.{sum_none, sum_change}
use Rattle.push_engine.specs.Lines.{tally}
use Rattle.push_engine.proofs.Sums.{few}

tally_push : (u a : ℕ) (w : List ℕ) → tally u (w ++ a ∷ []) ≡ tally u w + only (eqb a u) 1
tally_push u a [] = omega arith
tally_push u a (b ∷ w) = omega (arith, tally_push u a w)

-- as many wait as the nodes are counted
tally_all : (n : ℕ) (w : List ℕ) → ((u : ℕ) → n ≤ u → tally u w ≡ 0) → length w ≡ sum_to n (λ u. tally u w)
tally_all n [] h = sym (sum_none (λ _. 0) n (λ _ _. refl))
tally_all n (a ∷ w) h =
    let a_in : a < n = elim (cases_lt a n) [ inl l ↦ l | inr l ↦ let z = h a l in absurd (grind (arith, nat_tests)) ] in
    let i = tally_all n w (λ u l. omega (arith, h u l)) in
    let s = sum_change (λ u. only (eqb a u) 1 + tally u w) (λ u. tally u w) a n a_in (λ u ne. grind (arith, nat_tests)) in
    grind (arith, nat_tests)

-- The lemmas below take any test in the place of `pending p`, so that `grind` does not open it.
abbrev Once : (ℕ → Bool) → List ℕ → Type 0
Once f w = (u : ℕ) → tally u w ≡ only (f u) 1

abbrev OnceBut : (ℕ → Bool) → ℕ → List ℕ → Type 0
OnceBut f v w = (u : ℕ) → tally u w ≡ only (f u && not (eqb u v)) 1

-- there is room for a node that does not wait
free : (n : ℕ) (f : ℕ → Bool) (v a : ℕ) (w : List ℕ) → ((u : ℕ) → n ≤ u → f u ≡ false) → OnceBut f v w → a < n → tally a w ≡ 0 → length w < n
free n f v a w most q a_in out =
    let z : (u : ℕ) → n ≤ u → tally u (a ∷ w) ≡ 0 = λ u l. let t = q u in let m = most u l in grind (arith, nat_tests) in
    let o : (u : ℕ) → tally u (a ∷ w) ≤ 1 = λ u. let t = q u in elim (cases_eq a u) [ inl e ↦ let y : tally u w ≡ 0 = rw e at out in grind (arith, nat_tests) | inr ne ↦ grind (arith, nat_tests) ] in
    omega (arith, tally_all n (a ∷ w) z, few n (λ u. tally u (a ∷ w)) o)

module _ (f : ℕ → Bool) (v : ℕ) (w : List ℕ) (h : OnceBut f v w) where
  -- for v itself, and for a node where nothing was to be done
  pub free_self : (n : ℕ) → ((u : ℕ) → n ≤ u → f u ≡ false) → v < n → length w < n
  free_self n most v-in = free n f v v w most h v-in (let t = h v in grind (arith, nat_tests))

  pub free_idle : (n a : ℕ) → ((u : ℕ) → n ≤ u → f u ≡ false) → a < n → f a ≡ false → length w < n
  free_idle n a most a_in idle = free n f v a w most h a_in (h a ∙ rw idle)

  -- nothing is left to be done at v, or v waits again
  pub rested : f v ≡ false → Once f w
  rested n u = elim (cases_eq u v) [ inl e ↦ let t = h u in let b : f u ≡ false = rw e n in grind (arith, nat_tests) | inr ne ↦ let t = h u in grind (arith, nat_tests) ]

  pub back : (w' : List ℕ) → w' ≡ w ++ v ∷ [] → f v ≡ true → Once f w'
  back w' y n u =
      rw (y, tally_push) (elim (cases_eq u v) [ inl e ↦ let t = h u in let b : f u ≡ true = rw e n in grind (arith, nat_tests) | inr ne ↦ let t = h u in grind (arith, nat_tests) ])

  -- something changes only at v
  pub quiet : (g : ℕ → Bool) → ((u : ℕ) → u ≢ v → g u ≡ f u) → OnceBut g v w
  quiet g same u = elim (cases_eq u v) [ inl e ↦ let t = h u in grind (arith, nat_tests) | inr ne ↦ let t = h u in let s = same u ne in grind (arith, nat_tests) ]

  -- something changes at v and at a, which waits from now on
  pub joined : (g : ℕ → Bool) (a : ℕ) (w' : List ℕ) → w' ≡ w ++ a ∷ [] → a ≢ v → f a ≡ false → g a ≡ true → ((u : ℕ) → u ≢ v → u ≢ a → g u ≡ f u) → OnceBut g v w'
  joined g a w' y ne out in' same u =
      rw (y, tally_push)
      (elim (cases_eq u v) [
        | inl e ↦ let t = h u in grind (arith, nat_tests)
        | inr nv ↦ elim (cases_eq u a) [
          | inl e ↦ let t = h u in let b : f u ≡ false = rw e out in let c : g u ≡ true = rw e in' in grind (arith, nat_tests)
          | inr na ↦ let t = h u in let s = same u nv na in grind (arith, nat_tests)
        ]
      ])

-- the first in the line
pub called : (f : ℕ → Bool) (v : ℕ) (l w : List ℕ) → l ≡ v ∷ w → Once f l → (f v ≡ true) × OnceBut f v w
called f v l w y all =
    let q : Once f (v ∷ w) = rw y at all in
    (let t = q v in grind (arith, nat_tests), λ u. elim (cases_eq u v) [ inl e ↦ rw e (let t = q v in grind (arith, nat_tests)) | inr ne ↦ let t = q u in grind (arith, nat_tests) ])
