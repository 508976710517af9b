-- Among n heights there is one at which none of n nodes stands, if one of them stands above.
use Rattle.std.proofs.Common.{◌≡◌, ℕ, zero, suc, ◌+◌, ◌<◌, ◌≤◌, ltb, ◌⊎◌, inl, inr, arith}
use Rattle.std.proofs.lemmas.Bool.{cases_eq, cases_lt}
use Rattle.std.proofs.lemmas.Bool.Decides.{nat_tests}
use Rattle.flows.specs.Sums.{sum_to, only}
use Rattle.push_engine.proofs.Sums.{few, sum_less}

-- how many of the first n nodes stand below h
abbrev below : (ℕ → ℕ) → ℕ → ℕ → ℕ
below d h n = sum_to n (λ v. only (ltb (d v) h) 1)

-- whether one of the first n nodes stands at h
stands : (d : ℕ → ℕ) (h n : ℕ) → ((v : ℕ) × (v < n) × (d v ≡ h)) ⊎ ((v : ℕ) → v < n → d v ≡ h → ⊥)
stands d h zero = inr (λ v l e. omega arith)
stands d h (suc n) =
    elim (cases_eq (d n) h) [
      | inl e ↦ inl (n, omega arith, e)
      | inr ne ↦ elim (stands d h n) [
        | inl w ↦ inl (w.0, omega (arith, w.1), w.2)
        | inr out ↦ inr (λ v l e. elim (cases_lt v n) [ inl m ↦ out v m e | inr m ↦ let q : v ≡ n = omega arith in ne (rw q at e) ])
      ]
    ]

-- a height from b on, below b + n, at which none of the first n nodes stands
pub record IsGap (d : ℕ → ℕ) (n b g : ℕ) : Type 0 where
  pub from : b ≤ g
  pub low : g < b + n
  pub free : (v : ℕ) → v < n → d v ≡ g → ⊥

module _ (d : ℕ → ℕ) (n b v : ℕ) (v-in : v < n) (high : b + n ≤ d v) where
  next : (h u : ℕ) → u < n → d u ≡ h → h ≤ b + below d h n → h + 1 ≤ b + below d (h + 1) n
  next h u u-in e le =
      omega (arith, sum_less (λ i. only (ltb (d i) h) 1) (λ i. only (ltb (d i) (h + 1)) 1) n u (λ i. grind (arith, nat_tests)) u-in (grind (arith, nat_tests)))

  last : (h : ℕ) → h ≡ b + n → h ≤ b + below d h n → ⊥
  last h e le =
      omega (
        arith,
        few n (λ _. 1) (λ _. omega arith),
        sum_less (λ i. only (ltb (d i) h) 1) (λ _. 1) n v (λ i. grind (arith, nat_tests)) v-in (grind (arith, nat_tests)),
      )

  climb : (k h : ℕ) → b ≤ h → h + k ≡ b + n → h ≤ b + below d h n → (g : ℕ) × IsGap d n b g
  climb zero h from e le = absurd (last h (omega arith) le)
  climb (suc k) h from e le =
      elim (stands d h n) [
        | inl w ↦ climb k (h + 1) (omega arith) (omega arith) (next h w.0 w.1 w.2 le)
        | inr out ↦ (h, record { from = from; low = omega arith; free = out })
      ]

  pub gap : (g : ℕ) × IsGap d n b g
  gap = climb n b (omega arith) (omega arith) (omega arith)
