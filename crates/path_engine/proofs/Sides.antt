-- A set of nodes as the bits of a number.
use Rattle.std.proofs.Common.{◌≡◌, ℕ, zero, suc, ◌^◌, ◌<◌, ◌≤◌, true, false, ◌||◌, eqb, ◌≢◌, ◌⊎◌, sym, refl, ap, ◌∙◌, inl, inr, arith}
use lib.Bits.{bit_or}
use Rattle.std.proofs.lemmas.Bool.Decides.{nat_tests}
use Rattle.std.proofs.lemmas.Bool.{cases_eq, eqb-true}
use Rattle.std.proofs.lemmas.Nat.Bits.{bit_at_or, bit_at-lt, bit_at-pow_same, bit_at-pow_other}
use Rattle.flows.specs.Flows.{inside}
use Rattle.path_engine.specs.Searches.{outside}

inside_or : (s t v : ℕ) → inside (bit_or s t) v ≡ (inside s v || inside t v)
inside_or s t v = rw (bit_at_or s t v) (let a = bit_at-lt s v in let b = bit_at-lt t v in grind (arith, nat_tests))

single : (u v : ℕ) → inside (2 ^ u) v ≡ eqb u v
single u v =
    elim (cases_eq v u) [
      | inl e ↦ rw e (let z = bit_at-pow_same u in grind (arith, nat_tests))
      | inr ne ↦ let z = bit_at-pow_other u v ne in grind (arith, nat_tests)
    ]

-- the set of node 0 alone
pub alone : (v : ℕ) → inside 1 v ≡ true → v ≡ 0
alone v h = sym (eqb-true 0 v (sym (single 0 v) ∙ h))

pub outside_alone : (n : ℕ) → outside (inside 1) (suc n) ≡ n
unfolding outside
outside_alone zero = refl
outside_alone (suc n) = let i = outside_alone n in let j = single 0 (suc n) in grind (arith, nat_tests)

-- the set s with the node h
module _ (s h : ℕ) where
  inserted : (v : ℕ) → inside (bit_or s (2 ^ h)) v ≡ (inside s v || eqb h v)
  inserted v = inside_or s (2 ^ h) v ∙ ap (λ b. inside s v || b) (single h v)

  pub inserted_cases : (v : ℕ) → inside (bit_or s (2 ^ h)) v ≡ true → (v ≡ h) ⊎ ((v ≢ h) × (inside s v ≡ true))
  inserted_cases v e = let i = inserted v in elim (cases_eq v h) [ inl q ↦ inl q | inr ne ↦ inr (ne, grind (arith, nat_tests)) ]

  pub inserted_new : inside (bit_or s (2 ^ h)) h ≡ true
  inserted_new = let i = inserted h in grind (arith, nat_tests)

  pub inserted_kept : (v : ℕ) → inside s v ≡ true → inside (bit_or s (2 ^ h)) v ≡ true
  inserted_kept v e = let i = inserted v in grind (arith, nat_tests)

  no_more : (n : ℕ) → outside (inside (bit_or s (2 ^ h))) n ≤ outside (inside s) n
  unfolding outside
  no_more zero = omega arith
  no_more (suc n) = let i = no_more n in let j = inserted n in grind (arith, nat_tests)

  pub outside_less : (n : ℕ) → h < n → inside s h ≡ false → outside (inside (bit_or s (2 ^ h))) n < outside (inside s) n
  unfolding outside
  outside_less zero l out = absurd (omega arith)
  outside_less (suc n) l out =
      let j = inserted n in
      elim (cases_eq h n) [
        | inl e ↦ let i = no_more n in let out' : inside s n ≡ false = rw e at out in grind (arith, nat_tests)
        | inr ne ↦ let i = outside_less n (omega arith) out in grind (arith, nat_tests)
      ]
