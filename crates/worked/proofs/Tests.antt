-- Tests that compute, and what a test says that passes.
use Rattle.std.proofs.Common.{◌≡◌, ℕ, zero, suc, ◌<◌, ◌≤◌, Bool, true, ◌&&◌, ◌||◌, eqb, ltb, leb, inl, inr, arith}
use Rattle.std.proofs.lemmas.Bool.{cases_lt, and_parts, or_cases, eqb-true, leb-true, ltb-true}

pub data Test : Type 0 where
  yes : Bool → Test
  equal : (a b : ℕ) → Test
  at_most : (a b : ℕ) → Test
  less : (a b : ℕ) → Test
  also : Test → Test → Test
  -- of each number below n
  each : (n : ℕ) → (ℕ → Test) → Test
  -- a test that counts where a is less than b
  if_less : (a b : ℕ) → Test → Test

-- p holds of each number below n
abbrev all_to : ℕ → (ℕ → Bool) → Bool
all_to zero p = true
all_to (suc n) p = all_to n p && p n

all_at : (p : ℕ → Bool) (n : ℕ) → all_to n p ≡ true → (i : ℕ) → i < n → p i ≡ true
all_at p zero e i h = absurd (omega arith)
all_at p (suc n) e i h =
    let both = and_parts (all_to n p) (p n) e in
    elim (cases_lt i n) [
      | inl l ↦ all_at p n both.0 i l
      | inr l ↦ let at : i ≡ n = omega arith in rw at both.1
    ]

abbrev pub passes : Test → Bool
passes (yes b) = b
passes (equal a b) = eqb a b
passes (at_most a b) = leb a b
passes (less a b) = ltb a b
passes (also s t) = passes s && passes t
passes (each n t) = all_to n (λ i. passes (t i))
passes (if_less a b t) = leb b a || passes t

abbrev pub Says : Test → Type 0
Says (yes b) = b ≡ true
Says (equal a b) = a ≡ b
Says (at_most a b) = a ≤ b
Says (less a b) = a < b
Says (also s t) = Says s × Says t
Says (each n t) = (i : ℕ) → i < n → Says (t i)
Says (if_less a b t) = a < b → Says t

pub sound : (t : Test) → passes t ≡ true → Says t
sound (yes b) e = e
sound (equal a b) e = eqb-true a b e
sound (at_most a b) e = leb-true a b e
sound (less a b) e = ltb-true a b e
sound (also s t) e = let both = and_parts (passes s) (passes t) e in (sound s both.0, sound t both.1)
sound (each n t) e = λ i h. sound (t i) (all_at (λ i. passes (t i)) n e i h)
sound (if_less a b t) e = λ h. elim (or_cases (leb b a) (passes t) e) [ inl l ↦ absurd (omega (arith, leb-true b a l)) | inr r ↦ sound t r ]
