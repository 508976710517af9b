-- Where the parts of a joined list stand.
use Rattle.std.proofs.Common.{◌≡◌, ℕ, zero, suc, ◌+◌, ◌-◌, ◌<◌, List, length, get_or, refl, ap, ◌∙◌, inl, inr, add-one, arith, length-append, get_or-append-add}
use Rattle.std.proofs.lemmas.List.{get_or_append_left, get_or-append_right}
use Rattle.std.proofs.lemmas.Bool.{cases_lt}
use Rattle.sheets.specs.Boards.{join_to}

module _ {X : Type 0} (g : ℕ → List X) where
  pub length_more : (n : ℕ) → length (join_to (n + 1) g) ≡ length (join_to n g) + length (g n)
  length_more n = rw add-one (length-append (join_to n g) (g n))

  -- the place q of the part i, below n, lies within
  pub join_fits : (i q n : ℕ) → i < n → q < length (g i) → length (join_to i g) + q < length (join_to n g)
  join_fits i q zero h l = absurd (omega arith)
  join_fits i q (suc n) h l =
      elim (cases_lt i n) [
        | inl m ↦ omega (arith, join_fits i q n m l, length-append (join_to n g) (g n))
        | inr m ↦ let at : i ≡ n = omega arith in omega (arith, length-append (join_to n g) (g n), ap (λ k. length (join_to k g)) at, ap (λ k. length (g k)) at)
      ]

  -- what stands there
  pub join_at : (d : X) (i q n : ℕ) → i < n → q < length (g i) → get_or (join_to n g) (length (join_to i g) + q) d ≡ get_or (g i) q d
  join_at d i q zero h l = absurd (omega arith)
  join_at d i q (suc n) h l =
      elim (cases_lt i n) [
        | inl m ↦ get_or_append_left (join_to n g) (g n) d _ (join_fits i q n m l) ∙ join_at d i q n m l
        | inr m ↦ let at : i ≡ n = omega arith in rw at (get_or-append-add (join_to n g) (g n) q d)
      ]

  -- what holds of each part's elements holds of all
  pub join_each : (P : X → Type 0) (d : X) (n : ℕ) → ((i q : ℕ) → i < n → q < length (g i) → P (get_or (g i) q d)) → (p : ℕ) → p < length (join_to n g) → P (get_or (join_to n g) p d)
  join_each P d zero e p h = absurd (omega arith)
  join_each P d (suc n) e p h =
      elim (cases_lt p (length (join_to n g))) [
        | inl l ↦ rw (get_or_append_left (join_to n g) (g n) d p l) (join_each P d n (λ i q m. e i q (omega arith)) p l)
        | inr l ↦
            rw (get_or-append_right (join_to n g) (g n) (length (join_to n g)) p d refl l)
            (e n (p - length (join_to n g)) (omega arith) (omega (arith, length-append (join_to n g) (g n))))
      ]
