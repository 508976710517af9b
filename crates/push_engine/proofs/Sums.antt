-- What one write to a list does to a sum.
use Rattle.std.proofs.Common.{◌≡◌, ℕ, zero, suc, ◌+◌, ◌-◌, ◌*◌, ◌<◌, ◌≤◌, eqb, List, length, get_or, set, ap, ◌∙◌, inl, inr, add-mul, add-sub_of_le, arith, length-set, get_or-set_other, get_or-set_same}
use Rattle.std.proofs.lemmas.Bool.{cases_lt, cases_eq}
use Rattle.std.proofs.lemmas.Bool.Decides.{nat_tests}
use Rattle.flows.specs.Sums.{sum_to, only}
use Rattle.flows.proofs.Sums.{sum_change, sum_equal}
use Rattle.push_engine.specs.Preflows.{weigh}

-- terms of at most one
pub few : (n : ℕ) (f : ℕ → ℕ) → ((u : ℕ) → f u ≤ 1) → sum_to n f ≤ n
few zero f h = omega arith
few (suc n) f h = omega (arith, h n, few n f h)

-- one term is less, and none is more
pub sum_less : (f g : ℕ → ℕ) (n i : ℕ) → ((v : ℕ) → f v ≤ g v) → i < n → f i < g i → sum_to n f < sum_to n g
sum_less f g n i le h lt = elim (cases_lt (sum_to n f) (sum_to n g)) [ inl l ↦ l | inr l ↦ absurd (omega (arith, sum_equal f g n (λ v _. le v) l i h)) ]

pub weigh_set : (w : ℕ → ℕ) (e : List ℕ) (n a y : ℕ) → a < n → a < length e → weigh w (set e a y) n + get_or e a 0 * w a ≡ weigh w e n + y * w a
weigh_set w e n a y h l =
    rw get_or-set_same at (sum_change (λ v. get_or (set e a y) v 0 * w v) (λ v. get_or e v 0 * w v) a n h (λ j ne. rw get_or-set_other))

-- one number of a list
set_at : (l : List ℕ) (c y v : ℕ) → c < length l → get_or (set l c y) v 0 + only (eqb c v) (get_or l c 0) ≡ get_or l v 0 + only (eqb c v) y
set_at l c y v h =
    elim (cases_eq v c) [ inl q ↦ rw (q, get_or-set_same) (grind (arith, nat_tests)) | inr ne ↦ rw get_or-set_other (grind (arith, nat_tests)) ]

-- the amount m goes from a to b
abbrev pub moved : ℕ → ℕ → ℕ → List ℕ → List ℕ
moved m a b e = set (set e a (get_or e a 0 - m)) b (get_or (set e a (get_or e a 0 - m)) b 0 + m)

module _ (e : List ℕ) (m a b : ℕ) (le : m ≤ get_or e a 0) (la : a < length e) (lb : b < length e) where
  abbrev less : List ℕ
  less = set e a (get_or e a 0 - m)

  less_long : length less ≡ length e
  less_long = length-set e a (get_or e a 0 - m)

  pub moved_long : length (moved m a b e) ≡ length e
  moved_long = length-set less b (get_or less b 0 + m) ∙ less_long

  pub weigh_moved : (w : ℕ → ℕ) (n : ℕ) → a < n → b < n → weigh w (moved m a b e) n + m * w a ≡ weigh w e n + m * w b
  weigh_moved w n ha hb =
      let long : b < length less = omega (arith, less_long) in
      omega (
        arith,
        weigh_set w e n a (get_or e a 0 - m) ha la,
        weigh_set w less n b (get_or less b 0 + m) hb long,
        add-mul (get_or less b 0) m (w b),
        add-mul (get_or e a 0 - m) m (w a),
        ap (λ i. i * w a) (add-sub_of_le le),
      )

  pub moved_at : (v : ℕ) → get_or (moved m a b e) v 0 + only (eqb a v) m ≡ get_or e v 0 + only (eqb b v) m
  moved_at v =
      let long : b < length less = omega (arith, less_long) in
      let s = set_at e a (get_or e a 0 - m) v la in
      let t = set_at less b (get_or less b 0 + m) v long in
      grind (arith, nat_tests)
