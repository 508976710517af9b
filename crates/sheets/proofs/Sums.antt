-- Sums below n.
use Rattle.std.proofs.Common.{◌≡◌, ℕ, zero, suc, ◌+◌, ◌*◌, ◌<◌, ◌≤◌, Bool, true, false, eqb, ◌≢◌, List, ◌++◌, length, get_or, sym, refl, ap, inl, inr, add-zero, add-suc, arith, length-append, get_or-append-add}
use Rattle.std.proofs.lemmas.List.{get_or_append_left}
use Rattle.std.proofs.lemmas.Bool.{cases_lt}
use Rattle.std.proofs.lemmas.Bool.Decides.{nat_tests}
use Rattle.flows.specs.Sums.{sum_to, only}
use Rattle.flows.proofs.Sums.{sum_same, sum_none}

pub split : (m n : ℕ) (f : ℕ → ℕ) → sum_to (m + n) f ≡ sum_to m f + sum_to n (λ i. f (m + i))
split m zero f = omega (arith, ap (λ n. sum_to n f) (add-zero m))
split m (suc n) f = rw add-suc (omega (arith, split m n f))

-- a sum over the places of two lists
pub sum_append : {X : Type 0} (f : ℕ → X → ℕ) (d : X) (s t : List X)
    → sum_to (length (s ++ t)) (λ p. f p (get_or (s ++ t) p d)) ≡ sum_to (length s) (λ p. f p (get_or s p d)) + sum_to (length t) (λ p. f (length s + p) (get_or t p d))
sum_append f d s t =
    rw length-append
    (omega (
      arith,
      split (length s) (length t) (λ p. f p (get_or (s ++ t) p d)),
      sum_same (λ p. f p (get_or (s ++ t) p d)) (λ p. f p (get_or s p d)) (length s) (λ p h. rw get_or_append_left),
      sum_same (λ p. f (length s + p) (get_or (s ++ t) (length s + p) d)) (λ p. f (length s + p) (get_or t p d)) (length t) (λ p h. rw get_or-append-add),
    ))

pub sum_add : (f g : ℕ → ℕ) (n : ℕ) → sum_to n (λ i. f i + g i) ≡ sum_to n f + sum_to n g
sum_add f g zero = omega arith
sum_add f g (suc n) = omega (arith, sum_add f g n)

pub swap : (f : ℕ → ℕ → ℕ) (m n : ℕ) → sum_to m (λ i. sum_to n (f i)) ≡ sum_to n (λ j. sum_to m (λ i. f i j))
swap f zero n = omega (arith, sum_none (λ j. 0) n (λ j h. refl))
swap f (suc m) n = omega (arith, swap f m n, sum_add (λ j. sum_to m (λ i. f i j)) (f m) n)

-- a sum with one term
pub single : (f : ℕ → ℕ) (i n : ℕ) → i < n → ((j : ℕ) → j < n → j ≢ i → f j ≡ 0) → sum_to n f ≡ f i
single f i zero h e = absurd (omega arith)
single f i (suc n) h e =
    elim (cases_lt i n) [
      | inl l ↦ let ne : n ≢ i = omega arith in omega (arith, single f i n l (λ j k. e j (omega arith)), e n (omega arith) ne)
      | inr l ↦ let at : i ≡ n = omega arith in let z = sum_none f n (λ j k. e j (omega arith) (omega arith)) in rw at (omega arith)
    ]

pub sum_most : (f : ℕ → ℕ) (c n : ℕ) → ((i : ℕ) → i < n → f i ≤ c) → sum_to n f ≤ n * c
sum_most f c zero e = omega arith
sum_most f c (suc n) e = omega (arith, e n (omega arith), sum_most f c n (λ i h. e i (omega arith)))

pub sum_none_of : (f : ℕ → ℕ → ℕ) (m n : ℕ) → ((i j : ℕ) → i < m → j < n → f i j ≡ 0) → sum_to m (λ i. sum_to n (f i)) ≡ 0
sum_none_of f m n e = sum_none (λ i. sum_to n (f i)) m (λ i h. sum_none (f i) n (λ j l. e i j h l))

-- terms behind a test
pub shut : (g : Bool) (a b x : ℕ) → (a ≡ b → ⊥) → only g (only (eqb a b) x) ≡ 0
shut g a b x ne = grind (arith, nat_tests)

pub shut_in : (g h : Bool) (a b x : ℕ) → (a ≡ b → ⊥) → only g (only h (only (eqb a b) x)) ≡ 0
shut_in g h a b x ne = grind (arith, nat_tests)

pub pass : (g : Bool) (a b x : ℕ) → a ≡ b → only g (only (eqb a b) x) ≡ only g x
pass g a b x e = grind (arith, nat_tests)

pub only_true : (g : Bool) (x : ℕ) → g ≡ true → only g x ≡ x
only_true g x e = rw e

pub only_none : (g : Bool) (x : ℕ) → (g ≡ true → x ≡ 0) → only g x ≡ 0
only_none true x e = e refl
only_none false x e = refl

pub only_is : (g : Bool) (x y : ℕ) → (g ≡ true → x ≡ y) → (g ≡ false → y ≡ 0) → only g x ≡ y
only_is true x y e z = e refl
only_is false x y e z = sym (z refl)

pub only_le : (g : Bool) (x m : ℕ) → (g ≡ true → x ≤ m) → only g x ≤ m
only_le true x m e = e refl
only_le false x m e = omega arith

-- at most each place counts
pub count_le : (g : ℕ → Bool) (n : ℕ) → sum_to n (λ i. only (g i) 1) ≤ n
count_le g n = let m = sum_most (λ i. only (g i) 1) 1 n (λ i h. only_le (g i) 1 1 (λ e. omega arith)) in omega arith

pub sum_ones : (g : Bool) (n : ℕ) → sum_to n (λ i. only g 1) ≡ only g n
sum_ones g zero = grind arith
sum_ones g (suc n) = let i = sum_ones g n in grind arith
