-- Sums over the numbers below a bound.
use Rattle.std.specs.Prelude.{ℕ, zero, suc, ◌+◌, ◌-◌, ◌/◌, Bool, cond}

-- the sum of f below n: f 0 + f 1 + ... + f (n - 1)
abbrev pub sum_to : ℕ → (ℕ → ℕ) → ℕ
sum_to zero f = 0
sum_to (suc n) f = sum_to n f + f n

-- n where the test holds, and nothing else
abbrev pub only : Bool → ℕ → ℕ
only b n = cond b n 0

-- n / k, rounded up
abbrev pub ceil_div : ℕ → ℕ → ℕ
ceil_div n k = (n + k - 1) / k

-- the limit that a cut asks for: W less P, divided by K, rounded up
abbrev pub limit_step : ℕ → ℕ → ℕ → ℕ
limit_step W P K = ceil_div (W - P) K
