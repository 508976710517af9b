-- What a search computes: sizes, limits and the count of its runs.
use Rattle.std.proofs.Common.{◌≡◌, ℕ, zero, suc, ◌+◌, ◌-◌, ◌*◌, ◌/◌, ◌%◌, ◌<◌, min, List, sym, ap, ◌∙◌, add_assoc, arith}
use native.Mathlib.Nat.{mod-add-mod}
use Rattle.std.proofs.lemmas.Nat.{div-add-mod', mod_below, div-mul-add}
use Rattle.flows.specs.declared.Arc.{Arc}
use Rattle.flows.specs.Sums.{ceil_div, limit_step}
use Rattle.flows.specs.Flows.{inside, side_capacity, fixed_across, counted_across, next_limit}
use Rattle.flows.proofs.Cuts.{linear}
use Rattle.network.specs.declared.sides.Side.{Side}

-- rounding up, as the code does it
ceil_at : (n k q r : ℕ) → q * k + r ≡ n → r < k → q + min 1 r ≡ ceil_div n k
ceil_at n k q zero e h = let s : n + k - 1 ≡ q * k + (k - 1) = omega arith in omega (arith, ap (λ m. m / k) s, div-mul-add q k (k - 1) (omega arith))
ceil_at n k q (suc r) e h = let s : n + k - 1 ≡ (q + 1) * k + r = omega arith in omega (arith, ap (λ m. m / k) s, div-mul-add (q + 1) k r (omega arith))

pub rounded : (n k r : ℕ) → r ≡ n / k + min 1 (n % k) → 0 < k → r ≡ ceil_div n k
rounded n k r e some = e ∙ ceil_at n k _ _ (div-add-mod' n k) (mod_below n k some)

-- from the figures of a cut: the size of a run, and the next limit
module _ (arcs : List Arc) (side : Side) {fixed counted : ℕ} (fixed_is : fixed ≡ fixed_across (inside side.bits) arcs) (counted_is : counted ≡ counted_across (inside side.bits) arcs) where
  pub size_at : {limit under : ℕ} → under ≡ limit → fixed + counted * under ≡ side_capacity (inside side.bits) limit arcs
  size_at {limit} e = rw (fixed_is, counted_is, e) (sym (linear (inside side.bits) limit arcs))

  pub limit_at : (W : ℕ) → limit_step W fixed counted ≡ next_limit (inside side.bits) W arcs
  limit_at W = rw (fixed_is, counted_is)

-- one run more, in a count that wraps
pub count_more : (m a b runs now : ℕ) → b % m ≡ (a + runs) % m → now ≡ (b + 1) % m → now ≡ (a + (runs + 1)) % m
count_more m a b runs now e f =
    f ∙ (sym (mod-add-mod b m 1) ∙ (ap (λ (x : ℕ). (x + 1) % m) e ∙ (mod-add-mod (a + runs) m 1 ∙ ap (λ (x : ℕ). x % m) (add_assoc a runs 1))))
