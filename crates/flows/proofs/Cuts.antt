-- Flows and cuts: the proofs of specs/Laws.antt.
use Rattle.std.proofs.Common.{◌≡◌, ℕ, zero, suc, ◌+◌, ◌-◌, ◌*◌, ◌<◌, ◌≤◌, Bool, ◌&&◌, eqb, ltb, List, length, get_or, ap, inl, inr, mul-le-mul_right, add-sub_of_le, arith}
use Rattle.std.proofs.lemmas.Nat.{div_below, le-div}
use Rattle.std.proofs.lemmas.Bool.{cases_lt}
use Rattle.std.proofs.lemmas.Bool.Decides.{nat_tests}
use Rattle.flows.specs.declared.Arc.{Arc}
use Rattle.flows.specs.Sums.{sum_to, only, ceil_div}
use Rattle.flows.specs.Flows.{arc_at, capacity_under, inflow, outflow, size, IsFlow, IsSide, crosses, enters, crossing, entering, side_capacity, fixed_across, counted_across, FromSource, Tight, next_limit}
use Rattle.flows.specs.Laws.{LinearCapacity, NoLimit, NextLimit, FewerCounted}
use Rattle.flows.proofs.Sums.{sum_balance, sum_same, sum_none, sum_le, sum_equal, sum_linear}

pub linear : LinearCapacity
linear p L arcs = sum_linear _ _ _ L (length arcs) (λ i. grind arith)

-- what flows at the ends e of n arcs that lie in a set of nodes, node by node
abbrev through : (ℕ → ℕ) → (ℕ → ℕ) → ℕ → (ℕ → Bool) → ℕ
through e x n p = sum_to n (λ i. only (p (e i)) (x i))

abbrev upto : (ℕ → Bool) → ℕ → ℕ → Bool
upto p n v = p v && ltb v n

one_more : (p : ℕ → Bool) (v t x : ℕ) → only (upto p (suc v) t) x ≡ only (upto p v t) x + only (p v) (only (eqb t v) x)
one_more p v t x = grind (arith, nat_tests)

grows : (e x : ℕ → ℕ) (n : ℕ) (p : ℕ → Bool) (v : ℕ) → through e x n (upto p (suc v)) ≡ through e x n (upto p v) + only (p v) (through e x n (λ u. eqb u v))
grows e x zero p v = grind arith
grows e x (suc n) p v = let i = grows e x n p v in let m = one_more p v (e n) (x n) in grind arith

module _ {nodes L : ℕ} {arcs : List Arc} {xs : List ℕ} {p : ℕ → Bool} (o : FromSource arcs) (f : IsFlow nodes L arcs xs) (s : IsSide nodes p) where
  abbrev tail : ℕ → ℕ
  tail i = (arc_at arcs i).tail

  abbrev head : ℕ → ℕ
  head i = (arc_at arcs i).head

  abbrev flow : ℕ → ℕ
  flow i = get_or xs i 0

  at_node : (v : ℕ) → only (p (suc v)) (outflow (suc v) arcs xs) ≡ only (p (suc v)) (inflow (suc v) arcs xs)
  at_node zero = rw s.sink
  at_node (suc v) = let k = f.kept (suc (suc v)) (omega arith) in let b = s.below (suc (suc v)) in grind arith

  swept : (v : ℕ) → through tail flow (length arcs) (upto p (suc v)) ≡ size arcs xs + through head flow (length arcs) (upto p (suc v))
  swept zero =
      omega (
        arith,
        sum_same (λ i. only (upto p 1 (tail i)) (flow i)) (λ i. only (eqb (tail i) 0) (flow i)) (length arcs) (λ i h. let y = s.source in grind (arith, nat_tests)),
        sum_none (λ i. only (upto p 1 (head i)) (flow i)) (length arcs) (λ i h. let y = o i h in grind (arith, nat_tests)),
      )
  swept (suc v) = omega (arith, grows tail flow (length arcs) p (suc v), grows head flow (length arcs) p (suc v), at_node v, swept v)

  -- from the last node on, the whole side
  whole : (e : ℕ → ℕ) → through e flow (length arcs) (upto p (suc nodes)) ≡ through e flow (length arcs) p
  whole e = sum_same _ _ (length arcs) (λ i h. let b = s.below (e i) in grind (arith, nat_tests))

  pub conserved : size arcs xs + entering p arcs xs ≡ crossing p arcs xs
  conserved =
      omega (
        arith,
        swept nodes,
        whole tail,
        whole head,
        sum_balance (λ i. only (p (tail i)) (flow i)) (λ i. only (enters p (arc_at arcs i)) (flow i)) (λ i. only (p (head i)) (flow i)) (λ i. only (crosses p (arc_at arcs i)) (flow i))
            (λ i. grind arith) (length arcs),
      )

  below : crossing p arcs xs ≤ side_capacity p L arcs
  below = sum_le _ _ (length arcs) (λ i l. let y = f.fits i l in grind arith)

  pub weak : size arcs xs ≤ side_capacity p L arcs
  weak = omega (arith, conserved, below)

  pub optimal : Tight p L arcs xs → size arcs xs ≡ side_capacity p L arcs
  optimal t =
      omega (
        arith,
        conserved,
        sum_same (λ i. only (crosses p (arc_at arcs i)) (flow i)) (λ i. only (crosses p (arc_at arcs i)) (capacity_under L (arc_at arcs i))) (length arcs) (λ i l. let y = t i l in grind arith),
        sum_none (λ i. only (enters p (arc_at arcs i)) (flow i)) (length arcs) (λ i l. let y = t i l in grind arith),
      )

  pub tight : size arcs xs ≡ side_capacity p L arcs → Tight p L arcs xs
  tight e i l =
      let full = sum_equal (λ i. only (crosses p (arc_at arcs i)) (flow i)) (λ i. only (crosses p (arc_at arcs i)) (capacity_under L (arc_at arcs i))) (length arcs)
      (λ i l. let y = f.fits i l in grind arith) (omega (arith, conserved)) i l in
      let empty = sum_equal (λ i. 0) (λ i. only (enters p (arc_at arcs i)) (flow i)) (length arcs) (λ i l. omega arith) (omega (arith, conserved, below)) i l in
      (λ t. grind arith, λ t. grind arith)

-- the least n with w ≤ a + k * n
pub enough : (w a k : ℕ) → 0 < k → w ≤ a + k * ceil_div (w - a) k
enough w a k h = omega arith

pub least_enough : (w a k n : ℕ) → 0 < k → w ≤ a + k * n → ceil_div (w - a) k ≤ n
least_enough w a k n h e = omega (arith, div_below (w - a + k - 1) k (n + 1) h (omega arith))

pub no_limit : NoLimit
no_limit nodes W arcs p o s z h L a = omega (arith, weak o a.is_flow s, rw z at (linear p L arcs), a.full)

pub next_limit_lem : NextLimit
next_limit_lem nodes L W arcs p o s k h =
    let at = linear p L arcs in
    record {
      higher = le-div (suc L) (W - fixed_across p arcs + counted_across p arcs - 1) (counted_across p arcs) k (omega arith);
      within = least_enough W (fixed_across p arcs) (counted_across p arcs) W k (omega (arith, mul-le-mul_right W k));
      least = λ m lo a. omega (arith, a.full, least_enough W (fixed_across p arcs) (counted_across p arcs) m k (omega (arith, a.full, weak o a.is_flow s, linear p m arcs)));
    }

pub fewer_counted : FewerCounted
fewer_counted nodes L W arcs xs p q o f s t e small k c =
    let n : ℕ = next_limit p W arcs in
    let h : L ≤ n = omega (arith, (next_limit_lem nodes L W arcs p o s k small).higher) in
    elim (cases_lt (counted_across q arcs) (counted_across p arcs)) [
      | inl y ↦ y
      | inr y ↦ absurd
          (omega (
            arith,
            mul-le-mul_right (n - L) y,
            ap (λ m. counted_across p arcs * m) (add-sub_of_le h),
            ap (λ m. counted_across q arcs * m) (add-sub_of_le h),
            linear p L arcs,
            linear q L arcs,
            weak o f t,
            linear q n arcs,
            enough W (fixed_across p arcs) (counted_across p arcs) k,
          ))
    ]
