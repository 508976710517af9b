-- What the rules of a network say of its arcs, and a loop that adds up over them.
use Rattle.std.proofs.Common.{◌≡◌, ℕ, zero, suc, ◌+◌, ◌<◌, ◌≤◌, Bool, true, false, not, ◌==◌, Some, None, Result, Ok, Err, MatchResult, IsOk, rules, List, length, position, refl, ap, sym, ◌∙◌, cond, nat_lt, add-one, arith}
use Rattle.std.specs.List.{count_by, position_or_len}
use Rattle.std.proofs.lemmas.List.Quantifiers.{position-Some}
use Rattle.std.proofs.lemmas.List.Sums.{fails_before_first}
use Rattle.flows.proofs.Sums.{sum_arcs_by, sum_same}
use Rattle.std.proofs.lemmas.Bool.{not-true, not-false}
use Rattle.std.proofs.lemmas.Bool.Decides.{nat_tests}
use Rattle.flows.specs.declared.Arc.{Arc}
use Rattle.flows.specs.declared.Capacity.{Capacity}
use Rattle.flows.specs.declared.Capacity.TheVariants.{Fixed, Counted}
use Rattle.flows.specs.Sums.{sum_to}
use Rattle.flows.specs.Flows.{no_arc, arc_at, fixed_of, counted_of, counted_arcs, FromSource}
use Rattle.network.specs.declared.amounts.Amount.{Amount}
use Rattle.network.specs.declared.faults.NetworkFault.{NetworkFault}
use Rattle.network.specs.declared.faults.NetworkFault.TheVariants.{TooLarge}
use Rattle.network.specs.declared.nets.Network.{Network}
use Rattle.network.specs.Rules.{ArcsOk, arc_ok}
use Rattle.network.specs.Nets.{arcs_of}

-- one turn of a loop that adds up f
pub sum_more : (f : ℕ → ℕ) (n last sum : ℕ) → last ≡ sum_to n f → sum ≡ last + f n → sum ≡ sum_to (n + 1) f
sum_more f n last sum e h = rw add-one (omega arith)

-- at most every arc is counted
counted_few : (arcs : List Arc) (n : ℕ) → sum_to n (λ i. counted_of (arc_at arcs i).capacity) ≤ n
counted_few arcs zero = omega arith
counted_few arcs (suc n) = let one : counted_of (arc_at arcs n).capacity ≤ 1 = grind arith in omega (arith, counted_few arcs n)

-- what the rules say of one arc
pub record Sound (a : Arc) : Type 0 where
  pub no_entry : 0 < a.head
  pub small : fixed_of a.capacity ≤ 2000000

sound : (nodes : ℕ) (a : Arc) → arc_ok nodes a ≡ true → Sound a
sound nodes a h = record { no_entry = grind (arith, nat_tests); small = grind (arith, nat_tests) }

-- a network's arcs, as a slice of them is known
module _ (net : Network) (arcs : List Arc) (same : arcs ≡ arcs_of net) where
  pub at_most : length arcs ≤ 256
  at_most = rw same (omega (arith, net.counts))

  pub sound_at : (k : ℕ) → k < length arcs → Sound (arc_at arcs k)
  sound_at k h =
      rw same (sound net.nodes (arc_at net.arcs.items k) (net.rules k (omega (arith, ap length same))))

pub few_counted : (net : Network) → counted_arcs (arcs_of net) ≤ 256
few_counted net = omega (arith, at_most net (arcs_of net) refl, counted_few (arcs_of net) (length (arcs_of net)))

pub from_source : (net : Network) → FromSource (arcs_of net)
from_source net k h = (sound_at net (arcs_of net) refl k h).no_entry

-- whether an arc is counted
abbrev pub is_counted : Arc → Bool
is_counted a = counted_of a.capacity == 1

one_each : (c : Capacity) → cond (counted_of c == 1) 1 0 ≡ counted_of c
one_each (Fixed most) = refl
one_each Counted = refl

pub counted_by : (arcs : List Arc) → count_by is_counted arcs ≡ counted_arcs arcs
counted_by arcs = sym (sum_arcs_by (λ a. cond (is_counted a) 1 0) arcs) ∙ sum_same _ _ (length arcs) (λ i h. one_each (arc_at arcs i).capacity)

-- the lowest arc that breaks a rule, and what it says that there is none
pub first_bad_at : (nodes : ℕ) (arcs : List Arc) (i : ℕ) → position (λ a. not (arc_ok nodes a)) arcs ≡ Some i → (i < length arcs) × ArcsOk nodes i arcs × (arc_ok nodes (arc_at arcs i) ≡ false)
first_bad_at nodes arcs i e =
    let p = position-Some (λ a. not (arc_ok nodes a)) arcs i no_arc e in
    (p.0, λ k h. not-false _ (p.2 k h), not-true _ p.1)

past : (b : Bool) (i : ℕ) → cond b (Some i) None ≡ None → b ≡ false
past false i e = refl
past true i e = cc

pub none_bad : (nodes : ℕ) (arcs : List Arc) → position (λ a. not (arc_ok nodes a)) arcs ≡ None → ArcsOk nodes (length arcs) arcs
none_bad nodes arcs e k h =
    let bad = λ (a : Arc). not (arc_ok nodes a) in
    let all : nat_lt (position_or_len bad arcs) (length arcs) ≡ false = past _ _ e in
    not-false _ (fails_before_first bad arcs k no_arc (grind (arith, nat_tests)))

-- the rules are about the list of arcs, wherever it stands
pub rules_kept : (nodes : ℕ) (items arcs : List Arc) → items ≡ arcs → ArcsOk nodes (length arcs) arcs → ArcsOk nodes (length items) items
rules_kept nodes items arcs e ok = rw e ok

-- a number that is small enough is an amount
pub amount_of : (n : ℕ) (r : Result Amount NetworkFault) → MatchResult r (λ a. a.value ≡ n) (λ e. (e ≡ TooLarge) × (2000000 < n)) → n ≤ 2000000 → IsOk r
amount_of n (Ok a) h l = search rules
amount_of n (Err e) h l = absurd (omega arith)
