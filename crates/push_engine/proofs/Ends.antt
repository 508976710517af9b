-- How a run begins and ends.
use Rattle.std.proofs.Common.{◌≡◌, ℕ, ◌+◌, ◌*◌, ◌<◌, ◌≤◌, Bool, true, false, eqb, ltb, ◌≢◌, List, length, get_or, set, replicate, refl, ap, ◌∙◌, subst, inl, inr, arith, length-set, get_or-set_other, get_or-set_same}
use Rattle.std.proofs.lemmas.Bool.{cases_eq, cases_lt, false_from_ne_true, lt-ltb, ltb-true}
use Rattle.std.proofs.lemmas.Bool.Decides.{nat_tests}
use Rattle.flows.specs.declared.Arc.{Arc}
use Rattle.flows.specs.Sums.{only}
use Rattle.flows.specs.Flows.{arc_at, sum_flow, inside, size, IsFlow}
use Rattle.flows.proofs.Places.{zeros}
use Rattle.flows.proofs.Sums.{sum_none}
use Rattle.network.specs.Runs.{Reaches, FallsShort, ZeroAfter}
use Rattle.push_engine.specs.declared.preflow.Task.{Task}
use Rattle.push_engine.specs.declared.preflow.Preflow.{Preflow}
use Rattle.path_engine.specs.Residual.{Innermost}
use Rattle.path_engine.specs.Searches.{arcs_in, nodes_in}
use Rattle.path_engine.proofs.Closed.{falls_short}
use Rattle.push_engine.specs.Preflows.{limit_of, excess_of, heights_of, ceiling, wanted_of, supply, Load, Labels, Holds, pending, fresh}
use Rattle.push_engine.specs.Moves.{Settled}
use Rattle.push_engine.proofs.Sums.{weigh_set}
use Rattle.push_engine.proofs.Pushes.{ends_at}
use Rattle.push_engine.proofs.Gaps.{gap}
use Rattle.push_engine.proofs.Cuts.{above_gap, nothing_high}

no_supply : (W v : ℕ) → v ≢ 0 → supply W v ≡ 0
no_supply W v ne = grind (arith, nat_tests)

only_none : (a v f : ℕ) → a ≢ v → only (eqb a v) f ≡ 0
only_none a v f ne = grind (arith, nat_tests)

only_zero : (b : Bool) (f : ℕ) → f ≡ 0 → only b f ≡ 0
only_zero b f e = grind arith

none_to_do : (p : Preflow) (u : ℕ) → get_or (excess_of p) u 0 ≡ 0 → pending p u ≡ true → ⊥
none_to_do p u z h = grind (arith, nat_tests)

-- nothing flows, all nodes stand at 0, and all that is wanted waits at node 0
module _ (p : Preflow) (e : List ℕ) (xs : length p.flow ≡ 256) (es : length e ≡ 64) (ds : length (heights_of p) ≡ 64)
    (no-x : (k : ℕ) → get_or p.flow k 0 ≡ 0) (no-e : (k : ℕ) → get_or e k 0 ≡ 0) (no-d : (k : ℕ) → get_or (heights_of p) k 0 ≡ 0) (is : excess_of p ≡ set e 0 (wanted_of p.task)) where
  waits_at : (v : ℕ) → get_or (excess_of p) v 0 ≡ supply (wanted_of p.task) v
  waits_at v =
      let l : 0 < length e = omega arith in
      rw is (elim (cases_eq v 0) [ inl q ↦ rw (q, get_or-set_same) refl | inr ne ↦ rw get_or-set_other (omega (arith, no-e v, no_supply (wanted_of p.task) v ne)) ])

  nothing : (b : Arc → Bool) → ◌≡◌ {A = ℕ} (sum_flow (λ a f. only (b a) f) (arcs_in p.task.net) p.flow) 0
  nothing b = sum_none _ (length (arcs_in p.task.net)) (λ i h. only_zero (b (arc_at (arcs_in p.task.net) i)) (get_or p.flow i 0) (no-x i))

  begins : Holds p
  begins =
      let l : 0 < length e = omega arith in
      record {
        load = record {
          arcs_held = xs;
          nodes_held = rw is (length-set e 0 (wanted_of p.task) ∙ es);
          fits = λ k h. omega (arith, no-x k);
          rest = λ k h. no-x k;
          balanced = λ v. omega (arith, nothing (λ a. eqb a.head v), nothing (λ a. eqb a.tail v), waits_at v);
          whole = rw is (omega (arith, weigh_set (λ _. 1) e (nodes_in p.task.net) 0 (wanted_of p.task) (omega (arith, p.task.net.net.now.counts.0)) l, sum_none (λ v. get_or e v 0 * 1) (nodes_in p.task.net) (λ v h. omega (arith, no-e v)), no-e 0));
        };
        labels = record { held = ds; low = λ v. omega (arith, no-d v); sink = no-d 1; steep = λ k u h more. omega (arith, no-d u) };
      }

  only_source : (u : ℕ) → pending p u ≡ true → u ≡ 0
  only_source u h = elim (cases_eq u 0) [ inl q ↦ q | inr ne ↦ absurd (none_to_do p u (waits_at u ∙ no_supply (wanted_of p.task) u ne) h) ]

-- what a run starts from
abbrev pub Start : Preflow → Type 0
Start p = Holds p × ((u : ℕ) → pending p u ≡ true → u ≡ 0)

excess_fresh : (t : Task) → excess_of (fresh t) ≡ set (replicate 64 0) 0 (wanted_of t)
unfolding excess_of
excess_fresh t = refl

heights_fresh : (t : Task) → heights_of (fresh t) ≡ replicate 64 0
unfolding heights_of
heights_fresh t = refl

pub started : (t : Task) (p : Preflow) → p ≡ fresh t → Start p
started t p is =
    let long : length (heights_of (fresh t)) ≡ 64 = rw (heights_fresh t) refl in
    let low : (k : ℕ) → get_or (heights_of (fresh t)) k 0 ≡ 0 = rw (heights_fresh t) (zeros 64) in
    rw is (
      begins (fresh t) (replicate 64 0) refl refl long (zeros 256) (zeros 64) low (excess_fresh t),
      only_source (fresh t) (replicate 64 0) refl refl long (zeros 256) (zeros 64) low (excess_fresh t),
    )

-- at the end
at_ceiling : (p : Preflow) (v : ℕ) → pending p v ≡ false → v ≢ 1 → v < nodes_in p.task.net → 0 < get_or (excess_of p) v 0 → ceiling (nodes_in p.task.net) v ≤ get_or (heights_of p) v 0
at_ceiling p v h ne v-in some = grind (arith, nat_tests)

twice : (n v : ℕ) → v ≢ 0 → ceiling n v ≡ 2 * n
twice n v ne = grind (arith, nat_tests)

still : (p : Preflow) → Holds p → (v : ℕ) → pending p v ≡ false → 1 < v → v < nodes_in p.task.net → get_or (excess_of p) v 0 ≡ 0
still p i v h two v-in =
    elim (cases_lt 0 (get_or (excess_of p) v 0)) [
      | inl some ↦ nothing_high p i v v-in (omega (arith, at_ceiling p v h (omega arith) v-in some, twice (nodes_in p.task.net) v (omega arith)))
      | inr none ↦ omega arith
    ]

-- of the task t
module _ (t : Task) (q p : Preflow) (from : q ≡ fresh t) (s : Settled q.task p) where
  same : p.task ≡ t
  same = s.same ∙ ap (λ (o : Preflow). o.task) from

  load : Load t p.flow (excess_of p)
  load = subst (λ (u : Task). Load u p.flow (excess_of p)) same s.holds.load

  labels : Labels t p.flow (heights_of p)
  labels = subst (λ (u : Task). Labels u p.flow (heights_of p)) same s.holds.labels

  nodes_same : nodes_in p.task.net ≡ nodes_in t.net
  nodes_same = ap (λ (u : Task). nodes_in u.net) same

  is_flow : IsFlow (nodes_in t.net) (limit_of t) (arcs_in t.net) p.flow
  is_flow =
      record {
        fits = load.fits;
        kept = λ v two v-in. omega (arith, load.balanced v, still p s.holds v (s.idle v) two (omega (arith, nodes_same)), no_supply (wanted_of t) v (omega arith));
      }

  sized_by : size (arcs_in t.net) p.flow + get_or (excess_of p) 0 0 ≡ wanted_of t
  sized_by =
      omega (
        arith,
        load.balanced 0,
        sum_none (λ i. only (eqb (arc_at (arcs_in t.net) i).head 0) (get_or p.flow i 0)) (length (arcs_in t.net)) (λ i h. only_none (arc_at (arcs_in t.net) i).head 0 (get_or p.flow i 0) (ends_at t i h).no_entry),
      )

  pub rest : ZeroAfter (arcs_in t.net) p.flow
  rest = load.rest

  pub reaches : get_or (excess_of p) 0 0 ≡ 0 → Reaches (nodes_in t.net) (limit_of t) (wanted_of t) (arcs_in t.net) p.flow
  reaches z = record { is_flow = is_flow; full = omega (arith, sized_by) }

  module _ (r : ℕ) (left : 0 < get_or (excess_of p) 0 0) (i : Innermost (nodes_in t.net) (limit_of t) (arcs_in t.net) p.flow (inside r)) where
    -- node 0 stands at its ceiling
    top : nodes_in t.net ≤ get_or (heights_of p) 0 0
    top = omega (arith, at_ceiling p 0 (s.idle 0) (omega arith) (omega (arith, nodes_same, t.net.net.now.counts.0)) left, nodes_same)

    -- the nodes above a gap are a closed set with node 0 and without node 1
    no_sink : inside r 1 ≡ true → ⊥
    no_sink h =
        let g = gap (λ v. get_or (heights_of p) v 0) (nodes_in t.net) 0 0 (omega (arith, t.net.net.now.counts.0)) (omega (arith, top)) in
        let closed = above_gap t p.flow (heights_of p) 0 g.0 labels.steep g.1 in
        let z = i.least (λ v. ltb g.0 (get_or (heights_of p) v 0)) (lt-ltb g.0 (get_or (heights_of p) 0 0) (omega (arith, top, g.1.low))) closed 1 h in
        omega (arith, ltb-true g.0 (get_or (heights_of p) 1 0) z, labels.sink)

    pub short : FallsShort (nodes_in t.net) (limit_of t) (wanted_of t) r (arcs_in t.net) p.flow
    short =
        let less : size (arcs_in t.net) p.flow < wanted_of t = omega (arith, sized_by, left) in
        falls_short t.net.net.now (limit_of t) (wanted_of t) r p.flow is_flow less i (false_from_ne_true (inside r 1) no_sink)
