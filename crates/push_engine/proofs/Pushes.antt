-- What a push and a raise leave: a preflow again, with less effort to come.
use Rattle.std.proofs.Common.{◌≡◌, ℕ, ◌+◌, ◌-◌, ◌*◌, ◌<◌, ◌≤◌, true, eqb, ◌≢◌, ◌⊎◌, List, length, get_or, set, sym, refl, ap, ◌∙◌, inl, inr, mul-le-mul_right, mul-le-mul_left, mul-add, arith, length-set, get_or-set_other, get_or-set_same}
use Rattle.std.proofs.lemmas.Bool.{cases_eq}
use Rattle.std.proofs.lemmas.Bool.Decides.{nat_tests}
use Rattle.flows.specs.declared.Arc.{Arc}
use Rattle.flows.specs.Sums.{only}
use Rattle.flows.specs.Flows.{arc_at, capacity_under}
use Rattle.network.specs.Rules.{arc_ok}
use Rattle.flows.proofs.Places.{sum_set, each_set}
use Rattle.push_engine.specs.declared.preflow.Task.{Task}
use Rattle.push_engine.specs.declared.preflow.Preflow.{Preflow}
use Rattle.path_engine.specs.Residual.{far_end, residual_of, end_at}
use Rattle.path_engine.specs.Searches.{arcs_in, nodes_in, residual_in}
use Rattle.push_engine.specs.Preflows.{limit_of, wanted_of, excess_of, heights_of, ceiling, carried_after, Load, Steep, Holds, effort, sent, raised}
use Rattle.push_engine.specs.Moves.{CanPush, CanRelabel, Stepped}
use Rattle.flows.proofs.Sums.{sum_change, term_le}
use Rattle.path_engine.proofs.Arcs.{end_in}
use Rattle.push_engine.proofs.Nodes.{excess_sent, heights_sent, excess_raised, heights_raised}
use Rattle.push_engine.proofs.Sums.{moved, weigh_set, moved_long, weigh_moved, moved_at}

-- what the rules say of an arc
pub record Ends (n : ℕ) (a : Arc) : Type 0 where
  pub tail_in : a.tail < n
  pub head_in : a.head < n
  pub apart : a.tail ≢ a.head
  pub no_entry : a.head ≢ 0

ends : (n : ℕ) (a : Arc) → arc_ok n a ≡ true → Ends n a
ends n a h = record { tail_in = grind (arith, nat_tests); head_in = grind (arith, nat_tests); apart = λ e. grind (arith, nat_tests); no_entry = λ e. grind (arith, nat_tests) }

pub ends_at : (t : Task) (k : ℕ) → k < length (arcs_in t.net) → Ends (nodes_in t.net) (arc_at (arcs_in t.net) k)
ends_at t k h = ends (nodes_in t.net) (arc_at (arcs_in t.net) k) (t.net.net.now.rules k h)

-- the amount m leaves the node v by an arc
module _ (L : ℕ) (a : Arc) (f v m : ℕ) (fits : m ≤ residual_of L a f v) where
  after_fits : f ≤ capacity_under L a → carried_after a f v m ≤ capacity_under L a
  after_fits h = grind (arith, nat_tests)

  after_ahead : a.tail ≡ v → carried_after a f v m ≡ f + m
  after_ahead e = grind (arith, nat_tests)

  after_back : a.tail ≢ v → carried_after a f v m + m ≡ f
  after_back ne = grind (arith, nat_tests)

  after_level : (u : ℕ) → only (eqb a.head u) (carried_after a f v m) + only (eqb a.tail u) f + only (eqb v u) m ≡ only (eqb a.head u) f + only (eqb a.tail u) (carried_after a f v m) + only (eqb (far_end a v) u) m
  after_level u =
      elim (cases_eq a.tail v) [ inl e ↦ let y = after_ahead e in grind (arith, nat_tests) | inr ne ↦ let y = after_back ne in grind (arith, nat_tests) ]

  -- the only new way leads back
  after_residual : a.tail ≢ a.head → (u : ℕ) → 0 < residual_of L a (carried_after a f v m) u → (0 < residual_of L a f u) ⊎ ((u ≡ far_end a v) × (far_end a u ≡ v))
  after_residual apart u h =
      elim (cases_eq a.tail v) [
        | inl e ↦ elim (cases_eq a.tail u) [
          | inl q ↦ inl (grind (arith, nat_tests))
          | inr ne ↦ inr (grind (arith, nat_tests), grind (arith, nat_tests))
        ]
        | inr e ↦ elim (cases_eq a.head v) [
          | inl q ↦ elim (cases_eq a.tail u) [
            | inl y ↦ inr (grind (arith, nat_tests), grind (arith, nat_tests))
            | inr ne ↦ inl (grind (arith, nat_tests))
          ]
          | inr ne ↦ inl (grind (arith, nat_tests))
        ]
      ]

-- what waits at a node is at most what is wanted
waits_le : (t : Task) (x e : List ℕ) → Load t x e → (v : ℕ) → v < nodes_in t.net → get_or e v 0 ≤ wanted_of t
waits_le t x e o v h = omega (arith, term_le (λ v. get_or e v 0 * 1) v (nodes_in t.net) h, o.whole)

-- so is what a node gets
pub gets_le : (t : Task) (x e : List ℕ) → Load t x e → (a b m : ℕ) → a < nodes_in t.net → b < nodes_in t.net → m ≤ get_or e a 0 → get_or (set e a (get_or e a 0 - m)) b 0 + m ≤ wanted_of t
gets_le t x e o a b m a_in b-in le =
    let l : a < length e = omega (arith, t.net.net.now.counts.1, o.nodes_held) in
    omega (arith, weigh_set (λ _. 1) e (nodes_in t.net) a (get_or e a 0 - m) a_in l, term_le (λ v. get_or (set e a (get_or e a 0 - m)) v 0 * 1) b (nodes_in t.net) b-in, o.whole)

module _ (p : Preflow) (v k m : ℕ) (i : Holds p) (v-in : v < nodes_in p.task.net) (w : CanPush p v k)
    (some : 0 < m) (fits : m ≤ residual_in p.task.net p.flow k v) (le : m ≤ get_or (excess_of p) v 0) where
  abbrev t : Task
  t = p.task

  abbrev arcs : List Arc
  arcs = arcs_in t.net

  abbrev L : ℕ
  L = limit_of t

  abbrev x : List ℕ
  x = p.flow

  abbrev e : List ℕ
  e = excess_of p

  abbrev d : List ℕ
  d = heights_of p

  abbrev to : ℕ
  to = end_at arcs k v

  abbrev y : ℕ
  y = carried_after (arc_at arcs k) (get_or x k 0) v m

  to_in : to < nodes_in t.net
  to_in = end_in t.net.net.now k w.inside v

  in_flow : k < length x
  in_flow = omega (arith, w.inside, t.net.net.now.counts.2, i.load.arcs_held)

  from_in : v < length e
  from_in = omega (arith, v-in, t.net.net.now.counts.1, i.load.nodes_held)

  far_held : to < length e
  far_held = omega (arith, to_in, t.net.net.now.counts.1, i.load.nodes_held)

  load_pushed : Load t (set x k y) (moved m v to e)
  load_pushed =
      record {
        arcs_held = length-set x k y ∙ i.load.arcs_held;
        nodes_held = moved_long e m v to le from_in far_held ∙ i.load.nodes_held;
        fits = each_set arcs x k y w.inside in_flow (λ a f. f ≤ capacity_under L a) i.load.fits (after_fits L (arc_at arcs k) (get_or x k 0) v m fits (i.load.fits k w.inside));
        rest = λ j past. let ne : j ≢ k = omega (arith, w.inside) in rw get_or-set_other (i.load.rest j past);
        balanced = λ u. omega (
          arith,
          sum_set arcs x k y w.inside in_flow (λ a f. only (eqb a.head u) f),
          sum_set arcs x k y w.inside in_flow (λ a f. only (eqb a.tail u) f),
          after_level L (arc_at arcs k) (get_or x k 0) v m fits u,
          i.load.balanced u,
          moved_at e m v to le from_in far_held u,
        );
        whole = omega (arith, weigh_moved e m v to le from_in far_held (λ _. 1) (nodes_in t.net) v-in to_in, i.load.whole);
      }

  steep_pushed : Steep t (set x k y) d
  steep_pushed j u h more =
      let l = in_flow in
      elim (cases_eq j k) [
        | inl q ↦
            let new : 0 < residual_of L (arc_at arcs k) y u = rw (q, get_or-set_same) at more in
            rw q (elim (after_residual L (arc_at arcs k) (get_or x k 0) v m fits (ends_at t k w.inside).apart u new) [
              | inl s ↦ i.labels.steep k u w.inside s
              | inr s ↦ omega (arith, ap (λ n. get_or d n 0) s.0, ap (λ n. get_or d n 0) s.1, w.down)
            ])
        | inr ne ↦ i.labels.steep j u h (rw get_or-set_other at more)
      ]

  less_effort : effort (sent p k v m) < effort p
  less_effort = rw (excess_sent p k v m, heights_sent p k v m) (omega (arith, weigh_moved e m v to le from_in far_held (λ u. get_or d u 0) (nodes_in t.net) v-in to_in, mul-le-mul_left m w.down))

  pub push_steps : Stepped p (sent p k v m)
  push_steps =
      record {
        same = refl;
        holds = record { load = rw (excess_sent p k v m) load_pushed; labels = rw (heights_sent p k v m) (record { held = i.labels.held; low = i.labels.low; sink = i.labels.sink; steep = steep_pushed }) };
        less = less_effort;
      }

-- a node is raised
module _ (d : List ℕ) (v h : ℕ) (l : v < length d) (lt : get_or d v 0 < h) where
  set_le : (u : ℕ) → get_or d u 0 ≤ get_or (set d v h) u 0
  set_le u = elim (cases_eq u v) [ inl q ↦ rw (q, get_or-set_same) (omega arith) | inr ne ↦ rw get_or-set_other (omega arith) ]

  set_steep : (a b : ℕ) → get_or d a 0 ≤ get_or d b 0 + 1 → (a ≡ v → h ≤ get_or d b 0 + 1) → get_or (set d v h) a 0 ≤ get_or (set d v h) b 0 + 1
  set_steep a b old new =
      let s = set_le b in
      elim (cases_eq a v) [ inl q ↦ let n = new q in let g : get_or (set d v h) a 0 ≡ h = rw (q, get_or-set_same) in omega arith | inr ne ↦ let g : get_or (set d v h) a 0 ≡ get_or d a 0 = rw get_or-set_other in omega arith ]

pub ceiling_le : (n v : ℕ) → ceiling n v ≤ 2 * n
ceiling_le n v = grind (arith, nat_tests)

pub raise_steps : (p : Preflow) (v h : ℕ) → Holds p → v < nodes_in p.task.net → v ≢ 1 → CanRelabel p v h (length (arcs_in p.task.net)) → Stepped p (raised p v h)
raise_steps p v h i v-in no_sink w =
    let t = p.task in
    let e = excess_of p in
    let d = heights_of p in
    let n = nodes_in t.net in
    let top : ℕ = 2 * n in
    let l : v < length d = omega (arith, t.net.net.now.counts.1, i.labels.held) in
    let ne : 1 ≢ v = λ q. no_sink (sym q) in
    let step : ℕ = h - get_or d v 0 in
    let up : get_or d v 0 + step ≡ h = omega (arith, w.higher) in
    let gone : top - h + step ≡ top - get_or d v 0 = omega (arith, w.higher, w.low, ceiling_le n v) in
    record {
      same = refl;
      holds = record {
        load = rw (excess_raised p v h) i.load;
        labels = rw (heights_raised p v h) (record {
          held = length-set d v h ∙ i.labels.held;
          low = λ u. elim (cases_eq u v) [ inl q ↦ rw (q, get_or-set_same) w.low | inr ne ↦ rw get_or-set_other (i.labels.low u) ];
          sink = rw get_or-set_other i.labels.sink;
          steep = λ k u m more. set_steep d v h l w.higher u (end_at (arcs_in t.net) k u) (i.labels.steep k u m more) (λ q. let here : 0 < residual_in t.net p.flow k v = rw q at more in rw q (w.steep k m here));
        });
      };
      less = rw (excess_raised p v h, heights_raised p v h) (omega (
        arith,
        rw get_or-set_same at (sum_change (λ u. get_or e u 0 * get_or (set d v h) u 0) (λ u. get_or e u 0 * get_or d u 0) v n v-in (λ u ne. rw get_or-set_other)),
        rw get_or-set_same at (sum_change (λ u. (wanted_of t + 1) * (top - get_or (set d v h) u 0)) (λ u. (wanted_of t + 1) * (top - get_or d u 0)) v n v-in (λ u ne. rw get_or-set_other)),
        mul-add (get_or e v 0) (get_or d v 0) step,
        ap (λ j. get_or e v 0 * j) up,
        mul-add (wanted_of t + 1) (top - h) step,
        ap (λ j. (wanted_of t + 1) * j) gone,
        mul-le-mul_right step (waits_le t p.flow e i.load v v-in),
        w.higher,
      ));
    }
