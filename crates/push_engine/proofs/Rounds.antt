-- The moves of one round at a node v, which began with the preflow p₀.
use Rattle.std.proofs.Common.{◌≡◌, ℕ, ◌+◌, ◌<◌, ◌≤◌, min, true, ◌≢◌, List, length, get_or, refl, ap, ◌∙◌, arith, get_or-set_other, get_or-set_same, below_more}
use Rattle.std.proofs.lemmas.Bool.Decides.{nat_tests}
use Rattle.flows.specs.declared.Arc.{Arc}
use Rattle.flows.specs.Flows.{arc_at}
use Rattle.push_engine.specs.declared.preflow.Preflow.{Preflow}
use Rattle.path_engine.specs.Residual.{residual_of, end_at, residual}
use Rattle.path_engine.specs.Searches.{arcs_in, residual_in}
use Rattle.push_engine.specs.Preflows.{limit_of, excess_of, heights_of, carried_after, Holds, pending, pushable, sent}
use Rattle.push_engine.specs.Moves.{CanPush, CanRelabel, Stepped}
use Rattle.push_engine.specs.Lines.{Queued, QueuedBut, Working}
use Rattle.push_engine.proofs.Pushes.{push_steps}
use Rattle.push_engine.proofs.Nodes.{heights_sent}
use Rattle.push_engine.proofs.Queues.{rested}
use Rattle.push_engine.proofs.Pending.{pends, empty, left_at}

-- where all goes that can go, nothing is left
all_gone : (L : ℕ) (a : Arc) (f v : ℕ) → residual_of L a (carried_after a f v (residual_of L a f v)) v ≡ 0
all_gone L a f v = grind (arith, nat_tests)

-- all goes from v by the arc k that can go
pub pushed : (p q : Preflow) (v k m : ℕ) → Holds p → pending p v ≡ true → CanPush p v k → m ≡ pushable p k v → q ≡ sent p k v m → Stepped p q
pushed p q v k m i waits c all e = let w = pends p v waits in rw e (push_steps p v k m i w.inside c (omega (arith, w.some, c.some)) (omega arith) (omega arith))

still_pending : (p q : Preflow) (v : ℕ) → q.task ≡ p.task → heights_of q ≡ heights_of p → pending p v ≡ true → 0 < get_or (excess_of q) v 0 → pending q v ≡ true
still_pending p q v t d h l = rw (d, t) (grind (arith, nat_tests))

-- all that can go from v by the arc k has gone
module _ (p₀ p q : Preflow) (v k : ℕ) (w w' : List ℕ) (i : Working p₀ v p w) (c : CanPush p v k)
    (e : q ≡ sent p k v (pushable p k v)) (b : QueuedBut q v w') where
  abbrev arcs : List Arc
  arcs = arcs_in p.task.net

  abbrev r : ℕ
  r = residual_in p.task.net p.flow k v

  abbrev m : ℕ
  m = pushable p k v

  step : Stepped p q
  step = pushed p q v k m i.holds i.waits c refl e

  pub went : Stepped p₀ q
  went = record { same = step.same ∙ i.same; holds = step.holds; less = omega (arith, step.less, i.less) }

  pub emptied : get_or (excess_of q) v 0 ≡ 0 → Queued q w'
  emptied z = rested (pending q) v w' b (empty q v z)

  heights : heights_of q ≡ heights_of p
  heights = ap heights_of e ∙ heights_sent p k v m

  pub goes_on : 0 < get_or (excess_of q) v 0 → Working p₀ v q w'
  goes_on left =
      record { same = step.same ∙ i.same; holds = step.holds; level = heights ∙ i.level; waits = still_pending p q v step.same heights i.waits left; queued = b; less = omega (arith, step.less, i.less) }

  -- the other arcs carry what they did
  others : (j : ℕ) → j ≢ k → get_or q.flow j 0 ≡ get_or p.flow j 0
  others j ne = rw e (rw get_or-set_other refl)

  -- if something is left at v, the arc takes no more
  used_up : 0 < get_or (excess_of q) v 0 → residual_in p.task.net q.flow k v ≡ 0
  used_up left =
      let gone = left_at p q v k m (end_at arcs k v) i.holds (pends p v i.waits).inside c.inside (omega arith) refl e in
      let all : m ≡ r = omega arith in
      let l : k < length p.flow = omega (arith, c.inside, p.task.net.net.now.counts.2, i.holds.load.arcs_held) in
      let y : get_or q.flow k 0 ≡ carried_after (arc_at arcs k) (get_or p.flow k 0) v r = rw e (rw get_or-set_same (ap (carried_after (arc_at arcs k) (get_or p.flow k 0) v) all)) in
      rw y (all_gone (limit_of p.task) (arc_at arcs k) (get_or p.flow k 0) v)

  pub raise_past : (h : ℕ) → CanRelabel p v h k → 0 < get_or (excess_of q) v 0 → CanRelabel q v h (k + 1)
  raise_past h u left =
      let other : (j : ℕ) → j ≢ k → residual_in q.task.net q.flow j v ≡ residual_in p.task.net p.flow j v = λ j ne. rw (step.same, others j ne) refl in
      let here : residual_in q.task.net q.flow k v ≡ 0 = rw step.same (used_up left) in
      record {
        higher = rw heights u.higher;
        low = rw step.same u.low;
        steep = below_more _ k (λ j l s. let ne : j ≢ k = omega arith in rw (heights, step.same) (u.steep j l (omega (arith, other j ne)))) (λ s. absurd (omega arith));
      }

raise_more : (p : Preflow) (v h h' k : ℕ) → CanRelabel p v h k → get_or (heights_of p) v 0 < h' → h' ≤ h
    → (0 < residual_in p.task.net p.flow k v → h' ≤ get_or (heights_of p) (end_at (arcs_in p.task.net) k v) 0 + 1) → CanRelabel p v h' (k + 1)
raise_more p v h h' k u higher le new = record { higher = higher; low = omega (arith, u.low); steep = below_more _ k (λ j l s. omega (arith, u.steep j l s)) new }

-- the arcs of the loop are those of the task
module _ (p₀ p : Preflow) (v : ℕ) (w : List ℕ) (i : Working p₀ v p w) (arcs : List Arc) (same : arcs ≡ arcs_in p.task.net) (k : ℕ) where
  -- nothing can go by the arc k
  pub raise_full : (h : ℕ) → CanRelabel p v h k → residual (limit_of p.task) arcs p.flow k v ≡ 0 → CanRelabel p v h (k + 1)
  raise_full h u none = let n : residual_in p.task.net p.flow k v ≡ 0 = rw (← same) none in raise_more p v h h k u u.higher (omega arith) (λ some. absurd (omega arith))

  from : get_or (heights_of p) v 0 ≡ get_or (heights_of p₀) v 0
  from = ap (λ (d : List ℕ). get_or d v 0) i.level

  module _ (to : ℕ) (is : to ≡ end_at arcs k v) where
    far : get_or (heights_of p) to 0 ≡ get_or (heights_of p) (end_at (arcs_in p.task.net) k v) 0
    far = rw is (rw same refl)

    -- the far end of the arc k is not lower than v
    pub raise_beside : (h h' : ℕ) → CanRelabel p v h k → get_or (heights_of p₀) v 0 ≤ get_or (heights_of p) to 0 → h' ≡ min h (get_or (heights_of p) to 0 + 1) → CanRelabel p v h' (k + 1)
    raise_beside h h' u level e = raise_more p v h h' k u (omega (arith, from, u.higher)) (omega arith) (λ _. omega (arith, far))

    -- the far end is lower
    pub can_push_down : k < length arcs → 0 < residual (limit_of p.task) arcs p.flow k v → get_or (heights_of p) to 0 < get_or (heights_of p₀) v 0 → CanPush p v k
    can_push_down h some lower =
        let more : 0 < residual_in p.task.net p.flow k v = rw (← same) some in
        record { inside = rw (← same) h; some = more; down = omega (arith, from, far) }
