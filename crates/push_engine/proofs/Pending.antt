-- What a move changes of what is pending.
use Rattle.std.proofs.Common.{◌≡◌, ℕ, ◌+◌, ◌<◌, ◌≤◌, true, false, eqb, ◌≢◌, ◌⊎◌, List, [], ◌∷◌, ◌++◌, length, get_or, sym, refl, ap, ◌∙◌, inl, inr, arith, get_or-set_other}
use Rattle.std.proofs.lemmas.Bool.{cases_eq}
use Rattle.std.proofs.lemmas.Bool.Decides.{nat_tests}
use Rattle.flows.specs.declared.Arc.{Arc}
use Rattle.flows.specs.Sums.{only}
use Rattle.flows.specs.Flows.{arc_at}
use Rattle.push_engine.specs.declared.preflow.Preflow.{Preflow}
use Rattle.path_engine.specs.Residual.{far_end, end_at}
use Rattle.path_engine.specs.Searches.{arcs_in, nodes_in}
use Rattle.push_engine.specs.Preflows.{excess_of, heights_of, Holds, pending, sent, raised}
use Rattle.push_engine.specs.Lines.{QueuedBut}
use Rattle.path_engine.proofs.Arcs.{end_few}
use Rattle.push_engine.proofs.Sums.{moved_at}
use Rattle.push_engine.proofs.Nodes.{excess_sent, heights_sent, excess_raised, heights_raised}
use Rattle.push_engine.proofs.Pushes.{Ends, ends_at}
use Rattle.push_engine.proofs.Queues.{quiet, joined}

-- what a pending node is
pub record Pends (p : Preflow) (v : ℕ) : Type 0 where
  pub inside : v < nodes_in p.task.net
  pub no_sink : v ≢ 1
  pub some : 0 < get_or (excess_of p) v 0

pub pends : (p : Preflow) (v : ℕ) → pending p v ≡ true → Pends p v
pends p v h = record { inside = grind (arith, nat_tests); no_sink = λ e. grind (arith, nat_tests); some = grind (arith, nat_tests) }

pub past : (p : Preflow) (u : ℕ) → 64 ≤ u → pending p u ≡ false
past p u h = let most = p.task.net.net.now.counts.1 in grind (arith, nat_tests)

-- without excess nothing is to be done, and with more excess no less
pub empty : (p : Preflow) (v : ℕ) → get_or (excess_of p) v 0 ≡ 0 → pending p v ≡ false
empty p v h = grind (arith, nat_tests)

far_apart : (n : ℕ) (a : Arc) (v : ℕ) → Ends n a → far_end a v ≢ v
far_apart n a v e q = let ne = e.apart in grind (arith, nat_tests)

pub raised_other : (p : Preflow) (v h u : ℕ) → u ≢ v → pending (raised p v h) u ≡ pending p u
raised_other p v h u ne = rw (excess_raised p v h, heights_raised p v h, get_or-set_other) refl

pub raised_but : (p : Preflow) (v h : ℕ) (w : List ℕ) → QueuedBut p v w → QueuedBut (raised p v h) v w
raised_but p v h w b = quiet (pending p) v w b (pending (raised p v h)) (raised_other p v h)

-- the amount m leaves v by the arc k
module _ (p q : Preflow) (v k m to : ℕ) (i : Holds p) (v-in : v < nodes_in p.task.net) (k-in : k < length (arcs_in p.task.net)) (le : m ≤ get_or (excess_of p) v 0)
    (is : to ≡ end_at (arcs_in p.task.net) k v) (e : q ≡ sent p k v m) where
  abbrev arcs : List Arc
  arcs = arcs_in p.task.net

  pub to_in : to < 64
  to_in = rw is (end_few p.task.net.net.now k k-in v)

  apart : to ≢ v
  apart = rw is (far_apart (nodes_in p.task.net) (arc_at arcs k) v (ends_at p.task k k-in))

  excess_at : (u : ℕ) → get_or (excess_of q) u 0 + only (eqb v u) m ≡ get_or (excess_of p) u 0 + only (eqb to u) m
  excess_at u = rw (e, is, excess_sent p k v m) (moved_at (excess_of p) m v (end_at arcs k v) le (omega (arith, p.task.net.net.now.counts.1, i.load.nodes_held)) (omega (arith, end_few p.task.net.net.now k k-in v, i.load.nodes_held)) u)

  -- the amount is gone from v
  pub left_at : get_or (excess_of q) v 0 + m ≡ get_or (excess_of p) v 0
  left_at = let x = excess_at v in let ne = apart in grind (arith, nat_tests)

  task : q.task ≡ p.task
  task = ap (λ (o : Preflow). o.task) e

  heights : heights_of q ≡ heights_of p
  heights = ap heights_of e ∙ heights_sent p k v m

  other : (u : ℕ) → u ≢ v → u ≢ to → pending q u ≡ pending p u
  other u nv nt =
      let x = excess_at u in
      let s : get_or (excess_of q) u 0 ≡ get_or (excess_of p) u 0 = grind (arith, nat_tests) in
      rw (heights, s, task) refl

  more : pending p to ≡ true → pending q to ≡ true
  more h =
      let x = excess_at to in
      let ne = apart in
      let s : get_or (excess_of q) to 0 ≡ get_or (excess_of p) to 0 + m = grind (arith, nat_tests) in
      rw (heights, s, task) (grind (arith, nat_tests))

  -- the far end waits already, or nothing is to be done there
  pub push_quiet : (w : List ℕ) → QueuedBut p v w → (pending p to ≡ true) ⊎ ((pending p to ≡ false) × (pending q to ≡ false)) → QueuedBut q v w
  push_quiet w h was =
      let far : pending q to ≡ pending p to = elim was [ inl y ↦ more y ∙ sym y | inr n ↦ n.1 ∙ sym n.0 ] in
      quiet (pending p) v w h (pending q) (λ u nv. elim (cases_eq u to) [ inl y ↦ rw y far | inr nt ↦ other u nv nt ])

  -- or it joins the line
  pub push_joins : (w w' : List ℕ) → QueuedBut p v w → w' ≡ w ++ to ∷ [] → pending p to ≡ false → pending q to ≡ true → QueuedBut q v w'
  push_joins w w' h y was now = joined (pending p) v w h (pending q) to w' y apart was now other
