-- The nodes above a gap are a set that no residual arc leaves. Without node 0, nothing waits there.
use Rattle.std.proofs.Common.{◌≡◌, ℕ, zero, suc, ◌+◌, ◌*◌, ◌<◌, ◌≤◌, Bool, true, false, eqb, ltb, ◌≢◌, List, length, get_or, arith}
use Rattle.std.proofs.lemmas.Bool.{lt-ltb, le-ltb}
use Rattle.std.proofs.lemmas.Bool.Decides.{nat_tests}
use Rattle.flows.specs.declared.Arc.{Arc}
use Rattle.flows.specs.Sums.{sum_to, only}
use Rattle.flows.specs.Flows.{arc_at, inflow, outflow}
use Rattle.flows.proofs.Sums.{sum_balance, sum_none, sum_le, sum_change, term_le}
use Rattle.path_engine.specs.Residual.{far_end, residual_of, end_at, Closed}
use Rattle.path_engine.specs.Searches.{arcs_in, nodes_in}
use Rattle.push_engine.specs.declared.preflow.Task.{Task}
use Rattle.push_engine.specs.declared.preflow.Preflow.{Preflow}
use Rattle.push_engine.specs.Preflows.{limit_of, wanted_of, excess_of, heights_of, supply, Steep, Holds}
use Rattle.path_engine.proofs.Arcs.{end_in}
use Rattle.push_engine.proofs.Pushes.{ends_at}
use Rattle.push_engine.proofs.Gaps.{IsGap, gap}

above : (g a b : ℕ) → a ≤ b + 1 → b ≢ g → ltb g a ≡ true → ltb g b ≡ true
above g a b le ne lt = grind (arith, nat_tests)

pub above_gap : (t : Task) (x d : List ℕ) (b g : ℕ) → Steep t x d → IsGap (λ v. get_or d v 0) (nodes_in t.net) b g → Closed (limit_of t) (arcs_in t.net) x (λ v. ltb g (get_or d v 0))
above_gap t x d b g steep i k u k-in high more =
    above g (get_or d u 0) (get_or d (end_at (arcs_in t.net) k u) 0) (steep k u k-in more) (i.free (end_at (arcs_in t.net) k u) (end_in t.net.net.now k k-in u)) high

-- a sum over the nodes of a set of what m arcs carry at the ends e: the sum over the arcs that end there
module _ (p : ℕ → Bool) (n : ℕ) (e x : ℕ → ℕ) where
  split : (b : Bool) (y z : ℕ) → only b (y + z) ≡ only b y + only b z
  split b y z = grind arith

  one_end : (i : ℕ) → e i < n → sum_to n (λ u. only (p u) (only (eqb (e i) u) (x i))) ≡ only (p (e i)) (x i)
  one_end i i-in =
      let here : only (p (e i)) (only (eqb (e i) (e i)) (x i)) ≡ only (p (e i)) (x i) = grind (arith, nat_tests) in
      omega (
        arith,
        sum_change (λ u. only (p u) (only (eqb (e i) u) (x i))) (λ _. 0) (e i) n i-in (λ u ne. grind (arith, nat_tests)),
        sum_none (λ _. 0) n (λ _ _. omega arith),
      )

  by_arcs : (m : ℕ) → ((i : ℕ) → i < m → e i < n) → sum_to n (λ u. only (p u) (sum_to m (λ i. only (eqb (e i) u) (x i)))) ≡ sum_to m (λ i. only (p (e i)) (x i))
  by_arcs zero ends = sum_none _ n (λ u _. grind arith)
  by_arcs (suc m) ends =
      omega (
        arith,
        sum_balance (λ u. only (p u) (sum_to (suc m) (λ i. only (eqb (e i) u) (x i)))) (λ _. 0) (λ u. only (p u) (sum_to m (λ i. only (eqb (e i) u) (x i)))) (λ u. only (p u) (only (eqb (e m) u) (x m)))
            (λ u. omega (arith, split (p u) (sum_to m (λ i. only (eqb (e i) u) (x i))) (only (eqb (e m) u) (x m)))) n,
        sum_none (λ _. 0) n (λ _ _. omega arith),
        one_end m (ends m (omega arith)),
        by_arcs m (λ i h. ends i (omega arith)),
      )

-- what an arc carries into a closed set, it carries from a node of the set
carried_in : (L : ℕ) (a : Arc) (f : ℕ) (p : ℕ → Bool) → a.tail ≢ a.head → ((u : ℕ) → p u ≡ true → 0 < residual_of L a f u → p (far_end a u) ≡ true) → only (p a.head) f ≤ only (p a.tail) f
carried_in L a f p apart closed = let h = closed a.head in grind (arith, nat_tests)

no_source : (p : ℕ → Bool) (W u : ℕ) → p 0 ≡ false → only (p u) (supply W u) ≡ 0
no_source p W u source = grind (arith, nat_tests)

only_balance : (b : Bool) (i s o e : ℕ) → i + s ≡ o + e → only b s ≡ 0 → only b i + 0 ≡ only b o + only b e
only_balance b i s o e h z = grind arith

-- a closed set without node 0
module _ (q : Preflow) (i : Holds q) (p : ℕ → Bool) (source : p 0 ≡ false) (closed : Closed (limit_of q.task) (arcs_in q.task.net) q.flow p) where
  abbrev arcs : List Arc
  arcs = arcs_in q.task.net

  abbrev n : ℕ
  n = nodes_in q.task.net

  abbrev x : ℕ → ℕ
  x k = get_or q.flow k 0

  abbrev e : ℕ → ℕ
  e u = get_or (excess_of q) u 0

  balanced : (u : ℕ) → only (p u) (inflow u arcs q.flow) + 0 ≡ only (p u) (outflow u arcs q.flow) + only (p u) (e u)
  balanced u = only_balance (p u) (inflow u arcs q.flow) (supply (wanted_of q.task) u) (outflow u arcs q.flow) (e u) (i.load.balanced u) (no_source p (wanted_of q.task) u source)

  nothing_waits : (v : ℕ) → v < n → p v ≡ true → e v ≡ 0
  nothing_waits v v-in h =
      let at : only (p v) (e v) ≡ e v = rw h in
      omega (
        arith,
        sum_balance (λ u. only (p u) (inflow u arcs q.flow)) (λ _. 0) (λ u. only (p u) (outflow u arcs q.flow)) (λ u. only (p u) (e u)) balanced n,
        sum_none (λ _. 0) n (λ _ _. omega arith),
        by_arcs p n (λ k. (arc_at arcs k).head) x (length arcs) (λ k k-in. (ends_at q.task k k-in).head_in),
        by_arcs p n (λ k. (arc_at arcs k).tail) x (length arcs) (λ k k-in. (ends_at q.task k k-in).tail_in),
        sum_le (λ k. only (p (arc_at arcs k).head) (x k)) (λ k. only (p (arc_at arcs k).tail) (x k)) (length arcs)
            (λ k k-in. carried_in (limit_of q.task) (arc_at arcs k) (x k) p (ends_at q.task k k-in).apart (λ u. closed k u k-in)),
        term_le (λ u. only (p u) (e u)) v n v-in,
      )

-- nothing waits at a node at the ceiling, but at node 0
pub nothing_high : (q : Preflow) → Holds q → (v : ℕ) → v < nodes_in q.task.net → 2 * nodes_in q.task.net ≤ get_or (heights_of q) v 0 → get_or (excess_of q) v 0 ≡ 0
nothing_high q i v v-in high =
    let n = nodes_in q.task.net in
    let g = gap (λ u. get_or (heights_of q) u 0) n n v v-in (omega arith) in
    nothing_waits q i (λ u. ltb g.0 (get_or (heights_of q) u 0)) (le-ltb g.0 (get_or (heights_of q) 0 0) (omega (arith, g.1.from, i.labels.low 0)))
    (above_gap q.task q.flow (heights_of q) n g.0 i.labels.steep g.1) v v-in (lt-ltb g.0 (get_or (heights_of q) v 0) (omega (arith, g.1.low)))
