-- A preflow has just one proof that it is one, so that a ghost field can hold it.
use Rattle.std.specs.Prelude.{◌≡◌, ℕ, ◌+◌, ◌≤◌, List, length, slice_index}
use Rattle.std.specs.Coded.{×_prop}
use Rattle.std.proofs.Common.{ap}
use Rattle.std.proofs.Props.{props}
use Rattle.flows.specs.Flows.{EachArc, capacity_under, inflow, outflow}
use Rattle.network.specs.Runs.{ZeroAfter}
use Rattle.push_engine.specs.declared.preflow.Task.{Task}
use Rattle.push_engine.specs.declared.preflow.Preflow.{Preflow}
use Rattle.push_engine.specs.Preflows.{limit_of, wanted_of, excess_of, heights_of, supply, weigh, ceiling, Load, Steep, Labels, Holds}
use Rattle.path_engine.specs.Searches.{arcs_in, nodes_in}

Load-prop : (t : Task) (x e : List ℕ) → IsProp (Load t x e)
Load-prop t x e a b =
    let Parts : Type 0 = (length x ≡ 256) × (length e ≡ 64) × EachArc (λ a f. f ≤ capacity_under (limit_of t) a) (arcs_in t.net) x × ZeroAfter (arcs_in t.net) x
    × ((v : ℕ) → inflow v (arcs_in t.net) x + supply (wanted_of t) v ≡ outflow v (arcs_in t.net) x + slice_index e v) × (weigh (λ _. 1) e (nodes_in t.net) ≡ wanted_of t) in
    let one : IsProp Parts = Prim.hlevel props in
    let whole : Parts → Load t x e = λ p. record { arcs_held = p.0; nodes_held = p.1; fits = p.2; rest = p.3; balanced = p.4; whole = p.5 } in
    ap whole (one (a.arcs_held, a.nodes_held, a.fits, a.rest, a.balanced, a.whole) (b.arcs_held, b.nodes_held, b.fits, b.rest, b.balanced, b.whole))

Labels-prop : (t : Task) (x d : List ℕ) → IsProp (Labels t x d)
Labels-prop t x d a b =
    let Parts : Type 0 = (length d ≡ 64) × ((v : ℕ) → slice_index d v ≤ ceiling (nodes_in t.net) v) × (slice_index d 1 ≡ 0) × Steep t x d in
    let one : IsProp Parts = Prim.hlevel props in
    let whole : Parts → Labels t x d = λ p. record { held = p.0; low = p.1; sink = p.2; steep = p.3 } in
    ap whole (one (a.held, a.low, a.sink, a.steep) (b.held, b.low, b.sink, b.steep))

pub Holds-prop : (p : Preflow) → IsProp (Holds p)
Holds-prop p a b =
    let Parts : Type 0 = Load p.task p.flow (excess_of p) × Labels p.task p.flow (heights_of p) in
    let one : IsProp Parts = ×_prop (Load-prop p.task p.flow (excess_of p)) (Labels-prop p.task p.flow (heights_of p)) in
    let whole : Parts → Holds p = λ q. record { load = q.0; labels = q.1 } in
    ap whole (one (a.load, a.labels) (b.load, b.labels))
