-- What a set of nodes shows that no residual arc leaves.
use Rattle.std.proofs.Common.{◌≡◌, ℕ, zero, suc, ◌<◌, ◌≤◌, Bool, true, false, List, sym, arith}
use Rattle.std.proofs.lemmas.Bool.Decides.{nat_tests}
use Rattle.flows.specs.declared.Arc.{Arc}
use Rattle.flows.specs.Flows.{arc_at, EachArc, capacity_under, IsFlow, IsSide, Tight, inside, size}
use Rattle.flows.proofs.Cuts.{optimal}
use Rattle.network.specs.declared.nets.Network.{Network}
use Rattle.network.specs.Nets.{arcs_of}
use Rattle.network.specs.Runs.{FallsShort}
use Rattle.network.proofs.Facts.{from_source}
use Rattle.path_engine.specs.Residual.{Closed, Innermost, Route}

-- it has every node that a route leads to
pub along : (L : ℕ) (arcs : List Arc) (x : List ℕ) (p : ℕ → Bool) → p 0 ≡ true → Closed L arcs x p → (n v : ℕ) → Route L arcs x n v → p v ≡ true
along L arcs x p first closed zero v z = rw z first
along L arcs x p first closed (suc n) v (k, u, l, some, e, way) = rw (sym e) (closed k u l (along L arcs x p first closed n u way) some)

-- arcs out of it are full, and arcs into it empty
pub tight : (L : ℕ) (arcs : List Arc) (x : List ℕ) (p : ℕ → Bool) → EachArc (λ a f. f ≤ capacity_under L a) arcs x → Closed L arcs x p → Tight p L arcs x
tight L arcs x p fits closed k m =
    let f = fits k m in
    let t = closed k (arc_at arcs k).tail m in
    let h = closed k (arc_at arcs k).head m in
    (λ e. grind (arith, nat_tests), λ e. grind (arith, nat_tests))

-- with a flow that is too small, it shows a run short
pub falls_short : (net : Network) (L W s : ℕ) (x : List ℕ) → IsFlow net.nodes L (arcs_of net) x → size (arcs_of net) x < W → Innermost net.nodes L (arcs_of net) x (inside s) → inside s 1 ≡ false
    → FallsShort net.nodes L W s (arcs_of net) x
falls_short net L W s x f less i out =
    let side : IsSide net.nodes (inside s) = record { source = i.source; sink = out; below = i.below } in
    record { is_flow = f; smaller = less; is_side = side; tight = optimal (from_source net) f side (tight L (arcs_of net) x (inside s) f.fits i.closed) }
