-- How a run begins, and what the last search of a run shows.
use Rattle.std.proofs.Common.{◌≡◌, ℕ, Bool, true, false, ltb, List, length, replicate, sym, refl, ◌∙◌, inl, inr, arith}
use Rattle.std.proofs.lemmas.Bool.{cases_Bool, lt-ltb, ltb-true}
use Rattle.std.proofs.lemmas.Bool.Decides.{nat_tests}
use Rattle.flows.specs.Flows.{IsFlow, inflow, outflow, size}
use Rattle.flows.proofs.Sums.{sum_none}
use Rattle.network.specs.declared.nets.Network.{Network}
use Rattle.network.specs.Nets.{arcs_of}
use Rattle.path_engine.specs.declared.steps.LimitedNet.{LimitedNet}
use Rattle.path_engine.specs.declared.search.Goal.{Goal}
use Rattle.path_engine.specs.declared.search.Goal.TheVariants.{Sink}
use Rattle.path_engine.specs.declared.search.Search.{Search}
use Rattle.path_engine.specs.Residual.{Closed, Innermost}
use Rattle.path_engine.specs.Searches.{arcs_in, has, depth_at, Searched, Carries}
use Rattle.path_engine.proofs.Arcs.{end_in}
use Rattle.path_engine.proofs.Closed.{along}
use Rattle.flows.proofs.Places.{zeros}

-- nothing flows yet
pub idle : (N : LimitedNet) → Carries N (replicate 256 0) × (size (arcs_in N) (replicate 256 0) ≡ 0)
idle N =
    let arcs = arcs_in N in
    let out : (v : ℕ) → outflow v arcs (replicate 256 0) ≡ 0 = λ v. sum_none _ (length arcs) (λ i h. let z = zeros 256 i in grind (arith, nat_tests)) in
    let into : (v : ℕ) → inflow v arcs (replicate 256 0) ≡ 0 = λ v. sum_none _ (length arcs) (λ i h. let z = zeros 256 i in grind (arith, nat_tests)) in (
      record {
        long = refl;
        is_flow = record { fits = λ k h. omega (arith, zeros 256 k); kept = λ v two v-in. into v ∙ sym (out v) };
        rest = λ k h. zeros 256 k;
      },
      out 0,
    )

module _ (N : LimitedNet) (x : List ℕ) where
  abbrev net : Network
  net = N.net.now

  abbrev L : ℕ
  L = N.limit.value

  -- of node numbers below 64, those of the network
  pub is_flow : Carries N x → IsFlow net.nodes L (arcs_of net) x
  is_flow f = record { fits = f.is_flow.fits; kept = λ v two v-in. f.is_flow.kept v two (omega (arith, net.counts.1)) }

  -- a search that did not stop has reached what can be reached
  pub innermost : (aim : Goal) (s : Search) → Searched N x aim s → (aim ≡ Sink → has s 1 ≡ false) → Innermost net.nodes L (arcs_of net) x (has s)
  innermost aim s r on =
      let least : (q : ℕ → Bool) → q 0 ≡ true → Closed L (arcs_of net) x q → (v : ℕ) → has s v ≡ true → q v ≡ true = λ q first closed v h. along L (arcs_of net) x q first closed (depth_at s v) v (r.leads v h) in
      let below = least (λ v. ltb v net.nodes) (lt-ltb 0 net.nodes (omega (arith, net.counts.0))) (λ k u l _ _. lt-ltb _ net.nodes (end_in net k l u)) in
      record {
        source = r.tree.source;
        closed = r.closed on;
        least = least;
        below = λ v le. elim (cases_Bool (has s v)) [ inl h ↦ absurd (omega (arith, ltb-true v net.nodes (below v h))) | inr h ↦ h ];
      }
