-- What the rules of a network say of its residual arcs.
use Rattle.std.proofs.Common.{◌≡◌, ℕ, ◌-◌, ◌<◌, ◌≤◌, ◌==◌, ◌||◌, true, false, ◌≢◌, ◌⊎◌, length, refl, inl, inr, arith}
use Rattle.std.proofs.lemmas.Bool.{cases_eq}
use Rattle.std.proofs.lemmas.Bool.Decides.{nat_tests}
use Rattle.flows.specs.declared.Arc.{Arc}
use Rattle.flows.specs.Flows.{arc_at, fixed_of, capacity_under}
use Rattle.network.specs.declared.nets.Network.{Network}
use Rattle.network.specs.Nets.{arcs_of}
use Rattle.network.specs.Rules.{arc_ok}
use Rattle.network.proofs.Facts.{sound_at}
use Rattle.path_engine.specs.Residual.{far_end, residual_of, end_at}

far_in : (nodes : ℕ) (a : Arc) (u : ℕ) → arc_ok nodes a ≡ true → far_end a u < nodes
far_in nodes a u h = grind (arith, nat_tests)

small_under : (L : ℕ) (a : Arc) → fixed_of a.capacity ≤ 2000000 → L ≤ 2000000 → capacity_under L a ≤ 2000000
small_under L a h l = grind arith

module _ (net : Network) (k : ℕ) (h : k < length (arcs_of net)) where
  pub end_in : (u : ℕ) → end_at (arcs_of net) k u < net.nodes
  end_in u = far_in net.nodes (arc_at (arcs_of net) k) u (net.rules k h)

  pub end_few : (u : ℕ) → end_at (arcs_of net) k u < 64
  end_few u = omega (arith, end_in u, net.counts.1)

  pub small_at : (L : ℕ) → L ≤ 2000000 → capacity_under L (arc_at (arcs_of net) k) ≤ 2000000
  small_at L = small_under L (arc_at (arcs_of net) k) (sound_at net (arcs_of net) refl k h).small

-- by an arc of other nodes nothing can leave a node
pub none_off : (L : ℕ) (a : Arc) (f u : ℕ) → (a.tail == u || a.head == u) ≡ false → residual_of L a f u ≡ 0
none_off L a f u off = grind (arith, nat_tests)

-- from the far end back
pub back_again : (L : ℕ) (a : Arc) (f u : ℕ) → 0 < residual_of L a f u → far_end a (far_end a u) ≡ u
back_again L a f u some =
    elim (cases_eq a.tail u) [
      | inl e ↦ grind (arith, nat_tests)
      | inr ne ↦ grind (arith, nat_tests)
    ]

-- a node with another way along the same arc is its other end
pub other : (a : Arc) (v w u t : ℕ) → far_end a v ≡ u → far_end a u ≡ v → far_end a w ≡ t → far_end a t ≡ w → w ≢ v → (w ≡ u) × (t ≡ v)
other a v w u t p q p' q' ne = (grind (arith, nat_tests), grind (arith, nat_tests))

-- an arc leads from u to v back or ahead
pub ways : (L : ℕ) (a : Arc) (f u v : ℕ) → u ≢ v → far_end a v ≡ u → far_end a u ≡ v
    → ((a.tail ≡ v) × (a.head ≡ u) × (residual_of L a f u ≡ f)) ⊎ ((a.tail ≢ v) × (a.tail ≡ u) × (a.head ≡ v) × (residual_of L a f u ≡ capacity_under L a - f))
ways L a f u v apart p q =
    elim (cases_eq a.tail v) [
      | inl e ↦ inl (e, grind (arith, nat_tests), grind (arith, nat_tests))
      | inr ne ↦ inr (ne, grind (arith, nat_tests), grind (arith, nat_tests), grind (arith, nat_tests))
    ]
