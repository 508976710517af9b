-- The rules of a network: how many nodes and arcs it has, and what each arc keeps.
use Rattle.std.specs.Prelude.{◌≡◌, ℕ, ◌<◌, ◌≤◌, Bool, true, false, not, ◌&&◌, List, length, ◌==◌, nat_le, nat_lt}
use Rattle.flows.specs.declared.Arc.{Arc}
use Rattle.flows.specs.Flows.{arc_at, fixed_of}
use Rattle.network.specs.declared.faults.NetworkFault.{NetworkFault}
use Rattle.network.specs.declared.faults.NetworkFault.TheVariants.{TooLarge, ShortTrail, BadCount, BadArc}

-- tail and head are two different nodes of the network, no arc enters node 0, none leaves node 1,
-- and a fixed capacity is at most 2,000,000
abbrev pub arc_ok : ℕ → Arc → Bool
arc_ok nodes a =
    nat_lt a.tail nodes && (nat_lt a.head nodes && (not (a.tail == a.head) && (not (a.head == 0) && (not (a.tail == 1) && nat_le (fixed_of a.capacity) 2000000))))

-- 2 to 64 nodes, and at most 256 arcs
abbrev pub CountsOk : ℕ → ℕ → Type 0
CountsOk nodes count = (2 ≤ nodes) × (nodes ≤ 64) × (count ≤ 256)

-- the first `count` arcs keep the rules
abbrev pub ArcsOk : ℕ → ℕ → List Arc → Type 0
ArcsOk nodes count arcs = (k : ℕ) → k < count → arc_ok nodes (arc_at arcs k) ≡ true

-- why nodes and arcs are refused: their numbers, which are checked first, or the lowest arc that
-- breaks a rule
abbrev pub Refused : ℕ → List Arc → NetworkFault → Type 0
Refused nodes arcs BadCount = CountsOk nodes (length arcs) → ⊥
Refused nodes arcs (BadArc i) = CountsOk nodes (length arcs) × (i < length arcs) × ArcsOk nodes i arcs × (arc_ok nodes (arc_at arcs i) ≡ false)
Refused nodes arcs TooLarge = ⊥
Refused nodes arcs (ShortTrail needed) = ⊥
