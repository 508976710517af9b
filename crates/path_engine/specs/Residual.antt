-- The residual network: where more can go under the limit L, or less on the way back, given the
-- list x of what each arc carries. Any list of numbers will do.
use Rattle.std.specs.Prelude.{◌≡◌, ℕ, zero, suc, ◌+◌, ◌-◌, ◌<◌, ◌≤◌, Bool, true, false, cond, List, length, ◌==◌, slice_index}
use Rattle.flows.specs.declared.Arc.{Arc}
use Rattle.flows.specs.Flows.{arc_at, capacity_under}

-- the other end of an arc that has an end u
abbrev pub far_end : Arc → ℕ → ℕ
far_end a u = cond (a.tail == u) a.head a.tail

-- the residual capacity of an arc that carries f, from its end u: from the tail what it has left, and
-- from the head what it carries
abbrev pub residual_of : ℕ → Arc → ℕ → ℕ → ℕ
residual_of L a f u = cond (a.tail == u) (capacity_under L a - f) (cond (a.head == u) f 0)

-- the same of the arc k
abbrev pub end_at : List Arc → ℕ → ℕ → ℕ
end_at arcs k u = far_end (arc_at arcs k) u

abbrev pub residual : ℕ → List Arc → List ℕ → ℕ → ℕ → ℕ
residual L arcs x k u = residual_of L (arc_at arcs k) (slice_index x k) u

-- no residual arc leads out of a set of nodes
abbrev pub Closed : ℕ → List Arc → List ℕ → (ℕ → Bool) → Type 0
Closed L arcs x p = (k u : ℕ) → k < length arcs → p u ≡ true → 0 < residual L arcs x k u → p (end_at arcs k u) ≡ true

-- the set of nodes that node 0 reaches: the smallest one that holds node 0 and is closed
pub record Innermost (nodes L : ℕ) (arcs : List Arc) (x : List ℕ) (p : ℕ → Bool) : Type 0 where
  pub source : p 0 ≡ true
  pub closed : Closed L arcs x p
  pub least : (q : ℕ → Bool) → q 0 ≡ true → Closed L arcs x q → (v : ℕ) → p v ≡ true → q v ≡ true
  pub below : (v : ℕ) → nodes ≤ v → p v ≡ false

-- n residual arcs, one after another, lead from node 0 to v
abbrev pub Route : ℕ → List Arc → List ℕ → ℕ → ℕ → Type 0
Route L arcs x zero v = v ≡ 0
Route L arcs x (suc n) v = (k : ℕ) × (u : ℕ) × (k < length arcs) × (0 < residual L arcs x k u) × (end_at arcs k u ≡ v) × Route L arcs x n u

-- n residual arcs lead from node 0 to v, and no fewer do
pub record Shortest (L : ℕ) (arcs : List Arc) (x : List ℕ) (v n : ℕ) : Type 0 where
  pub leads : Route L arcs x n v
  pub least : (m : ℕ) → Route L arcs x m v → n ≤ m

-- at how many of the first n places two lists differ
abbrev pub changed : List ℕ → List ℕ → ℕ → ℕ
changed x y zero = 0
changed x y (suc n) = changed x y n + cond (slice_index x n == slice_index y n) 0 1
