-- The waiting line of a preflow, as the list w of the nodes that wait in it.
use Rattle.std.specs.Prelude.{◌≡◌, ℕ, ◌+◌, ◌≤◌, true, not, ◌&&◌, List, [], ◌∷◌, length, Some, None, Option, ◌==◌}
use Rattle.flows.specs.Sums.{only}
use Rattle.push_engine.specs.declared.preflow.Preflow.{Preflow}
use Rattle.push_engine.specs.Preflows.{heights_of, Holds, effort, pending}
use Rattle.push_engine.specs.Moves.{CanRelabel, Stepped}
use Rattle.path_engine.specs.Searches.{arcs_in}

-- how often u stands in a list
abbrev pub tally : ℕ → List ℕ → ℕ
tally u [] = 0
tally u (a ∷ l) = only (a == u) 1 + tally u l

-- each pending node stands in the list once, and no other node does
abbrev pub Queued : Preflow → List ℕ → Type 0
Queued p w = (u : ℕ) → tally u w ≡ only (pending p u) 1

-- so it is but for v, which stands there no more
abbrev pub QueuedBut : Preflow → ℕ → List ℕ → Type 0
QueuedBut p v w = (u : ℕ) → tally u w ≡ only (pending p u && not (u == v)) 1

-- something is to be done at v, which was taken from the line w
pub record Taken (p : Preflow) (v : ℕ) (w : List ℕ) : Type 0 where
  pub waits : pending p v ≡ true
  pub queued : QueuedBut p v w

-- between two moves at v, which began with the preflow p
pub record Working (p : Preflow) (v : ℕ) (q : Preflow) (w : List ℕ) : Type 0 where
  pub same : q.task ≡ p.task
  pub holds : Holds q
  pub level : heights_of q ≡ heights_of p
  pub waits : pending q v ≡ true
  pub queued : QueuedBut q v w
  pub less : effort q ≤ effort p

-- nothing waits at v any more, or v can be raised to the height h
abbrev pub Drained : Preflow → ℕ → Preflow → List ℕ → Option ℕ → Type 0
Drained p v q w None = Stepped p q × Queued q w
Drained p v q w (Some h) = Working p v q w × CanRelabel q v h (length (arcs_in q.task.net))
