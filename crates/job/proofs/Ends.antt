-- What a search for a plan leaves, by how it ended.
use Rattle.std.proofs.Common.{◌≡◌, ℕ, List, map, refl}
use Rattle.limit_search.specs.declared.Step.{Step}
use Rattle.limit_search.specs.declared.Found.{Found}
use Rattle.limit_search.specs.declared.Found.TheVariants.{Planned, Short}
use Rattle.limit_search.specs.Trails as search
use Rattle.sheets.specs.Boards.{entered}
use Rattle.book.specs.Books.{Book, orders_in, with_outcome, outcome_of}
use Rattle.book.specs.Events.{Promise, IsEnd}
use Rattle.book.specs.Keeps.{nodes_in, arcs_in, total_in}
use Rattle.book.proofs.Ended.{planned_kept, short_kept}
use Rattle.job.specs.Jobs.{plan_state}

pub kept_end : (b : Book) (trail : List Step) (flow : List ℕ) → map entered (orders_in b.types) ≡ b.types → (f : Found)
    → search.Ends (nodes_in b.types b.nozzles) (total_in b.types) (arcs_in b.types b.nozzles) trail flow f
    → IsEnd (outcome_of f) × Promise (plan_state (with_outcome b (outcome_of f)) flow trail) (outcome_of f)
kept_end b trail flow all (Planned cost runs) e = (tt, planned_kept b.types b.nozzles all trail flow runs cost e)
kept_end b trail flow all (Short limit cut runs) e = (tt, (refl, short_kept b.types b.nozzles all trail flow runs limit cut e))
