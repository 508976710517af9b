use Rattle.std.proofs.Common.{◌≡◌}
use Rattle.path_engine.specs.Searches.{Met, room_at, effort}
use Rattle.path_engine.proofs.search.Search.run.Given as goal

abbrev pub invariant-loop-visit : goal.invariant-loop-visit
invariant-loop-visit l = Met l.net l.flow l.aim l.search l.line × (room_at l.search 0 ≡ l.most)

abbrev pub decreases-loop-visit : goal.decreases-loop-visit
decreases-loop-visit l = effort l.search l.line
