use Rattle.std.proofs.Common.{◌≡◌, ◌≤◌}
use Rattle.path_engine.specs.Searches.{Turn, room_at, effort}
use Rattle.path_engine.proofs.search.Search.expand.Given as goal

abbrev pub invariant-loop-k : goal.invariant-loop-k
invariant-loop-k l =
    Turn l.net l.flow l.self l.line l.node l.k × (room_at l.self 0 ≡ room_at l.initial.self 0) × (effort l.self l.line ≤ effort l.initial.self l.initial.line)
