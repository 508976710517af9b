use Rattle.path_engine.specs.Searches.{depth_at}
use Rattle.path_engine.proofs.Walks.{Walk}
use Rattle.path_engine.proofs.search.Search.augment.Given as goal

abbrev pub invariant-loop-node : goal.invariant-loop-node
invariant-loop-node l = Walk l.net l.initial.flow l.self l.amount l.flow l.node

abbrev pub decreases-loop-node : goal.decreases-loop-node
decreases-loop-node l = depth_at l.self l.node
