use Rattle.path_engine.proofs.Walks.{starts, can_take, can_send, walked, arrived}
use Rattle.path_engine.proofs.search.Search.augment.Goals as goal

pub loop-node-init : goal.loop-node-init
loop-node-init c = starts _ _ _ c.requires.flow c.requires.searched.tree c.requires.found

pub pass-node-requires-clause-back : goal.pass-node-requires-clause-back
pass-node-requires-clause-back c = rw c.arcs-arcs.ensures (can_take _ _ _ _ _ _ c.requires.searched.tree c.loop-node.invariant c.loop-node-test.true)

pub pass-node-requires-clause-ahead : goal.pass-node-requires-clause-ahead
pass-node-requires-clause-ahead c = rw c.arcs-arcs.ensures (can_send _ _ _ _ _ _ c.requires.searched.tree c.loop-node.invariant c.loop-node-test.true)

pub loop-node-preserved : goal.loop-node-preserved
loop-node-preserved c =
    let flow_is = rw c.arcs-arcs.ensures at c.pass-node.ensures.flow in
    let from_is = rw c.arcs-arcs.ensures at c.pass-node.ensures.from in
    rw (flow_is, from_is) (walked _ _ _ _ _ _ c.requires.searched.tree c.loop-node.invariant c.loop-node-test.true)

pub returns-clause-grown : goal.returns-clause-grown
returns-clause-grown c = arrived _ _ _ _ _ _ c.loop-node-test.false c.loop-node.invariant c.requires.flow
