use Rattle.std.proofs.Common.{sym, arith}
use Rattle.path_engine.proofs.Closed.{falls_short}
use Rattle.path_engine.proofs.Ends.{idle, is_flow, innermost}
use Rattle.path_engine.proofs.engine.ShortestPathsMethod.solve.Goals as goal

pub loop-missing-init : goal.loop-missing-init
loop-missing-init c = let i = idle _ in (i.0, omega (arith, i.1))

pub returns-then-not-found-clause-shown : goal.returns-then-not-found-clause-shown
returns-then-not-found-clause-shown c =
    let out = sym c.if-not-found.ensures in
    falls_short c.args.net.now _ _ _ _ (is_flow _ _ c.loop-missing.invariant.0) (omega arith) (innermost _ _ _ _ c.run-search.ensures.searched (λ _. out)) out

pub returns-then-not-found-clause-least : goal.returns-then-not-found-clause-least
returns-then-not-found-clause-least c = innermost _ _ _ _ c.run-search.ensures.searched (λ _. sym c.if-not-found.ensures)
