use Rattle.path_engine.proofs.Ends.{innermost}
use Rattle.path_engine.proofs.engine.reach.Goals as goal

pub returns : goal.returns
returns c = innermost _ _ _ _ c.run.ensures.searched (λ on. cc)
