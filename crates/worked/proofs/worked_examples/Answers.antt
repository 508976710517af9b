use Rattle.std.proofs.Common.{refl}
use Rattle.worked.specs.Examples.{examples}
use Rattle.worked.proofs.Rights.{all_right}
use Rattle.worked.proofs.worked_examples.Goals as goal

pub returns : goal.returns
returns c = all_right examples refl
