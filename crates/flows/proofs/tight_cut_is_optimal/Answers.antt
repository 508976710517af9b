use Rattle.flows.proofs.Cuts.{optimal, tight}
use Rattle.flows.proofs.tight_cut_is_optimal.Goals as goal

pub returns : goal.returns
returns c = λ nodes L arcs xs p o f s. (optimal o f s, tight o f s)
