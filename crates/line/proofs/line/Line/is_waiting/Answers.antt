use Rattle.std.proofs.Common.{◌==◌, drop, take, rules}
use borrow.Author.Tests.{tests}
use Rattle.std.proofs.lemmas.Iterator.{YieldsList-from_slice, YieldsList-from_take}
use Rattle.std.proofs.lemmas.Iterator.Consumers.{YieldsList-from_chain}
use Rattle.std.proofs.lemmas.Iterator.Search.{any_from_yields_List}
use Rattle.line.proofs.Waiting.{named_means}
use Rattle.line.proofs.line.Line.is_waiting.Goals as goal

pub returns-clause-means : goal.returns-clause-means
returns-clause-means g c =
    let self = c.args.self.now in
    named_means _ _ _ _ (any_from_yields_List (λ x. g.T.NamesNode.node x == c.args.node) _ _ _ c.any.ensures.ran
    (YieldsList-from_take self.count (YieldsList-from_chain (YieldsList-from_slice (drop self.head self.places.now) (cc)) (YieldsList-from_slice (take self.head self.places.now) (cc)) (cc) (cc)) (cc))
    (λ x b q k. search (rules, tests)))
