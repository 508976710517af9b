use Rattle.std.proofs.Common.{rules, ◌≡◌, ◌∙◌}
use Rattle.std.specs.List.{count_by}
use Rattle.network.proofs.Facts.{counted_by, is_counted}
use Rattle.network.proofs.nets.Network.counted.Goals as goal

pub returns : goal.returns
returns c = let e : c.count.result ≡ count_by is_counted c.args.self.now.arcs.items = search rules in e ∙ counted_by _
