-- What a network is, for contracts outside the file that declares it.
use Rattle.std.specs.Prelude.{List}
use Rattle.flows.specs.declared.Arc.{Arc}
use Rattle.network.specs.declared.nets.Network.{Network}

-- the arcs of a network, in table order
abbrev pub arcs_of : Network → List Arc
arcs_of n = n.arcs.items
