-- The number, the layer and the place that a refusal of the network layer is answered with.
use Rattle.std.specs.Prelude.{ℕ, List, ◌++◌, codes, decimal}
use Rattle.network.specs.declared.faults.NetworkFault.{NetworkFault}
use Rattle.network.specs.declared.faults.NetworkFault.TheVariants.{TooLarge, ShortTrail, BadCount, BadArc}

abbrev pub number_of : NetworkFault → ℕ
number_of TooLarge = 3
number_of (ShortTrail needed) = 9
number_of BadCount = 10
number_of (BadArc arc) = 10

-- the network layer is the second of three
abbrev pub layer_of : NetworkFault → ℕ
layer_of f = 2

abbrev pub place_of : NetworkFault → ℕ
place_of TooLarge = 0
place_of (ShortTrail needed) = needed
place_of BadCount = 256
place_of (BadArc arc) = arc

-- what is wrong, in words
abbrev pub fault_text : NetworkFault → List ℕ
fault_text TooLarge = codes "the amount is above 2000000"
fault_text (ShortTrail needed) = codes "the trail is too short, needed in steps: " ++ decimal needed
fault_text BadCount = codes "not 2 to 64 nodes, or more than 256 arcs"
fault_text (BadArc arc) = codes "arc " ++ decimal arc ++ codes " breaks a rule"
