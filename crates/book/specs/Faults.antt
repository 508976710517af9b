-- The number, the layer and the place that a refusal is answered with. A fault of a lower layer keeps
-- its own.
use Rattle.std.specs.Prelude.{ℕ, List, ◌++◌, codes, decimal}
use Rattle.jobformat.specs.Faults as file
use Rattle.network.specs.Faults as network
use Rattle.sheets.specs.declared.boards.BoardFault.{BoardFault}
use Rattle.sheets.specs.declared.boards.BoardFault.TheVariants.{BadSize as BadBoard, NotEntered as Gap}
use Rattle.book.specs.declared.faults.JobFault.{JobFault}
use Rattle.book.specs.declared.faults.JobFault.TheVariants.{BadSize, NoSuchType, NoSuchNozzle, TooLarge, NotInService, NotOut, NotEntered, NoPlan, NoSuchPart, NoRoom, File, Network}

abbrev pub number_of : JobFault → ℕ
number_of BadSize = 1
number_of (NoSuchType kind) = 2
number_of (NoSuchNozzle nozzle) = 2
number_of (TooLarge kind) = 3
number_of (NotInService nozzle) = 4
number_of (NotOut nozzle) = 5
number_of (NotEntered kind) = 6
number_of NoPlan = 7
number_of (NoSuchPart number) = 8
number_of (NoRoom needed) = 9
number_of (File f) = file.number_of f
number_of (Network f) = network.number_of f

-- the job layer is the third of three
abbrev pub layer_of : JobFault → ℕ
layer_of BadSize = 3
layer_of (NoSuchType kind) = 3
layer_of (NoSuchNozzle nozzle) = 3
layer_of (TooLarge kind) = 3
layer_of (NotInService nozzle) = 3
layer_of (NotOut nozzle) = 3
layer_of (NotEntered kind) = 3
layer_of NoPlan = 3
layer_of (NoSuchPart number) = 3
layer_of (NoRoom needed) = 3
layer_of (File f) = file.layer_of f
layer_of (Network f) = network.layer_of f

abbrev pub place_of : JobFault → ℕ
place_of BadSize = 0
place_of (NoSuchType kind) = kind
place_of (NoSuchNozzle nozzle) = nozzle
place_of (TooLarge kind) = kind
place_of (NotInService nozzle) = nozzle
place_of (NotOut nozzle) = nozzle
place_of (NotEntered kind) = kind
place_of NoPlan = 0
place_of (NoSuchPart number) = number
place_of (NoRoom needed) = needed
place_of (File f) = file.place_of f
place_of (Network f) = network.place_of f

-- why a book is no board to plan, as a refusal
abbrev pub of_board : BoardFault → JobFault
of_board BadBoard = BadSize
of_board (Gap kind) = NotEntered kind

-- what is wrong, in words
abbrev pub fault_text : JobFault → List ℕ
fault_text BadSize = codes "not 1 to 24 types and 1 to 8 nozzles"
fault_text (NoSuchType kind) = codes "the job has no type " ++ decimal kind
fault_text (NoSuchNozzle nozzle) = codes "the job has no nozzle " ++ decimal nozzle
fault_text (TooLarge kind) = codes "a figure for type " ++ decimal kind ++ codes " is too large"
fault_text (NotInService nozzle) = codes "nozzle " ++ decimal nozzle ++ codes " is not in service"
fault_text (NotOut nozzle) = codes "the ticket for nozzle " ++ decimal nozzle ++ codes " is not for a nozzle out here"
fault_text (NotEntered kind) = codes "a quantity or a mask of type " ++ decimal kind ++ codes " was not entered"
fault_text NoPlan = codes "nothing is planned"
fault_text (NoSuchPart number) = codes "there is no subtour or step " ++ decimal number
fault_text (NoRoom needed) = codes "the memory is too small, needed in places: " ++ decimal needed
fault_text (File f) = file.fault_text f
fault_text (Network f) = network.fault_text f
