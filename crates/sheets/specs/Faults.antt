-- Why a book is no board, in words.
use Rattle.std.specs.Prelude.{ℕ, List, ◌++◌, codes, decimal}
use Rattle.sheets.specs.declared.boards.BoardFault.{BoardFault}
use Rattle.sheets.specs.declared.boards.BoardFault.TheVariants.{BadSize, NotEntered}

abbrev pub fault_text : BoardFault → List ℕ
fault_text BadSize = codes "not 1 to 24 types and 1 to 8 nozzles"
fault_text (NotEntered kind) = codes "a quantity or a mask of type " ++ decimal kind ++ codes " was not entered"
