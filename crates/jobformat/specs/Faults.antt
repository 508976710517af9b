-- The number, the layer, the place and the words that a refusal of the file layer is answered with.
use Rattle.std.specs.Prelude.{ℕ, List, ◌++◌, codes, decimal}
use Rattle.jobformat.specs.declared.FileFault.{FileFault}
use Rattle.jobformat.specs.declared.FileFault.TheVariants.{HeaderRange, Unwritable, NoSuchRecord, NoRoom, EndsEarly, BadByte}

abbrev pub number_of : FileFault → ℕ
number_of HeaderRange = 1
number_of (Unwritable p) = 3
number_of (NoSuchRecord p) = 8
number_of (NoRoom p) = 9
number_of (EndsEarly p) = 11
number_of (BadByte p) = 12

-- the file layer is the lowest of three
abbrev pub layer_of : FileFault → ℕ
layer_of f = 1

abbrev pub place_of : FileFault → ℕ
place_of HeaderRange = 0
place_of (Unwritable p) = p
place_of (NoSuchRecord p) = p
place_of (NoRoom p) = p
place_of (EndsEarly p) = p
place_of (BadByte p) = p

-- what is wrong, and where
abbrev pub fault_text : FileFault → List ℕ
fault_text HeaderRange = codes "the header is out of range: 1 to 24 types, 1 to 8 nozzles"
fault_text (Unwritable p) = codes "no job file can hold the record behind byte " ++ decimal p
fault_text (NoSuchRecord p) = codes "the header has no record " ++ decimal p
fault_text (NoRoom p) = codes "the memory is too small, needed in bytes: " ++ decimal p
fault_text (EndsEarly p) = codes "the file ends too early, length in bytes: " ++ decimal p
fault_text (BadByte p) = codes "no job file has such a byte at index " ++ decimal p
