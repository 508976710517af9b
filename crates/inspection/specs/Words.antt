-- The words in which a job file, or its fault, is told to a setter.
use Rattle.std.specs.Prelude.{ℕ, zero, suc, ◌+◌, ◌/◌, ◌%◌, ◌^◌, cond, List, [], ◌∷◌, ◌++◌, Some, None, Ok, Err, codes, decimal, Option, Result, ◌==◌}
use Rattle.jobformat.specs.declared.FileFault.{FileFault}
use Rattle.jobformat.specs.Faults.{number_of, layer_of, place_of, fault_text}
use Rattle.jobformat.specs.Format.{Entry, Contents}

-- a number that may be missing, by its name, and by what is said where there is none
abbrev pub figure_text : List ℕ → Option ℕ → List ℕ → List ℕ
figure_text name (Some n) none = name ++ (codes " " ++ decimal n)
figure_text name None none = name ++ (codes " " ++ none)

abbrev pub quantity_text : Option ℕ → List ℕ
quantity_text None = codes "quantity not entered"
quantity_text (Some n) = codes "quantity " ++ decimal n

abbrev pub limit_text : Option ℕ → List ℕ
limit_text None = codes "limit none"
limit_text (Some n) = codes "limit " ++ decimal n

-- the nozzles 1 to n whose bits stand in the mask m
abbrev pub members : ℕ → ℕ → List ℕ
members m zero = []
members m (suc n) = members m n ++ cond (m / 2 ^ n % 2 == 1) (codes " " ++ decimal (n + 1)) []

abbrev pub mask_text : Option ℕ → List ℕ
mask_text None = codes "nozzles not entered"
mask_text (Some m) = cond (m == 0) (codes "no nozzle") (codes "nozzles" ++ members m 8)

abbrev pub name_text : Option (List ℕ) → List ℕ
name_text None = []
name_text (Some n) = 32 ∷ n

-- one line for the header
abbrev pub header_text : ℕ → ℕ → List ℕ
header_text k r = codes "types " ++ (decimal k ++ (codes ", nozzles " ++ (decimal r ++ codes "\n")))

-- what a record holds beside its name, up to the line's end
abbrev pub fields_text : Option ℕ → Option ℕ → Option ℕ → List ℕ
fields_text quantity mask limit = codes ": " ++ (quantity_text quantity ++ (codes ", " ++ (mask_text mask ++ (codes ", " ++ (limit_text limit ++ codes "\n")))))

-- one line for the record of the type i
abbrev pub record_text : ℕ → Entry → List ℕ
record_text i e = (codes "type " ++ decimal i) ++ (name_text e.name ++ fields_text e.quantity e.mask e.limit)

-- one line for each record, the first of the type i
abbrev pub records_text : ℕ → List Entry → List ℕ
records_text i [] = []
records_text i (e ∷ es) = record_text i e ++ records_text (i + 1) es

-- that the file of n bytes was written again
abbrev pub copy_text : ℕ → List ℕ
copy_text n = codes "written again: " ++ (decimal n ++ codes " bytes, the same\n")

-- the two lines of a refusal
abbrev pub refusal_text : FileFault → List ℕ
refusal_text f =
    codes "refused " ++ (decimal (number_of f) ++ (codes " " ++ (decimal (layer_of f) ++ (codes " " ++ (decimal (place_of f) ++ (codes "\n" ++ (fault_text f ++ codes "\n")))))))

-- all that is told of a file of n bytes, by what reading it answers
abbrev pub report_text : ℕ → Result Contents FileFault → List ℕ
report_text n (Ok c) = header_text c.types c.nozzles ++ (records_text 1 c.entries ++ copy_text n)
report_text n (Err f) = refusal_text f
