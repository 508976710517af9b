-- The job file: its records, their bytes, and which bytes are a file.
use Rattle.std.specs.Prelude.{◌≡◌, ℕ, ◌+◌, ◌/◌, ◌%◌, ◌^◌, ◌<◌, ◌≤◌, Bool, true, false, not, ◌&&◌, ◌||◌, List, [], ◌∷◌, ◌++◌, length, take, is_some, Some, None, Ok, Err, Option, Result, nat_le, nat_lt}
use Rattle.std.specs.List.{flat_map, list_all}
use Rattle.jobformat.specs.declared.FileFault.{FileFault}
use Rattle.jobformat.specs.declared.FileFault.TheVariants.{HeaderRange, Unwritable, NoSuchRecord, NoRoom, EndsEarly, BadByte}

-- a record: what is entered of one component type; `None` is not entered, no limit, nameless
pub record Entry : Type 0 where
  pub quantity : Option ℕ
  pub mask : Option ℕ
  pub limit : Option ℕ
  pub name : Option (List ℕ)

-- a field of two bytes, the low one first
abbrev pub number_bytes : Option ℕ → List ℕ
number_bytes None = []
number_bytes (Some n) = n % 256 ∷ n / 256 ∷ []

abbrev pub mask_bytes : Option ℕ → List ℕ
mask_bytes None = []
mask_bytes (Some m) = m ∷ []

-- a name stands behind its length
abbrev pub name_bytes : Option (List ℕ) → List ℕ
name_bytes None = []
name_bytes (Some n) = length n ∷ n

abbrev pub bit : Bool → ℕ → ℕ
bit true b = b
bit false b = 0

-- the bit map says which fields follow
abbrev pub map_of : Entry → ℕ
map_of e = bit (is_some e.quantity) 1 + bit (is_some e.mask) 2 + bit (is_some e.limit) 4 + bit (is_some e.name) 8

-- the bytes of a record: the map, then only the fields that are there
abbrev pub encode : Entry → List ℕ
encode e = map_of e ∷ (number_bytes e.quantity ++ (mask_bytes e.mask ++ (number_bytes e.limit ++ name_bytes e.name)))

-- the bytes of a name: printable ASCII, no space
abbrev pub graphic : ℕ → Bool
graphic b = nat_le 33 b && nat_le b 126

abbrev pub all_graphic : List ℕ → Bool
all_graphic = list_all graphic

-- a name has 1 to 20 graphic bytes
abbrev pub name_fits : Option (List ℕ) → Bool
name_fits None = true
name_fits (Some n) = nat_le 1 (length n) && (nat_le (length n) 20 && all_graphic n)

-- a mask has bits for the nozzles 1 to r alone
abbrev pub mask_fits : ℕ → Option ℕ → Bool
mask_fits r None = true
mask_fits r (Some m) = nat_lt m (2 ^ r)

-- whether a file with r nozzles can hold the record; a limit stands only beside a mask
abbrev pub fits : ℕ → Entry → Bool
fits r e = mask_fits r e.mask && ((not (is_some e.limit) || is_some e.mask) && name_fits e.name)

abbrev pub TwoBytes : Option ℕ → Type 0
TwoBytes None = Unit {0}
TwoBytes (Some n) = n < 65536

pub record Fine (r : ℕ) (e : Entry) : Type 0 where
  pub quantity : TwoBytes e.quantity
  pub limit : TwoBytes e.limit
  pub held : fits r e ≡ true

abbrev pub AllFine : ℕ → List Entry → Type 0
AllFine r [] = Unit {0}
AllFine r (e ∷ es) = Fine r e × AllFine r es

-- what a file says: how many types and nozzles, and a record for each type
pub record Contents : Type 0 where
  pub types : ℕ
  pub nozzles : ℕ
  pub entries : List Entry

pub record WellFormed (c : Contents) : Type 0 where
  pub some_types : 1 ≤ c.types
  pub few_types : c.types ≤ 24
  pub some_nozzles : 1 ≤ c.nozzles
  pub few_nozzles : c.nozzles ≤ 8
  pub count : length c.entries ≡ c.types
  pub fine : AllFine c.nozzles c.entries

-- the bytes of a file: k, r, and the k records
abbrev pub file_bytes : Contents → List ℕ
file_bytes c = c.types ∷ c.nozzles ∷ flat_map encode c.entries

-- bs is the file that says c
pub record FileOf (bs : List ℕ) (c : Contents) : Type 0 where
  pub formed : WellFormed c
  pub bytes : bs ≡ file_bytes c

abbrev pub IsFile : List ℕ → Type 0
IsFile bs = (c : Contents) × FileOf bs c

-- some file begins with bs
abbrev pub Begins : List ℕ → Type 0
Begins bs = (tail : List ℕ) × IsFile (bs ++ tail)

-- The first fault of bs, in byte order. It ends early: some file begins so, and bs is none yet.
-- Or it has a wrong byte: up to there some file begins so, and with that byte none does.
abbrev pub FirstFault : List ℕ → FileFault → Type 0
FirstFault bs (EndsEarly p) = (p ≡ length bs) × Begins bs × (IsFile bs → ⊥)
FirstFault bs (BadByte p) = (p < length bs) × Begins (take p bs) × (Begins (take (p + 1) bs) → ⊥)
FirstFault bs HeaderRange = ⊥
FirstFault bs (Unwritable p) = ⊥
FirstFault bs (NoSuchRecord p) = ⊥
FirstFault bs (NoRoom p) = ⊥

-- the right answer for bs: what the file says, or, where bs is no file, its first fault
abbrev pub Answers : List ℕ → Result Contents FileFault → Type 0
Answers bs (Ok c) = FileOf bs c
Answers bs (Err f) = (IsFile bs → ⊥) × FirstFault bs f

-- each element is a byte
abbrev pub AllBytes : List ℕ → Type 0
AllBytes [] = Unit {0}
AllBytes (b ∷ bs) = (b < 256) × AllBytes bs
