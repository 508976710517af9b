-- How a job file is read, byte by byte, up to the first that is wrong.
use Rattle.std.specs.Prelude.{ℕ, zero, suc, ◌+◌, ◌-◌, ◌*◌, ◌^◌, Bool, true, false, cond, not, ◌&&◌, ◌||◌, List, [], ◌∷◌, length, Some, None, Ok, Err, Option, Result, ◌==◌, bit_and, nat_le, nat_lt}
use Rattle.jobformat.specs.declared.FileFault.{FileFault}
use Rattle.jobformat.specs.declared.FileFault.TheVariants.{EndsEarly, BadByte}
use Rattle.jobformat.specs.Format.{Entry, Contents, graphic}

-- what reading the front of a list gives: a value and the rest, or why it stops:
-- the list is too short, or has a wrong byte, `bad n` with n bytes from that one on
pub data Parse (X : Type 0) : Type 0 where
  got : X → List ℕ → Parse X
  short : Parse X
  bad : ℕ → Parse X

-- read on with f
abbrev pub then : {X Y : Type 0} → Parse X → (X → List ℕ → Parse Y) → Parse Y
then (got x rest) f = f x rest
then short f = short
then (bad n) f = bad n

-- a number of two bytes, the low one first
abbrev pub number : List ℕ → Parse ℕ
number [] = short
number (a ∷ []) = short
number (a ∷ b ∷ rest) = got (a + 256 * b) rest

-- a field of bs that may be left out, by what reading it gives where it is there
abbrev pub field_if : {X : Type 0} → Bool → Parse X → List ℕ → Parse (Option X)
field_if false p bs = got None bs
field_if true p bs = then p (λ x rest. got (Some x) rest)

abbrev pub number_if : Bool → List ℕ → Parse (Option ℕ)
number_if present bs = field_if present (number bs) bs

-- a mask of r nozzles
abbrev pub mask : ℕ → List ℕ → Parse ℕ
mask r [] = short
mask r (b ∷ rest) = cond (nat_lt b (2 ^ r)) (got b rest) (bad (length (b ∷ rest)))

abbrev pub mask_if : Bool → ℕ → List ℕ → Parse (Option ℕ)
mask_if present r bs = field_if present (mask r bs) bs

-- n bytes of a name
abbrev pub graphics : List ℕ → ℕ → Parse (List ℕ)
graphics bs zero = got [] bs
graphics [] (suc n) = short
graphics (b ∷ bs) (suc n) = cond (graphic b) (then (graphics bs n) (λ name rest. got (b ∷ name) rest)) (bad (length (b ∷ bs)))

-- a length from 1 to 20, and that many bytes
abbrev pub name : List ℕ → Parse (List ℕ)
name [] = short
name (n ∷ bs) = cond (nat_le 1 n && nat_le n 20) (graphics bs n) (bad (length (n ∷ bs)))

-- whether the map byte m has the bit b
abbrev pub has : ℕ → ℕ → Bool
has m b = not (bit_and m b == 0)

-- no other bit stands, and bit 2 only beside bit 1
abbrev pub is_map : ℕ → Bool
is_map m = nat_lt m 16 && (not (has m 4) || has m 2)

abbrev pub name_if : Bool → List ℕ → Parse (Option (List ℕ))
name_if present bs = field_if present (name bs) bs

-- the fields whose bits stand in the map m, in their order
abbrev pub fields : ℕ → ℕ → List ℕ → Parse Entry
fields r m bs =
    then (number_if (has m 1) bs) (λ q bs₁. then (mask_if (has m 2) r bs₁) (λ k bs₂. then (number_if (has m 4) bs₂) (λ l bs₃. then (name_if (has m 8) bs₃) (λ n rest. got (record { quantity = q; mask = k; limit = l; name = n }) rest))))

-- one record of a file with r nozzles
abbrev pub entry : ℕ → List ℕ → Parse Entry
entry r [] = short
entry r (m ∷ bs) = cond (is_map m) (fields r m bs) (bad (length (m ∷ bs)))

-- n records of a file with r nozzles
abbrev pub records : ℕ → ℕ → List ℕ → Parse (List Entry)
records r zero bs = got [] bs
records r (suc n) bs = then (entry r bs) (λ e rest. then (records r n rest) (λ es end. got (e ∷ es) end))

-- how many records, and how many nozzles
abbrev pub header : List ℕ → Parse (ℕ × ℕ)
header [] = short
header (k ∷ []) = cond (nat_le 1 k && nat_le k 24) short (bad 1)
header (k ∷ r ∷ bs) =
    cond (nat_le 1 k && nat_le k 24) (cond (nat_le 1 r && nat_le r 8) (got (k, r) bs) (bad (length (r ∷ bs)))) (bad (length (k ∷ r ∷ bs)))

-- nothing may follow
abbrev pub ended : {X : Type 0} → X → List ℕ → Parse X
ended x [] = got x []
ended x (b ∷ bs) = bad (length (b ∷ bs))

-- the whole file
abbrev pub file : List ℕ → Parse Contents
file bs =
    then (header bs) (λ h body. then (records h.1 h.0 body) (λ es rest. ended (record { types = h.0; nozzles = h.1; entries = es }) rest))

-- the answer for a file of n bytes: what it says, or its first fault
abbrev pub verdict : ℕ → Parse Contents → Result Contents FileFault
verdict n (got c rest) = Ok c
verdict n short = Err (EndsEarly n)
verdict n (bad left) = Err (BadByte (n - left))

abbrev pub reading : List ℕ → Result Contents FileFault
reading bs = verdict (length bs) (file bs)

-- the same reading without its value
abbrev pub forget : {X : Type 0} → Parse X → Parse (Unit {0})
forget (got x rest) = got tt rest
forget short = short
forget (bad n) = bad n

-- f of what was read, else y
abbrev pub or_else : {X Y : Type 0} → Parse X → Y → (X → List ℕ → Y) → Y
or_else (got x rest) y f = f x rest
or_else short y f = y
or_else (bad n) y f = y

-- the records at the front of a list, up to n of them
abbrev pub run : ℕ → ℕ → List ℕ → List Entry
run r zero bs = []
run r (suc n) bs = or_else (entry r bs) [] (λ e rest. e ∷ run r n rest)
