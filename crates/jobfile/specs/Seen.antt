-- What a reading function returns, as a `Parse`.
use Rattle.std.specs.Prelude.{ℕ, List, Some, None, Ok, Err, Option, Result}
use Rattle.std.specs.Borrow.{Bor}
use Rattle.jobfile.specs.declared.parsing.Stop.{Stop}
use Rattle.jobfile.specs.declared.parsing.Stop.TheVariants.{Short, Bad}
use Rattle.records.specs.declared.TypeRecord.{TypeRecord}
use Rattle.jobfile.specs.declared.entry.Record.{Record}
use Rattle.jobfile.specs.declared.entry.Record.TheVariants.{Named, Bare}
use Rattle.jobformat.specs.Reading.{Parse, got, short, bad}
use Rattle.jobformat.specs.Format.{Entry}

abbrev pub stopped : {X : Type 0} → Stop → Parse X
stopped Short = short
stopped (Bad n) = bad n

-- with f of the value that was read
abbrev pub seen_as : {X Y : Type 0} → (X → Y) → Result (X × Bor (List ℕ)) Stop → Parse Y
seen_as f (Ok p) = got (f p.0) p.1.now
seen_as f (Err e) = stopped e

abbrev pub seen : {X : Type 0} → Result (X × Bor (List ℕ)) Stop → Parse X
seen = seen_as (λ x. x)

abbrev pub seen_name : Result (Bor (List ℕ) × Bor (List ℕ)) Stop → Parse (List ℕ)
seen_name = seen_as (λ name. name.now)

abbrev pub entry_with : TypeRecord → Option (List ℕ) → Entry
entry_with f n = record { quantity = f.quantity; mask = f.mask; limit = f.limit; name = n }

abbrev pub fields_of : Record → TypeRecord
fields_of (Named n f) = f
fields_of (Bare f) = f

abbrev pub name_of : Record → Option (List ℕ)
name_of (Named n f) = Some n.now
name_of (Bare f) = None

-- the record without its place in memory
abbrev pub entry_of : Record → Entry
entry_of r = entry_with (fields_of r) (name_of r)

abbrev pub seen_record : Result (Record × Bor (List ℕ)) Stop → Parse Entry
seen_record = seen_as entry_of

abbrev pub seen_rest : Result (Bor (List ℕ)) Stop → Parse (Unit {0})
seen_rest (Ok p) = got tt p.now
seen_rest (Err e) = stopped e
