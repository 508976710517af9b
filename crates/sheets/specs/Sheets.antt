-- Sheets of subtours, by a job's book alone: what is entered of each type, and the state of each
-- nozzle. Types and nozzles go by their place in the book, from 0; their number is one more.
use Rattle.std.specs.Prelude.{◌≡◌, ℕ, suc, ◌<◌, ◌≤◌, Bool, true, false, List, [], length, Some, None, Option, ◌==◌, slice_index, slice_index_or}
use Rattle.flows.specs.Sums.{sum_to, only}
use Rattle.flows.specs.Flows.{inside}
use Rattle.sheets.specs.declared.NozzleState.{NozzleState}
use Rattle.sheets.specs.declared.NozzleState.TheVariants.{InService, Out, Scrapped}
use Rattle.records.specs.declared.TypeRecord.{TypeRecord}

-- what is entered of the type t; nothing past the last type
abbrev pub type_at : List TypeRecord → ℕ → TypeRecord
type_at types t = slice_index_or types t (record { quantity = None; mask = None; limit = None })

-- whether a nozzle of this state is in service
abbrev pub serves : NozzleState → Bool
serves InService = true
serves Out = false
serves Scrapped = false

-- whether the nozzle j is in service
abbrev pub in_service : List NozzleState → ℕ → Bool
in_service nozzles j = serves (slice_index_or nozzles j Scrapped)

-- whether the nozzle j is a member of a mask; a mask that was not entered has none
abbrev pub is_member : Option ℕ → ℕ → Bool
is_member None j = false
is_member (Some m) j = inside m j

-- what the nozzle j takes in the subtour i: a type's number, or 0 for nothing
abbrev pub entry : List (List ℕ) → ℕ → ℕ → ℕ
entry rows i j = slice_index (slice_index_or rows i []) j

-- how often the nozzle j takes the type t
abbrev pub taken : List (List ℕ) → ℕ → ℕ → ℕ
taken rows t j = sum_to (length rows) (λ i. only (entry rows i j == suc t) 1)

-- a count that keeps a limit, where there is one
abbrev pub Within : Option ℕ → ℕ → Type 0
Within None n = Unit {0}
Within (Some m) n = n ≤ m

-- A sheet: each subtour has a place for each nozzle. A nozzle takes only types of the book, is then
-- in service, and is a member of the type's mask. Each type comes as often as its quantity, so
-- that there is no sheet where a quantity was not entered. No nozzle takes a type more often than
-- the type's limit.
pub record IsSheet (types : List TypeRecord) (nozzles : List NozzleState) (rows : List (List ℕ)) : Type 0 where
  pub wide : (i : ℕ) → i < length rows → length (slice_index_or rows i []) ≡ length nozzles
  pub known : (i j t : ℕ) → i < length rows → j < length nozzles → entry rows i j ≡ suc t → t < length types
  pub serving : (i j t : ℕ) → i < length rows → j < length nozzles → entry rows i j ≡ suc t → in_service nozzles j ≡ true
  pub member : (i j t : ℕ) → i < length rows → j < length nozzles → entry rows i j ≡ suc t → is_member (type_at types t).mask j ≡ true
  pub whole : (t : ℕ) → t < length types → (type_at types t).quantity ≡ Some (sum_to (length nozzles) (taken rows t))
  pub limited : (t j : ℕ) → t < length types → j < length nozzles → Within (type_at types t).limit (taken rows t j)
