-- Whether rows are a sheet, as a test.
use Rattle.std.proofs.Common.{◌≡◌, ℕ, zero, suc, ◌<◌, true, false, List, [], length, get_or, Some, None, Option, refl, ap, subst}
use Rattle.std.proofs.lemmas.Bool.{both_ways}
use Rattle.flows.specs.Sums.{sum_to}
use Rattle.sheets.specs.declared.NozzleState.{NozzleState}
use Rattle.records.specs.declared.TypeRecord.{TypeRecord}
use Rattle.sheets.specs.Sheets.{IsSheet, Within, type_at, is_member, in_service, entry, taken}
use Rattle.worked.proofs.Tests.{Test, yes, equal, at_most, less, also, each, Says}

-- a number is there, and is n
abbrev just : Option ℕ → ℕ → Test
just None n = yes false
just (Some m) n = equal m n

is_just : (o : Option ℕ) (n : ℕ) → Says (just o n) → o ≡ Some n
is_just None n e = absurd (both_ways false refl e)
is_just (Some m) n e = ap Some e

-- n keeps a limit
abbrev keeps : Option ℕ → ℕ → Test
keeps None n = yes true
keeps (Some m) n = at_most n m

kept : (o : Option ℕ) (n : ℕ) → Says (keeps o n) → Within o n
kept None n e = tt
kept (Some m) n e = e

module _ (types : List TypeRecord) (nozzles : List NozzleState) where
  -- the nozzle j may take what the entry says
  abbrev allowed : ℕ → ℕ → Test
  allowed j zero = yes true
  allowed j (suc t) = also (less t (length types)) (also (yes (in_service nozzles j)) (yes (is_member (type_at types t).mask j)))

  module _ (rows : List (List ℕ)) where
    abbrev pub sheet_test : Test
    sheet_test =
        also
        (each (length rows) (λ i. also (equal (length (get_or rows i [])) (length nozzles)) (each (length nozzles) (λ j. allowed j (entry rows i j)))))
        (each (length types) (λ t. also (just (type_at types t).quantity (sum_to (length nozzles) (taken rows t))) (each (length nozzles) (λ j. keeps (type_at types t).limit (taken rows t j)))))

    pub is_sheet : Says sheet_test → IsSheet types nozzles rows
    is_sheet s =
        let may : (i j t : ℕ) → i < length rows → j < length nozzles → entry rows i j ≡ suc t → Says (allowed j (suc t)) =
        λ i j t h l e. subst (λ (n : ℕ). Says (allowed j n)) e ((s.0 i h).1 j l) in
        record {
          wide = λ i h. (s.0 i h).0;
          known = λ i j t h l e. (may i j t h l e).0;
          serving = λ i j t h l e. (may i j t h l e).1.0;
          member = λ i j t h l e. (may i j t h l e).1.1;
          whole = λ t h. is_just _ _ (s.1 t h).0;
          limited = λ t j h l. kept _ _ ((s.1 t h).1 j l);
        }
