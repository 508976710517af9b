-- The least limit that admits all pieces is the least number of subtours.
use Rattle.std.proofs.Common.{length, inl, inr}
use Rattle.std.proofs.lemmas.Bool.{cases_lt}
use Rattle.sheets.specs.Laws.{NoSheetOfAGap, SheetGivesFlow, FlowGivesSheet, NoneFewer, NoSheet}
use Rattle.sheets.proofs.Whole.{to_whole, from_whole}
use Rattle.sheets.proofs.ToFlow.{to_flow}
use Rattle.sheets.proofs.ToSheet.{is_whole, long}

pub gap : NoSheetOfAGap
gap types nozzles rows t h e s = cc (s.whole t h)

pub sheet_flow : SheetGivesFlow
sheet_flow orders nozzles rows s = to_flow (to_whole orders nozzles rows s)

pub flow_sheet : FlowGivesSheet
flow_sheet orders nozzles c xs flow all = (from_whole orders nozzles _ (is_whole orders nozzles c xs flow all), long orders nozzles c xs flow all)

pub no_sheet : NoSheet
no_sheet orders nozzles without rows s = without (length rows) (sheet_flow orders nozzles rows s)

pub none_fewer : NoneFewer
none_fewer orders nozzles c without rows s =
    elim (cases_lt (length rows) c) [
      | inl h ↦ absurd (without (length rows) h (sheet_flow orders nozzles rows s))
      | inr h ↦ h
    ]
