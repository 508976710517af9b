use Rattle.sheets.proofs.Fewest.{gap}
use Rattle.sheets.proofs.gap_has_no_sheet.Goals as goal

pub returns : goal.returns
returns c = gap
