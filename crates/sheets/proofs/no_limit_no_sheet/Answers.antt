use Rattle.sheets.proofs.Fewest.{no_sheet}
use Rattle.sheets.proofs.no_limit_no_sheet.Goals as goal

pub returns : goal.returns
returns c = no_sheet
