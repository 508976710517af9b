use Rattle.sheets.proofs.Fewest.{flow_sheet}
use Rattle.sheets.proofs.flow_gives_sheet.Goals as goal

pub returns : goal.returns
returns c = flow_sheet
