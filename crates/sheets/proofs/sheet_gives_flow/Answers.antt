use Rattle.sheets.proofs.Fewest.{sheet_flow}
use Rattle.sheets.proofs.sheet_gives_flow.Goals as goal

pub returns : goal.returns
returns c = sheet_flow
