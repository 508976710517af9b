use Rattle.sheets.proofs.Rules.{rules}
use Rattle.sheets.proofs.board_keeps_rules.Goals as goal

pub returns : goal.returns
returns c = rules
