use Rattle.model.proofs.Sheets.{rules_fit}
use Rattle.model.proofs.laws.rules_stand.Goals as goal

pub returns : goal.returns
returns c = rules_fit
