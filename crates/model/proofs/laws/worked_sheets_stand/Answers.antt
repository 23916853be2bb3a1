use Rattle.model.proofs.Worked.{worked_sheets_hold}
use Rattle.model.proofs.laws.worked_sheets_stand.Goals as goal

pub returns : goal.returns
returns c = worked_sheets_hold
