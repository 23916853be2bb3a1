use Rattle.model.proofs.Refusing.{refused_sheet}
use Rattle.model.proofs.laws.refused_sheet_stands.Goals as goal

pub returns : goal.returns
returns c = refused_sheet
