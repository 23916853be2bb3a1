use Rattle.ctlfile.proofs.Alike.{checks_alike, files_alike}
use Rattle.ctlfile.proofs.agreement.agreement_stands.Goals as goal

pub returns : goal.returns
returns c = (checks_alike, files_alike)
