use Rattle.model.proofs.Checking.{check_stands}
use Rattle.model.proofs.laws.check_stands.Goals as goal

pub returns : goal.returns
returns c = check_stands
