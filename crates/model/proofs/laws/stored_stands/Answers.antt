use Rattle.model.proofs.Storing.{stored_stands}
use Rattle.model.proofs.laws.stored_stands.Goals as goal

pub returns : goal.returns
returns c = stored_stands
