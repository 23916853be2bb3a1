use Rattle.model.proofs.Unpacking.{accepted_stands}
use Rattle.model.proofs.laws.accepted_stands.Goals as goal

pub returns : goal.returns
returns c = accepted_stands
