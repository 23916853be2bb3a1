use Rattle.model.proofs.Storing.{written_stands}
use Rattle.model.proofs.laws.written_stands.Goals as goal

pub returns : goal.returns
returns c = written_stands
