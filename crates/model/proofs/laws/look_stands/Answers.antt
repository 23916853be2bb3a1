use Rattle.model.proofs.Calls.{look_exact}
use Rattle.model.proofs.laws.look_stands.Goals as goal

pub returns : goal.returns
returns c = look_exact
