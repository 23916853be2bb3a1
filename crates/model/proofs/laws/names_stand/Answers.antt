use Rattle.model.proofs.Calls.{names_exact}
use Rattle.model.proofs.laws.names_stand.Goals as goal

pub returns : goal.returns
returns c = names_exact
