use Rattle.model.proofs.Calls.{calls_exact}
use Rattle.model.proofs.laws.calls_stand.Goals as goal

pub returns : goal.returns
returns c = calls_exact
