use Rattle.model.proofs.Reaching.{reach_exact}
use Rattle.model.proofs.laws.reach_stands.Goals as goal

pub returns : goal.returns
returns c = reach_exact
