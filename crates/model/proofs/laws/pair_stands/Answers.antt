use Rattle.model.proofs.Parts.{pair_exact}
use Rattle.model.proofs.laws.pair_stands.Goals as goal

pub returns : goal.returns
returns c = pair_exact
