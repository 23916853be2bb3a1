use Rattle.model.proofs.Turns.{tallies_exact}
use Rattle.model.proofs.laws.tallies_stand.Goals as goal

pub returns : goal.returns
returns c = tallies_exact
