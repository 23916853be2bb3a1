use Rattle.model.proofs.Reading.Meanings.{reached_exact}
use Rattle.model.proofs.laws.reached_stand.Goals as goal

pub returns : goal.returns
returns c = reached_exact
