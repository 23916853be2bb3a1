use Rattle.model.proofs.Turns.{steps_exact}
use Rattle.model.proofs.laws.steps_stand.Goals as goal

pub returns : goal.returns
returns c = steps_exact
