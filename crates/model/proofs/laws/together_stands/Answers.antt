use Rattle.model.proofs.Sides.{together_agrees}
use Rattle.model.proofs.laws.together_stands.Goals as goal

pub returns : goal.returns
returns c = together_agrees
