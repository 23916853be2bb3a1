use Rattle.synthesis.proofs.Agreeing.{solves_alike}
use Rattle.synthesis.proofs.gathering.agreement_stands.Goals as goal

pub returns : goal.returns
returns c = solves_alike
