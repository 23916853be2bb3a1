use Rattle.model.proofs.Refusing.{refusals_keep}
use Rattle.model.proofs.laws.refusals_stand.Goals as goal

pub returns : goal.returns
returns c = refusals_keep
