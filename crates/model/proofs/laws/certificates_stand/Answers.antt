use Rattle.model.proofs.Counts.{certificates_exact}
use Rattle.model.proofs.laws.certificates_stand.Goals as goal

pub returns : goal.returns
returns c = certificates_exact
