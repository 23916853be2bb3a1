use Rattle.model.proofs.FileLaws.Verdicts.{check_says}
use Rattle.model.proofs.laws.check_says.Goals as goal

pub returns : goal.returns
returns c = check_says
