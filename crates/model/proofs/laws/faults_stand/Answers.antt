use Rattle.model.proofs.Reading.Verdicts.{faults_exact}
use Rattle.model.proofs.laws.faults_stand.Goals as goal

pub returns : goal.returns
returns c = faults_exact
