use Rattle.model.proofs.Reading.Verdicts.{reading_exact}
use Rattle.model.proofs.laws.reading_stands.Goals as goal

pub returns : goal.returns
returns c = reading_exact
