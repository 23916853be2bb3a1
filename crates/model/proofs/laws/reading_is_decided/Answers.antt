use Rattle.model.proofs.Reading.Verdicts.{reading_decided}
use Rattle.model.proofs.laws.reading_is_decided.Goals as goal

pub returns : goal.returns
returns c = reading_decided
