use Rattle.model.proofs.Reading.Meanings.{meaning_exact}
use Rattle.model.proofs.laws.meaning_stands.Goals as goal

pub returns : goal.returns
returns c = meaning_exact
