use Rattle.model.proofs.Reading.Parts.{words_exact}
use Rattle.model.proofs.laws.words_stand.Goals as goal

pub returns : goal.returns
returns c = words_exact
