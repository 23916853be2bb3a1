use Rattle.model.proofs.Reading.Ranged.{lines_unique}
use Rattle.model.proofs.laws.lines_unique.Goals as goal

pub returns : goal.returns
returns c = lines_unique
