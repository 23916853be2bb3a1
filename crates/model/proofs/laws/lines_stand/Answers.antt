use Rattle.model.proofs.Reading.Parts.{line_exact}
use Rattle.model.proofs.laws.lines_stand.Goals as goal

pub returns : goal.returns
returns c = line_exact
