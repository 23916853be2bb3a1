use Rattle.model.proofs.Reading.Correct.{correct_exact}
use Rattle.model.proofs.laws.correct_lines_stand.Goals as goal

pub returns : goal.returns
returns c = correct_exact
