use Rattle.model.proofs.Reading.Ranged.{range_exact}
use Rattle.model.proofs.laws.ranges_stand.Goals as goal

pub returns : goal.returns
returns c = range_exact
