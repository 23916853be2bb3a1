use Rattle.model.proofs.Counts.{bounded_without_cycle}
use Rattle.model.proofs.laws.bounds_stand.Goals as goal

pub returns : goal.returns
returns c = bounded_without_cycle
