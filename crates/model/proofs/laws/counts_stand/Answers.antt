use Rattle.model.proofs.Counts.{counts_or_cycles}
use Rattle.model.proofs.laws.counts_stand.Goals as goal

pub returns : goal.returns
returns c = counts_or_cycles
