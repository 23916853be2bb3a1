use Rattle.model.proofs.Parts.{together_counts_on}
use Rattle.model.proofs.laws.counting_on_stands.Goals as goal

pub returns : goal.returns
returns c = together_counts_on
