use Rattle.model.proofs.Law.{history_law}
use Rattle.model.proofs.laws.history_law_stands.Goals as goal

pub returns : goal.returns
returns c = history_law
