use Rattle.model.proofs.Parts.{nearest_exact, free_exact, reply_exact}
use Rattle.model.proofs.laws.built_in_rules_stand.Goals as goal

pub returns : goal.returns
returns c = (nearest_exact, free_exact, reply_exact)
