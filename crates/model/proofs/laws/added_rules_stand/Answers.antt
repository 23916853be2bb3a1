use Rattle.model.proofs.Standing.{rules_stand}
use Rattle.model.proofs.laws.added_rules_stand.Goals as goal

pub returns : goal.returns
returns c = rules_stand
