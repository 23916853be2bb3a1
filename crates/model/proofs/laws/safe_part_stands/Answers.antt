use Rattle.model.proofs.Reaching.{safe_part_largest}
use Rattle.model.proofs.laws.safe_part_stands.Goals as goal

pub returns : goal.returns
returns c = safe_part_largest
