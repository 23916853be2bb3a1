use Rattle.model.proofs.Histories.{solve_least_stands}
use Rattle.model.proofs.laws.solve_stands.Goals as goal

pub returns : goal.returns
returns c = solve_least_stands
