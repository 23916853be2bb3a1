use Rattle.std.proofs.Common.{◌∙◌}
use Rattle.synthesis.proofs.Deciding.{pointwise_same}
use Rattle.synthesis.proofs.surveying.PositionsGraph.same.Goals as goal

pub returns : goal.returns
returns c = c.eq.ensures ∙ pointwise_same c.args.a.now.marks c.args.b.now.marks
