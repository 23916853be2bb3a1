use Rattle.std.proofs.Common.{arith}
use Rattle.std.proofs.lemmas.Grind.{common_steps}
use Rattle.ruletext.proofs.table.ByCommand.add.Goals as goal

pub loop-u-preserved : goal.loop-u-preserved
loop-u-preserved c = λ u x p hu hx hp. grind (arith, common_steps, c.loop-u.invariant u x p hu hx hp)
