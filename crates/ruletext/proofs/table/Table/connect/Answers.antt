use Rattle.std.proofs.Common.{◌≡◌, ◌∙◌, arith}
use Rattle.std.proofs.lemmas.Grind.{common_steps}
use Rattle.model.specs.Text.{among}
use Rattle.ruletext.specs.Lines.{states_in}
use Rattle.ruletext.specs.Tables.{has_state}
use Rattle.ruletext.proofs.Stepping.{named_among}
use Rattle.ruletext.proofs.table.Table.connect.Goals as goal

pub returns-clause-added : goal.returns-clause-added
returns-clause-added c =
    λ q u x p hq hu hx hp.
    let named : has_state c.of.result p ≡ among (states_in c.args.line.to) p = c.of.ensures.named p hp ∙ named_among c.args.line.to.now p in
    grind (arith, common_steps, c.add.ensures u x p hu hx hp)
