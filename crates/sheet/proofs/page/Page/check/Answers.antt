use Rattle.std.proofs.Common.{ap, ◌∙◌}
use Rattle.model.specs.Sheet.{Answer, verdict}
use Rattle.synthesis.specs.Tables.{automaton}
use Rattle.sheet.proofs.Files.{checked_as}
use Rattle.sheet.proofs.page.Page.check.Goals as goal

pub returns : goal.returns
returns c s shows = (ap {B = Answer} verdict (c.check.ensures ∙ checked_as c.args.self.now s shows (automaton c.rules.result.arrows) c.rules.ensures c.args.file.now), shows)
