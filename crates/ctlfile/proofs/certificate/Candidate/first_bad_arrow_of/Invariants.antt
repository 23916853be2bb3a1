use Rattle.std.proofs.Common.{◌≡◌, ℕ, ◌<◌, None}
use Rattle.model.specs.Lists.{first}
use Rattle.model.specs.File.{bad_arrow}
use Rattle.ctlfile.specs.Windows.{shown, told, arrow_places_in}
use Rattle.ctlfile.proofs.certificate.Candidate.first_bad_arrow_of.Given as goal

abbrev pub invariant-loop-situation : goal.invariant-loop-situation
invariant-loop-situation g l = (k : ℕ) → k < l.situation → None ≡ told (first (bad_arrow (g.R.Rule.meaning l.self.rule.now) (shown l.self.window)) (arrow_places_in l.self.window.rule_states l.state k))
