use Rattle.std.proofs.Common.{◌≡◌, ℕ, ◌<◌, None}
use Rattle.model.specs.Lists.{first}
use Rattle.model.specs.File.{bad_arrow}
use Rattle.ctlfile.specs.Windows.{shown, told, arrow_places_from}
use Rattle.ctlfile.proofs.certificate.Candidate.first_bad_arrow_in.Given as goal

abbrev pub invariant-loop-rule_state : goal.invariant-loop-rule_state
invariant-loop-rule_state g l = (k : ℕ) → k < l.rule_state → None ≡ told (first (bad_arrow (g.R.Rule.meaning l.self.rule.now) (shown l.self.window)) (arrow_places_from l.self.window.rule_states l.state l.situation k))
