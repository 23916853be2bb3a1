use Rattle.std.proofs.Common.{◌≡◌, ℕ, ◌<◌, None}
use Rattle.model.specs.Lists.{first}
use Rattle.model.specs.File.{bad_arrow}
use Rattle.ctlfile.specs.Windows.{shown, told, arrow_places_of}
use Rattle.ctlfile.proofs.certificate.Candidate.first_bad_arrow.Given as goal

abbrev pub invariant-loop-state : goal.invariant-loop-state
invariant-loop-state g l = (k : ℕ) → k < l.state → None ≡ told (first (bad_arrow (g.R.Rule.meaning l.self.rule.now) (shown l.self.window)) (arrow_places_of l.self.window.situations l.self.window.rule_states k))
