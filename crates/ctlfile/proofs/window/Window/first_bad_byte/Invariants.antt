use Rattle.std.proofs.Common.{◌≡◌, ℕ, ◌<◌, None}
use Rattle.model.specs.Lists.{first}
use Rattle.model.specs.File.{bad_byte}
use Rattle.ctlfile.specs.Windows.{shown, told, byte_places_in}
use Rattle.ctlfile.proofs.window.Window.first_bad_byte.Given as goal

abbrev pub invariant-loop-state : goal.invariant-loop-state
invariant-loop-state l = (k : ℕ) → k < l.state → None ≡ told (first (bad_byte (shown l.self)) (byte_places_in l.self.rule_states k))
