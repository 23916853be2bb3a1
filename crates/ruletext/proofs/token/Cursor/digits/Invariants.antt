use Rattle.std.proofs.Common.{◌≡◌, length}
use Rattle.ruletext.proofs.Loops.{Through}
use Rattle.ruletext.proofs.token.Cursor.digits.Given as goal

abbrev pub invariant-loop-self : goal.invariant-loop-self
invariant-loop-self l = (l.self.line ≡ l.initial.self.line) × Through l.initial.self.at l.text l.self.at l.self.rest.now

abbrev pub decreases-loop-self : goal.decreases-loop-self
decreases-loop-self l = length l.self.rest.now
