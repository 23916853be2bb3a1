use Rattle.std.proofs.Common.{◌≡◌, ℕ, ◌<◌, length, get_or}
use Rattle.model.specs.Rules.{beside}
use Rattle.synthesis.specs.Tables.{automaton, Replying, no_replies}
use Rattle.synthesis.proofs.arrows.Arrows.beside.Given as goal

abbrev pub invariant-loop-command : goal.invariant-loop-command
invariant-loop-command g l = (length l.replies ≡ 8) × ((k : ℕ) → k < l.command → k < l.self.numbers.commands → Replying (beside (automaton l.self) (g.R.Rule.meaning l.rule)) k (get_or l.replies k no_replies))
