use Rattle.synthesis.specs.Safety.{Widest, trues}
use Rattle.synthesis.proofs.pruning.safe_part.Given as goal

abbrev pub invariant-loop-numbers : goal.invariant-loop-numbers
invariant-loop-numbers l = Widest l.numbers.commands l.numbers.situations l.links l.safe

abbrev pub decreases-loop-numbers : goal.decreases-loop-numbers
decreases-loop-numbers l = trues l.safe
