use Rattle.synthesis.proofs.Pruned.{Pruning}
use Rattle.synthesis.proofs.pruning.prune.Given as goal

abbrev pub invariant-loop-place : goal.invariant-loop-place
invariant-loop-place l = Pruning l.numbers.commands l.numbers.situations l.links l.initial.safe l.safe l.pruned l.place
