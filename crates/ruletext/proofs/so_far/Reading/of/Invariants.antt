use Rattle.std.proofs.Common.{length}
use Rattle.ruletext.proofs.Lining.{Lining}
use Rattle.ruletext.proofs.so_far.Reading.of.Given as goal

abbrev pub invariant-loop-rest : goal.invariant-loop-rest
invariant-loop-rest l = Lining l.fn.numbers l.text l.reading l.rest

abbrev pub decreases-loop-rest : goal.decreases-loop-rest
decreases-loop-rest l = length l.rest
