use Rattle.synthesis.proofs.pruning.safe_part.Goals as goal

pub loop-numbers-preserved : goal.loop-numbers-preserved
loop-numbers-preserved c = c.prune.ensures.widest c.loop-numbers.invariant

pub returns : goal.returns
returns c = record { closed = c.prune.ensures.closed c.loop-numbers-test.false; widest = c.prune.ensures.widest c.loop-numbers.invariant }
