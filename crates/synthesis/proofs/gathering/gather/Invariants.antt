use Rattle.std.proofs.Common.{◌<◌, map, take}
use Rattle.model.specs.Rules.{together}
use Rattle.synthesis.specs.Tables.{automaton, Agrees}
use Rattle.synthesis.proofs.gathering.gather.Given as goal

abbrev pub invariant-loop-rule : goal.invariant-loop-rule
invariant-loop-rule g l = Agrees (automaton l.arrows) (together (g.R.Rule.meaning l.house) (map g.T.Rule.meaning (take l.rule-index l.added))) × (0 < l.arrows.states)
