use Rattle.script.proofs.parse.Parser.+rule.Given as goal

abbrev pub decreases-rule : goal.decreases-rule
decreases-rule l = l.levels
