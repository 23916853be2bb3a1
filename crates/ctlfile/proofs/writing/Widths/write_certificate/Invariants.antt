use Rattle.std.proofs.Common.{◌≡◌, ◌*◌, map, take}
use Rattle.model.specs.Lists.{joined}
use Rattle.model.specs.File.{tally_byte}
use Rattle.synthesis.specs.Answers.{position_of}
use Rattle.ctlfile.proofs.writing.Widths.write_certificate.Given as goal

abbrev pub invariant-loop-number : goal.invariant-loop-number
invariant-loop-number l = take (l.number * l.self.rule_states) l.part ≡ joined (map tally_byte) (map (position_of l.self.rule_states) (take l.number l.states))
