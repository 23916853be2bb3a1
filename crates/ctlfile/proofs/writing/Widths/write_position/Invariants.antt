use Rattle.std.proofs.Common.{◌≡◌, map, take}
use Rattle.model.specs.File.{tally_byte}
use Rattle.ctlfile.proofs.writing.Widths.write_position.Given as goal

abbrev pub invariant-loop-rule_state : goal.invariant-loop-rule_state
invariant-loop-rule_state l = take l.rule_state l.part ≡ map tally_byte (take l.rule_state l.position.marks)
