use Rattle.std.proofs.Common.{◌≡◌, ◌+◌, ◌*◌, map, length, take}
use Rattle.model.specs.Lists.{joined}
use Rattle.model.specs.File.{record_bytes, tally_byte}
use Rattle.synthesis.specs.Answers.{row_of, position_of}
use Rattle.ctlfile.proofs.writing.Widths.body_size.Given as goal

abbrev pub invariant-loop-state : goal.invariant-loop-state
invariant-loop-state l =
    (l.size ≡ length (joined record_bytes (map (row_of l.self.situations) (take l.state-index l.states))) + length (joined (map tally_byte) (map (position_of l.self.rule_states) (take l.state-index l.states))))
    × (l.size ≡ l.state-index * (1 + 2 * l.self.situations + l.self.rule_states))
