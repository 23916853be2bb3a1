use Rattle.std.proofs.Common.{◌≡◌, ◌+◌, ◌*◌, map, take}
use Rattle.model.specs.Lists.{joined}
use Rattle.model.specs.File.{record_bytes}
use Rattle.synthesis.specs.Answers.{row_of}
use Rattle.ctlfile.proofs.writing.Widths.write_records.Given as goal

abbrev pub invariant-loop-number : goal.invariant-loop-number
invariant-loop-number l = take (l.number * (1 + 2 * l.self.situations)) l.part ≡ joined record_bytes (map (row_of l.self.situations) (take l.number l.states))
