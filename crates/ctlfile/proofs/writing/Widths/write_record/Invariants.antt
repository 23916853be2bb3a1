use Rattle.std.proofs.Common.{◌≡◌, ◌+◌, ◌*◌, ◌∷◌, take}
use Rattle.model.specs.Lists.{joined}
use Rattle.model.specs.File.{bytes_of}
use Rattle.ctlfile.proofs.writing.Widths.write_record.Given as goal

abbrev pub invariant-loop-situation : goal.invariant-loop-situation
invariant-loop-situation l = take (1 + 2 * l.situation) l.part ≡ l.state.command ∷ joined (bytes_of 2) (take l.situation l.state.nexts)
