use Rattle.std.proofs.Common.{◌≡◌, ℕ, ◌<◌, ◌&&◌, ◌||◌, ltb}
use Rattle.ruletext.specs.Lines.{picked}
use Rattle.ruletext.specs.Tables.{has_state, by_command, taken}
use Rattle.ruletext.proofs.table.ByCommand.add.Given as goal

abbrev pub invariant-loop-u : goal.invariant-loop-u
invariant-loop-u l =
    (u x p : ℕ) → u < 8 → x < 8 → p < 8
    → by_command l.self u x p ≡ (by_command l.initial.self u x p || ((ltb u l.u && taken (picked l.line.command) u) && ((ltb x l.situations && taken (picked l.line.situation) x) && has_state l.states p)))
