use Rattle.std.proofs.Common.{◌≡◌, ◌≤◌, min, length, take, drop}
use Rattle.sheet.proofs.Going.{Going}
use Rattle.sheet.proofs.sheet.Sheet.calls.Given as goal

abbrev pub invariant-loop-i : goal.invariant-loop-i
invariant-loop-i g l =
    Going {R = g.row.R.Denot} l.initial.self (take (min (length l.requests) (length l.initial.answers)) l.requests) l.initial.output l.self l.i l.at l.answers l.output
    × (l.at ≤ length l.output)
    × (drop (min (length l.requests) (length l.initial.answers)) l.answers ≡ drop (min (length l.requests) (length l.initial.answers)) l.initial.answers)
