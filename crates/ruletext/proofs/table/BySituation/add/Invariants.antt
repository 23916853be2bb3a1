use Rattle.std.proofs.Common.{◌≡◌, ℕ, ◌<◌, ◌&&◌, ◌||◌, ltb}
use Rattle.ruletext.specs.Lines.{picked}
use Rattle.ruletext.specs.Tables.{has_state, in_situation, taken}
use Rattle.ruletext.proofs.table.BySituation.add.Given as goal

abbrev pub invariant-loop-x : goal.invariant-loop-x
invariant-loop-x l =
    (x p : ℕ) → x < 8 → p < 8 → in_situation l.self x p ≡ (in_situation l.initial.self x p || ((ltb x l.x && taken (picked l.chosen) x) && has_state l.states p))
