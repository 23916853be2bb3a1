use Rattle.std.proofs.Common.{◌≡◌, ℕ, ◌<◌, length, get_or}
use Rattle.model.specs.Rules.{beside}
use Rattle.synthesis.specs.Tables.{automaton, Moving, no_moves}
use Rattle.synthesis.proofs.gathering.Beside.replies.Given as goal

abbrev pub invariant-loop-situation : goal.invariant-loop-situation
invariant-loop-situation g l =
    let M = g.R.Rule.meaning l.self.rule.now in
    let a = l.self.arrows.now in
    (length l.moves ≡ 8) × ((k : ℕ) → k < l.situation → l.command < a.numbers.commands → k < a.numbers.situations → Moving (beside (automaton a) M) l.command k (get_or l.moves k no_moves))
