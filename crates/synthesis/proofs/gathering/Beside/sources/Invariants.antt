use Rattle.std.proofs.Common.{◌≡◌, ℕ, ◌+◌, ◌<◌, false, length, get_or}
use Rattle.model.specs.Rules.{beside}
use Rattle.synthesis.specs.Tables.{automaton}
use Rattle.synthesis.proofs.gathering.Beside.sources.Given as goal

abbrev pub invariant-loop-state : goal.invariant-loop-state
invariant-loop-state g l =
    let M = g.R.Rule.meaning l.self.rule.now in
    let a = l.self.arrows.now in
    (length l.states ≡ 16) × ((k : ℕ) → k < l.state → l.command < a.numbers.commands → l.situation < a.numbers.situations → k < a.states + M.states → l.follower < a.states + M.states → get_or l.states k false ≡ (beside (automaton a) M).follows k l.command l.situation l.follower)
