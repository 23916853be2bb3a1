use Rattle.std.proofs.Common.{◌≡◌, ℕ, ◌+◌, ◌<◌, length, get_or}
use Rattle.model.specs.Rules.{beside}
use Rattle.synthesis.specs.Tables.{automaton, Into, no_sources}
use Rattle.synthesis.proofs.gathering.Beside.moves.Given as goal

abbrev pub invariant-loop-follower : goal.invariant-loop-follower
invariant-loop-follower g l =
    let M = g.R.Rule.meaning l.self.rule.now in
    let a = l.self.arrows.now in
    (length l.into ≡ 16) × ((k : ℕ) → k < l.follower → l.command < a.numbers.commands → l.situation < a.numbers.situations → k < a.states + M.states → Into (beside (automaton a) M) l.command l.situation k (get_or l.into k no_sources))
