use Rattle.std.proofs.Common.{◌≡◌, ℕ, ◌+◌, ◌<◌, ◌≤◌}
use Rattle.model.specs.Positions.{largest, handed}
use Rattle.synthesis.specs.Tables.{automaton, view}
use Rattle.synthesis.proofs.Marks.{filled}
use Rattle.synthesis.proofs.arrows.Arrows.step.Given as goal

abbrev pub invariant-loop-follower : goal.invariant-loop-follower
invariant-loop-follower l =
    let f = λ (p : ℕ). largest (handed (automaton l.self) l.command l.situation (view l.self.states l.position) p) l.self.states in
    (l.marks ≡ filled 16 f l.follower) × ((k : ℕ) → k < l.follower → f k ≤ l.c + 1)
