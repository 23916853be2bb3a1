use Rattle.std.proofs.Common.{◌≡◌, cond, ◌&&◌, ltb, get_or}
use Rattle.model.specs.Positions.{largest}
use Rattle.synthesis.specs.Tables.{automaton}
use Rattle.synthesis.proofs.arrows.Arrows.largest_before.Given as goal

abbrev pub invariant-loop-state : goal.invariant-loop-state
invariant-loop-state l = l.most ≡ largest (λ q. cond (ltb q l.self.states && (automaton l.self).follows q l.command l.situation l.follower) (get_or l.position.marks q 0) 0) l.state
