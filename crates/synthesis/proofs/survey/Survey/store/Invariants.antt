use Rattle.std.proofs.Common.{ℕ, ◌<◌, length, get_or}
use Rattle.synthesis.specs.declared.state.State.{State}
use Rattle.synthesis.specs.Tables.{automaton}
use Rattle.synthesis.specs.Answers.{StandsAt}
use Rattle.synthesis.proofs.survey.Survey.store.Given as goal

abbrev pub invariant-loop-state : goal.invariant-loop-state
invariant-loop-state l =
    (k : ℕ) (d : State) → k < l.state → StandsAt (automaton l.self.arrows.now) (length l.self.met.now) l.self.met.now l.places l.nexts k (get_or l.states k d)
