use Rattle.std.proofs.Common.{arith}
use Rattle.model.specs.Positions.{first_mark, start_position}
use Rattle.synthesis.specs.Tables.{automaton}
use Rattle.synthesis.proofs.Marks.{stored_by}
use Rattle.synthesis.proofs.arrows.Arrows.start.Goals as goal

pub returns : goal.returns
unfolding start_position
returns c =
    let a = c.args.self.now in
    stored_by (first_mark (automaton a)) a.states c.first_marks.result a.few_states (omega arith) c.first_marks.ensures
