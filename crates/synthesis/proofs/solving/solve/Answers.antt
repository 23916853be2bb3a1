use Rattle.std.proofs.Common.{◌≡◌, ◌-◌, ◌<◌, map, length, take, sym, ◌∙◌, subst, arith, take_at}
use Rattle.std.proofs.lemmas.List.{length-take-le}
use Rattle.model.specs.Rules.{together}
use Rattle.synthesis.specs.Tables.{automaton}
use Rattle.synthesis.specs.Answers.{Answered}
use Rattle.synthesis.proofs.Stored.{answered_alike}
use Rattle.synthesis.proofs.solving.solve.Goals as goal

pub returns : goal.returns
returns g c =
    let A = automaton c.gather-arrows.result in
    let B = together (g.R.Rule.meaning c.args.house.now) (map g.T.Rule.meaning c.args.added.now) in
    let agrees = c.gather-arrows.ensures.agrees in
    let some : 0 < B.commands = omega (arith, agrees.commands, c.gather-arrows.ensures.some.1) in
    let capacity = c.args.capacity in
    let last = c.solve_table.new.states in
    let long : length last ≡ c.args.workspace.now.states.len = omega arith in
    let size : length (take (capacity - 0) c.as_mut_slice.result.now) ≡ capacity = length-take-le (capacity - 0) c.as_mut_slice.result.now (omega arith) ∙ omega arith in
    answered_alike A B agrees some capacity c.args.limit c.solve_table.result _
    (subst (λ xs. Answered A capacity c.args.limit c.solve_table.result xs) (sym (take_at last _ c.args.workspace.now.states.len long))
    (subst (λ n. Answered A n c.args.limit c.solve_table.result last) size c.solve_table.ensures))
