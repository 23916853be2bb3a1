use Rattle.std.proofs.Common.{ℕ, ◌+◌, sym, ap, ◌∙◌}
use Rattle.model.specs.Automaton.{weight}
use Rattle.synthesis.specs.Tables.{automaton, view}
use Rattle.synthesis.proofs.Marks.{grown, grown_present, grown_absent, largest_grown}
use Rattle.synthesis.proofs.arrows.Arrows.handed.Goals as goal

pub returns-then-most-gt0 : goal.returns-then-most-gt0
returns-then-most-gt0 c =
    let A = automaton c.args.self.now in
    let w = weight A c.args.follower in
    let most = c.largest_before-most.result in
    ap {B = ℕ} (λ v. most + v) c.weight.ensures.value
    ∙ sym (grown_present w most c.if-most-gt0.true)
    ∙ ap {B = ℕ} (grown w) c.largest_before-most.ensures
    ∙ sym (largest_grown A c.args.command c.args.situation (view A.states c.args.position.now) c.args.follower A.states)

pub returns-else-most-gt0 : goal.returns-else-most-gt0
returns-else-most-gt0 c =
    let A = automaton c.args.self.now in
    let w = weight A c.args.follower in
    sym (grown_absent w c.largest_before-most.result c.if-most-gt0.false)
    ∙ ap {B = ℕ} (grown w) c.largest_before-most.ensures
    ∙ sym (largest_grown A c.args.command c.args.situation (view A.states c.args.position.now) c.args.follower A.states)
