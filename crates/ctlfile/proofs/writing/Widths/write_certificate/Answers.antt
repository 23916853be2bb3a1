use Rattle.std.proofs.Common.{◌≡◌, ℕ, ◌*◌, List, map, length, take, ap, ◌∙◌, arith}
use Rattle.std.proofs.lemmas.List.{take_all}
use Rattle.synthesis.specs.declared.state.State.{State}
use Rattle.synthesis.specs.Answers.{position_of}
use Rattle.model.specs.Lists.{joined}
use Rattle.model.specs.File.{tally_byte, tallies}
use Rattle.ctlfile.proofs.Filling.{filled_all}
use Rattle.ctlfile.proofs.writing.Widths.write_certificate.Goals as goal

pub returns : goal.returns
unfolding tallies
returns c =
    let states : List State = c.args.states.now in
    let n = c.args.self.rule_states in
    let e : length states ≡ c.loop-number.number = omega arith in
    filled_all (length states * n) c.loop-number.part (joined (map tally_byte) (map (position_of n) states)) (omega arith)
    (ap {B = List ℕ} (λ k. take (k * n) c.loop-number.part) e ∙ c.loop-number.invariant
    ∙ ap {B = List ℕ} (λ (l : List State). joined (map tally_byte) (map (position_of n) l)) (take_all c.loop-number.number states (omega arith)))
