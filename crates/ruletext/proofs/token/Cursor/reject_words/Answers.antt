use Rattle.std.proofs.Common.{refl}
use Rattle.std.proofs.lemmas.Result.{err_from_is_err_and}
use Rattle.model.specs.Text.{r_line}
use Rattle.model.specs.Reading.{digits, given, part}
use Rattle.model.proofs.Reading.Basics.{bind_part, bind_wrong}
use Rattle.ruletext.specs.Lines.{states_in}
use Rattle.ruletext.proofs.token.Cursor.reject_words.Goals as goal

pub returns-in_err-states : goal.returns-in_err-states
returns-in_err-states c =
    let before = c.args.self.now in
    let p = err_from_is_err_and c.from_residual.result c.from_residual.ensures.1 in
    rw (p.1, p.2) (c.in_err-states.ensures.0, bind_wrong digits (λ qs. given (r_line qs)) before.at before.rest.now c.in_err-states.field-0.0.byte c.in_err-states.ensures.1)

pub returns : goal.returns
returns c =
    let before = c.args.self.now in
    let after = c.digits.new.self in
    let qs = states_in c.in_ok-states.states in (
      c.in_ok-states.ensures.0,
      bind_part digits (λ qs. given (r_line qs)) before.at before.rest.now qs after.at after.rest.now (part (r_line qs) after.at after.rest.now) c.in_ok-states.ensures.1 refl,
    )
