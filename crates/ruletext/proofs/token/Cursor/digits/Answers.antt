use Rattle.std.proofs.Common.{sym, ap, ◌∙◌}
use Rattle.std.proofs.lemmas.Result.{err_from_is_err_and}
use Rattle.model.specs.Reading.{part}
use Rattle.ruletext.specs.Lines.{states_of}
use Rattle.ruletext.proofs.Loops.{through_more, through_wrong, through_unended, through_end}
use Rattle.ruletext.proofs.token.Cursor.digits.Goals as goal

pub returns-in_err-number : goal.returns-in_err-number
returns-in_err-number c =
    let before = c.args.self.now in
    let here = c.loop-self.self in
    let p = err_from_is_err_and c.from_residual.result c.from_residual.ensures.1 in
    rw (p.1, p.2) (
      c.in_err-number.ensures.0 ∙ c.loop-self.invariant.0,
      through_wrong before.at before.rest.now here.at here.rest.now c.loop-self.invariant.1 c.in_err-number.field-0.0.byte (sym c.sees.ensures ∙ c.loop-self-test.true) c.in_err-number.ensures.1,
    )

pub loop-self-preserved : goal.loop-self-preserved
loop-self-preserved c =
    let before = c.args.self.now in
    let here = c.loop-self.self in
    let after = c.number.new.self in (
      c.in_ok-number.ensures.0 ∙ c.loop-self.invariant.0,
      through_more before.at before.rest.now here.at here.rest.now c.loop-self.invariant.1 c.in_ok-number.field-0 after.at after.rest.now c.in_ok-number.ensures.1,
    )

pub returns-in_err-byte : goal.returns-in_err-byte
returns-in_err-byte c =
    let before = c.args.self.now in
    let here = c.loop-self.self in
    let p = err_from_is_err_and c.from_residual-in_err-byte.result c.from_residual-in_err-byte.ensures.1 in
    rw (p.1, p.2) (
      c.in_err-byte.ensures.0 ∙ c.loop-self.invariant.0,
      through_unended before.at before.rest.now here.at here.rest.now c.loop-self.invariant.1 c.in_err-byte.field-0.0.byte (sym c.sees.ensures ∙ c.loop-self-test.false) c.in_err-byte.ensures.1,
    )

pub returns : goal.returns
returns c =
    let before = c.args.self.now in
    let here = c.loop-self.self in
    let after = c.byte.new.self in (
      c.in_ok-byte.ensures.0 ∙ c.loop-self.invariant.0,
      through_end before.at before.rest.now here.at here.rest.now c.loop-self.invariant.1 c.in_ok-byte.field-0 after.at after.rest.now c.in_ok-byte.ensures.1
          ∙ ap (λ z. part (states_of z) after.at after.rest.now) (sym c.as_chunks.ensures.front),
    )
