use Rattle.std.proofs.Common.{◌≡◌, None, sym, refl, ap, ◌∙◌, subst, arith}
use Rattle.model.specs.Text.{t_line, numbers}
use Rattle.model.specs.Reading.{full, with_arrows}
use Rattle.ruletext.specs.Names.{spelled}
use Rattle.ruletext.specs.Lines.{line_of, arrows_of}
use Rattle.ruletext.specs.Ranges.{first_outside}
use Rattle.ruletext.specs.Standing.{step, StandsAt}
use Rattle.ruletext.proofs.Holding.{arrows_below}
use Rattle.ruletext.proofs.Going.{step_on, arrows_drafted}
use Rattle.ruletext.proofs.so_far.Reading.add_arrows.Goals as goal

pub connect-requires-clause-fits : goal.connect-requires-clause-fits
connect-requires-clause-fits c =
    let given = c.args.self.now.numbers in
    let states = c.args.states in
    let a = arrows_of c.in-Arrows.arrows in
    let l = arrows_below given.situations given.commands states.count a (sym c.in_default-outside_arrows.ensures) in
    omega (arith, l.from)

pub returns : goal.returns
returns c =
    let before = c.args.self.now in
    let after = c.connect.new.self in
    let S = before.numbers.situations in
    let C = before.numbers.commands in
    let name = spelled c.args.name in
    let states = c.args.states in
    let n = states.count in
    let q = states.start in
    let a = arrows_of c.in-Arrows.arrows in
    let none = sym c.in_default-outside_arrows.ensures in
    λ m standing so_far.
    let r = standing.0 in
    let d = standing.2 in (
      refl,
      refl,
      (
        full (with_arrows r a),
        ap (λ z. step S C before.line z (line_of c.args.words)) standing.1 ∙ ap (λ w. step S C before.line (full r) (line_of w)) c.in-Arrows.is
            ∙ step_on S C before.line (full r) (full (with_arrows r a)) (t_line a) refl (subst (λ z. first_outside (numbers S C z (t_line a)) ≡ None) (sym d.counts) none),
        subst (λ z. StandsAt z (record before { table = after }) (full (with_arrows r a))) (sym so_far)
            (with_arrows r a, refl, arrows_drafted S C name n q before.table.rejecting after.rejecting before.table.arrows after.arrows r a d none c.connect.ensures.added c.connect.ensures.same),
      ),
    )
