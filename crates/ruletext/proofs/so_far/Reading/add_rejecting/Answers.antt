use Rattle.std.proofs.Common.{[], sym, refl, ap, ◌∙◌}
use Rattle.model.specs.Text.{TextRule, n_line, r_line}
use Rattle.model.specs.Reading.{sized, full}
use Rattle.model.proofs.Reading.Correct.{correct_exact}
use Rattle.ruletext.specs.Names.{spelled}
use Rattle.ruletext.specs.Lines.{line_of, states_in}
use Rattle.ruletext.specs.Standing.{step}
use Rattle.ruletext.proofs.Stepping.{named_among}
use Rattle.ruletext.proofs.Going.{step_on, rejecting_drafted}
use Rattle.ruletext.proofs.so_far.Reading.add_rejecting.Goals as goal

pub returns : goal.returns
returns c =
    let before = c.args.self.now in
    let S = before.numbers.situations in
    let C = before.numbers.commands in
    let name = spelled c.args.name in
    let states = c.args.states in
    let n = states.count in
    let q = states.start in
    let qs = states_in c.in-Rejects.rejects.states in
    let none = sym c.in_default-outside.ensures in
    let r : TextRule = record { name = name; states = n; start = q; rejecting = qs; arrows = [] } in
    λ m standing. (
      refl,
      refl,
      (
        full r,
        ap (λ z. step S C before.line z (line_of c.args.words)) standing.0 ∙ ap (λ w. step S C before.line (sized name n q) (line_of w)) c.in-Rejects.is
            ∙ step_on S C before.line (sized name n q) (full r) (r_line qs) refl none,
        (
          r,
          refl,
          rejecting_drafted S C name n q before.table.rejecting c.of-self.result before.table.arrows qs standing.1 ((correct_exact (n_line name)).0 c.args.name.good)
              states.counted.0 states.counted.1 states.begins none (λ p h. c.of-self.ensures.named p h ∙ named_among c.in-Rejects.rejects.states.now p) c.of-self.ensures.none,
        ),
      ),
    )
