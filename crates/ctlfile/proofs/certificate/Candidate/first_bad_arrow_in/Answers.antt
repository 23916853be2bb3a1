use Rattle.std.proofs.Common.{arith}
use Rattle.model.specs.File.{bad_arrow}
use Rattle.ctlfile.specs.Windows.{shown, arrow_places_from}
use Rattle.ctlfile.proofs.Firsts.{joined_none_told, joined_some_told}
use Rattle.ctlfile.proofs.certificate.Candidate.first_bad_arrow_in.Goals as goal

pub returns-in-Some : goal.returns-in-Some
returns-in-Some g c =
    let w = c.args.self.now.window in
    joined_some_told (bad_arrow (g.R.Rule.meaning c.args.self.now.rule.now) (shown w)) (arrow_places_from w.rule_states c.args.state c.args.situation) w.rule_states c.loop-rule_state.rule_state c.in-Some.place (omega arith) c.loop-rule_state.invariant c.in-Some.ensures

pub returns : goal.returns
returns g c =
    let w = c.args.self.now.window in
    joined_none_told (bad_arrow (g.R.Rule.meaning c.args.self.now.rule.now) (shown w)) (arrow_places_from w.rule_states c.args.state c.args.situation) w.rule_states (λ k l. c.loop-rule_state.invariant k (omega arith))
