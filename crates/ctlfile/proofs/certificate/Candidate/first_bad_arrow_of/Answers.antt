use Rattle.std.proofs.Common.{arith}
use Rattle.model.specs.File.{bad_arrow}
use Rattle.ctlfile.specs.Windows.{shown, arrow_places_in}
use Rattle.ctlfile.proofs.Firsts.{joined_none_told, joined_some_told}
use Rattle.ctlfile.proofs.certificate.Candidate.first_bad_arrow_of.Goals as goal

pub returns-in-Some : goal.returns-in-Some
returns-in-Some g c =
    let w = c.args.self.now.window in
    joined_some_told (bad_arrow (g.R.Rule.meaning c.args.self.now.rule.now) (shown w)) (arrow_places_in w.rule_states c.args.state) w.situations c.loop-situation.situation c.in-Some.place (omega arith) c.loop-situation.invariant c.in-Some.ensures

pub returns : goal.returns
returns g c =
    let w = c.args.self.now.window in
    joined_none_told (bad_arrow (g.R.Rule.meaning c.args.self.now.rule.now) (shown w)) (arrow_places_in w.rule_states c.args.state) w.situations (λ k l. c.loop-situation.invariant k (omega arith))
