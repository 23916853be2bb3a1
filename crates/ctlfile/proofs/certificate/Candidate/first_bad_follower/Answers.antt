use Rattle.std.proofs.Common.{◌≡◌, ℕ, Bool, true, false, rules, tests}
use Rattle.std.proofs.lemmas.Iterator.{first_from_Range}
use Rattle.ctlfile.specs.Windows.{shown, bad_follower}
use Rattle.ctlfile.proofs.Firsts.{from_range}
use Rattle.ctlfile.proofs.certificate.Candidate.first_bad_follower.Goals as goal

pub returns : goal.returns
returns g c =
    let d = c.args.self.now in
    let test : ℕ → Bool = bad_follower (g.R.Rule.meaning d.rule.now) (shown d.window) c.args.source in
    from_range test d.window.rule_states c.find.result
    (first_from_Range _ _ _ c.find.result (λ q. test q ≡ true) (λ q. test q ≡ false) c.find.ensures.ran (λ x q k. search (rules, tests)) (λ x q k. search (rules, tests)))
