use Rattle.std.proofs.Common.{◌≡◌, ℕ, Bool, true, false, rules, tests}
use Rattle.std.proofs.lemmas.Iterator.{first_from_Range}
use Rattle.model.specs.File.{bad_start, place}
use Rattle.ctlfile.specs.Windows.{shown}
use Rattle.ctlfile.proofs.Firsts.{from_range, numbered_told}
use Rattle.ctlfile.proofs.certificate.Candidate.first_bad_start.Goals as goal

pub returns : goal.returns
returns g c =
    let w = c.args.self.now.window in
    let A = g.R.Rule.meaning c.args.self.now.rule.now in
    let test : ℕ → Bool = λ q. bad_start A (shown w) (place 0 0 q 0) in
    let found = first_from_Range _ _ _ c.find.result (λ q. test q ≡ true) (λ q. test q ≡ false) c.find.ensures.ran (λ x q k. search (rules, tests)) (λ x q k. search (rules, tests)) in
    numbered_told (bad_start A (shown w)) (λ q. place 0 0 q 0) w.rule_states c.find.result c.map.result (from_range test w.rule_states c.find.result found) (search rules)
