use Rattle.std.proofs.Common.{◌≡◌, ℕ, Bool, true, false, rules, tests}
use Rattle.std.proofs.lemmas.Iterator.{first_from_Range}
use Rattle.model.specs.File.{bad_byte, place}
use Rattle.ctlfile.specs.Windows.{shown}
use Rattle.ctlfile.proofs.Firsts.{from_range, numbered_told}
use Rattle.ctlfile.proofs.window.Window.first_bad_byte_in.Goals as goal

pub returns : goal.returns
returns c =
    let w = c.args.self.now in
    let test : ℕ → Bool = λ q. bad_byte (shown w) (place c.args.state 0 q 0) in
    let found = first_from_Range _ _ _ c.find.result (λ q. test q ≡ true) (λ q. test q ≡ false) c.find.ensures.ran (λ x q k. search (rules, tests)) (λ x q k. search (rules, tests)) in
    numbered_told (bad_byte (shown w)) (λ q. place c.args.state 0 q 0) w.rule_states c.find.result c.map.result (from_range test w.rule_states c.find.result found) (search rules)
