use Rattle.std.proofs.Common.{◌≡◌, true, ◌&&◌, ltb, get_or, sym, refl, ap, ◌∙◌, arith, rules, tests}
use Rattle.std.proofs.lemmas.Bool.{lt-ltb}
use Rattle.std.proofs.lemmas.Iterator.{YieldsList-from_range}
use Rattle.std.proofs.lemmas.Iterator.Search.{all_from_yields_List}
use Rattle.model.specs.Automaton.{Row, no_row}
use Rattle.model.specs.Lists.{every}
use Rattle.ctlfile.specs.Windows.{shown}
use Rattle.ctlfile.proofs.Showing.{nexts_count}
use Rattle.ctlfile.proofs.Testing.{every_numbered}
use Rattle.ctlfile.proofs.window.Window.is_good_record.Goals as goal

pub returns-then-command_at-commands : goal.returns-then-command_at-commands
returns-then-command_at-commands g c =
    let w = c.args.self.now in
    let r : Row = get_or (shown w).rows c.args.state no_row in
    let long = nexts_count w.states w.situations w.rule_states w.count w.records.now w.certificate.now c.args.state c.requires in
    let command : ltb r.command (g.R.Rule.meaning c.args.rule.now).commands ≡ true = lt-ltb r.command (g.R.Rule.meaning c.args.rule.now).commands (omega (arith, c.command_at.ensures, c.commands.ensures.value, c.if-command_at-commands.true)) in
    all_from_yields_List (λ k. ltb (get_or r.nexts k 0) w.states) _ _ _ c.all.ensures.ran (YieldsList-from_range 0 w.situations w.situations refl (omega arith)) (λ x b q k. search (rules, tests))
    ∙ every_numbered (λ n. ltb n w.states) r.nexts 0 w.situations long
    ∙ sym (ap (λ b. b && every (λ n. ltb n w.states) r.nexts) command)
