use Rattle.std.proofs.Common.{sym, ◌∙◌}
use Rattle.ctlfile.proofs.Showing.{mark_shown}
use Rattle.ctlfile.proofs.window.Window.mark_at.Goals as goal

pub returns : goal.returns
returns c =
    let w = c.args.self.now in
    c.mark_of.ensures
    ∙ sym (mark_shown w.states w.situations w.rule_states w.count w.records.now w.certificate.now c.args.state c.args.rule_state w.whole_certificate c.requires.known_state c.requires.known_rule_state)
