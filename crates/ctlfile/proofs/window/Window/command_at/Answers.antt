use Rattle.std.proofs.Common.{sym}
use Rattle.ctlfile.proofs.Showing.{command_shown}
use Rattle.ctlfile.proofs.window.Window.command_at.Goals as goal

pub returns : goal.returns
returns c =
    let w = c.args.self.now in
    sym (command_shown w.states w.situations w.rule_states w.count w.records.now w.certificate.now c.args.state c.record_at.result c.requires (sym c.record_at.ensures))
