use Rattle.std.proofs.Common.{◌+◌, ◌*◌, sym, ◌∙◌, arith}
use Rattle.ctlfile.proofs.Showing.{next_shown}
use Rattle.ctlfile.proofs.window.Window.next_at.Goals as goal

pub returns : goal.returns
returns c =
    let w = c.args.self.now in
    c.from_le_bytes.ensures
    ∙ sym (next_shown w.states w.situations w.rule_states w.count w.records.now w.certificate.now c.args.state c.args.situation (c.record_at.result + 1 + 2 * c.args.situation) c.requires.known_state c.requires.known_situation (omega arith))
