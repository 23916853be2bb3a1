use Rattle.std.proofs.Common.{◌+◌, ltb, Bool, sym, ap, ◌∙◌}
use Rattle.ctlfile.proofs.Showing.{byte_test}
use Rattle.ctlfile.proofs.window.Window.is_bad_byte.Goals as goal

pub returns : goal.returns
returns c =
    let w = c.args.self.now in
    ap {B = Bool} (λ m. ltb (w.count + 1) m) c.mark_at.ensures
    ∙ sym (byte_test w.states w.situations w.rule_states w.count w.records.now w.certificate.now c.args.state c.args.rule_state)
