use Rattle.std.proofs.Common.{arith}
use Rattle.model.specs.File.{bad_byte}
use Rattle.ctlfile.specs.Windows.{shown, byte_places_in}
use Rattle.ctlfile.proofs.Firsts.{joined_none_told, joined_some_told}
use Rattle.ctlfile.proofs.window.Window.first_bad_byte.Goals as goal

pub returns-in-Some : goal.returns-in-Some
returns-in-Some c =
    let w = c.args.self.now in
    joined_some_told (bad_byte (shown w)) (byte_places_in w.rule_states) w.states c.loop-state.state c.in-Some.place (omega arith) c.loop-state.invariant c.in-Some.ensures

pub returns : goal.returns
returns c =
    let w = c.args.self.now in
    joined_none_told (bad_byte (shown w)) (byte_places_in w.rule_states) w.states (λ k l. c.loop-state.invariant k (omega arith))
