use Rattle.std.proofs.Common.{arith, rules}
use Rattle.model.specs.File.{bad_arrow, place}
use Rattle.ctlfile.specs.declared.certificate.Source.{Source}
use Rattle.ctlfile.specs.Windows.{shown, bad_follower}
use Rattle.ctlfile.proofs.Firsts.{map_none_told, numbered_as_told}
use Rattle.ctlfile.proofs.Showing.{rows_count, nexts_count}
use Rattle.ctlfile.proofs.Testing.{good_command, good_next, absent_arrow, arrow_test}
use Rattle.ctlfile.proofs.certificate.Candidate.first_bad_arrow_from.Goals as goal

pub returns-then-mark-eq0 : goal.returns-then-mark-eq0
returns-then-mark-eq0 g c =
    let w = c.args.self.now.window in
    let A = g.R.Rule.meaning c.args.self.now.rule.now in
    let s = c.args.state in
    let x = c.args.situation in
    let q = c.args.rule_state in
    map_none_told (bad_arrow A (shown w)) (λ p. place s x q p) w.rule_states (λ p l. absent_arrow A (shown w) s x q p (omega (arith, c.mark_at-mark.ensures)))

pub first_bad_follower-requires : goal.first_bad_follower-requires
first_bad_follower-requires g c =
    let w = c.args.self.now.window in
    let A = g.R.Rule.meaning c.args.self.now.rule.now in
    let s = c.args.state in
    let rows = rows_count w.states w.situations w.rule_states w.count w.records.now w.certificate.now in
    let nexts = nexts_count w.states w.situations w.rule_states w.count w.records.now w.certificate.now s c.requires.known_state in
    record {
      known_rule_state = c.requires.known_rule_state;
      known_command = omega (arith, c.command_at.ensures, good_command A (shown w) s c.args.self.now.good (omega arith));
      known_situation = c.requires.known_situation;
      known_next = omega (arith, c.next_at.ensures, good_next A (shown w) s c.args.situation c.args.self.now.good (omega arith) (omega arith));
    }

pub returns : goal.returns
returns g c =
    let w = c.args.self.now.window in
    let A = g.R.Rule.meaning c.args.self.now.rule.now in
    let s = c.args.state in
    let x = c.args.situation in
    let q = c.args.rule_state in
    let from : Source = record { rule_state = q; mark = c.mark_at-mark.result; command = c.command_at.result; situation = x; next = c.next_at.result } in
    numbered_as_told (bad_follower A (shown w) from) (bad_arrow A (shown w)) (λ p. place s x q p) w.rule_states c.first_bad_follower.result c.map.result
    (λ p. arrow_test A (shown w) s x q p c.mark_at-mark.result c.command_at.result c.next_at.result c.mark_at-mark.ensures (omega arith) c.command_at.ensures c.next_at.ensures)
    c.first_bad_follower.ensures (search rules)
