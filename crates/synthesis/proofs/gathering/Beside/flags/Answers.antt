use Rattle.std.proofs.Common.{◌-◌, cond, get_or, sym, ap, ◌∙◌}
use Rattle.std.proofs.lemmas.Bool.{lt-ltb, le-ltb}
use Rattle.synthesis.specs.declared.arrows.Flags.{Flags}
use Rattle.synthesis.specs.Tables.{no_flags, flags_of}
use Rattle.synthesis.proofs.gathering.Beside.flags.Goals as goal

pub returns-then-state-n : goal.returns-then-state-n
unfolding flags_of
returns-then-state-n g c _ =
    let M = g.R.Rule.meaning c.args.self.now.rule.now in
    let n = c.args.self.now.arrows.now.states in
    let q = c.args.state in
    let own = get_or c.args.self.now.arrows.now.flags q no_flags in
    ap {B = Flags} (λ b. record { starts = cond b own.starts (M.start (q - n)); rejects = cond b own.rejects (M.reject (q - n)) }) (sym (lt-ltb q n c.if-state-n.true))

pub returns-then-state-n-2 : goal.returns-then-state-n-2
unfolding flags_of
returns-then-state-n-2 g c _ =
    let M = g.R.Rule.meaning c.args.self.now.rule.now in
    let n = c.args.self.now.arrows.now.states in
    let q = c.args.state in
    let own = get_or c.args.self.now.arrows.now.flags q no_flags in
    ap {B = Flags} (λ b. record { starts = b; rejects = c.rejects.result }) c.starts.ensures
    ∙ ap {B = Flags} (λ b. record { starts = M.start (q - n); rejects = b }) c.rejects.ensures
    ∙ ap {B = Flags} (λ b. record { starts = cond b own.starts (M.start (q - n)); rejects = cond b own.rejects (M.reject (q - n)) }) (sym (le-ltb q n c.if-state-n.false))
