use Rattle.std.proofs.Common.{◌≡◌, ℕ, ◌+◌, ◌*◌, List, ◌∷◌, take, sym, ap, ◌∙◌, arith, length-set}
use Rattle.std.proofs.lemmas.List.{take_more_set}
use Rattle.model.specs.Lists.{joined}
use Rattle.model.specs.File.{bytes_of, record_bytes}
use Rattle.ctlfile.proofs.Filling.{filled_all}
use Rattle.ctlfile.proofs.writing.Widths.write_record.Goals as goal

pub loop-situation-init : goal.loop-situation-init
loop-situation-init c = take_more_set c.args.part.now 0 c.args.state.now.command (omega arith)

pub returns : goal.returns
unfolding record_bytes
returns c =
    let nexts : List ℕ = c.args.state.now.nexts in
    let command = c.args.state.now.command in
    let S = c.args.self.situations in
    let e : S ≡ c.loop-situation.situation = omega arith in
    filled_all (1 + 2 * S) c.loop-situation.part (command ∷ joined (bytes_of 2) (take S nexts)) (omega (arith, length-set c.args.part.now 0 command))
    (ap {B = List ℕ} (λ n. take (1 + 2 * n) c.loop-situation.part) e ∙ c.loop-situation.invariant ∙ ap {B = List ℕ} (λ n. command ∷ joined (bytes_of 2) (take n nexts)) (sym e))
