use Rattle.std.proofs.Common.{sym, subst}
use Rattle.synthesis.proofs.Lowest.{Lowest, kept}
use Rattle.synthesis.proofs.graphs.Chosen.lowest_command.Goals as goal

pub returns : goal.returns
returns c =
    let g = c.args.self.now in
    let C = g.numbers.commands in
    let S = g.numbers.situations in
    let links = g.links.now in
    let flags = g.safe.now in
    let place = c.args.place in
    record { lowest = subst (λ o. Lowest S links flags place C o) (sym c.first_to_hold.ensures) (kept S links flags place C); value = c.first_to_hold.ensures }
