use Rattle.std.proofs.Common.{arith}
use Rattle.synthesis.proofs.Lowest.{kept_below}
use Rattle.synthesis.proofs.numbering.ChosenGraph.successor.Goals as goal

pub bounds-self-link : goal.bounds-self-link
bounds-self-link c =
    let g = c.args.self.now in
    omega (arith, g.numbers.few_commands, kept_below g.numbers.situations g.links.now g.safe.now c.args.node.now g.numbers.commands c.in-Some.command c.in-Some.ensures.value)
