use Rattle.std.proofs.Common.{◌≤◌, length, take}
use Rattle.search.proofs.Links.{Spreading}
use Rattle.search.proofs.breadth_first.spread.Given as goal

abbrev pub invariant-loop-i : goal.invariant-loop-i
invariant-loop-i g l =
    (l.count ≤ length l.met)
    × (g.G.Graph.degree l.graph ≤ length l.links)
    × Spreading (g.G.Graph.same l.graph) (g.G.Graph.successor l.graph) (take l.len l.initial.met) l.node (take l.count l.met) l.links l.i
