use Rattle.std.proofs.Common.{◌≡◌, map, length, take, fold, arith, length-set}
use Rattle.std.specs.List.{range_with_len}
use Rattle.search.specs.Meeting.{with_met, link_to}
use Rattle.search.proofs.Links.{spreading_more}
use Rattle.search.proofs.OneByOne.{over_all}
use Rattle.search.proofs.breadth_first.spread.Goals as goal

pub returns-in_err-next : goal.returns-in_err-next
returns-in_err-next g c =
    let same = g.G.Graph.same c.args.graph.now in
    let successor = g.G.Graph.successor c.args.graph.now c.args.node.now in
    let before = take c.args.len c.args.met.now in
    let i = c.loop-i.i in
    let e : with_met same (take c.loop-i.count c.loop-i.met) c.successor.result ≡ with_met same (fold (with_met same) before (map successor (range_with_len 0 i))) (successor i) =
    let s = c.successor.ensures in let m = c.loop-i.invariant.2.met in cc in
    rw c.from_residual.ensures (record { nodes = over_all same successor (length c.meet.new.met) (g.G.Graph.degree c.args.graph.now) i before (omega arith) (rw e at c.in_err-next.ensures); links = tt })

pub loop-i-preserved : goal.loop-i-preserved
loop-i-preserved g c =
    let same = g.G.Graph.same c.args.graph.now in
    let successor = g.G.Graph.successor c.args.graph.now in
    let before = take c.args.len c.args.met.now in
    let node = c.args.node.now in
    let i = c.loop-i.i in
    let met = take c.loop-i.count c.loop-i.met in
    let next = c.in_ok-next.next in
    let met' = take next.len c.meet.new.met in
    let m = c.in_ok-next.ensures in
    let s = c.successor.ensures in
    let em : met' ≡ with_met same met (successor node i) = let n = m.0.1 in cc in
    let el : next.link ≡ link_to same met (successor node i) = let n = m.1 in cc in (
      m.0.0,
      omega (arith, length-set c.loop-i.links i next.link, c.loop-i.invariant.1),
      spreading_more same successor before node c.requires.itself met met' c.loop-i.links i next.link c.loop-i.invariant.2 (omega (arith, c.loop-i.invariant.1)) em el,
    )
