use Rattle.std.proofs.Common.{◌≡◌, [], ◌∷◌, ◌++◌, length, take, Some, sym, ap, ◌∙◌, arith, length-append, length-set}
use Rattle.std.proofs.lemmas.List.{length-take-le, take_more_set}
use Rattle.model.specs.Search.{place}
use Rattle.search.specs.Meeting.{with_met, link_to}
use Rattle.search.proofs.Places.{placed}
use Rattle.search.proofs.OneByOne.{met_new, met_old}
use Rattle.search.proofs.breadth_first.meet.Given as given
use Rattle.search.proofs.breadth_first.meet.Goals as goal
use Rattle.search.proofs.breadth_first.meet.Goals.{In_default-find}

pub returns-in-Some-find : goal.returns-in-Some-find
returns-in-Some-find g c =
    let same = g.G.Graph.same c.args.graph.now in
    let m = take c.args.len c.args.met.now in
    let t = placed same m c.in-Some.node (Some c.in-Some-find.at) c.in-Some-find.ensures in (
      (c.requires.within, sym (ap (with_met same m) c.in-Some.is ∙ met_old same m c.in-Some.node (omega (arith, t.0, t.1)))),
      ap (λ k. Some k) t.1 ∙ sym (ap (link_to same m) c.in-Some.is),
    )

-- a node that was not found is new, and its place is the next
new : (g : given.Over) (c : In_default-find g) → (with_met (g.G.Graph.same c.args.graph.now) (take c.args.len c.args.met.now) c.args.candidate ≡ take c.args.len c.args.met.now ++ (c.in-Some.node ∷ []))
    × (c.args.len ≡ place (g.G.Graph.same c.args.graph.now) (take c.args.len c.args.met.now) c.in-Some.node)
new g c =
    let same = g.G.Graph.same c.args.graph.now in
    let m = take c.args.len c.args.met.now in
    let t = placed same m c.in-Some.node _ c.in_default-find.ensures in
    let n = length-take-le c.args.len c.args.met.now c.requires.within in (
      ap (with_met same m) c.in-Some.is ∙ met_new same m c.in-Some.node (omega (arith, t)),
      omega (arith, t, n),
    )

pub returns-then-len-met : goal.returns-then-len-met
returns-then-len-met g c =
    let m = take c.args.len c.args.met.now in
    let e = (new g (goal.at.returns-then-len-met g c).In_default-find).0 in
    omega (arith, ap length e, length-append m (c.in-Some.node ∷ []), length-take-le c.args.len c.args.met.now c.requires.within)

pub returns : goal.returns
returns g c =
    let same = g.G.Graph.same c.args.graph.now in
    let met = c.args.met.now in
    let len = c.args.len in
    let e = new g (goal.at.returns g c).In_default-find in (
      (simp length-set (omega arith), take_more_set met len c.in-Some.node (omega arith) ∙ sym e.0),
      ap (λ k. Some k) e.1 ∙ sym (ap (link_to same (take len met)) c.in-Some.is),
    )
