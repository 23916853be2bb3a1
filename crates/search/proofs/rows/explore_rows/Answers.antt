use Rattle.std.proofs.Common.{◌≡◌, ℕ, ◌+◌, ◌-◌, ◌<◌, ◌≤◌, List, [], ◌∷◌, length, get_or, take, drop, set, sym, refl, ap, ◌∙◌, arith, length-drop, length-set, None}
use Rattle.std.proofs.lemmas.List.{get_or-set_same, get_or-set_other, length-take-le, take_more_set, drop-take}
use Rattle.std.proofs.lemmas.Bool.{lt-ltb}
use Rattle.model.specs.Search.{fresh}
use Rattle.search.specs.Meeting.{successors}
use Rattle.search.specs.Waiting.{waiting}
use Rattle.search.proofs.Links.{linked_by_more}
use Rattle.search.proofs.OneByOne.{met_behind}
use Rattle.search.proofs.Ring.{length_waiting, none_waiting}
use Rattle.search.proofs.Turns.{Turn, longer, turning_first, turn, turning_last}
use Rattle.search.proofs.rows.explore_rows.Given as given
use Rattle.search.proofs.rows.explore_rows.Goals as goal
use Rattle.search.proofs.rows.explore_rows.Goals.{In-Some, In_ok-more}

pub loop-node-init : goal.loop-node-init
loop-node-init g c =
    let met = c.args.met.now in
    let first = c.args.first.now in
    let slots = c.args.slots.now in
    let n = length-set met 0 first in
    let one : take 1 (set met 0 first) ≡ first ∷ [] = take_more_set met 0 first c.requires.some in
    let made = c.new-queue.ensures in
    let queued = c.push.ensures.pushed (c.push.ensures.room ∙ lt-ltb _ _ (omega (arith, made.empty, ap length made.slots))) in
    let empty : waiting c.new-queue.result.slots.now c.new-queue.result.head c.new-queue.result.len ≡ [] =
    ap (waiting c.new-queue.result.slots.now c.new-queue.result.head) made.empty ∙ none_waiting c.new-queue.result.slots.now c.new-queue.result.head in
    let waits : waiting c.push.new.self.slots.now c.push.new.self.head c.push.new.self.len ≡ first ∷ [] = rw empty at queued in (
      refl,
      omega arith,
      rw (one, waits) (turning_first (g.G.Graph.same c.args.graph.now) (g.G.Graph.degree c.args.graph.now) (g.G.Graph.successor c.args.graph.now) (length (set met 0 first)) first (omega arith) (λ k. get_or c.args.links.now k [])),
      omega (arith, c.push.ensures.slots, ap length made.slots),
    )

-- what stands behind the first nodes met
part : {X : Type 0} (xs met : List X) (len to : ℕ) → length met ≡ len → len ≤ to → take (to - len) (drop len xs) ≡ drop (length met) (take to xs)
part xs met len to e le =
    let f : to ≡ len + (to - len) = omega arith in
    sym (drop-take len (to - len) xs) ∙ ap (λ n. drop len (take n xs)) (sym f) ∙ ap (λ n. drop n (take to xs)) (sym e)

-- the turn of the node that was popped
turn_now : (g : given.Over) (c : In-Some g)
    → Turn (g.G.Graph.same c.args.graph.now) (g.G.Graph.degree c.args.graph.now) (g.G.Graph.successor c.args.graph.now) (length (set c.args.met.now 0 c.args.first.now)) c.args.first.now
    (take c.loop-node.len c.loop-node.met) c.loop-node.row c.in-Some.node (waiting c.pop.new.self.slots.now c.pop.new.self.head c.pop.new.self.len)
turn_now g c =
    turn (g.G.Graph.same c.args.graph.now) (g.G.Graph.degree c.args.graph.now) (g.G.Graph.successor c.args.graph.now) (length (set c.args.met.now 0 c.args.first.now)) c.args.first.now
    (take c.loop-node.len c.loop-node.met) (waiting c.loop-node.queue.slots.now c.loop-node.queue.head c.loop-node.queue.len) (λ k. get_or c.loop-node.links k []) c.loop-node.row
    c.in-Some.node (waiting c.pop.new.self.slots.now c.pop.new.self.head c.pop.new.self.len) c.loop-node.invariant.2 c.in-Some.ensures.popped

-- how many are met before it
met_now : (g : given.Over) (c : In-Some g) → length (take c.loop-node.len c.loop-node.met) ≡ c.loop-node.len
met_now g c = length-take-le c.loop-node.len c.loop-node.met (omega (arith, c.loop-node.invariant.0, c.loop-node.invariant.1))

early : (g : given.Over) (c : In-Some g) → c.loop-node.row < c.loop-node.len
early g c = omega (arith, met_now g c, (turn_now g c).early)

-- there is a row for its links
row_there : (g : given.Over) (c : In-Some g) → c.loop-node.row < length c.loop-node.links
row_there g c = let h = early g c in omega (arith, c.loop-node.invariant.1, c.loop-node.auto.links, length-set c.args.met.now 0 c.args.first.now, c.requires.rows)

-- and how many after it
met_then : (g : given.Over) (c : In_ok-more g) → length (take c.in_ok-more.more c.spread.new.met) ≡ c.in_ok-more.more
met_then g c = length-take-le c.in_ok-more.more c.spread.new.met c.in_ok-more.ensures.nodes.0

more : (g : given.Over) (c : In_ok-more g) → c.loop-node.len ≤ c.in_ok-more.more
more g c =
    let n = length-take-le c.loop-node.len c.loop-node.met (omega (arith, c.loop-node.invariant.0, c.loop-node.invariant.1)) in
    let l =
    longer (g.G.Graph.same c.args.graph.now) (g.G.Graph.degree c.args.graph.now) (g.G.Graph.successor c.args.graph.now)
    (take c.loop-node.len c.loop-node.met) (take c.in_ok-more.more c.spread.new.met) c.in-Some.node c.in_ok-more.ensures.nodes.1 in
    omega (arith, met_then g c)

pub returns-in_err-more : goal.returns-in_err-more
returns-in_err-more g c =
    let n = length-set c.args.met.now 0 c.args.first.now in
    let l = c.spread.auto.met ∙ c.loop-node.invariant.0 in
    let over = (turn_now g (goal.at.returns-in_err-more g c).In-Some).over (rw l at c.in_err-more.ensures.nodes) in
    rw c.from_residual.ensures (record { nodes = rw n at over; links = tt })

pub slice_bounds-push_all-count : goal.slice_bounds-push_all-count
slice_bounds-push_all-count g c = more g (goal.at.slice_bounds-push_all-count g c).In_ok-more

pub slice_bounds-push_all-start : goal.slice_bounds-push_all-start
slice_bounds-push_all-start g c = more g (goal.at.slice_bounds-push_all-start g c).In_ok-more

pub push_all-requires : goal.push_all-requires
push_all-requires g c =
    let len = c.loop-node.len in
    let to = c.in_ok-more.more in
    let met = c.spread.new.met in
    let popped = c.in-Some.ensures in
    let le = more g (goal.at.push_all-requires g c).In_ok-more in
    let now = met_now g (goal.at.push_all-requires g c).In-Some in
    let few = (turn_now g (goal.at.push_all-requires g c).In-Some).few in
    let queued = length_waiting c.pop.new.self.slots.now c.pop.new.self.head c.pop.new.self.len c.pop.new.self.fits in
    let last : to ≤ length met = c.in_ok-more.ensures.nodes.0 in
    let same-slots : length c.pop.new.self.slots.now ≡ length c.loop-node.queue.slots.now = let e = popped.slots in cc in
    let new : length (take (to - len) (drop len met)) ≡ to - len = length-take-le (to - len) (drop len met) (simp length-drop (omega arith)) in
    omega (arith, c.loop-node.invariant.3, c.spread.auto.met, c.loop-node.invariant.0)

pub loop-node-preserved : goal.loop-node-preserved
loop-node-preserved g c =
    let len = c.loop-node.len in
    let to = c.in_ok-more.more in
    let met = c.spread.new.met in
    let popped = c.in-Some.ensures in
    let spread = c.in_ok-more.ensures in
    let le = more g (goal.at.loop-node-preserved g c).In_ok-more in
    let same-slots : length c.pop.new.self.slots.now ≡ length c.loop-node.queue.slots.now = let e = popped.slots in cc in
    let few : to ≤ length (set c.args.met.now 0 c.args.first.now) = omega (arith, spread.nodes.0, c.spread.auto.met, c.loop-node.invariant.0) in
    let same = g.G.Graph.same c.args.graph.now in
    let successor = g.G.Graph.successor c.args.graph.now in
    let node = c.in-Some.node in
    let before = take len c.loop-node.met in
    let turn_is = turn_now g (goal.at.loop-node-preserved g c).In-Some in
    let linked =
    linked_by_more same (g.G.Graph.degree c.args.graph.now) successor before (fresh same before (successors (g.G.Graph.degree c.args.graph.now) successor node)) (take to met) (λ k. get_or c.loop-node.links k []) (λ k. get_or (set c.loop-node.links c.loop-node.row c.spread.new.links) k []) node c.loop-node.row c.spread.new.links
    (spread.nodes.1 ∙ met_behind same (g.G.Graph.degree c.args.graph.now) successor before node) c.loop-node.invariant.2.linked turn_is.early turn_is.here spread.links
    (λ k i lk li. ap (λ v. get_or v i None) (get_or-set_other c.loop-node.links c.loop-node.row k c.spread.new.links [] (omega (arith, lk))))
    (λ i li. ap (λ v. get_or v i None) (get_or-set_same c.loop-node.links c.loop-node.row c.spread.new.links [] (row_there g (goal.at.loop-node-preserved g c).In-Some))) in (
      c.spread.auto.met ∙ c.loop-node.invariant.0,
      few,
      rw c.push_all.ensures.pushed
          ((turn_now g (goal.at.loop-node-preserved g c).In-Some).more (take to met) (take (to - len) (drop len met)) (λ k. get_or (set c.loop-node.links c.loop-node.row c.spread.new.links) k []) spread.nodes.1
          (rw (met_then g (goal.at.loop-node-preserved g c).In_ok-more) few)
          (part met (take len c.loop-node.met) len to (met_now g (goal.at.loop-node-preserved g c).In-Some) le)
          linked),
      omega (arith, c.push_all.ensures.slots, c.loop-node.invariant.3),
    )

pub returns : goal.returns
returns g c =
    let n = length-set c.args.met.now 0 c.args.first.now in
    let l = length-take-le c.loop-node.len c.loop-node.met (omega (arith, c.loop-node.invariant.0, c.loop-node.invariant.1)) in
    let last =
    turning_last (g.G.Graph.same c.args.graph.now) (g.G.Graph.degree c.args.graph.now) (g.G.Graph.successor c.args.graph.now) (length (set c.args.met.now 0 c.args.first.now)) c.args.first.now
    (take c.loop-node.len c.loop-node.met) (waiting c.loop-node.queue.slots.now c.loop-node.queue.head c.loop-node.queue.len) (λ k. get_or c.loop-node.links k []) c.loop-node.row
    c.loop-node.invariant.2 c.in_default.ensures.popped.0 in
    record {
      nodes = (omega (arith, c.loop-node.invariant.2.some_met, l), omega (arith, c.loop-node.invariant.0, c.loop-node.invariant.1), rw n at last.0);
      links = rw l at last.1;
    }
