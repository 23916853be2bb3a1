use Rattle.std.proofs.Common.{◌≡◌, ◌-◌, ◌≤◌, length, get_or, take, []}
use Rattle.search.specs.Waiting.{waiting}
use Rattle.search.proofs.Turns.{Turning}
use Rattle.search.proofs.rows.explore_rows.Given as goal

abbrev pub invariant-loop-node : goal.invariant-loop-node
invariant-loop-node g l =
    (length l.met ≡ length l.initial.met)
    × (l.len ≤ length l.initial.met)
    × Turning (g.G.Graph.same l.graph) (g.G.Graph.degree l.graph) (g.G.Graph.successor l.graph) (length l.initial.met) l.first
    (take l.len l.met) (waiting l.queue.slots.now l.queue.head l.queue.len) (λ k. get_or l.links k []) l.row
    × (length l.initial.met ≤ length l.queue.slots.now)

abbrev pub decreases-loop-node : goal.decreases-loop-node
decreases-loop-node g l = length l.initial.met - l.row
