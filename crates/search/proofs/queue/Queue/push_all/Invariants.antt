use Rattle.std.proofs.Common.{◌≡◌, ◌++◌, length, take}
use Rattle.search.specs.Waiting.{waiting}
use Rattle.search.proofs.queue.Queue.push_all.Given as goal

abbrev pub invariant-loop-item : goal.invariant-loop-item
invariant-loop-item g l =
    (waiting l.self.slots.now l.self.head l.self.len ≡ waiting l.initial.self.slots.now l.initial.self.head l.initial.self.len ++ take l.item-index l.items)
    × (length l.self.slots.now ≡ length l.initial.self.slots.now)
    × (l.self.slots.ghost_name ≡ l.initial.self.slots.ghost_name)
