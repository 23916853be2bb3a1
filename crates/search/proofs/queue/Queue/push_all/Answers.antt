use Rattle.std.proofs.Common.{◌≡◌, ◌+◌, ◌<◌, [], ◌∷◌, length, take, ap, ◌∙◌, append_assoc, arith, length-append}
use Rattle.std.proofs.lemmas.List.{take_more, length-take-le}
use Rattle.std.proofs.lemmas.Bool.{lt-ltb}
use Rattle.search.specs.Waiting.{waiting}
use Rattle.search.proofs.Ring.{length_waiting}
use Rattle.search.proofs.queue.Queue.push_all.Goals as goal

pub loop-item-preserved : goal.loop-item-preserved
loop-item-preserved g c =
    let inv = c.loop-item.invariant in
    let items = c.args.items.now in
    let i = c.loop-item.item-index in
    let item = c.item-item.result in
    let before = waiting c.args.self.now.slots.now c.args.self.now.head c.args.self.now.len in
    let now = waiting c.loop-item.self.slots.now c.loop-item.self.head c.loop-item.self.len in
    let n : length now ≡ c.loop-item.self.len = length_waiting _ _ _ c.loop-item.self.fits in
    let m : length before ≡ c.args.self.now.len = length_waiting _ _ _ c.args.self.now.fits in
    let k : length (take i items) ≡ i = length-take-le i items (omega arith) in
    let l : length now ≡ length before + length (take i items) = ap length inv.0 ∙ length-append before (take i items) in
    let room : c.loop-item.self.len < length c.loop-item.self.slots.now = omega (arith, inv.1) in
    let pushed = c.push.ensures.pushed (c.push.ensures.room ∙ lt-ltb _ _ room) in
    let more = take_more items i item (omega arith) in
    let assoc = append_assoc before (take i items) (item ∷ []) in
    (cc, c.push.ensures.slots ∙ inv.1, c.push.ensures.lender ∙ inv.2)
