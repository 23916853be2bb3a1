use Rattle.std.proofs.Common.{ℕ, ◌+◌, set, ap, ◌∙◌, arith}
use Rattle.search.specs.Waiting.{waiting}
use Rattle.search.proofs.Ring.{put_before, put_round}
use Rattle.search.proofs.queue.put.Goals as goal
use Rattle.search.proofs.queue.put.Goals.{then-len-behind, else-len-behind}

pub returns : goal.returns
returns g c =
    let slots = c.args.slots.now in
    let head = c.args.head in
    let len = c.args.len in
    let item = c.args.item in
    let at = λ (n : ℕ). waiting (set slots n item) head (len + 1) in
    elim c.if-len-behind.branch [
      | then-len-behind w ↦ ap at w.at-is ∙ put_before slots head len item (omega arith)
      | else-len-behind w ↦ ap at w.at-is ∙ put_round slots head len item (omega arith) (omega arith) (omega arith)
    ]
