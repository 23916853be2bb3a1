use Rattle.std.proofs.Common.{length, sym, ap, ◌∙◌}
use Rattle.std.proofs.lemmas.Bool.{eqb-true, eq-eqb}
use Rattle.search.specs.Waiting.{waiting}
use Rattle.search.proofs.Ring.{length_waiting, none_waiting}
use Rattle.search.proofs.queue.Queue.is_empty.Goals as goal

pub returns : goal.returns
returns g c =
    let slots = c.args.self.now.slots.now in
    let head = c.args.self.now.head in
    let len = c.args.self.now.len in (
      λ t. ap (waiting slots head) (eqb-true len 0 t) ∙ none_waiting slots head,
      λ e. eq-eqb len 0 (sym (length_waiting slots head len c.args.self.now.fits) ∙ ap length e),
    )
