use Rattle.std.proofs.Common.{ℕ, ◌-◌, ◌∷◌, get_or, sym, ap, ◌∙◌, arith, rules}
use Rattle.search.specs.Waiting.{waiting}
use Rattle.search.proofs.Ring.{none_waiting, pop_before, pop_round}
use Rattle.search.proofs.queue.Queue.pop.Goals as goal
use Rattle.search.proofs.queue.Queue.pop.Goals.{then-head-self, else-head-self}

pub returns-then-self-eq0 : goal.returns-then-self-eq0
returns-then-self-eq0 g c =
    let slots = c.args.self.now.slots.now in
    let head = c.args.self.now.head in
    let e = ap (waiting slots head) c.if-self-eq0.true ∙ none_waiting slots head in
    record { popped = (e, e); slots = search rules; lender = search rules }

pub returns : goal.returns
returns g c =
    let slots = c.args.self.now.slots.now in
    let head = c.args.self.now.head in
    let len = c.args.self.now.len in
    let d = c.index-self-head.result in
    let rest = λ (n : ℕ). get_or slots head d ∷ waiting slots n (len - 1) in
    record {
      popped = elim c.if-head-self.branch [
        | then-head-self w ↦ pop_before slots head len d (omega arith) (omega arith) ∙ ap rest (sym w.next-is)
        | else-head-self w ↦ pop_round slots head len d c.args.self.now.fits (omega arith) (omega arith) ∙ ap rest (sym w.next-is)
      ];
      slots = search rules;
      lender = search rules;
    }
