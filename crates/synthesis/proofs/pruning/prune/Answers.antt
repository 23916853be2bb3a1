use Rattle.std.proofs.Common.{◌+◌, true, sym, subst}
use Rattle.synthesis.proofs.pruning.prune.Goals.{then-not-stays, else-not-stays}
use Rattle.synthesis.proofs.Pruned.{Pruning, prune_stays, prune_takes}
use Rattle.synthesis.proofs.pruning.prune.Goals as goal

pub loop-place-preserved : goal.loop-place-preserved
loop-place-preserved c =
    let C = c.args.numbers.commands in
    let S = c.args.numbers.situations in
    let links = c.args.links.now in
    let before = c.args.safe.now in
    elim c.if-not-stays.branch [
      | then-not-stays w ↦
          (let k = c.stays.ensures.lost w.if-not-stays.true in
          let r = prune_takes C S links before c.loop-place.safe c.loop-place.pruned c.loop-place.place k.0 k.1 c.loop-place.invariant in
          subst (λ b. Pruning C S links before c.if-not-stays.safe b (c.loop-place.place + 1)) (sym w.pruned-is)
          (subst (λ v. Pruning C S links before v true (c.loop-place.place + 1)) (sym w.safe-is) r))
      | else-not-stays w ↦
          (let r = prune_stays C S links before c.loop-place.safe c.loop-place.pruned c.loop-place.place (c.stays.ensures.kept w.if-not-stays.false) c.loop-place.invariant in
          subst (λ b. Pruning C S links before c.if-not-stays.safe b (c.loop-place.place + 1)) (sym w.pruned-is)
          (subst (λ v. Pruning C S links before v c.loop-place.pruned (c.loop-place.place + 1)) (sym w.safe-is) r))
    ]
