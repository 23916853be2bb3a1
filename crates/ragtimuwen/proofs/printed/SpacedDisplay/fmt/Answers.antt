use Rattle.std.proofs.Common.{Ok, take, refl}
use Rattle.ragtimuwen.specs.Printed.{spaced}
use Rattle.ragtimuwen.proofs.Spacing.{one_more, joined}
use Rattle.ragtimuwen.proofs.printed.SpacedDisplay.fmt.Goals as goal

pub loop-value-preserved : goal.loop-value-preserved
loop-value-preserved g c plain =
    let text = g.T.Display.output in
    let values = c.args.self.now.0.now in
    let i = c.loop-value.value-index in
    let x = c.value-item.result in
    rw (one_more text values i x c.loop-value-test.true c.value-item.is)
    (joined g.W.Write.write_str_gives c.args.f.now c.loop-value.f c.write.new.self (spaced text (take i values)) _ (Ok c.in_ok-write.field-0) (c.loop-value.invariant plain) c.in_ok-write.ensures.writes refl)
