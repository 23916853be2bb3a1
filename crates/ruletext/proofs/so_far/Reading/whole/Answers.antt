use Rattle.std.proofs.Common.{refl, ap, ◌∙◌, subst}
use Rattle.model.specs.Reading.{at_end}
use Rattle.ruletext.specs.Names.{spelled}
use Rattle.ruletext.specs.Standing.{StandsAt}
use Rattle.ruletext.proofs.Filling.{within, rejects_below, end_unreached, end_reached, same_named}
use Rattle.ruletext.proofs.so_far.Reading.whole.Goals as goal

pub returns-then-not-all_reached : goal.returns-then-not-all_reached
returns-then-not-all_reached c =
    let reading = c.args.self in
    let S = reading.numbers.situations in
    let C = reading.numbers.commands in
    let good = reading.numbers.good in
    let t = reading.table in
    let name = spelled c.in-Full.name in
    let n = c.in-Full.states.count in
    let q = c.in-Full.states.start in
    λ m standing.
    let s = subst (λ z. StandsAt z reading m) c.in-Full.is standing in
    let r = s.0 in
    let d = s.2 in
    let inside = within S C good name n q t.rejecting t.arrows r d in
    ap (λ z. at_end S C reading.line z) s.1
    ∙ end_unreached S C good name n q t.rejecting t.arrows r d c.all_reached.result (c.all_reached.ensures S C inside) reading.line c.if-not-all_reached.true

pub invariant_of-whole : goal.invariant_of-whole
invariant_of-whole c =
    let reading = c.args.self in
    let S = reading.numbers.situations in
    let C = reading.numbers.commands in
    let good = reading.numbers.good in
    let t = reading.table in
    let name = spelled c.in-Full.name in
    let n = c.in-Full.states.count in
    let q = c.in-Full.states.start in
    let given = c.requires in
    let s = subst (λ z. StandsAt z reading given.0) c.in-Full.is given.1 in
    let r = s.0 in
    let d = s.2 in
    let inside = within S C good name n q t.rejecting t.arrows r d in
    record {
      rejects = rejects_below S C good name n q t.rejecting t.arrows r d;
      leads = ∣ inside ∣₁;
      reached = ∣ (c.all_reached.ensures S C inside).0 c.if-not-all_reached.false ∣₁;
    }

pub returns : goal.returns
returns c =
    let reading = c.args.self in
    let S = reading.numbers.situations in
    let C = reading.numbers.commands in
    let good = reading.numbers.good in
    let t = reading.table in
    let name = spelled c.in-Full.name in
    let n = c.in-Full.states.count in
    let q = c.in-Full.states.start in
    λ m standing.
    let s = subst (λ z. StandsAt z reading m) c.in-Full.is standing in
    let r = s.0 in
    let d = s.2 in
    let inside = within S C good name n q t.rejecting t.arrows r d in (
      r,
      ap (λ z. at_end S C reading.line z) s.1
          ∙ end_reached S C good name n q t.rejecting t.arrows r d c.all_reached.result (c.all_reached.ensures S C inside) reading.line c.if-not-all_reached.false,
      same_named S C good name n q t.rejecting t.arrows r d name refl,
    )
