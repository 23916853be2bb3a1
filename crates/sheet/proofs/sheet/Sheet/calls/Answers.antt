use Rattle.std.proofs.Common.{◌≡◌, ℕ, ◌-◌, ◌<◌, ◌≤◌, min, length, take, ap, ◌∙◌, subst, arith}
use Rattle.std.proofs.lemmas.List.{length-take, drop-set-lt}
use Rattle.sheet.specs.Requests.{Ran}
use Rattle.sheet.proofs.Going.{going_turn, going_all, drop_cut}
use Rattle.sheet.proofs.sheet.Sheet.calls.Goals as goal

pub loop-i-preserved : goal.loop-i-preserved
loop-i-preserved g c =
    let n = min (length c.args.requests.now) (length c.args.answers.now) in
    let requests = c.args.requests.now in
    let inside : c.loop-i.i < n = let e = c.min-i-end.ensures in omega (arith, e, c.loop-i-test.true) in
    let place : c.loop-i.i < length c.loop-i.answers = let e = c.loop-i.auto.answers in omega (arith, e, inside) in
    let (going, within) =
    going_turn {R = g.row.R.Denot} c.args.self.now (take n requests) c.args.output.now c.loop-i.self c.call.new.self c.loop-i.i c.loop-i.at c.min.result c.loop-i.answers c.loop-i.output _
    c.call.result c.call.new.buffer c.loop-i.invariant.0 c.loop-i.invariant.1 place
    (drop_cut n requests c.loop-i.i _ inside (omega (arith, inside)))
    (c.min.ensures ∙ ap {B = ℕ} (λ r. min r (length c.loop-i.output - c.loop-i.at)) c.room.ensures)
    c.call.auto.buffer c.call.ensures in
    (going, within, drop-set-lt n c.loop-i.answers c.loop-i.i c.call.result inside ∙ c.loop-i.invariant.2)

pub returns : goal.returns
returns g c =
    let n = min (length c.args.requests.now) (length c.args.answers.now) in
    let at_end : c.loop-i.i ≡ n = let e = c.min-i-end.ensures in omega (arith, e, c.loop-i-test.false, c.loop-i.auto.i-end) in
    let short : length (take n c.args.requests.now) ≤ c.loop-i.i = let l = length-take n c.args.requests.now in omega (arith, l, at_end) in
    record {
      ran = subst (λ k. Ran c.args.self.now (take n c.args.requests.now) c.args.output.now (take k c.loop-i.answers) c.loop-i.output c.loop-i.self) at_end
          (going_all {R = g.row.R.Denot} c.args.self.now (take n c.args.requests.now) c.args.output.now c.loop-i.self c.loop-i.i c.loop-i.at c.loop-i.answers c.loop-i.output c.loop-i.invariant.0 short);
      rest = c.loop-i.invariant.2;
    }
