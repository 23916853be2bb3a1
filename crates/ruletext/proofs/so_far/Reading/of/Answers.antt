use Rattle.std.proofs.Common.{◌<◌, length, sym, arith}
use Rattle.std.proofs.lemmas.Result.{err_from_is_err_and}
use Rattle.std.proofs.lemmas.Bool.{eqb-false}
use Rattle.ruletext.proofs.Lining.{lining_more, lining_stopped}
use Rattle.ruletext.proofs.so_far.Reading.of.Goals as goal

pub returns-in_err-rest : goal.returns-in_err-rest
returns-in_err-rest c =
    let t = c.loop-rest.invariant in
    let rest = c.loop-rest.rest.now in
    let some_left : 0 < length rest = (let ne = eqb-false (length rest) 0 (sym c.loop-rest-test.ensures) in omega (arith, ne)) in
    let p = err_from_is_err_and c.from_residual.result c.from_residual.ensures.1 in
    rw (p.1, p.2) (lining_stopped c.args.numbers c.args.text.now c.loop-rest.reading rest t c.in_err-rest.field-0.0 some_left (c.in_err-rest.ensures t.come t.stands))

pub loop-rest-preserved : goal.loop-rest-preserved
loop-rest-preserved c =
    let t = c.loop-rest.invariant in
    let rest = c.loop-rest.rest.now in
    let some_left : 0 < length rest = (let ne = eqb-false (length rest) 0 (sym c.loop-rest-test.ensures) in omega (arith, ne)) in
    lining_more c.args.numbers c.args.text.now c.loop-rest.reading rest t c.take.new.self c.in_ok-rest.rest some_left (c.in_ok-rest.ensures t.come t.stands)
