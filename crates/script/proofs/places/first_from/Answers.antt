use Rattle.std.proofs.Common.{◌-◌, arith, rules}
use Rattle.script.proofs.Rest.{in_rest}
use Rattle.script.proofs.places.first_from.Goals as goal

pub returns-in-Some-clause-before : goal.returns-in-Some-clause-before
returns-in-Some-clause-before g c k a b =
    rw (in_rest c.args.text.now c.args.from k a (search rules)) (c.in-Some.ensures.before (k - c.args.from) (omega (arith, a, b)))

pub returns-in-None-clause-before : goal.returns-in-None-clause-before
returns-in-None-clause-before g c k a b =
    rw (in_rest c.args.text.now c.args.from k a b) (c.in-None.ensures.before (k - c.args.from) (search rules))
