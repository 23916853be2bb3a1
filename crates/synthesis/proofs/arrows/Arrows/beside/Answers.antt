use Rattle.std.proofs.Common.{Bool, ap, arith}
use Rattle.synthesis.specs.declared.arrows.Flags.{Flags}
use Rattle.synthesis.specs.Tables.{flags_of}
use Rattle.synthesis.proofs.arrows.Arrows.beside.Goals as goal

pub returns-clause-agrees : goal.returns-clause-agrees
unfolding flags_of
returns-clause-agrees g c =
    let j = c.requires.joins in
    let s = j.situations in
    let k = j.commands in
    record {
      situations = omega (arith, s);
      commands = omega (arith, k);
      states = omega (arith, c.states.ensures.value);
      start = λ q l. ap {B = Bool} (λ (f : Flags). f.starts) (c.all_flags-flags.ensures q l);
      reject = λ q l. ap {B = Bool} (λ (f : Flags). f.rejects) (c.all_flags-flags.ensures q l);
      follows = λ q u x p hq hu hx hp. c.loop-command.invariant.1 u (omega arith) (omega arith) x hx p hp q hq;
    }
