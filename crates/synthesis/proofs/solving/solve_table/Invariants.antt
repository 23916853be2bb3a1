use Rattle.std.proofs.Common.{◌≡◌, suc, ◌-◌, length}
use Rattle.model.specs.Positions.{solve, try_from}
use Rattle.synthesis.specs.Tables.{automaton}
use Rattle.synthesis.proofs.solving.solve_table.Given as goal

abbrev pub invariant-loop-c : goal.invariant-loop-c
invariant-loop-c l =
    (try_from (automaton l.arrows) (length l.initial.met) (suc l.limit - l.c) l.c ≡ solve (automaton l.arrows) (length l.initial.met) l.limit)
    × (length l.met ≡ length l.initial.met)
    × (length l.safe ≡ length l.initial.safe)
