-- What a rule of the script means.
use Rattle.std.specs.Prelude.{ℕ, ◌+◌, max}
use Rattle.model.specs.Automaton.{Automaton}
use Rattle.model.specs.Rules.{free, reply, pair}
use Rattle.script.specs.declared.rule.AnyRule.{AnyRule}
use Rattle.script.specs.declared.rule.AnyRule.TheVariants.{Free, Reply, Pair'}

abbrev pub meaning_of : AnyRule → Automaton
meaning_of (Free f) = free f.numbers.situations f.numbers.commands
meaning_of (Reply f) = reply f.numbers.situations f.numbers.commands f.situation f.command
meaning_of (Pair' p first second) = pair (meaning_of first) (meaning_of second)

-- how many pairs stand inside one another
abbrev pub depth : AnyRule → ℕ
depth (Free f) = 0
depth (Reply f) = 0
depth (Pair' p first second) = max (depth first) (depth second) + 1
