use Rattle.std.proofs.Common.{◌≡◌, min}
use Rattle.script.specs.Words.{Digits, denoted}
use Rattle.script.proofs.words.number.Given as goal

abbrev pub invariant-loop-digit : goal.invariant-loop-digit
invariant-loop-digit l = Digits l.word l.digit-index × (l.n ≡ min 65536 (denoted l.word l.digit-index))
