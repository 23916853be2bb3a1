-- When a word is refused, as a number or as hexadecimal digits.
use Rattle.std.specs.Prelude.{ℕ, ◌<◌, List, length}
use Rattle.script.specs.Words.{Digits, denoted}
use Rattle.hex.specs.declared.error.FromHexError.{FromHexError}
use Rattle.hex.specs.declared.error.FromHexError.TheVariants.{InvalidHexCharacter, OddLength, InvalidStringLength, OutOfMemory}
use Rattle.script.specs.declared.bad_line.BadLine.{BadLine}
use Rattle.script.specs.declared.bad_line.BadLine.TheVariants.{UnknownWord, RuleExpected, NumberMissing, NotNumber, TooLarge, TooDeep, BytesMissing, NotHex, OddHex, TextAfter}
use Rattle.script.specs.declared.parse.Fault.{Fault}
use Rattle.script.specs.declared.parse.Fault.TheVariants.{Line, Memory}

-- the reason fits the word: some byte is no digit, or the digits denote more than the number that is the most allowed
abbrev pub Refuses : List ℕ → ℕ → BadLine → Type 0
Refuses word most UnknownWord = ⊥
Refuses word most RuleExpected = ⊥
Refuses word most NumberMissing = ⊥
Refuses word most NotNumber = Digits word (length word) → ⊥
Refuses word most TooLarge = Digits word (length word) × (most < denoted word (length word))
Refuses word most TooDeep = ⊥
Refuses word most BytesMissing = ⊥
Refuses word most NotHex = ⊥
Refuses word most OddHex = ⊥
Refuses word most TextAfter = ⊥

-- what hexadecimal digits that cannot be read make of the line
abbrev pub fault_of : FromHexError → Fault
fault_of (InvalidHexCharacter c index) = Line NotHex
fault_of OddLength = Line OddHex
fault_of InvalidStringLength = Line OddHex
fault_of OutOfMemory = Memory
