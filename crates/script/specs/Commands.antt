-- What a whole line says.
use Rattle.std.specs.Prelude.{◌≡◌, ℕ, ◌⊎◌, List, length, codes, slice_index, Option, Some, None}
use Rattle.script.specs.Words.{Blank, Stands}
use Rattle.script.specs.Grammar.{Writes, NumbersAndText, SetupAt}
use Rattle.script.specs.Meaning.{meaning_of}
use Rattle.script.specs.declared.parse.Command.{Command}
use Rattle.script.specs.declared.parse.Command.TheVariants.{Show, ShowText, Generate}

-- from one place up to another there stands what is to be shown, a rule, or two numbers and a text; or what a controller is generated for
abbrev pub Asks : List ℕ → ℕ → ℕ → Command → Type 0
Asks line from to (Show rule) = Writes line from to (meaning_of rule)
Asks line from to (ShowText t) = NumbersAndText line from to t.situations t.commands t.source
Asks line from to (Generate s) = SetupAt line from to s.situations s.commands s.capacity s.limit (meaning_of s.house)

-- the word that a command begins with
abbrev pub word_of : Command → List ℕ
word_of (Show rule) = codes "show"
word_of (ShowText t) = codes "show"
word_of (Generate s) = codes "generate"

-- the line is the command's word and what it asks for, and only blanks come after
pub record Line (line : List ℕ) (c : Command) : Type 0 where
  pub p : ℕ
  pub to : ℕ
  pub command : Stands line 0 p (word_of c)
  pub asks : Asks line p to c
  pub ended : Blank line to (length line)

-- a line that asks for nothing is blank, or begins with #
abbrev pub Says : List ℕ → Option Command → Type 0
Says line None = Blank line 0 (length line) ⊎ (slice_index line 0 ≡ 35)
Says line (Some c) = Line line c
