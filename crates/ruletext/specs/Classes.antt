-- The bytes of a class.
use Rattle.std.specs.Prelude.{ℕ, Bool, false, ◌||◌, List, [], ◌∷◌, ◌==◌}
use Rattle.model.specs.Text.{digit_byte, name_byte}
use Rattle.model.specs.Reading.{letter}
use Rattle.ruletext.specs.declared.token.Class.{Class}
use Rattle.ruletext.specs.declared.token.Class.TheVariants as class

abbrev pub passing : Class → ℕ → Bool
passing class.Space b = 32 == b
passing class.End b = 10 == b
passing class.Digit b = digit_byte b
passing class.Choice b = digit_byte b || b == 42
passing class.Name b = name_byte b
passing class.Letter b = letter b

-- a byte that passes stands at the front
abbrev pub seen : (ℕ → Bool) → List ℕ → Bool
seen test [] = false
seen test (b ∷ rest) = test b
