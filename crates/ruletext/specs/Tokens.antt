-- What a reader of the code answers, held to the model's reader.
use Rattle.std.specs.Prelude.{◌≡◌, ℕ, true, List, Ok, Err, Result}
use Rattle.model.specs.declared.fault.WordFault.{WordFault}
use Rattle.model.specs.Text.{Line, n_line, Choice, one, each, good_name}
use Rattle.model.specs.Reading.{Reader, Part, part, wrong}
use Rattle.ruletext.specs.declared.token.Cursor.{Cursor}
use Rattle.ruletext.specs.declared.token.Token.{Token}
use Rattle.ruletext.specs.declared.token.Token.TheVariants.{Letter, Name, Digit, Star}

-- from one place of a line to the next: the part that stands between them; or the fault at the byte where it is wrong
abbrev pub Reads : {X Y : Type 0} → Reader X → (Y → X) → Cursor → Cursor → Result Y WordFault → Type 0
Reads f value c d (Ok y) = (d.line ≡ c.line) × (f c.at c.rest.now ≡ part (value y) d.at d.rest.now)
Reads f value c d (Err w) = (w.line ≡ c.line) × (f c.at c.rest.now ≡ wrong w.byte)

abbrev pub same : ℕ → ℕ
same n = n

-- the same for a token, which is that part as the test says
abbrev pub Tokens : {X : Type 0} → Reader X → (Token → Part X → ℕ → List ℕ → Type 0) → Cursor → Cursor → Result Token WordFault → Type 0
Tokens f is c d (Ok t) = (d.line ≡ c.line) × is t (f c.at c.rest.now) d.at d.rest.now
Tokens f is c d (Err w) = (w.line ≡ c.line) × (f c.at c.rest.now ≡ wrong w.byte)

-- a letter, a name, a digit, or a digit or a star, with the byte j and the bytes behind it; and no other token
abbrev pub IsLetter : Token → Part ℕ → ℕ → List ℕ → Type 0
IsLetter (Letter c) o j rest = o ≡ part c j rest
IsLetter (Name n) o j rest = ⊥
IsLetter (Digit d) o j rest = ⊥
IsLetter Star o j rest = ⊥

abbrev pub IsName : Token → Part Line → ℕ → List ℕ → Type 0
IsName (Letter c) o j rest = ⊥
IsName (Name n) o j rest = (o ≡ part (n_line n.now) j rest) × (good_name n.now ≡ true)
IsName (Digit d) o j rest = ⊥
IsName Star o j rest = ⊥

abbrev pub IsDigit : Token → Part ℕ → ℕ → List ℕ → Type 0
IsDigit (Letter c) o j rest = ⊥
IsDigit (Name n) o j rest = ⊥
IsDigit (Digit d) o j rest = o ≡ part d j rest
IsDigit Star o j rest = ⊥

abbrev pub IsChoice : Token → Part Choice → ℕ → List ℕ → Type 0
IsChoice (Letter c) o j rest = ⊥
IsChoice (Name n) o j rest = ⊥
IsChoice (Digit d) o j rest = o ≡ part (one d) j rest
IsChoice Star o j rest = o ≡ part each j rest
