-- The reader of rule text, line by line, with its faults.
use Rattle.std.specs.Prelude.{ℕ, zero, suc, ◌-◌, Bool, true, false, cond, not, ◌&&◌, ◌||◌, List, [], ◌∷◌, ◌++◌, length, ◌==◌, nat_eq}
use Rattle.std.proofs.Math.Option.{Option, none, some}
use Rattle.model.specs.Lists.{first}
use Rattle.model.specs.declared.fault.LineFault.TheVariants.{Word, Order, Range}
use Rattle.model.specs.declared.fault.ReadFault.{ReadFault}
use Rattle.model.specs.declared.fault.ReadFault.TheVariants.{Numbers, Length, Line as OfLine, Unreached}
use Rattle.model.specs.Text.{Choice, one, each, Arrows, Line, n_line, s_line, r_line, t_line, between, digit_byte, name_byte, TextRule, all_reached, numbers_in_range, numbers, inside, ReadRule, blank, filled, named_rule}

-- the faults of a line, as faults of the reading
abbrev pub bad_word : ℕ → ℕ → ReadFault
bad_word line byte = OfLine (Word (record { line = line; byte = byte }))

abbrev pub bad_order : ℕ → ReadFault
bad_order line = OfLine (Order line)

abbrev pub bad_range : ℕ → ℕ → ReadFault
bad_range line byte = OfLine (Range line byte)

-- WORDS OF A LINE

-- what stands at byte i of a line: a part with the byte and the bytes behind it, or the first byte at which no correct line goes on
pub data Part (X : Type 0) : Type 0 where
  part : X → ℕ → List ℕ → Part X
  wrong : ℕ → Part X

abbrev pub Reader : Type 0 → Type 0
Reader X = ℕ → List ℕ → Part X

abbrev pub ◌>>=◌ : {X Y : Type 0} → Reader X → (X → Reader Y) → Reader Y
◌>>=◌ f g i bytes = elim (f i bytes) [ part x j rest ↦ g x j rest | wrong j ↦ wrong j ]

abbrev pub given : {X : Type 0} → X → Reader X
given x i bytes = part x i bytes

-- one byte that passes the test
abbrev pub byte : (ℕ → Bool) → Reader ℕ
byte f i [] = wrong i
byte f i (b ∷ rest) = elim (f b) [ true ↦ part b (suc i) rest | false ↦ wrong i ]

-- one space, and a digit behind it
abbrev pub digit : Reader ℕ
digit = do
  space ← byte (nat_eq 32)
  b ← byte digit_byte
  given (b - 48)

abbrev pub choice : Reader Choice
choice = do
  space ← byte (nat_eq 32)
  b ← byte (λ b. digit_byte b || b == 42)
  given (cond (b == 42) each (one (b - 48)))

abbrev pub line_end : {X : Type 0} → X → Reader X
line_end x = do
  end ← byte (nat_eq 10)
  given x

-- any number of digits up to the line end
abbrev pub digits : Reader (List ℕ)
digits i [] = wrong i
digits i (b ∷ []) = elim (b == 10) [ true ↦ part [] (suc i) [] | false ↦ wrong (cond (b == 32) (suc i) i) ]
digits i (b ∷ d ∷ rest) =
    elim (b == 10) [
      | true ↦ part [] (suc i) (d ∷ rest)
      | false ↦
          elim (b == 32 && digit_byte d) [
            | true ↦ elim (digits (suc (suc i)) rest) [ part ds j more ↦ part ((d - 48) ∷ ds) j more | wrong j ↦ wrong j ]
            | false ↦ wrong (cond (b == 32) (suc i) i)
          ]
    ]

-- at most n more bytes of a name, up to the line end
abbrev pub name_rest : ℕ → Reader (List ℕ)
name_rest n i [] = wrong i
name_rest zero i (b ∷ rest) = elim (b == 10) [ true ↦ part [] (suc i) rest | false ↦ wrong i ]
name_rest (suc n) i (b ∷ rest) =
    elim (b == 10) [
      | true ↦ part [] (suc i) rest
      | false ↦
          elim (name_byte b) [
            | true ↦ elim (name_rest n (suc i) rest) [ part bs j more ↦ part (b ∷ bs) j more | wrong j ↦ wrong j ]
            | false ↦ wrong i
          ]
    ]

-- the words behind the letter
abbrev pub n_words : Reader Line
n_words = do
  space ← byte (nat_eq 32)
  b ← byte name_byte
  bs ← name_rest 7
  given (n_line (b ∷ bs))

abbrev pub s_words : Reader Line
s_words = do
  n ← digit
  q ← digit
  line_end (s_line n q)

abbrev pub r_words : Reader Line
r_words = do
  qs ← digits
  given (r_line qs)

abbrev pub t_words : Reader Line
t_words = do
  q ← digit
  u ← choice
  x ← choice
  ps ← digits
  given (t_line (record { from = q; command = u; situation = x; to = ps }))

abbrev pub words : ℕ → Reader Line
words letter =
    elim (letter == 110) [
      | true ↦ n_words
      | false ↦ elim (letter == 115) [ true ↦ s_words | false ↦ elim (letter == 114) [ true ↦ r_words | false ↦ t_words ] ]
    ]

abbrev pub letter : ℕ → Bool
letter b = b == 110 || (b == 115 || (b == 114 || b == 116))

-- the first line of the bytes
abbrev pub first_line : List ℕ → Part Line
first_line bytes = ◌>>=◌ (byte letter) words 0 bytes

-- LINE ORDER

-- how far the lines have come: the parts of the rule so far
pub data SoFar : Type 0 where
  nothing : SoFar
  named : List ℕ → SoFar
  sized : List ℕ → ℕ → ℕ → SoFar
  full : TextRule → SoFar

abbrev pub with_arrows : TextRule → Arrows → TextRule
with_arrows r a =
    record { name = r.name; states = r.states; start = r.start; rejecting = r.rejecting; arrows = r.arrows ++ (a ∷ []) }

-- n, s and r once each, in this order, before all t lines: how far the lines come with one more, if that is in order
abbrev pub onward : SoFar → Line → Option SoFar
onward nothing (n_line name) = some (named name)
onward nothing (s_line n q) = none
onward nothing (r_line qs) = none
onward nothing (t_line a) = none
onward (named name) (n_line other) = none
onward (named name) (s_line n q) = some (sized name n q)
onward (named name) (r_line qs) = none
onward (named name) (t_line a) = none
onward (sized name n q) (n_line other) = none
onward (sized name n q) (s_line m p) = none
onward (sized name n q) (r_line qs) = some (full (record { name = name; states = n; start = q; rejecting = qs; arrows = [] }))
onward (sized name n q) (t_line a) = none
onward (full r) (n_line other) = none
onward (full r) (s_line m p) = none
onward (full r) (r_line qs) = none
onward (full r) (t_line a) = some (full (with_arrows r a))

-- the number of states, once it is stated
abbrev pub states_so_far : SoFar → ℕ
states_so_far nothing = 0
states_so_far (named name) = 0
states_so_far (sized name n q) = n
states_so_far (full r) = r.states

-- READING

pub data Reading : Type 0 where
  reads : TextRule → Reading
  faulty : ReadFault → Reading

-- after the last line: missing lines, then unreached states
abbrev pub at_end : ℕ → ℕ → ℕ → SoFar → Reading
at_end S C line nothing = faulty (bad_order line)
at_end S C line (named name) = faulty (bad_order line)
at_end S C line (sized name n q) = faulty (bad_order line)
at_end S C line (full r) = elim (all_reached S C r) [ true ↦ reads r | false ↦ faulty (Unreached line) ]

-- line by line: words, then line order, then ranges. A line has a byte or more, so as many turns as bytes are enough
abbrev pub read_lines : ℕ → ℕ → ℕ → ℕ → SoFar → List ℕ → Reading
read_lines S C turns line so_far [] = at_end S C line so_far
read_lines S C zero line so_far (b ∷ bytes) = faulty (bad_word line 0)
read_lines S C (suc turns) line so_far (b ∷ bytes) =
    elim (first_line (b ∷ bytes)) [
      | wrong at ↦ faulty (bad_word line at)
      | part l length rest ↦
          elim (onward so_far l) [
            | none ↦ faulty (bad_order line)
            | some next ↦
                elim (first (λ k. not (inside k)) (numbers S C (states_so_far next) l)) [
                  | some k ↦ faulty (bad_range line k.at)
                  | none ↦ read_lines S C turns (suc line) next rest
                ]
          ]
    ]

abbrev pub read : ℕ → ℕ → List ℕ → Reading
read S C bytes =
    elim (numbers_in_range S C) [
      | false ↦ faulty Numbers
      | true ↦
          elim (between 1 4096 (length bytes)) [ false ↦ faulty Length | true ↦ read_lines S C (length bytes) 1 nothing bytes ]
    ]

-- what read leaves in the rule to fill
abbrev pub rule_left : ℕ → ℕ → List ℕ → ReadRule
rule_left S C bytes = elim (read S C bytes) [ reads r ↦ filled (named_rule S C r) | faulty f ↦ blank ]
