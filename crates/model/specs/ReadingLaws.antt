-- What holds of reading a rule text: it is read as exactly the rule that it states, or gives exactly the fault that it has.
use Rattle.std.specs.Prelude.{◌≡◌, ℕ, ◌+◌, ◌<◌, ◌≤◌, Bool, true, ◌&&◌, ◌⊎◌, ◌↔◌, List, [], ◌∷◌, ◌++◌, length, take, nat_le, slice_index}
use Rattle.std.proofs.Math.Option.{some}
use Rattle.model.specs.declared.fault.LineFault.{LineFault}
use Rattle.model.specs.declared.fault.LineFault.TheVariants.{Word, Order, Range}
use Rattle.model.specs.declared.fault.ReadFault.{ReadFault}
use Rattle.model.specs.declared.fault.ReadFault.TheVariants.{Numbers, Length, Line as OfLine, Unreached}
use Rattle.model.specs.Lists.{every, joined, In, Distinct}
use Rattle.model.specs.Automaton.{Automaton, Starts, Follows}
use Rattle.model.specs.Text.{Choice, one, each, Arrows, Line, n_line, s_line, r_line, t_line, correct, line_bytes, digit_byte, name_byte, one_digit, good_choice, digit_word, choice_word, TextRule, lines, text, meaning, reached, all_reached, Number, numbers}
use Rattle.model.specs.Reading.{Reader, part, wrong, ◌>>=◌, byte, digit, choice, digits, name_rest, words, letter, first_line, Reading, reads, faulty, read}

-- a number lies in its range
abbrev pub Inside : Number → Type 0
Inside k = (k.least ≤ k.value) × (k.value < k.under)

-- a letter A to Z or a to z, or a digit
abbrev pub NameByte : ℕ → Type 0
NameByte b = ((48 ≤ b) × (b ≤ 57)) ⊎ (((65 ≤ b) × (b ≤ 90)) ⊎ ((97 ≤ b) × (b ≤ 122)))

-- a digit lies below this number; `*` always does
abbrev pub Below : ℕ → Choice → Type 0
Below n (one d) = d < n
Below n each = Unit {0}

-- the words of a line are words: a name has 1 to 8 letters or digits, and every number is one digit
abbrev pub Correct : Line → Type 0
Correct (n_line name) = (1 ≤ length name) × (length name ≤ 8) × ((b : ℕ) → In name b → NameByte b)
Correct (s_line n q) = (n < 10) × (q < 10)
Correct (r_line qs) = (q : ℕ) → In qs q → q < 10
Correct (t_line a) = (a.from < 10) × Below 10 a.command × Below 10 a.situation × ((p : ℕ) → In a.to p → p < 10)

abbrev pub CorrectExact : Type 0
CorrectExact = (l : Line) → (correct l ≡ true) ↔ Correct l

-- all numbers of a rule in range: 1 to 8 states; states below their number, commands below C, situations below S
pub record Ranged (S C : ℕ) (r : TextRule) : Type 0 where
  pub named : (1 ≤ length r.name) × (length r.name ≤ 8) × ((b : ℕ) → In r.name b → NameByte b)
  pub counted : (1 ≤ r.states) × (r.states ≤ 8)
  pub starts : r.start < r.states
  pub rejects : (q : ℕ) → In r.rejecting q → q < r.states
  pub leads : (a : Arrows) → In r.arrows a → (a.from < r.states) × Below C a.command × Below S a.situation × ((p : ℕ) → In a.to p → p < r.states)

-- the states that arrows lead to from the start states
pub data Reached (A : Automaton) : ℕ → Type 0 where
  at_start : {q : ℕ} → Starts A q → Reached A q
  by_arrow : {q : ℕ} (u x p : ℕ) → Reached A q → u < A.commands → Follows A q u x p → Reached A p

abbrev pub AllReached : Automaton → Type 0
AllReached A = (q : ℕ) → q < A.states → Reached A q

abbrev pub NumbersGood : ℕ → ℕ → Type 0
NumbersGood S C = (1 ≤ S) × (S ≤ 8) × (1 ≤ C) × (C ≤ 8)

abbrev pub LengthGood : List ℕ → Type 0
LengthGood bytes = (1 ≤ length bytes) × (length bytes ≤ 4096)

-- a text reads as a rule exactly if it is the bytes of the rule's lines, in range, with every state reached
abbrev pub ReadingExact : Type 0
ReadingExact =
    (S C : ℕ) (bytes : List ℕ) (r : TextRule)
    → (read S C bytes ≡ reads r)
    ↔ (NumbersGood S C × LengthGood bytes × (bytes ≡ text r) × Ranged S C r × AllReached (meaning S C r))

-- these bytes begin a correct line; and they do not end it
abbrev pub Begins : List ℕ → Type 0
Begins bytes = (l : Line) × (more : List ℕ) × (correct l ≡ true) × (line_bytes l ≡ bytes ++ more)

abbrev pub GoesOn : List ℕ → Type 0
GoesOn bytes = (l : Line) × (more : List ℕ) × (correct l ≡ true) × (line_bytes l ≡ bytes ++ more) × (0 < length more)

-- byte `at` is the first at which no correct line goes on: those before it begin one, and with it they do not, or there is none
abbrev pub StopsAt : List ℕ → ℕ → Type 0
StopsAt bytes at = GoesOn (take at bytes) × ((at ≡ length bytes) ⊎ ((at < length bytes) × (Begins (take (at + 1) bytes) → ⊥)))

-- so many lines before, which begin a rule in range, and then these bytes
abbrev pub Behind : ℕ → ℕ → List ℕ → ℕ → (List Line → List ℕ → Type 0) → Type 0
Behind S C bytes line Rest =
    (before : List Line) × (rest : List ℕ)
    × (bytes ≡ joined line_bytes before ++ rest)
    × (line ≡ length before + 1)
    × ((r : TextRule) × (more : List Line) × (lines r ≡ before ++ more) × Ranged S C r)
    × Rest before rest

-- the line is the next one, and it is correct
abbrev pub NextLine : List ℕ → Line → Type 0
NextLine rest l = (correct l ≡ true) × ((more : List ℕ) × (rest ≡ line_bytes l ++ more))

-- with this line, the lines are still the first of some rule's
abbrev pub InOrder : List Line → Line → Type 0
InOrder before l = (r : TextRule) × (more : List Line) × (lines r ≡ before ++ (l ∷ more))

-- in this order of rule, the line's first number out of range stands at this byte
abbrev pub FirstOutside : ℕ → ℕ → List Line → Line → ℕ → Type 0
FirstOutside S C before l at =
    (r : TextRule) × (more : List Line) × (lines r ≡ before ++ (l ∷ more))
    × ((good : List Number) × (k : Number) × (others : List Number)
    × (numbers S C r.states l ≡ good ++ (k ∷ others))
    × ((g : Number) → In good g → Inside g)
    × (Inside k → ⊥)
    × (k.at ≡ at))

-- what the fault of a line says of the text
abbrev pub LineSays : ℕ → ℕ → List ℕ → LineFault → Type 0
LineSays S C bytes (Word w) = Behind S C bytes w.line (λ before rest. (0 < length rest) × StopsAt rest w.byte)
LineSays S C bytes (Order line) =
    Behind S C bytes line (λ before rest. ((l : Line) × NextLine rest l × (InOrder before l → ⊥)) ⊎ ((rest ≡ []) × (length before < 3)))
LineSays S C bytes (Range line at) = Behind S C bytes line (λ before rest. (l : Line) × NextLine rest l × FirstOutside S C before l at)

-- what each fault says of the text
abbrev pub Says : ℕ → ℕ → List ℕ → ReadFault → Type 0
Says S C bytes Numbers = NumbersGood S C → ⊥
Says S C bytes Length = NumbersGood S C × (LengthGood bytes → ⊥)
Says S C bytes (OfLine f) = NumbersGood S C × LengthGood bytes × LineSays S C bytes f
Says S C bytes (Unreached line) =
    NumbersGood S C × LengthGood bytes
    × ((r : TextRule) × (bytes ≡ text r) × (line ≡ length (lines r) + 1) × Ranged S C r × (AllReached (meaning S C r) → ⊥))

-- a text gives a fault exactly if the fault says so
abbrev pub FaultsExact : Type 0
FaultsExact = (S C : ℕ) (bytes : List ℕ) (f : ReadFault) → (read S C bytes ≡ faulty f) ↔ Says S C bytes f

-- what a reading says of the text: that it states this rule, or has this fault
abbrev pub ReadingSays : ℕ → ℕ → List ℕ → Reading → Type 0
ReadingSays S C bytes (reads r) = NumbersGood S C × LengthGood bytes × (bytes ≡ text r) × Ranged S C r × AllReached (meaning S C r)
ReadingSays S C bytes (faulty f) = Says S C bytes f

-- of every text exactly one of these is the case
abbrev pub ReadingDecided : Type 0
ReadingDecided = (S C : ℕ) (bytes : List ℕ) → (v : Reading) × ReadingSays S C bytes v × ((w : Reading) → ReadingSays S C bytes w → w ≡ v)

-- THE PARTS OF READING

-- each stands behind the one before
abbrev pub Ascending : List Number → Type 0
Ascending [] = Unit {0}
Ascending (k ∷ ks) = ((j : Number) → In ks j → k.at < j.at) × Ascending ks

-- a reader gives a part exactly if the bytes begin with the part's bytes, and it counts them
abbrev pub Reads : {X : Type 0} → Reader X → (X → Bool) → (X → List ℕ) → Type 0
Reads {X} f good write =
    (i : ℕ) (bytes : List ℕ) (x : X) (j : ℕ) (rest : List ℕ)
    → (f i bytes ≡ part x j rest) ↔ ((good x ≡ true) × (bytes ≡ write x ++ rest) × (j ≡ i + length (write x)))

-- the readers of words: a digit, a digit or `*`, digits up to the line end, the rest of a name up to the line end
abbrev pub WordsExact : Type 0
WordsExact =
    Reads digit one_digit digit_word
    × Reads choice good_choice choice_word
    × Reads digits (every one_digit) (λ ds. joined digit_word ds ++ (10 ∷ []))
    × ((n : ℕ) → Reads (name_rest n) (λ bs. nat_le (length bs) n && every name_byte bs) (λ bs. bs ++ (10 ∷ [])))

-- the reader of a line gives a line exactly if the bytes begin with the line's bytes, and else stops at the first byte at which no correct line goes on
abbrev pub LineExact : Type 0
LineExact =
    Reads (λ i bytes. ◌>>=◌ (byte letter) words i bytes) correct line_bytes
    × ((bytes : List ℕ) (at : ℕ) → (first_line bytes ≡ wrong at) ↔ StopsAt bytes at)

-- a number of a line stands at its byte, as its digit; and every digit of a line other than n is one of its numbers
abbrev pub NumbersStand : Type 0
NumbersStand =
    (S C n : ℕ) (l : Line)
    → ((k : Number) → In (numbers S C n l) k → (k.at < length (line_bytes l)) × (slice_index (line_bytes l) k.at ≡ k.value + 48))
    × ((i : ℕ) → i < length (line_bytes l) → digit_byte (slice_index (line_bytes l) i) ≡ true
    → ((name : List ℕ) × (l ≡ n_line name)) ⊎ ((k : Number) × In (numbers S C n l) k × (k.at ≡ i)))
    × Ascending (numbers S C n l)

-- every line of the rule is correct, and every number in it lies in its range
abbrev pub InRange : ℕ → ℕ → TextRule → Type 0
InRange S C r = (l : Line) → In (lines r) l → (correct l ≡ true) × ((k : Number) → In (numbers S C r.states l) k → Inside k)

-- a rule's lines are correct and in range exactly if its name is one and its numbers lie in range
abbrev pub RangeExact : Type 0
RangeExact = (S C : ℕ) (r : TextRule) → NumbersGood S C → InRange S C r ↔ Ranged S C r

-- no two lists of correct lines have the same bytes
abbrev pub LinesUnique : Type 0
LinesUnique =
    (ls ms : List Line) → ((l : Line) → In ls l → correct l ≡ true) → ((l : Line) → In ms l → correct l ≡ true)
    → joined line_bytes ls ≡ joined line_bytes ms → ls ≡ ms

-- the search over rule states has a list, with each reached state once; and it tells whether all are reached
abbrev pub ReachedExact : Type 0
ReachedExact =
    (S C : ℕ) (r : TextRule) → r.start < r.states
    → ((L : List ℕ) × (reached S C r ≡ some L) × Distinct L × ((q : ℕ) → In L q ↔ Reached (meaning S C r) q))
    × ((all_reached S C r ≡ true) ↔ AllReached (meaning S C r))

-- a digit means itself, and `*` every number below n
abbrev pub Chosen : ℕ → Choice → ℕ → Type 0
Chosen n (one d) i = d ≡ i
Chosen n each i = i < n

-- the rule has the two numbers of its reading and its own number of states; it starts in its start state and rejects in its
-- rejecting ones; p follows q under u in x exactly if some line says so
abbrev pub MeaningExact : Type 0
MeaningExact =
    (S C : ℕ) (r : TextRule)
    → ((meaning S C r).situations ≡ S)
    × ((meaning S C r).commands ≡ C)
    × ((meaning S C r).states ≡ r.states)
    × ((q : ℕ) → ((meaning S C r).start q ≡ true) ↔ (q ≡ r.start))
    × ((q : ℕ) → ((meaning S C r).reject q ≡ true) ↔ In r.rejecting q)
    × ((q u x p : ℕ)
    → ((meaning S C r).follows q u x p ≡ true)
    ↔ ((a : Arrows) × In r.arrows a × (a.from ≡ q) × Chosen C a.command u × Chosen S a.situation x × In a.to p))
