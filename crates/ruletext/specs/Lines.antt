-- The lines of the code as lines of the model.
use Rattle.std.specs.Prelude.{◌≡◌, ℕ, ◌-◌, List, map, slice_index_or, Ok, Err, Result}
use Rattle.std.specs.Borrow.{Bor}
use Rattle.model.specs.Text.{Arrows as Stated, Choice, one, each, Line, n_line, s_line, r_line, t_line}
use Rattle.model.specs.Reading.{Reader, part, wrong, letter, byte, words, first_line, ◌>>=◌}
use Rattle.model.specs.declared.fault.WordFault.{WordFault}
use Rattle.ruletext.specs.declared.name.Name.{Name}
use Rattle.ruletext.specs.Names.{spelled}
use Rattle.ruletext.specs.declared.line.Choice.{Choice as Picked}
use Rattle.ruletext.specs.declared.line.Choice.TheVariants.{One, Each}
use Rattle.ruletext.specs.declared.line.Size.{Size}
use Rattle.ruletext.specs.declared.line.Rejects.{Rejects}
use Rattle.ruletext.specs.declared.line.Arrows.{Arrows}
use Rattle.ruletext.specs.declared.line.Line.{Line as Words}
use Rattle.ruletext.specs.declared.line.Line.TheVariants as words_of

abbrev pub picked : Picked → Choice
picked (One d) = one d
picked Each = each

abbrev pub name_line : Name → Line
name_line n = n_line (spelled n)

abbrev pub size_line : Size → Line
size_line s = s_line s.states s.start

-- the digit of a word, which is a space and a digit
abbrev pub digit_of : List ℕ → ℕ
digit_of word = slice_index_or word 1 0 - 48

-- the states that the words name
abbrev pub states_of : List (List ℕ) → List ℕ
states_of words = map digit_of words

abbrev pub states_in : Bor (List (List ℕ)) → List ℕ
states_in words = states_of words.now

abbrev pub rejects_line : Rejects → Line
rejects_line r = r_line (states_in r.states)

abbrev pub arrows_of : Arrows → Stated
arrows_of a = record { from = a.from; command = picked a.command; situation = picked a.situation; to = states_in a.to }

abbrev pub arrows_line : Arrows → Line
arrows_line a = t_line (arrows_of a)

abbrev pub line_of : Words → Line
line_of (words_of.Name n) = name_line n
line_of (words_of.Size s) = size_line s
line_of (words_of.Rejects r) = rejects_line r
line_of (words_of.Arrows a) = arrows_line a

abbrev pub line_reader : Reader Line
line_reader = ◌>>=◌ (byte letter) words

-- the first line of the bytes, and the bytes behind it; or the fault at the byte where it is wrong
abbrev pub ReadsLine : List ℕ → ℕ → Result (Words × Bor (List ℕ)) WordFault → Type 0
ReadsLine bytes line (Ok v) = (j : ℕ) × (first_line bytes ≡ part (line_of v.0) j v.1.now)
ReadsLine bytes line (Err w) = (w.line ≡ line) × (first_line bytes ≡ wrong w.byte)
