-- How far the lines of a text have come, as the code and as the model have it.
use Rattle.std.specs.Prelude.{◌≡◌, ℕ, ◌+◌, ◌<◌, not, List, length, false, Ok, Err, Result}
use Rattle.std.specs.Borrow.{Bor}
use Rattle.std.proofs.Math.Option.{none, some}
use Rattle.model.specs.declared.fault.LineFault.{LineFault}
use Rattle.model.specs.declared.fault.LineFault.TheVariants.{Word, Order, Range}
use Rattle.model.specs.declared.fault.ReadFault.TheVariants.{Line as OfLine}
use Rattle.model.specs.Lists.{any, first}
use Rattle.model.specs.Text.{TextRule, Line, among, has_arrow, numbers, inside}
use Rattle.model.specs.Reading.{SoFar as Model, nothing, named, sized, full, onward, states_so_far, part, wrong, first_line, read_lines, at_end, faulty}
use Rattle.model.specs.ReadingLaws.{Ranged}
use Rattle.rules.specs.declared.numbers.Numbers.{Numbers}
use Rattle.ruletext.specs.declared.so_far.Reading.{Reading}
use Rattle.ruletext.specs.declared.so_far.SoFar.{SoFar}
use Rattle.ruletext.specs.declared.so_far.SoFar.TheVariants as so_far
use Rattle.ruletext.specs.declared.table.StateSet.{StateSet}
use Rattle.ruletext.specs.Names.{spelled}
use Rattle.ruletext.specs.Tables.{ArrowTable, has_state, arrow}

-- no state is marked, and no arrow
abbrev pub Clear : StateSet → ArrowTable → Type 0
Clear rejecting arrows = ((k : ℕ) → has_state rejecting k ≡ false) × ((q u x p : ℕ) → arrow arrows q u x p ≡ false)

-- name, number of states, start state and tables are those of a rule in range
pub record Drafted (S C : ℕ) (name : List ℕ) (states start : ℕ) (rejecting : StateSet) (arrows : ArrowTable) (r : TextRule) : Type 0 where
  pub names : r.name ≡ name
  pub counts : r.states ≡ states
  pub starts : r.start ≡ start
  pub rejects : (q : ℕ) → has_state rejecting q ≡ among r.rejecting q
  pub leads : (q u x p : ℕ) → q < 8 → u < 8 → x < 8 → p < 8 → arrow arrows q u x p ≡ any (has_arrow S C q u x p) r.arrows
  pub ranged : Ranged S C r

-- what the code has of the lines so far is what the model has
abbrev pub Standing : ℕ → ℕ → SoFar → StateSet → ArrowTable → Model → Type 0
Standing S C so_far.Nothing rejecting arrows m = (m ≡ nothing) × Clear rejecting arrows
Standing S C (so_far.Named name) rejecting arrows m = (m ≡ named (spelled name)) × Clear rejecting arrows
Standing S C (so_far.Sized name states) rejecting arrows m = (m ≡ sized (spelled name) states.count states.start) × Clear rejecting arrows
Standing S C (so_far.Full name states) rejecting arrows m =
    (r : TextRule) × (m ≡ full r) × Drafted S C (spelled name) states.count states.start rejecting arrows r

-- the same of what it has read, or would have if it had come so far
abbrev pub StandsAt : SoFar → Reading → Model → Type 0
StandsAt come r m = Standing r.numbers.situations r.numbers.commands come r.table.rejecting r.table.arrows m

abbrev pub Stands : Reading → Model → Type 0
Stands r m = StandsAt r.so_far r m

-- one more line: how far the lines come with it, or its fault
pub data Step : Type 0 where
  on : Model → Step
  off : LineFault → Step

abbrev pub step : ℕ → ℕ → ℕ → Model → Line → Step
step S C line m l =
    elim (onward m l) [
      | none ↦ off (Order line)
      | some next ↦
          elim (first (λ k. not (inside k)) (numbers S C (states_so_far next) l)) [ some k ↦ off (Range line k.at) | none ↦ on next ]
    ]

-- the code's answer to one more line is the model's, and it then has what the model has, for the same numbers and line
abbrev pub Steps : Reading → Model → Line → Reading → Result (Unit {0}) LineFault → Type 0
Steps r m l after (Ok _) =
    (after.numbers ≡ r.numbers) × (after.line ≡ r.line)
    × ((next : Model) × (step r.numbers.situations r.numbers.commands r.line m l ≡ on next) × Stands after next)
Steps r m l after (Err f) = step r.numbers.situations r.numbers.commands r.line m l ≡ off f

-- the first line of the bytes: how far the lines come with it, and the bytes behind it; or its fault
pub data Taken : Type 0 where
  going : Model → List ℕ → Taken
  stopped : LineFault → Taken

abbrev pub take_line : ℕ → ℕ → ℕ → Model → List ℕ → Taken
take_line S C line m bytes =
    elim (first_line bytes) [
      | wrong at ↦ stopped (Word (record { line = line; byte = at }))
      | part l length rest ↦ elim (step S C line m l) [ on next ↦ going next rest | off f ↦ stopped f ]
    ]

-- the code's answer to the bytes of one more line is the model's, and it then has what the model has, for the same numbers and the next
-- line: a byte or more is taken
abbrev pub Takes : Reading → Model → List ℕ → Reading → Result (Bor (List ℕ)) LineFault → Type 0
Takes r m bytes after (Ok rest) =
    (after.numbers ≡ r.numbers) × (after.line ≡ r.line + 1) × (length rest.now < length bytes)
    × ((next : Model) × (take_line r.numbers.situations r.numbers.commands r.line m bytes ≡ going next rest.now) × Stands after next)
Takes r m bytes after (Err f) = take_line r.numbers.situations r.numbers.commands r.line m bytes ≡ stopped f

-- the code's answer to all lines is the model's, up to what is looked at behind the last
abbrev pub TakesAll : Numbers → List ℕ → Result Reading LineFault → Type 0
TakesAll n bytes (Ok r) =
    (r.numbers ≡ n)
    × ((m : Model) × (read_lines n.situations n.commands (length bytes) 1 nothing bytes ≡ at_end n.situations n.commands r.line m) × Stands r m)
TakesAll n bytes (Err f) = read_lines n.situations n.commands (length bytes) 1 nothing bytes ≡ faulty (OfLine f)
