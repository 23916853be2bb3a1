-- Every refusal and every fault with its number, and the place of a fault in its text.
use Rattle.std.specs.Prelude.{ℕ}
use Rattle.std.proofs.Math.Option.{Option, none, some}
use Rattle.model.specs.declared.fault.LineFault.{LineFault}
use Rattle.model.specs.declared.fault.LineFault.TheVariants.{Word, Order, Range}
use Rattle.model.specs.declared.fault.ReadFault.{ReadFault}
use Rattle.model.specs.declared.fault.ReadFault.TheVariants.{Numbers, Length, Line, Unreached}
use Rattle.model.specs.declared.refusal.Refusal.{Refusal}
use Rattle.model.specs.declared.refusal.Refusal.TheVariants.{OutOfRange, HouseRule, UnlikeRule, NameTaken, NoRoom, NoSuchName, OverLimit, NoneFound, Crowded, NoController, NoSituation, ShortBuffer, Trailer, OtherSheet, Layout, Record, Certificate}

-- what read refuses
abbrev pub line_fault_number : LineFault → ℕ
line_fault_number (Word w) = 4
line_fault_number (Order line) = 5
line_fault_number (Range line byte) = 6

abbrev pub fault_number : ReadFault → ℕ
fault_number Numbers = 1
fault_number Length = 3
fault_number (Line f) = line_fault_number f
fault_number (Unreached line) = 7

-- what the calls of a sheet refuse
abbrev pub refusal_number : Refusal → ℕ
refusal_number OutOfRange = 1
refusal_number HouseRule = 2
refusal_number UnlikeRule = 8
refusal_number NameTaken = 9
refusal_number NoRoom = 10
refusal_number NoSuchName = 11
refusal_number OverLimit = 12
refusal_number NoneFound = 13
refusal_number Crowded = 14
refusal_number NoController = 15
refusal_number NoSituation = 16
refusal_number ShortBuffer = 17
refusal_number Trailer = 18
refusal_number OtherSheet = 19
refusal_number Layout = 20
refusal_number Record = 21
refusal_number (Certificate at) = 22

-- a line of a text, from 1, and a byte of it, from 0
pub record Spot : Type 0 where
  pub line : ℕ
  pub byte : ℕ

abbrev pub spot : ℕ → ℕ → Spot
spot line byte = record { line = line; byte = byte }

-- the place of a fault; numbers and lengths have none
abbrev pub line_fault_spot : LineFault → Spot
line_fault_spot (Word w) = spot w.line w.byte
line_fault_spot (Order line) = spot line 0
line_fault_spot (Range line byte) = spot line byte

abbrev pub fault_spot : ReadFault → Option Spot
fault_spot Numbers = none
fault_spot Length = none
fault_spot (Line f) = some (line_fault_spot f)
fault_spot (Unreached line) = some (spot line 0)
