-- A read rule as the model has it.
use Rattle.std.specs.Prelude.{◌≡◌, ℕ, Bool, true, false, List, [], Some, None, Ok, Err, Result}
use Rattle.model.specs.declared.fault.ReadFault.{ReadFault}
use Rattle.model.specs.Text.{TextRule, ReadRule as Rule, blank, filled, named_rule}
use Rattle.model.specs.Reading.{Reading, reads, faulty}
use Rattle.ruletext.specs.declared.rule.ReadRule.{ReadRule}
use Rattle.ruletext.specs.Names.{spelled}
use Rattle.ruletext.specs.Tables.{automaton}

-- a whole one has its name, and the rule of its fields
abbrev pub view : ReadRule → Rule
view r =
    elim r.whole [
      | None ↦ blank
      | Some w ↦
          filled (record {
            name = spelled w.name;
            rule = automaton w.numbers.situations w.numbers.commands w.states.count w.states.start w.table.rejecting w.table.arrows;
          })
    ]

abbrev pub is_blank : Rule → Bool
is_blank blank = true
is_blank (filled r) = false

abbrev pub name_of : Rule → List ℕ
name_of blank = []
name_of (filled r) = r.name

-- the result that a reading gives
abbrev pub told : Reading → Result (Unit {0}) ReadFault
told (reads r) = Ok tt
told (faulty f) = Err f

-- the code's answer is this reading: the rule that it reads, filled, or its fault
abbrev pub Gives : ℕ → ℕ → Reading → Result ReadRule ReadFault → Type 0
Gives S C reading (Ok v) = (r : TextRule) × (reading ≡ reads r) × (view v ≡ filled (named_rule S C r))
Gives S C reading (Err f) = reading ≡ faulty f
