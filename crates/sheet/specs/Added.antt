-- The rules that are added to a sheet, as they are kept.
use Rattle.std.specs.Prelude.{ℕ, ◌+◌, Bool, true, false, ◌&&◌, List, map, length, Ok, Err, Result, ◌==◌, nat_le, nat_lt}
use Rattle.model.specs.declared.refusal.Refusal.{Refusal}
use Rattle.model.specs.declared.refusal.Refusal.TheVariants.{UnlikeRule, NameTaken, NoRoom}
use Rattle.model.specs.Automaton.{Automaton}
use Rattle.model.specs.Lists.{any}
use Rattle.model.specs.Rules.{together}
use Rattle.model.specs.Text.{ReadRule as Rule, blank, filled, rule_meaning}
use Rattle.model.specs.Sheet.{same_name}
use Rattle.ruletext.specs.declared.rule.ReadRule.{ReadRule}
use Rattle.ruletext.specs.View.{view, name_of}

-- what a rule means
abbrev pub meaning : ReadRule → Automaton
meaning r = rule_meaning (view r)

-- the rule has the name
abbrev pub has_that_name : List ℕ → ReadRule → Bool
has_that_name name r = same_name name (name_of (view r))

-- the rule is for the situations and commands of the house rule
abbrev pub is_for : Automaton → ReadRule → Bool
is_for house r = (meaning r).situations == house.situations && (meaning r).commands == house.commands

-- how many states the rules have together
abbrev pub states_of : Automaton → List ReadRule → ℕ
states_of house rules = (together house (map meaning rules)).states

-- whether a rule may be added to those that are there: not if it is blank or for other numbers, if its name is taken, or if there is no
-- room for it
unfoldable pub admission : Automaton → List ReadRule → Rule → Result (Unit {0}) Refusal
admission house rules blank = Err UnlikeRule
admission house rules (filled n) =
    elim (n.rule.situations == house.situations && n.rule.commands == house.commands) [
      | false ↦ Err UnlikeRule
      | true ↦
          elim (any (has_that_name n.name) rules) [
            | true ↦ Err NameTaken
            | false ↦
                elim (nat_lt (length rules) 4 && nat_le (states_of house rules + n.rule.states) 16) [
                  | false ↦ Err NoRoom
                  | true ↦ Ok tt
                ]
          ]
    ]
