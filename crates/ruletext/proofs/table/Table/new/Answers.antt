use Rattle.std.proofs.Common.{◌≡◌, ℕ, false, replicate, refl}
use Rattle.ruletext.specs.Tables.{no_commands, no_situations, no_states, has_state, in_situation, by_command}
use Rattle.ruletext.specs.declared.table.StateSet.{StateSet}
use Rattle.ruletext.specs.declared.table.BySituation.{BySituation}
use Rattle.ruletext.specs.declared.table.ByCommand.{ByCommand}
use Rattle.ruletext.proofs.Same.{of_same}
use Rattle.ruletext.proofs.table.Table.new.Goals as goal

pub returns : goal.returns
returns c =
    let none : StateSet = record { has = replicate 8 false } in
    let in_none : BySituation = record { situations = replicate 8 none } in
    let under_none : ByCommand = record { commands = replicate 8 in_none } in
    let has : (p : ℕ) → has_state none p ≡ false = λ p. of_same (λ b. b) 8 p false false false refl refl in (
      has,
      λ q u x p.
          of_same (λ by. by_command by u x p) 8 q under_none no_commands false
          (of_same (λ by. in_situation by x p) 8 u in_none no_situations false
          (of_same (λ s. has_state s p) 8 x none no_states false (has p) refl) refl) refl,
    )
