-- What a page of the code stands for: a sheet of the definitions.
use Rattle.std.specs.Prelude.{◌≡◌, ℕ, List, map, Some, None, Ok, Err, vec_items, Option, Result}
use Rattle.std.proofs.Math.Option.{Option as Verdict, none, some}
use Rattle.model.specs.declared.refusal.Refusal.{Refusal}
use Rattle.model.specs.Text.{filled}
use Rattle.model.specs.Positions.{Found}
use Rattle.model.specs.Sheet.{Sheet, rules, looked, Call, Answer, done, count, command, wrote, refused, on_good_sheet, respond}
use Rattle.ruletext.specs.View.{view}
use Rattle.synthesis.specs.declared.state.State.{State}
use Rattle.synthesis.specs.Tables.{automaton, Agrees}
use Rattle.synthesis.specs.Answers.{Stores}
use Rattle.sheet.specs.declared.stored.Stored.{Stored}
use Rattle.sheet.specs.declared.stored.Solution.{Solution}
use Rattle.sheet.specs.declared.page.Page.{Page}
use Rattle.sheet.specs.declared.sheet.Sheet.{Sheet as Kept}

-- the controller that the definitions have stored is the one whose states are kept, and it is in the same state; or none is stored
abbrev pub Keeps : Sheet → Option Stored → List State → Type 0
Keeps s None states = s.stored ≡ none
Keeps s (Some k) states = (f : Found) × (s.stored ≡ some (record { found = f; current = k.current })) × Stores (rules s) f k.found states

-- the page stands for the sheet: the table answers as the house rule does, and the rest is the same
pub record Shows (p : Page) (s : Sheet) : Type 0 where
  pub house : Agrees (automaton p.table.arrows) s.house
  pub situations : s.situations ≡ p.table.arrows.numbers.situations
  pub commands : s.commands ≡ p.table.arrows.numbers.commands
  pub capacity : s.capacity ≡ p.capacity
  pub added : map view (vec_items p.added) ≡ map filled s.added
  pub limit : s.limit ≡ p.limit
  pub stored : Keeps s p.stored (vec_items p.workspace.states)

-- a call on a page: whatever sheet it stood for, the answer is the one laid down, and it stands then for the sheet that the call leaves
abbrev pub Does : Page → Call → Answer → Page → Type 0
Does before call a after = (s : Sheet) → Shows before s → (a ≡ (on_good_sheet s call).answer) × Shows after (on_good_sheet s call).sheet

-- a result as an answer
abbrev pub settled : Result (Unit {0}) Refusal → Answer
settled (Ok v) = done
settled (Err r) = refused r

abbrev pub solution : Result Solution Refusal → Answer
solution (Ok v) = count v.count v.states v.command
solution (Err r) = refused r

abbrev pub commanded : Result ℕ Refusal → Answer
commanded (Ok u) = command u
commanded (Err r) = refused r

abbrev pub written : Result ℕ Refusal → List ℕ → Answer
written (Ok n) held = wrote n held
written (Err r) held = refused r

-- what the look says, as a result
abbrev pub passing : Verdict Refusal → Result (Unit {0}) Refusal
passing none = Ok tt
passing (some r) = Err r

-- the look refuses the same, or the page stands for the sheet
abbrev pub Opens : Sheet → Result Page Refusal → Type 0
Opens s (Err r) = looked s ≡ some r
Opens s (Ok page) = (looked s ≡ none) × Shows page s

module _ {R : Type 0} where
  -- a sheet of the code stands for one of the definitions: the look refuses the same, or its page stands for it
  abbrev pub Stands : Kept R → Sheet → Type 0
  Stands k s = Opens s k.page

  -- a call on it: it keeps its house rule; and whatever sheet it stood for, the answer is the one laid down, and it stands then for the
  -- sheet that the call leaves
  pub record Responds (before : Kept R) (call : Call) (a : Answer) (after : Kept R) : Type 0 where
    pub keeps : after.house ≡ before.house
    pub does : (s : Sheet) → Stands before s → (a ≡ (respond s call).answer) × Stands after (respond s call).sheet
