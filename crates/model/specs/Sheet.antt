-- The sheet: what it holds, its calls, and what each answers and leaves.
use Rattle.std.specs.Prelude.{ℕ, ◌+◌, Bool, true, false, cond, not, ◌&&◌, List, [], ◌∷◌, ◌++◌, map, length, drop, Ok, Err, Result, ◌==◌, nat_le, nat_lt, slice_index, slice_index_or}
use Rattle.std.proofs.Math.Option.{Option, none, some}
use Rattle.std.specs.List.{filter}
use Rattle.model.specs.Automaton.{Automaton, Row, no_row}
use Rattle.model.specs.Rules.{together}
use Rattle.model.specs.Lists.{any}
use Rattle.model.specs.Text.{Named, ReadRule, blank, filled, between, numbers_in_range}
use Rattle.model.specs.Positions.{same, Found, Solution, found, none_found, too_crowded}
use Rattle.model.specs.Positions as Positions
use Rattle.model.specs.declared.refusal.Refusal.{Refusal}
use Rattle.model.specs.declared.refusal.Refusal.TheVariants.{OutOfRange, HouseRule, UnlikeRule, NameTaken, NoRoom, NoSuchName, OverLimit, NoneFound, Crowded, NoController, NoSituation, ShortBuffer}
use Rattle.model.specs.File.{tallies}
use Rattle.model.specs.File as File

-- THE SHEET

-- the stored controller: its rows, the position of each state, the count, and the current state
pub record Stored : Type 0 where
  pub found : Found
  pub current : ℕ

pub record Sheet : Type 0 where
  pub house : Automaton
  pub situations : ℕ
  pub commands : ℕ
  pub capacity : ℕ
  pub added : List Named
  pub limit : ℕ
  pub stored : Option Stored

-- the look that open is preceded by
unfoldable pub look : Automaton → ℕ → ℕ → ℕ → Option Refusal
look house situations commands capacity =
    elim (numbers_in_range situations commands && between 1 1024 capacity) [
      | false ↦ some OutOfRange
      | true ↦
          elim (nat_le house.states 12 && (house.situations == situations && house.commands == commands)) [
            | false ↦ some HouseRule
            | true ↦ none
          ]
    ]

abbrev pub looked : Sheet → Option Refusal
looked s = look s.house s.situations s.commands s.capacity

-- opened: no rule added, limit 14, no controller
abbrev pub opened : Automaton → ℕ → ℕ → ℕ → Sheet
opened house situations commands capacity =
    record {
      house = house;
      situations = situations;
      commands = commands;
      capacity = capacity;
      added = [];
      limit = 14;
      stored = none;
    }

-- close gives the house rule back
abbrev pub closed : Sheet → Automaton
closed s = s.house

-- the rules on the sheet: the house rule, then the added ones in order
abbrev pub rule_list : Sheet → List Automaton
rule_list s = s.house ∷ map (λ (a : Named). a.rule) s.added

-- the same as one, with their states counted on
abbrev pub rules : Sheet → Automaton
rules s = together s.house (map (λ (a : Named). a.rule) s.added)

-- the sheet with other added rules, another limit, another stored controller; the first two discard the controller
abbrev pub with_added : Sheet → List Named → Sheet
with_added s added =
    record {
      house = s.house;
      situations = s.situations;
      commands = s.commands;
      capacity = s.capacity;
      added = added;
      limit = s.limit;
      stored = none;
    }

abbrev pub with_limit : Sheet → ℕ → Sheet
with_limit s limit =
    record {
      house = s.house;
      situations = s.situations;
      commands = s.commands;
      capacity = s.capacity;
      added = s.added;
      limit = limit;
      stored = none;
    }

abbrev pub with_stored : Sheet → Option Stored → Sheet
with_stored s stored =
    record {
      house = s.house;
      situations = s.situations;
      commands = s.commands;
      capacity = s.capacity;
      added = s.added;
      limit = s.limit;
      stored = stored;
    }

-- CALLS AND ANSWERS

pub data Call : Type 0 where
  add : ReadRule → Call
  withdraw : List ℕ → Call
  limit : ℕ → Call
  solve : Call
  frame : ℕ → Call
  write : List ℕ → Call  -- the buffer
  check : List ℕ → Call  -- the file

pub data Answer : Type 0 where
  done : Answer
  count : ℕ → ℕ → ℕ → Answer  -- the count, the number of states, the start command
  command : ℕ → Answer
  wrote : ℕ → List ℕ → Answer  -- the length, and what the buffer holds then
  accepted : ℕ → Answer
  refused : Refusal → Answer

-- what a call leaves and answers
pub record Outcome : Type 0 where
  pub sheet : Sheet
  pub answer : Answer

abbrev pub answers : Sheet → Answer → Outcome
answers s a = record { sheet = s; answer = a }

-- letter case in names is ignored
abbrev pub small : ℕ → ℕ
small b = cond (between 65 90 b) (b + 32) b

abbrev pub same_name : List ℕ → List ℕ → Bool
same_name a b = same (map small a) (map small b)

abbrev pub add_to : Sheet → ReadRule → Outcome
add_to s blank = answers s (refused UnlikeRule)
add_to s (filled r) =
    elim (r.rule.situations == s.situations && r.rule.commands == s.commands) [
      | false ↦ answers s (refused UnlikeRule)
      | true ↦
          elim (any (λ (a : Named). same_name r.name a.name) s.added) [
            | true ↦ answers s (refused NameTaken)
            | false ↦
                elim (nat_lt (length s.added) 4 && nat_le ((rules s).states + r.rule.states) 16) [
                  | false ↦ answers s (refused NoRoom)
                  | true ↦ answers (with_added s (s.added ++ (r ∷ []))) done
                ]
          ]
    ]

abbrev pub withdraw_from : Sheet → List ℕ → Outcome
withdraw_from s name =
    elim (any (λ (a : Named). same_name name a.name) s.added) [
      | false ↦ answers s (refused NoSuchName)
      | true ↦ answers (with_added s (filter (λ (a : Named). not (same_name name a.name)) s.added)) done
    ]

abbrev pub limit_on : Sheet → ℕ → Outcome
limit_on s n = elim (nat_le n 14) [ false ↦ answers s (refused OverLimit) | true ↦ answers (with_limit s n) done ]

abbrev pub row_in : Found → ℕ → Row
row_in f state = slice_index_or f.rows state no_row

-- solve always discards the stored controller first; what it finds is stored, in state 0
abbrev pub solve_with : Sheet → Solution → Outcome
solve_with s (found f) = answers (with_stored s (some (record { found = f; current = 0 }))) (count f.count (length f.rows) (row_in f 0).command)
solve_with s none_found = answers (with_stored s none) (refused NoneFound)
solve_with s too_crowded = answers (with_stored s none) (refused Crowded)

abbrev pub solve_on : Sheet → Outcome
solve_on s = solve_with s (Positions.solve (rules s) s.capacity s.limit)

-- the stored controller one frame on, and the command of its current state
abbrev pub moved : Stored → ℕ → Stored
moved k x = record { found = k.found; current = slice_index (row_in k.found k.current).nexts x }

abbrev pub current_command : Stored → ℕ
current_command k = (row_in k.found k.current).command

abbrev pub frame_with : Sheet → ℕ → Option Stored → Outcome
frame_with s x none = answers s (refused NoController)
frame_with s x (some k) =
    elim (nat_lt x s.situations) [
      | false ↦ answers s (refused NoSituation)
      | true ↦ answers (with_stored s (some (moved k x))) (command (current_command (moved k x)))
    ]

abbrev pub frame_on : Sheet → ℕ → Outcome
frame_on s x = frame_with s x s.stored

-- the file of the stored controller: each state has its position's tallies, and c is solve's count
abbrev pub file_of : Sheet → Found → List ℕ
file_of s f = File.file (rules s) f.rows (tallies f.positions) f.count

-- the buffer with these bytes at its start
abbrev pub overwritten : List ℕ → List ℕ → List ℕ
overwritten bytes buffer = bytes ++ drop (length bytes) buffer

abbrev pub write_with : Sheet → List ℕ → Option Stored → Outcome
write_with s buffer none = answers s (refused NoController)
write_with s buffer (some k) =
    elim (nat_le (length (file_of s k.found)) (length buffer)) [
      | false ↦ answers s (refused ShortBuffer)
      | true ↦ answers s (wrote (length (file_of s k.found)) (overwritten (file_of s k.found) buffer))
    ]

abbrev pub write_on : Sheet → List ℕ → Outcome
write_on s buffer = write_with s buffer s.stored

-- check depends on the rules on the sheet alone, and leaves the sheet as it is
abbrev pub verdict : Result ℕ Refusal → Answer
verdict (Ok c) = accepted c
verdict (Err r) = refused r

abbrev pub on_good_sheet : Sheet → Call → Outcome
on_good_sheet s (add rule) = add_to s rule
on_good_sheet s (withdraw name) = withdraw_from s name
on_good_sheet s (limit n) = limit_on s n
on_good_sheet s solve = solve_on s
on_good_sheet s (frame x) = frame_on s x
on_good_sheet s (write buffer) = write_on s buffer
on_good_sheet s (check file) = answers s (verdict (File.check (rules s) file))

-- opened on what the look refuses, a sheet gives that refusal from every call
unfoldable pub respond : Sheet → Call → Outcome
respond s call =
    elim (looked s) [ some r ↦ answers s (refused r) | none ↦ on_good_sheet s call ]

abbrev pub answer : Sheet → Call → Answer
answer s call = (respond s call).answer

abbrev pub after : Sheet → Call → Sheet
after s call = (respond s call).sheet

-- the sheet after a list of calls, and what they answered
abbrev pub run : Sheet → List Call → Sheet
run s [] = s
run s (call ∷ calls) = run (after s call) calls

abbrev pub replies : Sheet → List Call → List Answer
replies s [] = []
replies s (call ∷ calls) = let o = respond s call in o.answer ∷ replies o.sheet calls
