-- What each call on a sheet answers and leaves, case by case, and which rules are on a sheet.
use Rattle.std.specs.Prelude.{◌≡◌, ℕ, ◌+◌, ◌<◌, ◌≤◌, true, ◌⊎◌, ◌↔◌, List, [], ◌∷◌, ◌++◌, length}
use Rattle.std.proofs.Math.Option.{none, some}
use Rattle.model.specs.declared.refusal.Refusal.{Refusal}
use Rattle.model.specs.declared.refusal.Refusal.TheVariants.{OutOfRange, HouseRule, UnlikeRule, NameTaken, NoRoom, NoSuchName, OverLimit, NoneFound, Crowded, NoController, NoSituation, ShortBuffer}
use Rattle.model.specs.Lists.{In}
use Rattle.model.specs.Automaton.{Automaton, Controller, controller}
use Rattle.model.specs.Text.{Named, blank, filled}
use Rattle.model.specs.Positions.{Found, found, none_found, too_crowded}
use Rattle.model.specs.Positions as Positions
use Rattle.model.specs.File as File
use Rattle.model.specs.Sheet.{Sheet, Stored, same_name, look, looked, opened, rules, with_added, with_limit, with_stored, file_of, overwritten, Call, add, withdraw, limit, solve, frame, write, check, Answer, done, count, command, wrote, refused, verdict, Outcome, answers, respond, answer, after, run, replies}

-- NAMES

-- the same byte, or the same letter, small and capital
abbrev pub SameLetter : ℕ → ℕ → Type 0
SameLetter a b = (a ≡ b) ⊎ (((65 ≤ a) × (a ≤ 90) × (b ≡ a + 32)) ⊎ ((65 ≤ b) × (b ≤ 90) × (a ≡ b + 32)))

-- letter case in names is ignored
abbrev pub SameName : List ℕ → List ℕ → Type 0
SameName [] [] = Unit {0}
SameName [] (b ∷ rest) = ⊥
SameName (a ∷ more) [] = ⊥
SameName (a ∷ more) (b ∷ rest) = SameLetter a b × SameName more rest

abbrev pub NamesExact : Type 0
NamesExact = (a b : List ℕ) → (same_name a b ≡ true) ↔ SameName a b

-- LOOK

-- 1 to 8 situations and commands, and a capacity of 1 to 1,024
abbrev pub InRange : ℕ → ℕ → ℕ → Type 0
InRange S C capacity = (1 ≤ S) × (S ≤ 8) × (1 ≤ C) × (C ≤ 8) × (1 ≤ capacity) × (capacity ≤ 1024)

-- at most 12 states, and the sheet's two numbers
abbrev pub FitsSheet : Automaton → ℕ → ℕ → Type 0
FitsSheet house S C = (house.states ≤ 12) × (house.situations ≡ S) × (house.commands ≡ C)

abbrev pub LookExact : Type 0
LookExact =
    (house : Automaton) (S C capacity : ℕ)
    → ((look house S C capacity ≡ none) ↔ (InRange S C capacity × FitsSheet house S C))
    × ((look house S C capacity ≡ some OutOfRange) ↔ (InRange S C capacity → ⊥))
    × ((look house S C capacity ≡ some HouseRule) ↔ (InRange S C capacity × (FitsSheet house S C → ⊥)))

-- a newly opened sheet holds what it was opened with, no added rule, limit 14 and no controller
pub record New (house : Automaton) (situations commands capacity : ℕ) (s : Sheet) : Type 0 where
  pub house_rule : s.house ≡ house
  pub situation_number : s.situations ≡ situations
  pub command_number : s.commands ≡ commands
  pub room : s.capacity ≡ capacity
  pub no_rule : s.added ≡ []
  pub limit_14 : s.limit ≡ 14
  pub no_controller : s.stored ≡ none

abbrev pub OpenedNew : Type 0
OpenedNew = (house : Automaton) (situations commands capacity : ℕ) → New house situations commands capacity (opened house situations commands capacity)

-- CALLS

-- the rule is for the sheet's situations and commands
abbrev pub Like : Sheet → Named → Type 0
Like s r = (r.rule.situations ≡ s.situations) × (r.rule.commands ≡ s.commands)

-- a rule of that name is added
abbrev pub HasName : Sheet → List ℕ → Type 0
HasName s name = (a : Named) × In s.added a × SameName name a.name

-- fewer than four rules are added, and with this one there are at most 16 rule states
abbrev pub HasRoom : Sheet → Named → Type 0
HasRoom s r = (length s.added < 4) × ((rules s).states + r.rule.states ≤ 16)

-- the second list has those of the first that have another name, in their order
pub data Others (name : List ℕ) : List Named → List Named → Type 0 where
  end : Others name [] []
  drops : {L M : List Named} (a : Named) → SameName name a.name → Others name L M → Others name (a ∷ L) M
  keeps : {L M : List Named} (a : Named) → (SameName name a.name → ⊥) → Others name L M → Others name (a ∷ L) (a ∷ M)

abbrev pub stored_controller : Stored → Controller
stored_controller k = controller k.found.rows

-- the stored controller in its next state
abbrev pub in_next : Stored → ℕ → Stored
in_next k x = record { found = k.found; current = (stored_controller k).next k.current x }

-- `Does s call o`: on a sheet that the look does not refuse, the call has this outcome
pub data Does (s : Sheet) : Call → Outcome → Type 0 where
  -- add: 8, then 9, then 10; accepted, the rule stands behind the others, and the controller is discarded
  add_blank : Does s (add blank) (answers s (refused UnlikeRule))
  add_unlike : (r : Named) → (Like s r → ⊥) → Does s (add (filled r)) (answers s (refused UnlikeRule))
  add_taken : (r : Named) → Like s r → HasName s r.name → Does s (add (filled r)) (answers s (refused NameTaken))
  add_full : (r : Named) → Like s r → (HasName s r.name → ⊥) → (HasRoom s r → ⊥) → Does s (add (filled r)) (answers s (refused NoRoom))
  adds : (r : Named) → Like s r → (HasName s r.name → ⊥) → HasRoom s r → Does s (add (filled r)) (answers (with_added s (s.added ++ (r ∷ []))) done)
  -- withdraw: accepted, the rule is gone, the gap is closed, and the controller is discarded
  withdraw_unknown : (name : List ℕ) → (HasName s name → ⊥) → Does s (withdraw name) (answers s (refused NoSuchName))
  withdraws : (name : List ℕ) (rest : List Named) → HasName s name → Others name s.added rest → Does s (withdraw name) (answers (with_added s rest) done)
  -- limit: accepted, the controller is discarded
  limit_over : (n : ℕ) → 14 < n → Does s (limit n) (answers s (refused OverLimit))
  limits : (n : ℕ) → n ≤ 14 → Does s (limit n) (answers (with_limit s n) done)
  -- solve: what is found is stored, in state 0; else nothing is
  finds : (f : Found) → Positions.solve (rules s) s.capacity s.limit ≡ found f
      → Does s solve (answers (with_stored s (some (record { found = f; current = 0 }))) (count f.count (length f.rows) ((controller f.rows).command 0)))
  finds_none : Positions.solve (rules s) s.capacity s.limit ≡ none_found → Does s solve (answers (with_stored s none) (refused NoneFound))
  crowds : Positions.solve (rules s) s.capacity s.limit ≡ too_crowded → Does s solve (answers (with_stored s none) (refused Crowded))
  -- frame: 15, then 16; accepted, the controller is in the next state, and its command is given
  frame_none : (x : ℕ) → s.stored ≡ none → Does s (frame x) (answers s (refused NoController))
  frame_large : (x : ℕ) (k : Stored) → s.stored ≡ some k → s.situations ≤ x → Does s (frame x) (answers s (refused NoSituation))
  moves : (x : ℕ) (k : Stored) → s.stored ≡ some k → x < s.situations
      → Does s (frame x) (answers (with_stored s (some (in_next k x))) (command ((stored_controller k).command (in_next k x).current)))
  -- write: 15, then 17; accepted, the file's bytes stand at the start of the buffer, and its later bytes are left
  write_none : (buffer : List ℕ) → s.stored ≡ none → Does s (write buffer) (answers s (refused NoController))
  write_short : (buffer : List ℕ) (k : Stored) → s.stored ≡ some k → length buffer < length (file_of s k.found) → Does s (write buffer) (answers s (refused ShortBuffer))
  writes : (buffer : List ℕ) (k : Stored) → s.stored ≡ some k → length (file_of s k.found) ≤ length buffer
      → Does s (write buffer) (answers s (wrote (length (file_of s k.found)) (overwritten (file_of s k.found) buffer)))
  -- check: by the rules on the sheet alone
  checks : (bytes : List ℕ) → Does s (check bytes) (answers s (verdict (File.check (rules s) bytes)))

-- a call has exactly that outcome; opened on what the look refuses, a sheet gives that refusal from every call, and stays as it is
abbrev pub CallsExact : Type 0
CallsExact =
    (s : Sheet) (call : Call)
    → (looked s ≡ none → (o : Outcome) → (respond s call ≡ o) ↔ Does s call o)
    × ((r : Refusal) → looked s ≡ some r → respond s call ≡ answers s (refused r))

-- a refusal alters nothing, except that solve discards the stored controller
abbrev pub RefusalsKeep : Type 0
RefusalsKeep =
    (s : Sheet) (call : Call) (r : Refusal) → answer s call ≡ refused r
    → (after s call ≡ s) ⊎ ((call ≡ solve) × (after s call ≡ with_stored s none))

-- opened on what the look refuses, a sheet stays as it is, and every call gives that refusal
abbrev pub RefusedSheet : Type 0
RefusedSheet =
    (house : Automaton) (S C capacity : ℕ) (r : Refusal) → look house S C capacity ≡ some r → (calls : List Call)
    → let s = opened house S C capacity in
    (run s calls ≡ s) × ((a : Answer) → In (replies s calls) a → a ≡ refused r)

-- THE RULES ON A SHEET

-- the rule of an add among the calls that was accepted, with no withdraw of its name accepted after it
abbrev pub Standing : Sheet → List Call → Named → Type 0
Standing s calls a =
    (earlier : List Call) × (later : List Call)
    × (calls ≡ earlier ++ (add (filled a) ∷ later))
    × (answer (run s earlier) (add (filled a)) ≡ done)
    × ((before behind : List Call) (name : List ℕ)
    → later ≡ before ++ (withdraw name ∷ behind)
    → answer (run s (earlier ++ (add (filled a) ∷ before))) (withdraw name) ≡ done
    → SameName name a.name → ⊥)

-- the added rules on a sheet are those of the adds accepted, each until a withdraw of its name is accepted
abbrev pub RulesStand : Type 0
RulesStand =
    (house : Automaton) (S C capacity : ℕ) (calls : List Call) (a : Named)
    → let s = opened house S C capacity in
    In (run s calls).added a ↔ Standing s calls a
