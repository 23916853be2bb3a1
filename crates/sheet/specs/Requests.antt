-- Calls as values of the code, and what they ask and are answered.
use Rattle.std.specs.Prelude.{◌≡◌, ℕ, List, [], ◌∷◌, ◌++◌, take, drop, Some, None, Option}
use Rattle.model.specs.declared.fault.ReadFault.{ReadFault}
use Rattle.model.specs.declared.refusal.Refusal.{Refusal}
use Rattle.model.specs.Reading.{Reading, reads, faulty, read, rule_left}
use Rattle.model.specs.Sheet.{Sheet, Call, add, withdraw, limit, solve, frame, write, check, done, count, command, wrote, accepted, refused, respond, run, replies}
use Rattle.model.specs.Sheet.{Answer as Reply}
use Rattle.sheet.specs.declared.request.Request.{Request}
use Rattle.sheet.specs.declared.request.Request.TheVariants.{Add, Withdraw, Limit, Solve, Frame, Write, Check}
use Rattle.sheet.specs.declared.request.Answer.{Answer}
use Rattle.sheet.specs.declared.request.Answer.TheVariants.{Added, Done, Counted, Command, Wrote, Accepted, Refused}
use Rattle.sheet.specs.declared.sheet.Sheet.{Sheet as Kept}
use Rattle.sheet.specs.Shows.{Stands}

-- how many bytes of the output a request has for its buffer
abbrev pub room : Request → ℕ
room (Add text S C) = 0
room (Withdraw name) = 0
room (Limit n) = 0
room Solve = 0
room (Frame x) = 0
room (Write n) = n
room (Check file) = 0

-- the call that a request asks for, with that buffer. The rule that is added is the one that reading the text leaves
abbrev pub call_of : Request → List ℕ → Call
call_of (Add text S C) buffer = add (rule_left S C text.now)
call_of (Withdraw name) buffer = withdraw name.now
call_of (Limit n) buffer = limit n
call_of Solve buffer = solve
call_of (Frame x) buffer = frame x
call_of (Write n) buffer = write buffer
call_of (Check file) buffer = check file.now

-- why a text is not read, and why a rule is not added
abbrev pub fault_in : Reading → Option ReadFault
fault_in (reads r) = None
fault_in (faulty f) = Some f

abbrev pub refusal_in : Reply → Option Refusal
refusal_in done = None
refusal_in (count c m u) = None
refusal_in (command u) = None
refusal_in (wrote n held) = None
refusal_in (accepted c) = None
refusal_in (refused r) = Some r

-- an answer of the definitions, as the code gives it
abbrev pub told : Reply → Answer
told done = Done
told (count c m u) = Counted (record { count = c; states = m; command = u })
told (command u) = Command u
told (wrote n held) = Wrote n
told (accepted c) = Accepted c
told (refused r) = Refused r

abbrev pub said : Request → Reply → Answer
said (Add text S C) a = Added (fault_in (read S C text.now)) (refusal_in a)
said (Withdraw name) a = told a
said (Limit n) a = told a
said Solve a = told a
said (Frame x) a = told a
said (Write n) a = told a
said (Check file) a = told a

-- what the buffer holds after an answer
abbrev pub held : List ℕ → Reply → List ℕ
held buffer done = buffer
held buffer (count c m u) = buffer
held buffer (command u) = buffer
held buffer (wrote n bytes) = bytes
held buffer (accepted c) = buffer
held buffer (refused r) = buffer

-- the calls that requests ask for: each has the next bytes of the output as its buffer
abbrev pub calls_of : List Request → List ℕ → List Call
calls_of [] output = []
calls_of (q ∷ requests) output = call_of q (take (room q) output) ∷ calls_of requests (drop (room q) output)

-- what they are answered, and what the output holds then
abbrev pub all_said : List Request → List Reply → List Answer
all_said [] replies = []
all_said (q ∷ requests) [] = []
all_said (q ∷ requests) (a ∷ replies) = said q a ∷ all_said requests replies

abbrev pub all_held : List Request → List Reply → List ℕ → List ℕ
all_held [] replies output = output
all_held (q ∷ requests) [] output = output
all_held (q ∷ requests) (a ∷ replies) output = held (take (room q) output) a ++ all_held requests replies (drop (room q) output)

module _ {R : Type 0} where
  -- a request on a sheet: it keeps its house rule; and whatever sheet it stood for, it is answered, and leaves the buffer and the sheet, as
  -- its call does
  pub record Called (before : Kept R) (q : Request) (buffer : List ℕ) (a : Answer) (left : List ℕ) (after : Kept R) : Type 0 where
    pub keeps : after.house ≡ before.house
    pub does : (s : Sheet) → Stands before s
        → (a ≡ said q (respond s (call_of q buffer)).answer) × (left ≡ held buffer (respond s (call_of q buffer)).answer) × Stands after (respond s (call_of q buffer)).sheet

  -- the same of adding what reading a text leaves
  pub record TextAdded (before : Kept R) (text : List ℕ) (S C : ℕ) (a : Answer) (after : Kept R) : Type 0 where
    pub keeps : after.house ≡ before.house
    pub does : (s : Sheet) → Stands before s
        → (a ≡ Added (fault_in (read S C text)) (refusal_in (respond s (add (rule_left S C text))).answer)) × Stands after (respond s (add (rule_left S C text))).sheet

  -- and of requests one after another
  pub record Ran (before : Kept R) (requests : List Request) (output : List ℕ) (answers : List Answer) (left : List ℕ) (after : Kept R) : Type 0 where
    pub keeps : after.house ≡ before.house
    pub does : (s : Sheet) → Stands before s
        → (answers ≡ all_said requests (replies s (calls_of requests output)))
        × (left ≡ all_held requests (replies s (calls_of requests output)) output)
        × Stands after (run s (calls_of requests output))
