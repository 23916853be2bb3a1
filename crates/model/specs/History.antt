-- What holds of a sheet through its whole history.
use Rattle.std.specs.Prelude.{◌≡◌, ℕ, ◌+◌, ◌*◌, ◌<◌, ◌≤◌, ◌↔◌, List, [], ◌∷◌, ◌++◌, map, length, take, drop}
use Rattle.std.proofs.Math.Option.{Option, none, some}
use Rattle.std.specs.List.{range_with_len}
use Rattle.model.specs.Automaton.{Automaton, weight, Starts, Follows, Controller, WellFormedFor, WellFormed, Exceeds, CountAtMost, CountAbove, CountIs, NoRejectingCycle, Row}
use Rattle.model.specs.Lists.{In}
use Rattle.model.specs.CountLaws.{RulesFor}
use Rattle.model.specs.Positions.{MoreThan, Described}
use Rattle.model.specs.File.{file}
use Rattle.model.specs.declared.refusal.Refusal.TheVariants.{NoneFound, Crowded}
use Rattle.model.specs.SheetLaws.{stored_controller}
use Rattle.model.specs.Sheet.{Sheet, look, opened, rule_list, rules, Call, add, withdraw, limit, solve, frame, write, check, Answer, done, count, command, wrote, accepted, refused, Stored, answer, after, run, replies}

-- the states of a controller, written out
abbrev pub rows_of : Automaton → Controller → List Row
rows_of A K =
    map (λ s. record { command = K.command s; nexts = map (K.next s) (range_with_len 0 A.situations) }) (range_with_len 0 K.size)

-- a file of the controller with the number c: its states as records, c in the trailer, any certificate, and anything before
abbrev pub FileOf : Automaton → Controller → ℕ → List ℕ → Type 0
FileOf A K c bytes =
    (before : List ℕ) × (certificate : List ℕ)
    × (length certificate ≡ K.size * A.states)
    × ((b : ℕ) → In certificate b → b < 256)
    × (bytes ≡ before ++ file A (rows_of A K) certificate c)

-- a controller for the sheet's situations and commands
abbrev pub ForSheet : Sheet → Controller → Type 0
ForSheet s K = WellFormedFor s.situations s.commands K

-- check accepts a file of the controller with the number c
abbrev pub Accepts : Sheet → Controller → ℕ → Type 0
Accepts s K c = (bytes : List ℕ) × FileOf (rules s) K c bytes × (answer s (check bytes) ≡ accepted c)

-- Some file of a controller with the number c is accepted exactly if its count over the rules on the sheet is at most c; and then
-- it has no reachable cycle through a rejecting state
abbrev pub CheckExact : Sheet → Type 0
CheckExact s =
    (c : ℕ) → c ≤ 14 → (K : Controller) → ForSheet s K → K.size ≤ 1024
    → (Accepts s K c ↔ CountAtMost (rule_list s) K c) × (Accepts s K c → NoRejectingCycle (rule_list s) K)

-- no controller stays within c
abbrev pub NoneWithin : Automaton → ℕ → Type 0
NoneWithin A c = (K : Controller) → WellFormed A K → Exceeds A K c

abbrev pub NoneOnSheet : Sheet → ℕ → Type 0
NoneOnSheet s c = (K : Controller) → ForSheet s K → CountAbove (rule_list s) K c

-- Reach(c) of the rules on the sheet has more positions than its capacity
abbrev pub OverCapacity : Sheet → ℕ → Type 0
OverCapacity s c = MoreThan (rules s) c s.capacity

-- If solve, called now, gives the count c, with m states and the start command u: c is at most the limit, and no c up to it is
-- crowded; it is the count of the controller that is stored then, which has no reachable cycle through a rejecting state; and no
-- finite controller, of any size, has a lower one
pub record GivesCount (s : Sheet) (c m u : ℕ) : Type 0 where
  pub limited : c ≤ s.limit
  pub roomy : (n : ℕ) → n ≤ c → OverCapacity s n → ⊥
  pub stored : Stored
  pub is_stored : (after s solve).stored ≡ some stored
  pub formed : ForSheet s (stored_controller stored)
  pub size : (stored_controller stored).size ≡ m
  pub start : (stored_controller stored).command 0 ≡ u
  pub own : CountIs (rule_list s) (stored_controller stored) c
  pub acyclic : NoRejectingCycle (rule_list s) (stored_controller stored)
  pub least : (K : Controller) (n : ℕ) → ForSheet s K → CountAtMost (rule_list s) K n → c ≤ n

-- if it gives none: no c up to the limit is crowded, and every finite controller's count is above the limit
pub record GivesNone (s : Sheet) : Type 0 where
  pub roomy : (n : ℕ) → n ≤ s.limit → OverCapacity s n → ⊥
  pub above : NoneOnSheet s s.limit

-- if it gives crowded: some c up to the limit is crowded, and at no lower one Reach is, or any controller's count is as low
pub record GivesCrowded (s : Sheet) : Type 0 where
  pub at : ℕ
  pub limited : at ≤ s.limit
  pub crowded : OverCapacity s at
  pub before : (n : ℕ) → n < at → (OverCapacity s n → ⊥) × NoneOnSheet s n

-- what each answer of solve says
pub data SolveSays (s : Sheet) : Answer → Type 0 where
  least : (c m u : ℕ) → GivesCount s c m u → SolveSays s (count c m u)
  none_there : GivesNone s → SolveSays s (refused NoneFound)
  too_many : GivesCrowded s → SolveSays s (refused Crowded)

-- what solve answers, called now, is so
abbrev pub SolveLeast : Sheet → Type 0
SolveLeast s = SolveSays s (answer s solve)

-- an accepted frame: its situation, and the command that it gave
pub record Frame : Type 0 where
  pub situation : ℕ
  pub gave : ℕ

abbrev pub given_by : Answer → Option ℕ
given_by done = none
given_by (count c m u) = none
given_by (command u) = some u
given_by (wrote n buffer) = none
given_by (accepted c) = none
given_by (refused r) = none

abbrev pub frame_of : Call → Answer → List Frame
frame_of (add rule) a = []
frame_of (withdraw name) a = []
frame_of (limit n) a = []
frame_of solve a = []
frame_of (frame x) a = elim (given_by a) [ none ↦ [] | some u ↦ record { situation = x; gave = u } ∷ [] ]
frame_of (write buffer) a = []
frame_of (check bytes) a = []

-- the frames accepted among the calls
abbrev pub frames : List Call → List Answer → List Frame
frames [] answers = []
frames (call ∷ calls) [] = []
frames (call ∷ calls) (a ∷ answers) = frame_of call a ++ frames calls answers

-- the command last given, first by solve, then by frames
abbrev pub last_given : ℕ → List Frame → ℕ
last_given u [] = u
last_given u (f ∷ fs) = last_given f.gave fs

-- `Along A u fs q t`: a path along all of these frames, from a start state to q, with t rejecting states on it; each frame's
-- step uses its situation and the command last given before it, u before the first
pub data Along (A : Automaton) (u : ℕ) : List Frame → ℕ → ℕ → Type 0 where
  begin : {q : ℕ} → Starts A q → Along A u [] q (weight A q)
  onward : {fs : List Frame} {q t : ℕ} (f : Frame) (p : ℕ) → Along A u fs q t → Follows A q (last_given u fs) f.situation p → Along A u (fs ++ (f ∷ [])) p (t + weight A p)

-- since a solve that gave a count, and none after it did: no path of a rule that was on the sheet, along the first of the
-- frames accepted since, counts above the count given
abbrev pub FramesWithin : Sheet → List Call → Type 0
FramesWithin s later =
    (c m u : ℕ) → answer s solve ≡ count c m u
    → let since = replies (after s solve) later in
    ((c' m' u' : ℕ) → In since (count c' m' u') → ⊥)
    → (fs gs : List Frame) → frames later since ≡ fs ++ gs
    → (A : Automaton) → In (rule_list s) A → (q t : ℕ) → Along A u fs q t → t ≤ c

-- every rule on the sheet is for its situations and commands, and together they have at most 16 states
abbrev pub RulesFit : Sheet → Type 0
RulesFit s =
    RulesFor s.situations s.commands (rule_list s) × ((rules s).states ≤ 16)

-- a sheet that calls led to, from one whose look refused nothing
abbrev pub AfterCalls : (Sheet → Type 0) → Type 0
AfterCalls Law =
    (house : Automaton) (S C capacity : ℕ) → look house S C capacity ≡ none → (calls : List Call) → Law (run (opened house S C capacity) calls)

-- whatever is called later
abbrev pub FramesStay : Sheet → Type 0
FramesStay s = (later : List Call) → FramesWithin s later

-- A stored controller is for the sheet, and in one of its states; its states are the positions stored with it; its count over the rules
-- that are on the sheet now is the stored one, at most the limit; it has no reachable cycle through a rejecting state, and no finite
-- controller has a lower count
pub record Best (s : Sheet) (k : Stored) : Type 0 where
  pub formed : ForSheet s (stored_controller k)
  pub inside : k.current < (stored_controller k).size
  pub limited : k.found.count ≤ s.limit
  pub described : Described (rules s) k.found.count (stored_controller k) k.found.positions
  pub own : CountIs (rule_list s) (stored_controller k) k.found.count
  pub acyclic : NoRejectingCycle (rule_list s) (stored_controller k)
  pub least : (K : Controller) (n : ℕ) → ForSheet s K → CountAtMost (rule_list s) K n → k.found.count ≤ n

abbrev pub StoredBest : Sheet → Type 0
StoredBest s = (k : Stored) → s.stored ≡ some k → Best s k

-- What write puts down, n bytes at the start of a buffer that then holds `held`, is a file of the stored controller with its count, and
-- check accepts it; later bytes are left
pub record Written (s : Sheet) (buffer held : List ℕ) (n : ℕ) : Type 0 where
  pub stored : Stored
  pub is_stored : s.stored ≡ some stored
  pub file_of : FileOf (rules s) (stored_controller stored) stored.found.count (take n held)
  pub accepted : answer s (check (take n held)) ≡ accepted stored.found.count
  pub within : n ≤ length buffer
  pub later : held ≡ take n held ++ drop n buffer

abbrev pub WrittenAccepted : Sheet → Type 0
WrittenAccepted s = (buffer held : List ℕ) (n : ℕ) → answer s (write buffer) ≡ wrote n held → Written s buffer held n

-- whatever bytes check accepts are a file of some controller for the sheet, with the number that it answers, which bounds its count
abbrev pub AcceptedIsFile : Sheet → Type 0
AcceptedIsFile s =
    (bytes : List ℕ) (c : ℕ) → ((b : ℕ) → In bytes b → b < 256) → answer s (check bytes) ≡ accepted c
    → (c ≤ 14)
    × ((K : Controller) × ForSheet s K × (K.size ≤ 1024) × FileOf (rules s) K c bytes
    × CountAtMost (rule_list s) K c × NoRejectingCycle (rule_list s) K)

-- Along the frames accepted since the last of the calls that is a solve and gave a count, no path of a rule that was on the sheet then
-- counts above that count, at the start or after any of the frames
abbrev pub FramesSince : Sheet → List Call → Type 0
FramesSince s calls =
    (earlier later : List Call) → calls ≡ earlier ++ (solve ∷ later) → FramesWithin (run s earlier) later

-- what holds of a sheet s that was newly opened, after a list of calls
pub record Lawful (s : Sheet) (calls : List Call) : Type 0 where
  -- check accepts some file of a controller with the number c exactly if its count is at most c
  pub checks : CheckExact (run s calls)
  -- solve's count is its controller's own and the least of all; its none and crowded are true
  pub solves : SolveLeast (run s calls)
  -- no path along the accepted frames counts above the count given
  pub frames : FramesSince s calls
  -- a stored controller is the best for the rules on the sheet
  pub stores : StoredBest (run s calls)
  -- what write puts down is accepted, and what is accepted is a file of a controller whose count it bounds
  pub writes : WrittenAccepted (run s calls)
  pub accepts : AcceptedIsFile (run s calls)

-- the history law: for any house rule that the look does not refuse, and any list of calls, refused or not
abbrev pub HistoryLaw : Type 0
HistoryLaw =
    (house : Automaton) (S C capacity : ℕ) → look house S C capacity ≡ none → (calls : List Call) → Lawful (opened house S C capacity) calls
