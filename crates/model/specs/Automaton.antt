-- A rule as an automaton, a finite controller, and the run graph of the two: its paths, their counts, and its cycles.
use Rattle.std.specs.Prelude.{◌≡◌, ℕ, ◌+◌, ◌<◌, ◌≤◌, Bool, true, cond, ◌⊎◌, List, [], length, slice_index, slice_index_or}
use Rattle.model.specs.Lists.{In}

-- RULES

-- A rule is a universal co-Büchi tree automaton, as one value: the numbers of situations, commands and states, and the sets of
-- states that start, reject and follow. Situations, commands and states are the numbers below these three. The sets are tests,
-- and `follows q u x p` says that p follows q under the command u in the situation x. Where nothing follows, nothing is owed
pub record Automaton : Type 0 where
  pub situations : ℕ
  pub commands : ℕ
  pub states : ℕ
  pub start : ℕ → Bool
  pub reject : ℕ → Bool
  pub follows : ℕ → ℕ → ℕ → ℕ → Bool

-- what a state adds to the count of a path: 1 where it is rejecting, else 0
abbrev pub weight : Automaton → ℕ → ℕ
weight A q = cond (A.reject q) 1 0

-- q is a start state
pub record Starts (A : Automaton) (q : ℕ) : Type 0 where
  pub inside : q < A.states
  pub starts : A.start q ≡ true

-- in the situation x, under the command u, p follows q
pub record Follows (A : Automaton) (q u x p : ℕ) : Type 0 where
  pub known : x < A.situations
  pub inside : p < A.states
  pub follows : A.follows q u x p ≡ true

-- CONTROLLERS

-- A finite controller: its states are the numbers below its size, state 0 is the start, each state has one command, and one next
-- state for each situation
pub record Controller : Type 0 where
  pub size : ℕ
  pub command : ℕ → ℕ
  pub next : ℕ → ℕ → ℕ

-- a controller for S situations and C commands: one state or more, and every command and next state is one
pub record WellFormedFor (S C : ℕ) (K : Controller) : Type 0 where
  pub some_state : 0 < K.size
  pub commands : (s : ℕ) → s < K.size → K.command s < C
  pub nexts : (s x : ℕ) → s < K.size → x < S → K.next s x < K.size

abbrev pub WellFormed : Automaton → Controller → Type 0
WellFormed A K = WellFormedFor A.situations A.commands K

-- one state of a controller, written out: its command, and the next state for each situation in turn
pub record Row : Type 0 where
  pub command : ℕ
  pub nexts : List ℕ

abbrev pub no_row : Row
no_row = record { command = 0; nexts = [] }

-- the controller that rows write out
abbrev pub controller : List Row → Controller
controller rows =
    record {
      size = length rows;
      command = λ s. (slice_index_or rows s no_row).command;
      next = λ s x. slice_index (slice_index_or rows s no_row).nexts x;
    }

-- THE RUN GRAPH

-- The run graph begins at the pairs of state 0 with each start state. From (s, q) an arrow leads to (s', q') if, in one situation,
-- s' is the next state of s and q' follows q under the command of s.
-- `Path A K s q t`: a path from the beginning to the pair (s, q), with t rejecting pairs on it, the first and the last included
pub data Path (A : Automaton) (K : Controller) : ℕ → ℕ → ℕ → Type 0 where
  begin : {q : ℕ} → Starts A q → Path A K 0 q (weight A q)
  onward : {s q t : ℕ} (x p : ℕ) → Path A K s q t → Follows A q (K.command s) x p → Path A K (K.next s x) p (t + weight A p)

-- every path's count is at most c
abbrev pub AtMost : Automaton → Controller → ℕ → Type 0
AtMost A K c = (s q t : ℕ) → Path A K s q t → t ≤ c

-- some path's count is above c
abbrev pub Exceeds : Automaton → Controller → ℕ → Type 0
Exceeds A K c = (s : ℕ) × (q : ℕ) × (t : ℕ) × Path A K s q t × (c < t)

-- c is the largest count of any path, or 0 if there is no path
pub record HasCount (A : Automaton) (K : Controller) (c : ℕ) : Type 0 where
  pub most : AtMost A K c
  pub attained : (c ≡ 0) ⊎ ((s : ℕ) × (q : ℕ) × Path A K s q c)

-- `Trail A K s q s' q' t`: one arrow or more, from (s, q) to (s', q'), with t rejecting pairs behind the first pair
pub data Trail (A : Automaton) (K : Controller) (s q : ℕ) : ℕ → ℕ → ℕ → Type 0 where
  arrow : (x p : ℕ) → Follows A q (K.command s) x p → Trail A K s q (K.next s x) p (weight A p)
  further : {s' q' t : ℕ} (x p : ℕ) → Trail A K s q s' q' t → Follows A q' (K.command s') x p → Trail A K s q (K.next s' x) p (t + weight A p)

-- a cycle through a rejecting pair that a path reaches
pub record RejectingCycle (A : Automaton) (K : Controller) : Type 0 where
  pub at : ℕ
  pub rule : ℕ
  pub before : ℕ
  pub around : ℕ
  pub reached : Path A K at rule before
  pub rejecting : A.reject rule ≡ true
  pub cycle : Trail A K at rule at rule around

-- an endless path: in turn i the controller is in `state i`, the rule in `rule i`, and the situation is `situation i`
pub record Endless (A : Automaton) (K : Controller) : Type 0 where
  pub state : ℕ → ℕ
  pub rule : ℕ → ℕ
  pub situation : ℕ → ℕ
  pub first : state 0 ≡ 0
  pub starts : Starts A (rule 0)
  pub moves : (i : ℕ) → state (i + 1) ≡ K.next (state i) (situation i)
  pub follows : (i : ℕ) → Follows A (rule i) (K.command (state i)) (situation i) (rule (i + 1))

-- THE COUNT OVER SEVERAL RULES, each with its own run graph

-- the count of K is at most c: no path of any of the rules counts more
abbrev pub CountAtMost : List Automaton → Controller → ℕ → Type 0
CountAtMost rules K c = (A : Automaton) → In rules A → AtMost A K c

-- the count of K is above c: some path of some rule counts more
abbrev pub CountAbove : List Automaton → Controller → ℕ → Type 0
CountAbove rules K c = (A : Automaton) × In rules A × Exceeds A K c

-- the count of K is c: it is the largest count of any path of any of the rules, or 0 if there is no path
pub record CountIs (rules : List Automaton) (K : Controller) (c : ℕ) : Type 0 where
  pub most : CountAtMost rules K c
  pub attained : (c ≡ 0) ⊎ ((A : Automaton) × In rules A × (s : ℕ) × (q : ℕ) × Path A K s q c)

-- the count of K is above every number
abbrev pub CountAboveAll : List Automaton → Controller → Type 0
CountAboveAll rules K = (c : ℕ) → CountAbove rules K c

-- no path of any of the rules reaches a cycle through a rejecting state
abbrev pub NoRejectingCycle : List Automaton → Controller → Type 0
NoRejectingCycle rules K = (A : Automaton) → In rules A → RejectingCycle A K → ⊥
