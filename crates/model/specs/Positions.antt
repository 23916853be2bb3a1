-- Positions, steps, Reach(c), the largest safe set, and the controller that is found there.
use Rattle.std.specs.Prelude.{◌≡◌, ℕ, zero, suc, ◌+◌, ◌<◌, ◌≤◌, max, Bool, true, false, cond, ◌&&◌, ◌⊎◌, List, [], ◌∷◌, map, length, slice_index_or, ◌==◌, nat_le, nat_lt, slice_index}
use Rattle.std.proofs.Math.Option.{Option, none, some}
use Rattle.std.specs.List.{range_with_len, filter}
use Rattle.model.specs.Automaton.{Automaton, weight, Controller, Row}
use Rattle.model.specs.Search.{place, reached_from}
use Rattle.model.specs.Lists.{every, any, joined, In, Distinct}

-- a mark for each rule state: 0 where it is absent, t + 1 where it has the tally t
abbrev pub Position : Type 0
Position = List ℕ

abbrev pub mark : Position → ℕ → ℕ
mark P q = slice_index P q

-- the largest of f 0, .. , f (n - 1), and 0 if n is 0
abbrev pub largest : (ℕ → ℕ) → ℕ → ℕ
largest f zero = 0
largest f (suc n) = max (f n) (largest f n)

-- at the start, the start states are there, with tally 1 if rejecting, else 0
abbrev pub first_mark : Automaton → ℕ → ℕ
first_mark A q = cond (A.start q) (1 + weight A q) 0

unfoldable pub start_position : Automaton → Position
start_position A = map (first_mark A) (range_with_len 0 A.states)

-- the mark that q hands to p: q's tally, plus 1 if p is rejecting; none if q is absent, or p does not follow it
abbrev pub handed : Automaton → ℕ → ℕ → Position → ℕ → ℕ → ℕ
handed A u x P p q =
    let m = mark P q in
    let follows = A.follows q u x p in
    let more = m + weight A p in
    cond (nat_lt 0 m && follows) more 0

-- one step: each p gets the largest mark that it is handed
unfoldable pub step : Automaton → ℕ → ℕ → Position → Position
step A u x P = map (λ p. largest (handed A u x P p) A.states) (range_with_len 0 A.states)

-- no tally passes c
abbrev pub Fits : Automaton → ℕ → Position → Type 0
Fits A c P = (q : ℕ) → q < A.states → mark P q ≤ c + 1

unfoldable pub fits : ℕ → Position → Bool
fits c P = every (λ m. nat_le m (c + 1)) P

abbrev pub same : Position → Position → Bool
same [] [] = true
same [] (b ∷ Q) = false
same (a ∷ P) [] = false
same (a ∷ P) (b ∷ Q) = elim (a == b) [ true ↦ same P Q | false ↦ false ]

-- what steps not over c lead to from the start, if it is not over c
pub data Reach (A : Automaton) (c : ℕ) : Position → Type 0 where
  at_start : Fits A c (start_position A) → Reach A c (start_position A)
  by_step : {P : Position} (u x : ℕ) → Reach A c P → u < A.commands → x < A.situations → Fits A c (step A u x P) → Reach A c (step A u x P)

-- more positions than the capacity
abbrev pub MoreThan : Automaton → ℕ → ℕ → Type 0
MoreThan A c capacity = (L : List Position) × Distinct L × ((P : Position) → In L P → Reach A c P) × (capacity < length L)

-- under the command u, no situation leads over c, or out of the set S
abbrev pub Holds : Automaton → ℕ → (Position → Type 0) → ℕ → Position → Type 0
Holds A c S u P = (x : ℕ) → x < A.situations → Fits A c (step A u x P) × S (step A u x P)

-- each position of the set has a command under which no situation leads over c, or out of the set
abbrev pub Safe : Automaton → ℕ → (Position → Type 0) → Type 0
Safe A c S = (P : Position) → S P → (u : ℕ) × (u < A.commands) × Holds A c S u P

-- P lies in the largest safe set within Reach(c), that is, in one of them
abbrev pub InSafe : Automaton → ℕ → Position → Type 0
InSafe A c P = (S : List Position) × Safe A c (In S) × ((Q : Position) → In S Q → Reach A c Q) × In S P

-- under the command u, no situation leads out of it
abbrev pub Stays : Automaton → ℕ → ℕ → Position → Type 0
Stays A c u P = (x : ℕ) → x < A.situations → InSafe A c (step A u x P)

-- the steps under a command in every situation in turn
unfoldable pub steps : Automaton → Position → ℕ → List Position
steps A P u = map (λ x. step A u x P) (range_with_len 0 A.situations)

-- the steps not over c, by ascending command and situation
unfoldable pub successors : Automaton → ℕ → Position → List Position
successors A c P = filter (fits c) (joined (steps A P) (range_with_len 0 A.commands))

-- Reach(c) in the order of meeting; none, if it has more positions than the capacity
unfoldable pub reach : Automaton → ℕ → ℕ → Option (List Position)
reach A c capacity =
    elim (fits c (start_position A)) [
      | true ↦ reached_from same (successors A c) capacity (start_position A)
      | false ↦ some []
    ]

-- the same as tests, for a list within Reach(c): a step over c is not in it
unfoldable pub member : List Position → Position → Bool
member L P = any (same P) L

unfoldable pub holds : Automaton → List Position → Position → ℕ → Bool
holds A L P u = every (member L) (steps A P u)

-- P has a command that keeps it within the list
unfoldable pub kept : Automaton → List Position → Position → Bool
kept A L P = any (holds A L P) (range_with_len 0 A.commands)

-- what is left of the list when no more positions are removed; each round but the last removes one or more
abbrev pub pruned : Automaton → ℕ → List Position → List Position
pruned A zero L = L
pruned A (suc rounds) L =
    let rest = filter (kept A L) L in
    elim (length rest == length L) [ true ↦ L | false ↦ pruned A rounds rest ]

-- the largest safe set within the list
unfoldable pub safe_part : Automaton → List Position → List Position
safe_part A L = pruned A (length L) L

-- the first that passes the test, else 0
abbrev pub lowest : (ℕ → Bool) → List ℕ → ℕ
lowest f [] = 0
lowest f (u ∷ us) = elim (f u) [ true ↦ u | false ↦ lowest f us ]

-- the lowest command that stays in the safe set
unfoldable pub command_at : Automaton → List Position → Position → ℕ
command_at A R P = lowest (holds A R P) (range_with_len 0 A.commands)

-- the states of the controller: the positions met from the start under the commands chosen
unfoldable pub states_met : Automaton → List Position → List Position
states_met A R =
    elim (reached_from same (λ P. steps A P (command_at A R P)) (length R) (start_position A)) [ none ↦ [] | some met ↦ met ]

unfoldable pub row_at : Automaton → List Position → List Position → Position → Row
row_at A R met P =
    let u = command_at A R P in
    record { command = u; nexts = map (place same met) (steps A P u) }

-- In the state s' and the situation x' one looks before one looks in s and x
abbrev pub LooksBefore : ℕ → ℕ → ℕ → ℕ → Type 0
LooksBefore s' x' s x = (s' < s) ⊎ ((s' ≡ s) × (x' < x))

-- Numbers are given as states are met, from state 0 on, by ascending state and situation: each other state is first met from a state
-- with a lower number, and all that is met before it has a lower number
abbrev pub NumberedAsMet : ℕ → Controller → Type 0
NumberedAsMet S K =
    (j : ℕ) → 0 < j → j < K.size
    → (s : ℕ) × (x : ℕ) × (s < j) × (x < S) × (K.next s x ≡ j)
    × ((s' x' : ℕ) → x' < S → LooksBefore s' x' s x → K.next s' x' < j)

-- The states of a controller are these positions: state 0 has the start, each has its lowest command that stays in the largest safe
-- set, its steps are its next states, and states are numbered as they are met
pub record Described (A : Automaton) (c : ℕ) (K : Controller) (positions : List Position) : Type 0 where
  pub long : length positions ≡ K.size
  pub once : Distinct positions
  pub first : slice_index_or positions 0 [] ≡ start_position A
  pub safe : (P : Position) → In positions P → InSafe A c P
  pub stays : (s : ℕ) → s < K.size → Stays A c (K.command s) (slice_index_or positions s [])
  pub lowest_stays : (s u : ℕ) → s < K.size → u < K.command s → Stays A c u (slice_index_or positions s []) → ⊥
  pub nexts : (s x : ℕ) → s < K.size → x < A.situations → slice_index_or positions (K.next s x) [] ≡ step A (K.command s) x (slice_index_or positions s [])
  pub numbered : NumberedAsMet A.situations K

-- what solve finds: the count, the controller, and the position of each of its states
pub record Found : Type 0 where
  pub count : ℕ
  pub rows : List Row
  pub positions : List Position

unfoldable pub found_in : Automaton → ℕ → List Position → Found
found_in A c R =
    let met = states_met A R in
    record { count = c; rows = map (row_at A R met) met; positions = met }

-- what solve comes to: a controller, none within the limit, or a Reach(c) with more positions than the capacity
pub data Solution : Type 0 where
  found : Found → Solution
  none_found : Solution
  too_crowded : Solution

-- c, c + 1 and so on, as often as there are turns
abbrev pub try_from : Automaton → ℕ → ℕ → ℕ → Solution
try_from A capacity zero c = none_found
try_from A capacity (suc turns) c =
    elim (reach A c capacity) [
      | none ↦ too_crowded
      | some L ↦
          let R = safe_part A L in
          elim (member R (start_position A)) [ true ↦ found (found_in A c R) | false ↦ try_from A capacity turns (suc c) ]
    ]

-- c = 0, 1, 2 up to the limit
unfoldable pub solve : Automaton → ℕ → ℕ → Solution
solve A capacity limit = try_from A capacity (suc limit) 0
