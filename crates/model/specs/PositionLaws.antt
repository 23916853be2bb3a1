-- What holds of positions: a tally is the count of a path, and no path counts more.
use Rattle.std.specs.Prelude.{◌≡◌, ℕ, ◌+◌, ◌<◌, ◌≤◌, List, [], ◌∷◌, ◌++◌, length}
use Rattle.model.specs.Lists.{In}
use Rattle.model.specs.Automaton.{Automaton, weight, Starts, Follows}
use Rattle.model.specs.Positions.{Position, mark, start_position, step}

-- q is present in P, with the tally t
abbrev pub Tally : Position → ℕ → ℕ → Type 0
Tally P q t = mark P q ≡ t + 1

-- P is the start: each start state has tally 1 if it is rejecting, else 0, and the others are absent
pub record IsStart (A : Automaton) (P : Position) : Type 0 where
  pub long : length P ≡ A.states
  pub starts : (q : ℕ) → Starts A q → Tally P q (weight A q)
  pub others : (q t : ℕ) → q < A.states → Tally P q t → Starts A q

-- P' is one step from P under the command u in the situation x: what follows a present state is present, with at least its tally, plus
-- 1 if it is rejecting, and no tally has any other source
pub record IsStep (A : Automaton) (u x : ℕ) (P P' : Position) : Type 0 where
  pub long : length P' ≡ A.states
  pub carries : (q p t : ℕ) → q < A.states → Tally P q t → Follows A q u x p → (t' : ℕ) × Tally P' p t' × (t + weight A p ≤ t')
  pub sources : (p t' : ℕ) → p < A.states → Tally P' p t' → (q : ℕ) × (t : ℕ) × (q < A.states) × Tally P q t × Follows A q u x p × (t' ≡ t + weight A p)

-- the start and the step are the only positions of which this holds
abbrev pub StepsExact : Type 0
StepsExact =
    (A : Automaton)
    → (IsStart A (start_position A) × ((P : Position) → IsStart A P → P ≡ start_position A))
    × ((u x : ℕ) (P : Position) → x < A.situations → IsStep A u x P (step A u x P) × ((P' : Position) → IsStep A u x P P' → P' ≡ step A u x P))

-- one turn: the command in force, and the situation
pub record Turn : Type 0 where
  pub command : ℕ
  pub situation : ℕ

-- the position after these turns
abbrev pub position_from : Automaton → Position → List Turn → Position
position_from A P [] = P
position_from A P (w ∷ turns) = position_from A (step A w.command w.situation P) turns

-- `PathAlong A turns q t`: a path along all of these turns, from a start state to q, with t rejecting states on it, first and last
-- included
pub data PathAlong (A : Automaton) : List Turn → ℕ → ℕ → Type 0 where
  begin : {q : ℕ} → Starts A q → PathAlong A [] q (weight A q)
  onward : {turns : List Turn} {q t : ℕ} (w : Turn) (p : ℕ) → PathAlong A turns q t → Follows A q w.command w.situation p → PathAlong A (turns ++ (w ∷ [])) p (t + weight A p)

-- along any turns, each tally is the count of a path to its state, and no path to it counts more; where there is no path, it is absent
abbrev pub TalliesExact : Type 0
TalliesExact =
    (A : Automaton) (turns : List Turn) → ((w : Turn) → In turns w → w.situation < A.situations)
    → let P = position_from A (start_position A) turns in
    ((q t : ℕ) → Tally P q t → PathAlong A turns q t) × ((q t : ℕ) → PathAlong A turns q t → t + 1 ≤ mark P q)
