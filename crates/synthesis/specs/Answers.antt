-- What solve answers, and what it stores.
use Rattle.std.specs.Prelude.{◌≡◌, ℕ, ◌≤◌, List, [], map, length, take, slice_index, slice_index_or, Option, Ok, Err, Result}
use Rattle.model.specs.Automaton.{Automaton, Row}
use Rattle.model.specs.Positions.{Found, solve, found, none_found, too_crowded, command_at, safe_part}
use Rattle.synthesis.specs.declared.position.Position.{Position as Stored}
use Rattle.synthesis.specs.declared.state.State.{State}
use Rattle.synthesis.specs.declared.solved.Found.{Found as Size}
use Rattle.synthesis.specs.declared.solved.Unsolved.{Unsolved}
use Rattle.synthesis.specs.declared.solved.Unsolved.TheVariants.{NoneFound, Crowded}
use Rattle.synthesis.specs.Tables.{view}
use Rattle.synthesis.specs.Surveys.{shown}
use Rattle.synthesis.specs.Control.{next_states}

-- the row of a stored state, for so many situations
abbrev pub row_of : ℕ → State → Row
row_of S state = record { command = state.command; nexts = take S state.nexts }

-- the position of a stored state, of so many rule states
abbrev pub position_of : ℕ → State → List ℕ
position_of n state = view n state.position

-- a stored state is the s-th of the places: it has the lowest command there, the next states of the table, and the place's position
pub record StandsAt (A : Automaton) (len : ℕ) (slots : List Stored) (places : List ℕ) (nexts : List (List (Option ℕ))) (s : ℕ) (state : State) : Type 0 where
  pub command : state.command ≡ command_at A (safe_part A (shown A len slots)) (slice_index_or (shown A len slots) (slice_index places s) [])
  pub nexts_are : state.nexts ≡ next_states nexts s 8
  pub position : position_of A.states state ≡ slice_index_or (shown A len slots) (slice_index places s) []

-- the first states, so many as there are said to be, are the controller found, state by state
pub record Stores (A : Automaton) (f : Found) (size : Size) (states : List State) : Type 0 where
  pub count : size.count ≡ f.count
  pub length_is : length f.rows ≡ size.states
  pub within : size.states ≤ length states
  pub rows : map (row_of A.situations) (take size.states states) ≡ f.rows
  pub positions : map (position_of A.states) (take size.states states) ≡ f.positions

-- the answer is the definition's, and where a controller is found, it is stored
abbrev pub Answered : Automaton → ℕ → ℕ → Result Size Unsolved → List State → Type 0
Answered A capacity limit (Err Crowded) states = solve A capacity limit ≡ too_crowded
Answered A capacity limit (Err NoneFound) states = solve A capacity limit ≡ none_found
Answered A capacity limit (Ok size) states = (f : Found) × (solve A capacity limit ≡ found f) × Stores A f size states
