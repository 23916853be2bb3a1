-- The file that write puts down, and what it answers and leaves.
use Rattle.std.specs.Prelude.{ℕ, cond, List, map, length, Ok, Err, Result, nat_le}
use Rattle.model.specs.declared.refusal.Refusal.{Refusal}
use Rattle.model.specs.declared.refusal.Refusal.TheVariants.{ShortBuffer}
use Rattle.model.specs.Automaton.{Automaton}
use Rattle.model.specs.File.{file, tallies}
use Rattle.model.specs.Sheet.{overwritten}
use Rattle.synthesis.specs.declared.state.State.{State}
use Rattle.synthesis.specs.Answers.{row_of, position_of}

-- the file of a controller's states, with each state's position as its tallies
unfoldable pub file_of : Automaton → List State → ℕ → List ℕ
file_of A states c = file A (map (row_of A.situations) states) (tallies (map (position_of A.states) states)) c

-- its length, if the buffer has room for it
abbrev pub written : List ℕ → List ℕ → Result ℕ Refusal
written file buffer = cond (nat_le (length file) (length buffer)) (Ok (length file)) (Err ShortBuffer)

-- the buffer with the file at its start, or as it was
abbrev pub left : List ℕ → List ℕ → List ℕ
left file buffer = cond (nat_le (length file) (length buffer)) (overwritten file buffer) buffer
