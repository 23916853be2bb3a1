-- What the tables stand for.
use Rattle.std.specs.Prelude.{◌≡◌, ℕ, ◌+◌, ◌-◌, ◌<◌, ◌≤◌, false, cond, List, [], ◌++◌, length, slice_index_or, take, replicate, Some, None, Option}
use Rattle.model.specs.Automaton.{Automaton}
use Rattle.model.specs.Positions.{mark, step, fits, solve}
use Rattle.synthesis.specs.declared.arrows.Arrows.{Arrows}
use Rattle.synthesis.specs.declared.arrows.Flags.{Flags}
use Rattle.synthesis.specs.declared.arrows.Sources.{Sources}
use Rattle.synthesis.specs.declared.arrows.Moves.{Moves}
use Rattle.synthesis.specs.declared.arrows.Replies.{Replies}
use Rattle.synthesis.specs.declared.position.Position.{Position}

-- empty parts of a table, for reading past its ends
abbrev pub no_flags : Flags
no_flags = record { starts = false; rejects = false }

abbrev pub no_sources : Sources
no_sources = record { states = [] }

abbrev pub no_moves : Moves
no_moves = record { into = [] }

abbrev pub no_replies : Replies
no_replies = record { moves = [] }

-- the automaton that a table of arrows stands for
abbrev pub automaton : Arrows → Automaton
automaton a =
    record {
      situations = a.numbers.situations;
      commands = a.numbers.commands;
      states = a.states;
      start = λ q. (slice_index_or a.flags q no_flags).starts;
      reject = λ q. (slice_index_or a.flags q no_flags).rejects;
      follows = λ q u x p. slice_index_or (slice_index_or (slice_index_or (slice_index_or a.replies u no_replies).moves x no_moves).into p no_sources).states q false;
    }

-- the position, of so many rule states
abbrev pub view : ℕ → Position → List ℕ
view n p = take n p.marks

-- the position that a list of marks is stored as
abbrev pub stored : List ℕ → Position
stored P = record { marks = P ++ replicate (16 - length P) 0 }

-- the mark of q, if p follows it
abbrev pub mark_before : Automaton → ℕ → ℕ → List ℕ → ℕ → ℕ → ℕ
mark_before A u x P p q = cond (A.follows q u x p) (mark P q) 0

-- the step, unless it is over c
unfoldable pub stepped : Automaton → ℕ → ℕ → ℕ → List ℕ → Option Position
stepped A c u x P = cond (fits c (step A u x P)) (Some (stored (step A u x P))) None

-- two automata that answer alike below their numbers
pub record Agrees (A B : Automaton) : Type 0 where
  pub situations : A.situations ≡ B.situations
  pub commands : A.commands ≡ B.commands
  pub states : A.states ≡ B.states
  pub start : (q : ℕ) → q < B.states → A.start q ≡ B.start q
  pub reject : (q : ℕ) → q < B.states → A.reject q ≡ B.reject q
  pub follows : (q u x p : ℕ) → q < B.states → u < B.commands → x < B.situations → p < B.states → A.follows q u x p ≡ B.follows q u x p

-- the rule has the table's numbers, and there is room for its states
pub record Joins (a : Arrows) (B : Automaton) : Type 0 where
  pub situations : B.situations ≡ a.numbers.situations
  pub commands : B.commands ≡ a.numbers.commands
  pub room : a.states + B.states ≤ 16

-- the flags of a state
unfoldable pub flags_of : Automaton → ℕ → Flags
flags_of A q = record { starts = A.start q; rejects = A.reject q }

-- the parts of a table answer as the automaton does: what p follows, what each state follows, and that in each situation
abbrev pub Into : Automaton → ℕ → ℕ → ℕ → Sources → Type 0
Into A u x p r = (q : ℕ) → q < A.states → slice_index_or r.states q false ≡ A.follows q u x p

abbrev pub Moving : Automaton → ℕ → ℕ → Moves → Type 0
Moving A u x r = (p : ℕ) → p < A.states → Into A u x p (slice_index_or r.into p no_sources)

abbrev pub Replying : Automaton → ℕ → Replies → Type 0
Replying A u r = (x : ℕ) → x < A.situations → Moving A u x (slice_index_or r.moves x no_moves)

-- automata that agree have the same solution
abbrev pub SolvesAlike : Type 0
SolvesAlike = (A B : Automaton) → Agrees A B → 0 < B.commands → (room limit : ℕ) → solve A room limit ≡ solve B room limit

-- a rule with the numbers of the house rule
pub record Alike (H M : Automaton) : Type 0 where
  pub situations : M.situations ≡ H.situations
  pub commands : M.commands ≡ H.commands
