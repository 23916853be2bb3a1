-- What the search among positions finds, and which of them are safe.
use Rattle.std.specs.Prelude.{◌≡◌, ℕ, ◌<◌, ◌≤◌, Bool, true, false, cond, ◌&&◌, List, [], map, length, take, Some, None, Option, nat_lt, slice_index_or, MatchOption}
use Rattle.std.proofs.Math.Option.{none, some}
use Rattle.model.specs.Automaton.{Automaton}
use Rattle.model.specs.Positions.{step, fits, reach, member, safe_part}
use Rattle.synthesis.specs.declared.position.Position.{Position}
use Rattle.synthesis.specs.Tables.{view, stepped}
use Rattle.synthesis.specs.Safety.{link, flag}

-- the step under u in x, if these are numbers of the automaton, and it is not over c
abbrev pub candidate : Automaton → ℕ → List ℕ → ℕ → ℕ → Option Position
candidate A c P u x = cond (nat_lt u A.commands && nat_lt x A.situations) (stepped A c u x P) None

-- the positions that the first slots show
abbrev pub shown : Automaton → ℕ → List Position → List (List ℕ)
shown A n slots = map (view A.states) (take n slots)

-- a link leads to the place of the step Q in the list, or Q is over c
abbrev pub Leads : ℕ → List (List ℕ) → List ℕ → Option ℕ → Type 0
Leads c L Q link = MatchOption link (fits c Q ≡ false) (λ l. (fits c Q ≡ true) × (l < length L) × (slice_index_or L l [] ≡ Q))

-- each link of the positions leads to its step
abbrev pub Stepping : Automaton → ℕ → List (List ℕ) → List (List (Option ℕ)) → Type 0
Stepping A c L links = (h u x : ℕ) → h < length L → u < A.commands → x < A.situations → Leads c L (step A u x (slice_index_or L h [])) (link links h u x)

-- the first slots show Reach(c), and the links lead to the steps; or Reach(c) has more positions than there is room for
abbrev pub Reached : Automaton → ℕ → ℕ → Option ℕ → List Position → List (List (Option ℕ)) → Type 0
Reached A c room None slots links = reach A c room ≡ none
Reached A c room (Some n) slots links = (n ≤ room) × (reach A c room ≡ some (shown A n slots)) × Stepping A c (shown A n slots) links

-- the same, and the flags are those of the safe part of Reach(c)
abbrev pub Surveyed : Automaton → ℕ → ℕ → Option ℕ → List Position → List (List (Option ℕ)) → List Bool → Type 0
Surveyed A c room None slots links flags = reach A c room ≡ none
Surveyed A c room (Some n) slots links flags =
    Reached A c room (Some n) slots links
    × ((h : ℕ) → h < n → flag flags h ≡ member (safe_part A (shown A n slots)) (slice_index_or (shown A n slots) h []))
