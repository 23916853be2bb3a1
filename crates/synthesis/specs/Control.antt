-- The controller that the lowest commands make, in a table of links.
use Rattle.std.specs.Prelude.{◌≡◌, ℕ, ◌<◌, ◌≤◌, Bool, true, cond, ◌&&◌, List, [], map, length, slice_index_or, take, Some, None, Option, nat_lt, slice_index}
use Rattle.std.specs.Option.{unwrap_or}
use Rattle.std.specs.List.{range_with_len}
use Rattle.model.specs.Automaton.{Automaton}
use Rattle.model.specs.Positions.{states_met, safe_part, row_at}
use Rattle.synthesis.specs.declared.position.Position.{Position}
use Rattle.synthesis.specs.Safety.{link, flag, lowest_kept}
use Rattle.synthesis.specs.Surveys.{shown}

-- where a command leads, if there is one
abbrev pub led : (ℕ → Option ℕ) → Option ℕ → Option ℕ
led to None = None
led to (Some u) = to u

-- where the lowest command that stays among the flagged places leads, in the situation x
abbrev pub onward : ℕ → ℕ → List (List (Option ℕ)) → List Bool → ℕ → ℕ → Option ℕ
onward C S links flags h x = cond (nat_lt h (length flags) && nat_lt x S) (led (λ u. link links h u x) (lowest_kept C S links flags h)) None

-- the positions at some places
abbrev pub standing : Automaton → ℕ → List Position → List ℕ → List (List ℕ)
standing A len slots places = map (λ h. slice_index_or (shown A len slots) h []) places

-- the next states of the s-th state in a table of links, for so many situations, 0 where there is none
abbrev pub next_states : List (List (Option ℕ)) → ℕ → ℕ → List ℕ
next_states nexts s n = map (λ x. unwrap_or (slice_index_or (slice_index_or nexts s []) x None) 0) (range_with_len 0 n)

-- the first n places are those of the controller's states, the next states are those of its rows, and each place is flagged
pub record Controlled (A : Automaton) (slots : List Position) (len : ℕ) (flags : List Bool) (n : ℕ) (places : List ℕ) (nexts : List (List (Option ℕ))) : Type 0 where
  pub some_state : 0 < n
  pub few : n ≤ len
  pub met : states_met A (safe_part A (shown A len slots)) ≡ standing A len slots (take n places)
  pub rows : (s : ℕ) → s < n
      → (row_at A (safe_part A (shown A len slots)) (standing A len slots (take n places)) (slice_index_or (shown A len slots) (slice_index places s) [])).nexts
      ≡ next_states nexts s A.situations
  pub inside : (s : ℕ) → s < n → (slice_index places s < len) × (flag flags (slice_index places s) ≡ true)
