-- What a window shows of a file, and the places that are looked at in it.
use Rattle.std.specs.Prelude.{◌≡◌, ℕ, ◌+◌, ◌*◌, ◌<◌, Bool, true, false, ◌&&◌, nat_lt, MatchOption, List, map, length, Some, None, Option as Maybe}
use Rattle.std.proofs.Math.Option.{Option, none, some}
use Rattle.std.specs.List.{range_with_len}
use Rattle.model.specs.declared.refusal.Place.{Place}
use Rattle.model.specs.Automaton.{Automaton, weight}
use Rattle.model.specs.Lists.{every, joined}
use Rattle.model.specs.File.{byte_mark, pieces, row_of, good_row, place, mark_in}
use Rattle.model.specs.File as File
use Rattle.ctlfile.specs.declared.certificate.Source.{Source}
use Rattle.ctlfile.specs.declared.window.Window.{Window}

-- what m records for S situations, the marks of n rule states in m states, and c show
unfoldable pub showing : ℕ → ℕ → ℕ → ℕ → List ℕ → List ℕ → File.Window
showing m S n c records certificate =
    record {
      rows = map (row_of S) (pieces m (1 + 2 * S) records);
      marks = map (map byte_mark) (pieces m n certificate);
      count = c;
    }

abbrev pub shown : Window → File.Window
shown w = showing w.states w.situations w.rule_states w.count w.records.now w.certificate.now

-- the window is one on a file for the rule
pub record For (A : Automaton) (w : Window) : Type 0 where
  pub situations : w.situations ≡ A.situations
  pub states : w.rule_states ≡ A.states

-- every command and every next state that it shows is one
abbrev pub Good : Automaton → Window → Type 0
Good A w = every (good_row A (length (shown w).rows)) (shown w).rows ≡ true

-- an option of the definitions as one of the code
abbrev pub told : {X : Type 0} → Option X → Maybe X
told none = None
told (some x) = Some x

-- the first of the numbers below n that passes the test, or none passes
abbrev pub FirstNumber : (ℕ → Bool) → ℕ → Maybe ℕ → Type 0
FirstNumber test n r = MatchOption r ((k : ℕ) → k < n → test k ≡ false) (λ i. (i < n) × (test i ≡ true) × ((k : ℕ) → k < i → test k ≡ false))

-- p follows the source's rule state, but is not present in the next state with at least the mark, plus 1 if p is rejecting
abbrev pub bad_follower : Automaton → File.Window → Source → ℕ → Bool
bad_follower A w from p =
    A.follows from.rule_state from.command from.situation p && nat_lt (mark_in w from.next p) (from.mark + weight A p)

-- the places of bytes in a state, and in m states
abbrev pub byte_places_in : ℕ → ℕ → List Place
byte_places_in n s = map (λ q. place s 0 q 0) (range_with_len 0 n)

abbrev pub byte_places_to : ℕ → ℕ → List Place
byte_places_to n m = joined (byte_places_in n) (range_with_len 0 m)

-- the places of arrows from a rule state in a state and a situation; in a state and a situation; in a state; and in m states
abbrev pub arrow_places_from : ℕ → ℕ → ℕ → ℕ → List Place
arrow_places_from n s x q = map (λ p. place s x q p) (range_with_len 0 n)

abbrev pub arrow_places_in : ℕ → ℕ → ℕ → List Place
arrow_places_in n s x = joined (arrow_places_from n s x) (range_with_len 0 n)

abbrev pub arrow_places_of : ℕ → ℕ → ℕ → List Place
arrow_places_of S n s = joined (arrow_places_in n s) (range_with_len 0 S)

abbrev pub arrow_places_to : ℕ → ℕ → ℕ → List Place
arrow_places_to S n m = joined (arrow_places_of S n) (range_with_len 0 m)
