-- What holds of the search, of Reach(c) and of safe sets.
use Rattle.std.specs.Prelude.{◌≡◌, ℕ, ◌<◌, ◌≤◌, Bool, true, ◌⊎◌, ◌↔◌, List, [], ◌∷◌, ◌++◌, length}
use Rattle.std.proofs.Math.Option.{none, some}
use Rattle.model.specs.Lists.{In, Distinct}
use Rattle.model.specs.Automaton.{Automaton}
use Rattle.model.specs.Search.{reached_from}
use Rattle.model.specs.Positions.{Position, start_position, Reach, MoreThan, Safe, reach, safe_part, successors}

-- what neighbours lead to from x
pub data Leads {X : Type 0} (next : X → List X) (x : X) : X → Type 0 where
  here : Leads next x x
  further : {y : X} (z : X) → Leads next x y → In (next y) z → Leads next x z

-- y is met behind these nodes: it is a neighbour of one of them, z, and all that was looked at before, the neighbours of the nodes
-- before z and those of z before y, is among them
abbrev pub MetBehind : {X : Type 0} → (X → List X) → List X → X → Type 0
MetBehind {X} next before y =
    (earlier : List X) × (z : X) × (later : List X) × (left : List X) × (right : List X)
    × (before ≡ earlier ++ (z ∷ later))
    × (next z ≡ left ++ (y ∷ right))
    × ((w : X) → In left w → In before w)
    × ((e w : X) → In earlier e → In (next e) w → In before w)

-- the list is in the order of meeting: x stands first, and each other node is met behind those that stand before it
abbrev pub InMeetingOrder : {X : Type 0} → (X → List X) → X → List X → Type 0
InMeetingOrder {X} next x L =
    (before : List X) (y : X) (behind : List X) → L ≡ before ++ (y ∷ behind) → ((before ≡ []) × (y ≡ x)) ⊎ MetBehind next before y

-- The search: the list has each node that x leads to once, in the order of meeting; and where there is no list, x leads to more
-- nodes than there is room for
abbrev pub SearchesExactly : (X : Type 0) → (X → X → Bool) → (X → List X) → Type 0
SearchesExactly X same next =
    (room : ℕ) (x : X)
    → ((L : List X) → reached_from same next room x ≡ some L
    → Distinct L × (length L ≤ room) × ((y : X) → In L y ↔ Leads next x y) × InMeetingOrder next x L)
    × (reached_from same next room x ≡ none → (L : List X) × Distinct L × ((y : X) → In L y → Leads next x y) × (room < length L))

-- for nodes of this kind, and any test of being the same node
abbrev pub SearchExact : Type 0 → Type 0
SearchExact X = (same : X → X → Bool) (next : X → List X) → ((a b : X) → (same a b ≡ true) ↔ (a ≡ b)) → SearchesExactly X same next

-- the list is Reach(c), each position once, in the order of meeting by ascending command and situation; and where there is no list,
-- Reach(c) has more positions than the capacity
abbrev pub ReachExact : Type 0
ReachExact =
    (A : Automaton) (c capacity : ℕ)
    → ((L : List Position) → reach A c capacity ≡ some L
    → Distinct L × (length L ≤ capacity) × ((P : Position) → In L P ↔ Reach A c P) × InMeetingOrder (successors A c) (start_position A) L)
    × (reach A c capacity ≡ none → MoreThan A c capacity)

-- the safe part of Reach(c) is safe, and holds every safe set within it
abbrev pub SafePartLargest : Type 0
SafePartLargest =
    (A : Automaton) (c capacity : ℕ) (L : List Position) → reach A c capacity ≡ some L
    → Safe A c (In (safe_part A L))
    × ((S : List Position) → Safe A c (In S) → ((P : Position) → In S P → Reach A c P) → (P : Position) → In S P → In (safe_part A L) P)
