-- Nodes met one by one, as a loop meets them, and links between them.
use Rattle.std.specs.Prelude.{◌≡◌, ℕ, ◌*◌, ◌<◌, ◌≤◌, Bool, cond, List, [], ◌∷◌, ◌++◌, map, length, take, drop, Some, None, fold, Option, nat_lt, slice_index_or}
use Rattle.std.proofs.Math.Option.{Option as MaybeList, none, some}
use Rattle.std.specs.List.{range_with_len}
use Rattle.model.specs.Search.{place}

-- those that are there
abbrev pub present : {X : Type 0} → List (Option X) → List X
present [] = []
present (None ∷ os) = present os
present (Some x ∷ os) = x ∷ present os

-- the successors of a node that are there, by ascending number
abbrev pub successors : {X : Type 0} → ℕ → (X → ℕ → Option X) → X → List X
successors degree successor x = present (map (successor x) (range_with_len 0 degree))

-- one more node is met, if it is there and was not met before
abbrev pub with_met : {X : Type 0} → (X → X → Bool) → List X → Option X → List X
with_met same met None = met
with_met same met (Some y) = cond (nat_lt (place same met y) (length met)) met (met ++ (y ∷ []))

-- the successors of a node are met, by ascending number
abbrev pub with_successors : {X : Type 0} → (X → X → Bool) → ℕ → (X → ℕ → Option X) → List X → X → List X
with_successors same degree successor met x = fold (with_met same) met (map (successor x) (range_with_len 0 degree))

-- the link that a successor gets when these nodes were met before it: a new node gets the next place
abbrev pub link_to : {X : Type 0} → (X → X → Bool) → List X → Option X → Option ℕ
link_to same met None = None
link_to same met (Some y) = Some (place same met y)

-- the first slots hold these nodes, so many; or there are more of them than slots
abbrev pub Held : {X : Type 0} → Option ℕ → List X → List X → Type 0
Held None slots nodes = length slots < length nodes
Held (Some n) slots nodes = (n ≤ length slots) × (take n slots ≡ nodes)

-- the first slots hold the nodes that a search finds, so many; or it finds too many
abbrev pub Found : {X : Type 0} → Option ℕ → List X → MaybeList (List X) → Type 0
Found None slots nodes = nodes ≡ none
Found (Some n) slots nodes = (0 < n) × (n ≤ length slots) × (nodes ≡ some (take n slots))

-- the link of a successor that is there is its place among the nodes met
abbrev pub Link : {X : Type 0} → (X → X → Bool) → List X → Option X → Option ℕ → Type 0
Link same met None link = link ≡ None
Link same met (Some y) link = (link ≡ Some (place same met y)) × (place same met y < length met)

-- the links of a node's first successors
abbrev pub LinkedFrom : {X : Type 0} → (X → X → Bool) → (X → ℕ → Option X) → List X → List (Option ℕ) → X → ℕ → Type 0
LinkedFrom same successor met links x n = (i : ℕ) → i < n → Link same met (successor x i) (slice_index_or links i None)

-- the links of the first nodes met: a row for each of them, and in it a link for each number of a successor
abbrev pub Linked : {X : Type 0} → (X → X → Bool) → ℕ → (X → ℕ → Option X) → List X → List (List (Option ℕ)) → ℕ → Type 0
Linked {X} same degree successor met links rows =
    (k : ℕ) (d : X) → k < rows → LinkedFrom same successor met (slice_index_or links k []) (slice_index_or met k d) degree

-- the same, where the rows stand one behind another in one list
abbrev pub LinkedAlong : {X : Type 0} → (X → X → Bool) → ℕ → (X → ℕ → Option X) → List X → List (Option ℕ) → ℕ → Type 0
LinkedAlong {X} same degree successor met links rows =
    (k : ℕ) (d : X) → k < rows → LinkedFrom same successor met (drop (k * degree) links) (slice_index_or met k d) degree
