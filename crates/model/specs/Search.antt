-- One search for every kind of node: breadth first, in the order of meeting.
use Rattle.std.specs.Prelude.{ℕ, zero, suc, Bool, true, false, List, [], ◌∷◌, ◌++◌, length, nat_le}
use Rattle.std.proofs.Math.Option.{Option, none, some}
use Rattle.model.specs.Lists.{any}

-- the place of the first equal one
abbrev pub place : {X : Type 0} → (X → X → Bool) → List X → X → ℕ
place same [] x = 0
place same (y ∷ ys) x = elim (same x y) [ true ↦ 0 | false ↦ suc (place same ys x) ]

-- those of a list that are not yet met, each once
abbrev pub fresh : {X : Type 0} → (X → X → Bool) → List X → List X → List X
fresh same met [] = []
fresh same met (x ∷ xs) = elim (any (same x) met) [ true ↦ fresh same met xs | false ↦ x ∷ fresh same (x ∷ met) xs ]

-- The nodes met from those that wait, first in, first out: each in its turn has its new neighbours met.
-- None, once more than `room` nodes are met. A node has one turn, so `room` turns are enough
abbrev pub explore : {X : Type 0} → (X → X → Bool) → (X → List X) → ℕ → ℕ → List X → List X → Option (List X)
explore same next room zero met waiting = some met
explore same next room (suc turns) met [] = some met
explore same next room (suc turns) met (x ∷ waiting) =
    let new = fresh same met (next x) in
    elim (nat_le (length (met ++ new)) room) [
      | true ↦ explore same next room turns (met ++ new) (waiting ++ new)
      | false ↦ none
    ]

-- all nodes that the neighbours of a first one lead to, in the order of meeting; none, if there are more than `room`
unfoldable pub reached_from : {X : Type 0} → (X → X → Bool) → (X → List X) → ℕ → X → Option (List X)
reached_from same next room x = elim (nat_le 1 room) [ true ↦ explore same next room room (x ∷ []) (x ∷ []) | false ↦ none ]
