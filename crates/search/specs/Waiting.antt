-- What waits in a queue whose slots are used as a ring.
use Rattle.std.specs.Prelude.{◌≡◌, ℕ, ◌-◌, ◌≤◌, List, [], ◌∷◌, ◌++◌, length, take, drop, Some, None, Option}

-- so many items from the slot `head` on, where behind the last slot comes the first again
unfoldable pub waiting : {T : Type 0} → List T → ℕ → ℕ → List T
waiting slots head len = take len (drop head (slots ++ slots))

-- the slot `head` is there, unless there is none at all, and no more items wait than there are slots
abbrev pub Fits : {T : Type 0} → List T → ℕ → ℕ → Type 0
Fits slots head len = (head ≤ length slots - 1) × (len ≤ length slots)

-- the first that waits, and what waits then; or nothing waits
abbrev pub Popped : {T : Type 0} → Option T → List T → List T → Type 0
Popped None before after = (before ≡ []) × (after ≡ [])
Popped (Some item) before after = before ≡ item ∷ after
