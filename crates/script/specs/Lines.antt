-- Lines of a script, which is a list of bytes.
use Rattle.std.specs.Prelude.{◌≡◌, ℕ, ◌+◌, ◌<◌, ◌≤◌, ◌⊎◌, List, length, ◌≢◌, slice_index, slice_range}

-- no byte from one place up to another ends a line
abbrev pub Unbroken : List ℕ → ℕ → ℕ → Type 0
Unbroken script from to = (k : ℕ) → from ≤ k → k < to → slice_index script k ≢ 10

-- the line that begins at one place, where the next line begins at another: up to a byte that ends it, or to the script's end
pub record LineAt (script : List ℕ) (from next : ℕ) (line : List ℕ) : Type 0 where
  pub end : ℕ
  pub onward : from < next
  pub text : line ≡ slice_range script from end
  pub inside : Unbroken script from end
  pub ended : ((slice_index script end ≡ 10) × (next ≡ end + 1)) ⊎ ((end ≡ length script) × (next ≡ end))
