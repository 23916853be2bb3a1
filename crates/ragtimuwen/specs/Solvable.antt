-- When solve may be asked for a house rule alone.
use Rattle.std.specs.Prelude.{◌≡◌, ℕ, ◌<◌, ◌≤◌, ◌⊎◌}
use Rattle.std.proofs.Math.Option.{none, some}
use Rattle.model.specs.Automaton.{Automaton}
use Rattle.model.specs.Sheet.{look}
use Rattle.model.specs.declared.refusal.Refusal.{Refusal}
use Rattle.model.specs.declared.refusal.Refusal.TheVariants.{OverLimit}
use Rattle.script.specs.Meaning.{meaning_of}
use Rattle.script.specs.declared.parse.Setup.{Setup}

pub record Solvable (house : Automaton) (capacity limit : ℕ) : Type 0 where
  pub few : house.states ≤ 12
  pub some : 1 ≤ capacity
  pub within : capacity ≤ 1024
  pub low : limit ≤ 14

-- why it may not be asked: what the look before a sheet is opened refuses, or else a limit over 14
abbrev pub Unsolvable : Setup → Refusal → Type 0
Unsolvable s r =
    (look (meaning_of s.house) s.situations s.commands s.capacity ≡ some r)
    ⊎ ((look (meaning_of s.house) s.situations s.commands s.capacity ≡ none) × (14 < s.limit) × (r ≡ OverLimit))
