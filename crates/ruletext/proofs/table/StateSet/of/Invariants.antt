use Rattle.std.proofs.Common.{◌≡◌, ℕ, ◌<◌, length, take}
use Rattle.ruletext.specs.Tables.{has_state, names}
use Rattle.ruletext.proofs.table.StateSet.of.Given as goal

abbrev pub invariant-loop-word : goal.invariant-loop-word
invariant-loop-word l =
    (length l.has ≡ 8)
    × ((p : ℕ) → p < 8 → has_state (record { has = l.has }) p ≡ names (take l.word-index l.words) p)
