-- One more digit of a number. Assumes nothing.
use Rattle.std.proofs.Common.{◌≡◌, ℕ, ◌+◌, ◌-◌, ◌*◌, List, get_or, add-one}
use Rattle.script.specs.Words.{denoted}

pub one_more : (word : List ℕ) (n : ℕ) → denoted word (n + 1) ≡ denoted word n * 10 + (get_or word n 0 - 48)
one_more word n = rw add-one
