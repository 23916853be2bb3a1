-- The first number of a line that lies outside its range.
use Rattle.std.specs.Prelude.{ℕ, Bool, true, not, List, Some, None, Option, Ok, Err, Result, nat_lt}
use Rattle.std.proofs.Math.Option as model
use Rattle.model.specs.Lists.{first}
use Rattle.model.specs.Text.{Number, Choice, one, each, inside}

abbrev pub spot : model.Option Number → Option ℕ
spot model.none = None
spot (model.some k) = Some k.at

-- its byte
abbrev pub first_outside : List Number → Option ℕ
first_outside ks = spot (first (λ k. not (inside k)) ks)

-- the byte of a number that is out of range, or none where all are in range
abbrev pub fault_of : {X : Type 0} → Result X ℕ → Option ℕ
fault_of (Ok x) = None
fault_of (Err at) = Some at

-- a digit is below n; a star always is
abbrev pub below : ℕ → Choice → Bool
below n (one d) = nat_lt d n
below n each = true
