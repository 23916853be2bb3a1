-- A table of the same at each place.
use Rattle.std.proofs.Common.{◌≡◌, ℕ, zero, suc, Bool, get_or, replicate}

-- at each place of a list of the same, and behind it
pub of_same : {X : Type 0} (f : X → Bool) (n k : ℕ) (x d : X) (b : Bool) → f x ≡ b → f d ≡ b → f (get_or (replicate n x) k d) ≡ b
of_same f zero k x d b h o = o
of_same f (suc n) zero x d b h o = h
of_same f (suc n) (suc k) x d b h o = of_same f n k x d b h o
