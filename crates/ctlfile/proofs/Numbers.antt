-- Numbers of two and of four bytes, the lowest first. Assumes nothing.
use Rattle.std.proofs.Common.{◌≡◌, ℕ, ◌+◌, ◌*◌, ◌/◌, ◌%◌, List, [], ◌∷◌, get_or, take, drop, ap, ◌∙◌, add-zero, arith}
use Rattle.std.proofs.lemmas.List.{get_or-drop}
use Rattle.model.specs.File.{bytes_of, number_of, piece}

pub two_read : (l : List ℕ) → number_of (take 2 l) ≡ get_or l 0 0 + get_or l 1 0 * 256
two_read [] = omega arith
two_read (a ∷ []) = omega arith
two_read (a ∷ b ∷ l) = omega arith

pub two_at : (at : ℕ) (l : List ℕ) → number_of (piece at 2 l) ≡ get_or l at 0 + get_or l (at + 1) 0 * 256
two_at at l = omega (arith, two_read (drop at l), get_or-drop at l 0 0 ∙ ap (λ k. get_or l k 0) (add-zero at), get_or-drop at l 1 0)

-- the bytes of a number as they are written
pub four_bytes : (v : ℕ) → v % 256 ∷ v / 256 % 256 ∷ v / 65536 % 256 ∷ v / 16777216 % 256 ∷ [] ≡ bytes_of 4 v
four_bytes v =
    let a : v / 65536 % 256 ≡ v / 256 / 256 % 256 = omega arith in
    let b : v / 16777216 % 256 ≡ v / 256 / 256 / 256 % 256 = omega arith in
    λ i. v % 256 ∷ v / 256 % 256 ∷ a i ∷ b i ∷ []
