-- A part of a file that is filled from its front, piece by piece. Assumes nothing.
use Rattle.std.proofs.Common.{◌≡◌, ℕ, ◌+◌, ◌≤◌, List, ◌++◌, length, take, sym, ap, ◌∙◌, arith}
use borrow.Rule.Slice.PartMut.{put_mid}
use Rattle.std.proofs.lemmas.List.{take_all}
use Rattle.std.proofs.lemmas.Slice.{take-put_mid}

-- a piece behind what is filled
pub filled_more : (a k n : ℕ) (part ys front : List ℕ) → take a part ≡ front → length ys ≡ k → a ≤ length part → n ≡ a + k → take n (put_mid a k part ys) ≡ front ++ ys
filled_more a k n part ys front e l h s = take-put_mid a k part ys n (omega arith) h ∙ ap {B = List ℕ} (λ z. z ++ ys) e

-- filled to its end
pub filled_all : (n : ℕ) (part whole : List ℕ) → length part ≡ n → take n part ≡ whole → part ≡ whole
filled_all n part whole l e = sym (take_all n part (omega arith)) ∙ e
