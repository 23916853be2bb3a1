-- A place in a list, from a later place on.
use Rattle.std.proofs.Common.{◌≡◌, ◌<◌, ◌≤◌, ◌-◌, ℕ, List, length, get_or, take, drop, sym, ap, ◌∙◌, arith}
use Rattle.std.proofs.lemmas.List.{get_or-drop, get_or-take}

pub in_rest : (xs : List ℕ) (from k : ℕ) → from ≤ k → k < length xs → get_or xs k 0 ≡ get_or (take (length xs - from) (drop from xs)) (k - from) 0
in_rest xs from k a b =
    ap (λ i. get_or xs i 0) (omega (arith, a)) ∙ sym (get_or-drop from xs (k - from) 0) ∙ sym (get_or-take (length xs - from) (drop from xs) (k - from) 0 (omega (arith, a, b)))
