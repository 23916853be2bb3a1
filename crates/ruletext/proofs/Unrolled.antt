-- The reader of digits up to the line end, for a loop that takes one digit a turn.
use Rattle.std.proofs.Common.{◌≡◌, ℕ, suc, ◌+◌, ◌-◌, ◌*◌, ◌<◌, true, false, eqb, List, [], ◌∷◌, ◌++◌, length, get_or, sym, refl, ap, ◌∙◌, arith}
use Rattle.std.proofs.lemmas.Bool.{ne_eqb, eqb-false}
use Rattle.model.specs.Lists.{every, joined}
use Rattle.model.specs.Text.{one_digit, digit_word}
use Rattle.model.specs.Reading.{Part, part, wrong, digit, digits}
use Rattle.model.proofs.Reading.Basics.{true_false, part_wrong, wrong_same, part_same}
use Rattle.model.proofs.Reading.Words.{digit_written}
use Rattle.model.proofs.Reading.Digits.{every_parts, Digits, none, end, lone, other, no_digit, more, see, digits_other, digits_no_digit, digits_cases}

-- the digits before
abbrev pub behind : List ℕ → Part (List ℕ) → Part (List ℕ)
behind ds (part es j rest) = part (ds ++ es) j rest
behind ds (wrong j) = wrong j

pub digits_through : (ds : List ℕ) (i k : ℕ) (w : List ℕ) → every one_digit ds ≡ true → k ≡ i + 2 * length ds → digits i (joined digit_word ds ++ w) ≡ behind ds (digits k w)
digits_through [] i k w h e = go (digits i w) refl
  where
    is : i ≡ k
    is = omega arith

    go : (o : Part (List ℕ)) → digits i w ≡ o → digits i w ≡ behind [] (digits k w)
    go (part es j rest) d = d ∙ ap (λ o. behind [] o) (sym d ∙ ap (λ n. digits n w) is)
    go (wrong j) d = d ∙ ap (λ o. behind [] o) (sym d ∙ ap (λ n. digits n w) is)
digits_through (d ∷ ds) i k w h e =
    let p = every_parts one_digit d ds h in
    let v = digit_written d p.0 in
    let ih = digits_through ds (suc (suc i)) k w p.1 (omega arith) in
    digits_cases i (d + 48) (joined digit_word ds ++ w) v.0
    (λ es j rest a b. b ∙ ap (λ z. part (z ∷ es) j rest) v.1 ∙ one_more (digits k w) es j rest (sym a ∙ ih))
    (λ j a b. b ∙ none_more (digits k w) j (sym a ∙ ih))
  where
    one_more : (o : Part (List ℕ)) (es : List ℕ) (j : ℕ) (rest : List ℕ) → part es j rest ≡ behind ds o → part (d ∷ es) j rest ≡ behind (d ∷ ds) o
    one_more (part fs l r) es j rest q = let s = part_same q in cc
    one_more (wrong l) es j rest q = part_wrong q

    none_more : (o : Part (List ℕ)) (j : ℕ) → wrong j ≡ behind ds o → wrong j ≡ behind (d ∷ ds) o
    none_more (part fs l r) j q = part_wrong (sym q)
    none_more (wrong l) j q = q

-- no line end here, and no digit: the digits are wrong there
wrong_here : {w : List ℕ} → Digits w → (i k : ℕ) → 0 < length w → eqb (get_or w 0 0) 10 ≡ false → digit i w ≡ wrong k → digits i w ≡ wrong k
wrong_here none i k h t e = let z : ⊥ = omega arith in absurd z
wrong_here (end w) i k h t e = true_false refl t
wrong_here lone i k h t e = ap wrong (wrong_same e)
wrong_here (other b w s q) i k h t e =
    digits_other i b w s q ∙ ap wrong (no_space e)
  where
    flip : eqb 32 b ≡ false
    flip = ne_eqb 32 b (λ z. eqb-false b 32 q (sym z))

    no_space : digit i (b ∷ w) ≡ wrong k → i ≡ k
    no_space d = let f = flip in let z : digit i (b ∷ w) ≡ wrong i = cc in wrong_same (sym z ∙ d)
wrong_here (no_digit d w s) i k h t e = let z : digit i (32 ∷ d ∷ w) ≡ wrong (suc i) = cc in digits_no_digit i d w s ∙ ap wrong (wrong_same (sym z ∙ e))
wrong_here (more d w s v) i k h t e = let z : digit i (32 ∷ d ∷ w) ≡ part (d - 48) (suc (suc i)) w = cc in part_wrong (sym z ∙ e)

pub digits_wrong : (w : List ℕ) (i k : ℕ) → 0 < length w → eqb (get_or w 0 0) 10 ≡ false → digit i w ≡ wrong k → digits i w ≡ wrong k
digits_wrong w i k h t e = wrong_here (see w) i k h t e
