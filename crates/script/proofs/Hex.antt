-- What hexadecimal digits decode to are the bytes that they write.
use Rattle.std.proofs.Common.{◌≡◌, ℕ, ◌+◌, ◌*◌, List, [], ◌∷◌, Option, Some, None, Result, Ok, Err, refl, ap, ◌∙◌, sym, arith}
use Rattle.std.specs.Result.{result_unwrap_or}
use Rattle.hex.specs.Hex.{decode_of, decode_pairs, digit_or_error, hex_digit_value, pair_value, value_at, ◌>>=◌}
use Rattle.hex.specs.declared.error.FromHexError.{FromHexError}
use Rattle.script.specs.Bytes.{hex_value, unhexed}

-- both steps give a value
both : {A B : Type 0} (r : Result A FromHexError) (f : A → Result B FromHexError) (y : B) → (r >>= f) ≡ Ok y → (x : A) × (r ≡ Ok x) × (f x ≡ Ok y)
both (Ok x) f y h = (x, refl, h)
both (Err e) f y h = cc h

digit : (c i v : ℕ) (o : Option ℕ) → digit_or_error c i o ≡ Ok v → o ≡ Some v
digit c i v (Some w) h = grind arith
digit c i v None h = cc h

value : (c i v : ℕ) → value_at c i ≡ Ok v → v ≡ hex_value c
value c i v h = let e = digit c i v (hex_digit_value c) h in grind (arith, e)

pairs : (i : ℕ) (w bytes : List ℕ) → decode_pairs i w ≡ Ok bytes → bytes ≡ unhexed w
unfolding decode_pairs
pairs i [] bytes h = sym (ap (λ (r : Result (List ℕ) FromHexError). result_unwrap_or r []) h)
pairs i (a ∷ []) bytes h = cc h
pairs i (a ∷ b ∷ rest) bytes h =
    let byte = both (pair_value a b i) _ bytes h in
    let high = both (value_at a i) _ byte.0 byte.1 in
    let low = both (value_at b (i + 1)) _ byte.0 high.2 in
    let others = both (decode_pairs (i + 2) rest) _ bytes byte.2 in
    let first : byte.0 ≡ high.0 * 16 + low.0 = sym (ap (λ (r : Result ℕ FromHexError). result_unwrap_or r 0) low.2) in
    let all : bytes ≡ byte.0 ∷ others.0 = sym (ap (λ (r : Result (List ℕ) FromHexError). result_unwrap_or r []) others.2) in
    let same = pairs (i + 2) rest others.0 others.1 in
    let va = value a i high.0 high.1 in
    let vb = value b (i + 1) low.0 low.1 in
    let e : byte.0 ≡ 16 * hex_value a + hex_value b = omega (arith, first, va, vb) in
    all ∙ ap (λ b. b ∷ others.0) e ∙ ap (λ bs. (16 * hex_value a + hex_value b) ∷ bs) same

pub decoded : (w bytes : List ℕ) → decode_of w ≡ Ok bytes → bytes ≡ unhexed w
decoded w bytes h = grind (arith, pairs, h)
