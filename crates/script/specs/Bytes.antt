-- How a word of a script writes bytes.
use Rattle.std.specs.Prelude.{◌≡◌, ℕ, ◌+◌, ◌-◌, ◌*◌, cond, ◌⊎◌, List, [], ◌∷◌, take, drop, vec_items, codes, nat_lt}
use Rattle.script.specs.declared.bytes.Source.{Source}
use Rattle.script.specs.declared.bytes.Source.TheVariants.{Script, File}

-- the value of a hexadecimal digit: 0 to 9, a to f or A to F
abbrev pub hex_value : ℕ → ℕ
hex_value b = cond (nat_lt b 58) (b - 48) (cond (nat_lt b 71) (b - 55) (b - 87))

-- the bytes that digits write, two a byte
abbrev pub unhexed : List ℕ → List ℕ
unhexed [] = []
unhexed (a ∷ []) = []
unhexed (a ∷ b ∷ rest) = (16 * hex_value a + hex_value b) ∷ unhexed rest

-- `hex:` and digits, `file:` and the file's name, or else the bytes themselves
abbrev pub Tells : List ℕ → Source → Type 0
Tells word (Script v) =
    ((take 4 word ≡ codes "hex:") × (vec_items v ≡ unhexed (drop 4 word)))
    ⊎ ((take 4 word ≡ codes "hex:" → ⊥) × (take 5 word ≡ codes "file:" → ⊥) × (vec_items v ≡ word))
Tells word (File v) = (take 5 word ≡ codes "file:") × (vec_items v ≡ drop 5 word)
