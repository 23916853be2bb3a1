-- Each word's reader gives the word exactly if the bytes begin with the word's bytes, and stops as every reader does.
use Rattle.std.proofs.Common.{◌≡◌, ℕ, suc, ◌+◌, ◌-◌, Bool, true, false, cond, ◌||◌, eqb, leb, List, [], ◌∷◌, ◌++◌, sym, refl, ap, ◌∙◌, subst, ⊎_elim, arith}
use Rattle.std.proofs.lemmas.Bool.{eqb-true, leb-true, ltb-true, lt-ltb, le-leb, and_parts, and_from, or_cases, or_left, ne_eqb}
use Rattle.model.specs.Text.{Choice, one, each, digit_byte, one_digit, good_choice, digit_word, choice_word}
use Rattle.model.specs.Reading.{part, Reader, ◌>>=◌, given, byte, digit, choice, line_end}
use Rattle.model.proofs.Reading.Basics.{by_test, true_false, part_wrong, part_same, bind_part, bind_cases}
use Rattle.model.proofs.Reading.Readers.{Proper, given_proper, byte_yes, byte_takes, byte_proper, bind_proper}

-- a reader of several parts that gives a value: what each gave
pub bind_read : {P X Y : Type 0} (f : Reader X) (g : X → Reader Y) (i : ℕ) (bytes : List ℕ) (y : Y) (k : ℕ) (rest : List ℕ)
    → ◌>>=◌ f g i bytes ≡ part y k rest
    → ((x : X) (j : ℕ) (mid : List ℕ) → f i bytes ≡ part x j mid → g x j mid ≡ part y k rest → P) → P
bind_read f g i bytes y k rest e h =
    bind_cases f g i bytes (λ x j mid d c. h x j mid d (sym c ∙ e)) (λ j d c. part_wrong (sym e ∙ c))

-- the value is good, and the bytes begin with what is written for it
pub record Read {X : Type 0} (fine : X → Bool) (write : X → List ℕ) (bytes : List ℕ) (x : X) (rest : List ℕ) : Type 0 where
  pub good : fine x ≡ true
  pub split : bytes ≡ write x ++ rest

-- DIGIT

pub digit_value : (b : ℕ) → digit_byte b ≡ true → (one_digit (b - 48) ≡ true) × ((b - 48) + 48 ≡ b)
digit_value b e =
    let p = and_parts (leb 48 b) (leb b 57) e in
    let low = leb-true 48 b p.0 in
    let high = leb-true b 57 p.1 in
    (lt-ltb (b - 48) 10 (omega arith), omega arith)

pub digit_written : (d : ℕ) → one_digit d ≡ true → (digit_byte (d + 48) ≡ true) × ((d + 48) - 48 ≡ d)
digit_written d e =
    let h = ltb-true d 10 e in
    (and_from (leb 48 (d + 48)) (leb (d + 48) 57) (le-leb 48 (d + 48) (omega arith)) (le-leb (d + 48) 57 (omega arith)), omega arith)

pub digit_proper : Proper digit
digit_proper = bind_proper _ _ (byte_proper (eqb 32) 32 refl) (λ s. bind_proper _ _ (byte_proper digit_byte 48 refl) (λ b. given_proper (b - 48)))

pub digit_sound : (i : ℕ) (bytes : List ℕ) (d j : ℕ) (rest : List ℕ) → digit i bytes ≡ part d j rest → Read one_digit digit_word bytes d rest
digit_sound i bytes d j rest e =
    bind_read (byte (eqb 32)) (λ s. ◌>>=◌ (byte digit_byte) (λ b. given (b - 48))) i bytes d j rest e (λ s j₁ mid e₁ d₁.
    bind_read (byte digit_byte) (λ b. given (b - 48)) j₁ mid d j rest d₁ (λ b j₂ mid₂ e₂ d₂.
    let p = byte_takes (eqb 32) i bytes s j₁ mid e₁ in
    let q = byte_takes digit_byte j₁ mid b j₂ mid₂ e₂ in
    let r = part_same d₂ in
    let v = digit_value b q.passed in
    let is-space = eqb-true 32 s p.passed in
    let same-b : d + 48 ≡ b = ap (λ z. z + 48) (sym r.value) ∙ v.1 in
    record { good = subst (λ z. one_digit z ≡ true) r.value v.0; split = cc }))

digit_at : (i b : ℕ) (rest : List ℕ) → digit_byte b ≡ true → digit i (32 ∷ b ∷ rest) ≡ part (b - 48) (suc (suc i)) rest
digit_at i b rest h =
    bind_part (byte digit_byte) (λ b'. given (b' - 48)) (suc i) (b ∷ rest) b (suc (suc i)) rest (part (b - 48) (suc (suc i)) rest) (byte_yes digit_byte (suc i) b rest h) refl

pub digit_complete : (i d : ℕ) (rest : List ℕ) → one_digit d ≡ true → (j : ℕ) × (digit i (digit_word d ++ rest) ≡ part d j rest)
digit_complete i d rest h =
    let v = digit_written d h in
    (suc (suc i), digit_at i (d + 48) rest v.0 ∙ ap (λ z. part z (suc (suc i)) rest) v.1)

-- CHOICE

abbrev choice_byte : ℕ → Bool
choice_byte b = digit_byte b || eqb b 42

abbrev choice_value : ℕ → Choice
choice_value b = cond (eqb b 42) each (one (b - 48))

pub choice_proper : Proper choice
choice_proper = bind_proper _ _ (byte_proper (eqb 32) 32 refl) (λ s. bind_proper _ _ (byte_proper choice_byte 48 refl) (λ b. given_proper (choice_value b)))

choice_read : (b : ℕ) → choice_byte b ≡ true → (good_choice (choice_value b) ≡ true) × (choice_word (choice_value b) ≡ 32 ∷ b ∷ [])
choice_read b e =
    by_test (eqb b 42)
    (λ t. let s = eqb-true b 42 t in (subst (λ z. good_choice (choice_value z) ≡ true) (sym s) refl, subst (λ z. choice_word (choice_value z) ≡ 32 ∷ z ∷ []) (sym s) refl))
    (λ t.
    let plain : choice_value b ≡ one (b - 48) = ap (λ z. cond z each (one (b - 48))) t in
    let v = digit_value b (⊎_elim (λ h. h) (λ h. true_false h t) (or_cases (digit_byte b) (eqb b 42) e)) in
    (ap good_choice plain ∙ v.0, ap choice_word plain ∙ ap (λ z. 32 ∷ z ∷ []) v.1))

pub choice_sound : (i : ℕ) (bytes : List ℕ) (u : Choice) (j : ℕ) (rest : List ℕ) → choice i bytes ≡ part u j rest → Read good_choice choice_word bytes u rest
choice_sound i bytes u j rest e =
    bind_read (byte (eqb 32)) (λ s. ◌>>=◌ (byte choice_byte) (λ b. given (choice_value b))) i bytes u j rest e (λ s j₁ mid e₁ d₁.
    bind_read (byte choice_byte) (λ b. given (choice_value b)) j₁ mid u j rest d₁ (λ b j₂ mid₂ e₂ d₂.
    let p = byte_takes (eqb 32) i bytes s j₁ mid e₁ in
    let q = byte_takes choice_byte j₁ mid b j₂ mid₂ e₂ in
    let r = part_same d₂ in
    let v = choice_read b q.passed in
    let is-space = eqb-true 32 s p.passed in
    let start : bytes ≡ 32 ∷ b ∷ rest = cc in
    record { good = subst (λ z. good_choice z ≡ true) r.value v.0; split = start ∙ ap (λ z. z ++ rest) (sym v.1 ∙ ap choice_word r.value) }))

-- what choice gives at these two bytes
choice_at : (i b : ℕ) (rest : List ℕ) → choice_byte b ≡ true → choice i (32 ∷ b ∷ rest) ≡ part (choice_value b) (suc (suc i)) rest
choice_at i b rest h =
    bind_part (byte choice_byte) (λ b'. given (choice_value b')) (suc i) (b ∷ rest) b (suc (suc i)) rest (part (choice_value b) (suc (suc i)) rest) (byte_yes choice_byte (suc i) b rest h) refl

pub choice_complete : (i : ℕ) (u : Choice) (rest : List ℕ) → good_choice u ≡ true → (j : ℕ) × (choice i (choice_word u ++ rest) ≡ part u j rest)
choice_complete i (one d) rest h =
    let v = digit_written d h in
    let b = d + 48 in
    let no-star : eqb b 42 ≡ false = ne_eqb b 42 (λ z. omega arith) in
    let plain : choice_value b ≡ one d = ap (λ z. cond z each (one (b - 48))) no-star ∙ ap one v.1 in
    (suc (suc i), choice_at i b rest (or_left (digit_byte b) (eqb b 42) v.0) ∙ ap (λ z. part z (suc (suc i)) rest) plain)
choice_complete i each rest h = (suc (suc i), choice_at i 42 rest refl)

-- LINE END

pub line_end_proper : {X : Type 0} (x : X) → Proper (line_end x)
line_end_proper x = bind_proper _ _ (byte_proper (eqb 10) 10 refl) (λ b. given_proper x)

pub line_end_sound : {X : Type 0} (x : X) (i : ℕ) (bytes : List ℕ) (y : X) (j : ℕ) (rest : List ℕ) → line_end x i bytes ≡ part y j rest → (x ≡ y) × (bytes ≡ 10 ∷ rest)
line_end_sound x i bytes y j rest e =
    bind_read (byte (eqb 10)) (λ s. given x) i bytes y j rest e (λ s j₁ mid e₁ d₁.
    let p = byte_takes (eqb 10) i bytes s j₁ mid e₁ in
    let is-end = eqb-true 10 s p.passed in
    let r = part_same d₁ in
    (r.value, cc))
