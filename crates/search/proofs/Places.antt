-- The place of a node in a list, and in two lists one behind the other.
use Rattle.std.proofs.Common.{◌≡◌, ℕ, suc, ◌+◌, ◌<◌, ◌≤◌, Bool, true, false, cond, not, List, [], ◌∷◌, ◌++◌, length, nat_lt, MatchOption, Option, subst, sym, refl, ap, inl, inr, zero-le, arith}
use Rattle.std.proofs.lemmas.Bool.{lt-ltb, le-ltb, cases_lt}
use Rattle.std.specs.List.{position, position_or_len}
use Rattle.model.specs.Search.{place}

module _ {X : Type 0} (same : X → X → Bool) where
  pub place_le : (xs : List X) (y : X) → place same xs y ≤ length xs
  place_le [] y = zero-le
  place_le (x ∷ xs) y = go (same y x) (place_le xs y)
    where
      go : (b : Bool) → place same xs y ≤ length xs → elim b as (λ v. ℕ) [ true ↦ 0 | false ↦ suc (place same xs y) ] ≤ suc (length xs)
      go true h = omega arith
      go false h = omega arith

  -- the first list does not have it
  pub place_behind : (xs ys : List X) (y : X) → place same xs y ≡ length xs → place same (xs ++ ys) y ≡ length xs + place same ys y
  place_behind [] ys y h = omega arith
  place_behind (x ∷ xs) ys y h = go (same y x) h (place_behind xs ys y)
    where
      go : (b : Bool) → elim b as (λ v. ℕ) [ true ↦ 0 | false ↦ suc (place same xs y) ] ≡ suc (length xs)
          → (place same xs y ≡ length xs → place same (xs ++ ys) y ≡ length xs + place same ys y)
          → elim b as (λ v. ℕ) [ true ↦ 0 | false ↦ suc (place same (xs ++ ys) y) ] ≡ suc (length xs) + place same ys y
      go true h r = absurd (omega arith)
      go false h r = let e = r (omega arith) in omega arith

  -- it does
  pub place_front : (xs ys : List X) (y : X) → place same xs y < length xs → place same (xs ++ ys) y ≡ place same xs y
  place_front [] ys y h = absurd (omega arith)
  place_front (x ∷ xs) ys y h = go (same y x) h (place_front xs ys y)
    where
      go : (b : Bool) → elim b as (λ v. ℕ) [ true ↦ 0 | false ↦ suc (place same xs y) ] < suc (length xs)
          → (place same xs y < length xs → place same (xs ++ ys) y ≡ place same xs y)
          → elim b as (λ v. ℕ) [ true ↦ 0 | false ↦ suc (place same (xs ++ ys) y) ] ≡ elim b as (λ v. ℕ) [ true ↦ 0 | false ↦ suc (place same xs y) ]
      go true h r = refl
      go false h r = ap suc (r (omega arith))

  pub place_one : (x y : X) → same y x ≡ true → place same (x ∷ []) y ≡ 0
  place_one x y e = rw (e, place)

  place_is : (xs : List X) (y : X) → place same xs y ≡ position_or_len (same y) xs
  place_is [] y = refl
  place_is (x ∷ xs) y = go (same y x) (place_is xs y)
    where
      go : (b : Bool) → place same xs y ≡ position_or_len (same y) xs
          → elim b as (λ v. ℕ) [ true ↦ 0 | false ↦ suc (place same xs y) ] ≡ cond (not b) (1 + position_or_len (same y) xs) 0
      go true r = refl
      go false r = omega (arith, r)

  -- the first position at which the node stands is its place
  position_place : (xs : List X) (y : X) → MatchOption (position (same y) xs) (place same xs y ≡ length xs) (λ k. (k < length xs) × (k ≡ place same xs y))
  position_place xs y = elim (cases_lt (place same xs y) (length xs)) [
    | inl h ↦
        (let e : nat_lt (position_or_len (same y) xs) (length xs) ≡ true = lt-ltb _ _ (omega (arith, h, place_is xs y)) in
        rw e (omega (arith, h, place_is xs y), sym (place_is xs y)))
    | inr h ↦
        (let e : nat_lt (position_or_len (same y) xs) (length xs) ≡ false = le-ltb _ _ (omega (arith, h, place_is xs y)) in
        rw e (omega (arith, h, place_le xs y)))
  ]

  pub placed : (xs : List X) (y : X) (o : Option ℕ) → o ≡ position (same y) xs → MatchOption o (place same xs y ≡ length xs) (λ k. (k < length xs) × (k ≡ place same xs y))
  placed xs y o e = subst (λ o. MatchOption o (place same xs y ≡ length xs) (λ k. (k < length xs) × (k ≡ place same xs y))) (sym e) (position_place xs y)
