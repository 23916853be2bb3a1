-- The first that passes a test, in lists that are gone through by number. Assumes nothing.
use Rattle.std.proofs.Common.{◌≡◌, ℕ, zero, suc, ◌+◌, ◌<◌, ◌≤◌, Bool, true, false, ◌⊎◌, List, [], ◌∷◌, ◌++◌, map, Some, None, Option as Maybe, MatchOption, sym, refl, ap, ◌∙◌, inl, inr, arith}
use mathlib.Core.Option.{Option, none, some}
use Rattle.std.specs.List.{range_with_len}
use Rattle.std.proofs.lemmas.Bool.{cases_eq}
use Rattle.model.specs.Lists.{first, joined}
use Rattle.ctlfile.specs.Windows.{told, FirstNumber}

-- an option as the code has it
pub told_none : {X : Type 0} (o : Option X) → None ≡ told o → o ≡ none
told_none none e = refl
told_none (some x) e = let z : ◌≡◌ {A = ℕ} 0 1 = cc in absurd (omega arith)

pub told_some : {X : Type 0} (o : Option X) (p : X) → Some p ≡ told o → o ≡ some p
told_some none p e = let z : ◌≡◌ {A = ℕ} 0 1 = cc in absurd (omega arith)
told_some (some x) p e = let k : p ≡ x = cc in ap some (sym k)

module _ {X : Type 0} (f : X → Bool) where
  first_append_none : (L M : List X) → first f L ≡ none → first f (L ++ M) ≡ first f M
  first_append_none [] M e = refl
  first_append_none (x ∷ L) M e = go (f x) refl (first_append_none L M)
    where
      go : (b : Bool) → f x ≡ b → (first f L ≡ none → first f (L ++ M) ≡ first f M) → first f (x ∷ (L ++ M)) ≡ first f M
      go true t below = let s : first f (x ∷ L) ≡ some x = rw (t, first) in let z : ◌≡◌ {A = ℕ} 0 1 = cc in absurd (omega arith)
      go false t below = let s : first f (x ∷ L) ≡ first f L = rw (t, first) in (let k : first f (x ∷ (L ++ M)) ≡ first f (L ++ M) = rw (t, first) in k ∙ below (sym s ∙ e))

  first_append_some : (L M : List X) (p : X) → first f L ≡ some p → first f (L ++ M) ≡ some p
  first_append_some [] M p e = let z : ◌≡◌ {A = ℕ} 0 1 = cc in absurd (omega arith)
  first_append_some (x ∷ L) M p e = go (f x) refl (first_append_some L M p)
    where
      go : (b : Bool) → f x ≡ b → (first f L ≡ some p → first f (L ++ M) ≡ some p) → first f (x ∷ (L ++ M)) ≡ some p
      go true t below = let s : first f (x ∷ L) ≡ some x = rw (t, first) in (let k : first f (x ∷ (L ++ M)) ≡ some x = rw (t, first) in k ∙ sym s ∙ e)
      go false t below = let s : first f (x ∷ L) ≡ first f L = rw (t, first) in (let k : first f (x ∷ (L ++ M)) ≡ first f (L ++ M) = rw (t, first) in k ∙ below (sym s ∙ e))

  -- a list for each number: none passes in any, or one passes in the list of i and none in those before
  joined_none : (g : ℕ → List X) (a n : ℕ) → ((k : ℕ) → a ≤ k → k < a + n → first f (g k) ≡ none) → first f (joined g (range_with_len a n)) ≡ none
  joined_none g a zero h = refl
  joined_none g a (suc n) h =
      first_append_none (g a) (joined g (range_with_len (a + 1) n)) (h a (omega arith) (omega arith)) ∙ joined_none g (a + 1) n (λ k l m. h k (omega arith) (omega arith))

  joined_some : (g : ℕ → List X) (a n i : ℕ) (p : X) → a ≤ i → i < a + n → ((k : ℕ) → a ≤ k → k < i → first f (g k) ≡ none) → first f (g i) ≡ some p → first f (joined g (range_with_len a n)) ≡ some p
  joined_some g a zero i p l m h e = absurd (omega arith)
  joined_some g a (suc n) i p l m h e = go (cases_eq i a) (joined_some g (a + 1) n i p)
    where
      go : (i ≡ a) ⊎ (i ≡ a → ⊥) → (a + 1 ≤ i → i < a + 1 + n → ((k : ℕ) → a + 1 ≤ k → k < i → first f (g k) ≡ none) → first f (g i) ≡ some p → first f (joined g (range_with_len (a + 1) n)) ≡ some p)
          → first f (joined g (range_with_len a (suc n))) ≡ some p
      go (inl s) below = first_append_some (g a) (joined g (range_with_len (a + 1) n)) p (ap (λ k. first f (g k)) (sym s) ∙ e)
      go (inr s) below =
          first_append_none (g a) (joined g (range_with_len (a + 1) n)) (h a (omega arith) (omega arith)) ∙ below (omega arith) (omega arith) (λ k u v. h k (omega arith) v) e

  -- the same, as the code tells it
  pub joined_none_told : (g : ℕ → List X) (n : ℕ) → ((k : ℕ) → k < n → None ≡ told (first f (g k))) → None ≡ told (first f (joined g (range_with_len 0 n)))
  joined_none_told g n h = ap {B = Maybe X} told (sym (joined_none g 0 n (λ k l m. told_none (first f (g k)) (h k (omega arith)))))

  pub joined_some_told : (g : ℕ → List X) (n i : ℕ) (p : X) → i < n → ((k : ℕ) → k < i → None ≡ told (first f (g k))) → Some p ≡ told (first f (g i)) → Some p ≡ told (first f (joined g (range_with_len 0 n)))
  joined_some_told g n i p l h e =
      ap {B = Maybe X} told (sym (joined_some g 0 n i p (omega arith) (omega arith) (λ k u v. told_none (first f (g k)) (h k v)) (told_some (first f (g i)) p e)))

  -- one for each number
  map_is : (g : ℕ → X) (a n : ℕ) → map g (range_with_len a n) ≡ joined (λ k. g k ∷ []) (range_with_len a n)
  map_is g a zero = refl
  map_is g a (suc n) = ap {B = List X} (λ l. g a ∷ l) (map_is g (a + 1) n)

  one_fails : (x : X) → f x ≡ false → None ≡ told (first f (x ∷ []))
  one_fails x t = ap {B = Maybe X} told (sym (let s : first f (x ∷ []) ≡ none = rw (t, first) in s))

  one_passes : (x : X) → f x ≡ true → Some x ≡ told (first f (x ∷ []))
  one_passes x t = ap {B = Maybe X} told (sym (let s : first f (x ∷ []) ≡ some x = rw (t, first) in s))

  pub map_none_told : (g : ℕ → X) (n : ℕ) → ((k : ℕ) → k < n → f (g k) ≡ false) → None ≡ told (first f (map g (range_with_len 0 n)))
  map_none_told g n h = joined_none_told (λ k. g k ∷ []) n (λ k l. one_fails (g k) (h k l)) ∙ ap {B = Maybe X} (λ l. told (first f l)) (sym (map_is g 0 n))

  pub map_some_told : (g : ℕ → X) (n i : ℕ) → i < n → ((k : ℕ) → k < i → f (g k) ≡ false) → f (g i) ≡ true → Some (g i) ≡ told (first f (map g (range_with_len 0 n)))
  map_some_told g n i l h e =
      joined_some_told (λ k. g k ∷ []) n i (g i) l (λ k m. one_fails (g k) (h k m)) (one_passes (g i) e) ∙ ap {B = Maybe X} (λ l. told (first f l)) (sym (map_is g 0 n))

-- what a search by number finds, one for each number
pub numbered_told : {X : Type 0} (f : X → Bool) (g : ℕ → X) (n : ℕ) (o : Maybe ℕ) (r : Maybe X) → FirstNumber (λ k. f (g k)) n o → MatchOption o (r ≡ None) (λ i. r ≡ Some (g i)) → r ≡ told (first f (map g (range_with_len 0 n)))
numbered_told f g n None r h e = e ∙ map_none_told f g n h
numbered_told f g n (Some i) r h e = e ∙ map_some_told f g n i h.0 h.2 h.1

-- the same, where the test is told in another way
pub numbered_as_told : {X : Type 0} (test : ℕ → Bool) (f : X → Bool) (g : ℕ → X) (n : ℕ) (o : Maybe ℕ) (r : Maybe X) → ((k : ℕ) → f (g k) ≡ test k) → FirstNumber test n o → MatchOption o (r ≡ None) (λ i. r ≡ Some (g i)) → r ≡ told (first f (map g (range_with_len 0 n)))
numbered_as_told test f g n None r same h e = e ∙ map_none_told f g n (λ k l. same k ∙ h k l)
numbered_as_told test f g n (Some i) r same h e = e ∙ map_some_told f g n i h.0 (λ k l. same k ∙ h.2 k l) (same i ∙ h.1)

-- what `find` finds over a range
pub from_range : (test : ℕ → Bool) (n : ℕ) (o : Maybe ℕ)
    → MatchOption o ((k : ℕ) → 0 ≤ k → k < n → test k ≡ false) (λ i. (0 ≤ i) × (i < n) × (test i ≡ true) × ((k : ℕ) → 0 ≤ k → k < i → test k ≡ false))
    → FirstNumber test n o
from_range test n None h = λ k l. h k (omega arith) l
from_range test n (Some i) h = (h.1, h.2, λ k l. h.3 k (omega arith) l)
