-- The lowest command that is kept. Assumes nothing.
use Rattle.std.proofs.Common.{◌≡◌, ℕ, zero, suc, ◌+◌, ◌<◌, ◌≤◌, Bool, true, false, cond, List, Some, None, Option, sym, refl, ap, ◌∙◌, subst, inl, inr, zero-le, arith, MatchOption}
use mathlib.Core.Bool.{false≢true}
use Rattle.std.specs.List.{find, list_all, range_with_len}
use Rattle.std.proofs.lemmas.Bool.{and_parts, and_from, cases_Bool, cases_eq}
use Rattle.synthesis.specs.declared.pruning.Numbers.{Numbers}
use Rattle.synthesis.specs.Safety.{link, flag, into, Holding, stays_under, lowest_kept}

-- a link into a set leads to a place of it
pub into_some : (t : ℕ → Bool) (o : Option ℕ) → into t o ≡ true → (l : ℕ) × (o ≡ Some l) × (t l ≡ true)
into_some t None e = absurd (false≢true e)
into_some t (Some l) e = (l, refl, e)

all_sound : (f : ℕ → Bool) (a n : ℕ) → list_all f (range_with_len a n) ≡ true → (x : ℕ) → a ≤ x → x < a + n → f x ≡ true
all_sound f a zero e x l m = absurd (omega arith)
all_sound f a (suc n) e x l m =
    let p = and_parts (f a) (list_all f (range_with_len (a + 1) n)) e in
    elim (cases_eq x a) [ inl q ↦ ap f q ∙ p.0 | inr ne ↦ all_sound f (a + 1) n p.1 x (omega (arith, ne)) (omega arith) ]

all_complete : (f : ℕ → Bool) (a n : ℕ) → ((x : ℕ) → a ≤ x → x < a + n → f x ≡ true) → list_all f (range_with_len a n) ≡ true
all_complete f a zero h = refl
all_complete f a (suc n) h =
    and_from (f a) (list_all f (range_with_len (a + 1) n)) (h a (omega arith) (omega arith)) (all_complete f (a + 1) n (λ x l m. h x (omega arith) (omega arith)))

-- the first number that passes, or none does
abbrev Told : (ℕ → Bool) → ℕ → ℕ → Option ℕ → Type 0
Told f a n None = (u : ℕ) → a ≤ u → u < a + n → f u ≡ false
Told f a n (Some u) = (a ≤ u) × (u < a + n) × (f u ≡ true) × ((v : ℕ) → a ≤ v → v < u → f v ≡ false)

first_told : (f : ℕ → Bool) (a n : ℕ) → Told f a n (find f (range_with_len a n))
first_told f a zero = λ u l m. absurd (omega arith)
first_told f a (suc n) = go (f a) refl (find f (range_with_len (a + 1) n)) (first_told f (a + 1) n)
  where
    go : (b : Bool) → f a ≡ b → (o : Option ℕ) → Told f (a + 1) n o → Told f a (suc n) (cond b (Some a) o)
    go true e o t = (omega arith, omega arith, e, λ v l m. absurd (omega arith))
    go false e None t = λ u l m. elim (cases_Bool (f u)) [ inl p ↦ absurd (let ne : a ≡ u → ⊥ = λ q. false≢true (sym e ∙ ap f q ∙ p) in false≢true (sym (t u (omega (arith, ne)) (omega arith)) ∙ p)) | inr p ↦ p ]
    go false e (Some u) t = (
      (let k = t.0 in omega (arith, k)),
      (let k = t.1 in omega (arith, k)),
      t.2,
      λ v l m. elim (cases_Bool (f v)) [ inl p ↦ absurd (let ne : a ≡ v → ⊥ = λ q. false≢true (sym e ∙ ap f q ∙ p) in false≢true (sym (t.3 v (omega (arith, ne)) m) ∙ p)) | inr p ↦ p ],
    )

module _ (S : ℕ) (links : List (List (Option ℕ))) (flags : List Bool) (h : ℕ) where
  under_holding : (u : ℕ) → stays_under S links flags h u ≡ true → Holding S links (flag flags) h u
  under_holding u e x hx = all_sound (λ x. into (flag flags) (link links h u x)) 0 S e x zero-le (omega arith)

  holding_under : (u : ℕ) → Holding S links (flag flags) h u → stays_under S links flags h u ≡ true
  holding_under u k = all_complete (λ x. into (flag flags) (link links h u x)) 0 S (λ x l m. k x (omega arith))

  -- no command holds, or this is the lowest
  abbrev pub Lowest : ℕ → Option ℕ → Type 0
  Lowest C r =
      MatchOption r ((u : ℕ) → u < C → Holding S links (flag flags) h u → ⊥) (λ u. (u < C) × Holding S links (flag flags) h u × ((v : ℕ) → v < u → Holding S links (flag flags) h v → ⊥))

  pub kept : (C : ℕ) → Lowest C (lowest_kept C S links flags h)
  unfolding lowest_kept
  kept C = go (find (stays_under S links flags h) (range_with_len 0 C)) (first_told (stays_under S links flags h) 0 C)
    where
      go : (o : Option ℕ) → Told (stays_under S links flags h) 0 C o → Lowest C o
      go None t = λ u l k. false≢true (sym (t u zero-le (omega arith)) ∙ holding_under u k)
      go (Some u) t = (let k = t.1 in omega (arith, k), under_holding u t.2, λ v l k. false≢true (sym (t.3 v zero-le l) ∙ holding_under v k))

  pub kept_below : (C u : ℕ) → Some u ≡ lowest_kept C S links flags h → u < C
  kept_below C u e = (subst (λ o. Lowest C o) (sym e) (kept C)).0

-- what is made of the same numbers, links and flags is the same
pub chosen_alike : {X : Type 0} (make : Numbers → List (List (Option ℕ)) → List Bool → X) (m n : Numbers) (ks ls : List (List (Option ℕ))) (fs gs : List Bool) → m ≡ n → ks ≡ ls → fs ≡ gs → make m ks fs ≡ make n ls gs
chosen_alike make m n ks ls fs gs e d b = ap (λ k. make k ks fs) e ∙ ap (λ k. make n k fs) d ∙ ap (make n ls) b
