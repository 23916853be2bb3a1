-- The first that passes a test, in a list in order; and the order of the places that check looks at.
use Rattle.std.proofs.Common.{◌≡◌, ℕ, zero, suc, ◌+◌, ◌<◌, Bool, true, false, ◌⊎◌, ◌↔◌, List, [], ◌∷◌, ◌++◌, map, sym, refl, ap, ◌∙◌, subst, subst₂, inl, inr, arith}
use mathlib.Core.Option.{some}
use Rattle.std.specs.List.{range_with_len}
use Rattle.std.proofs.lemmas.Bool.{cases_Bool, both_ways}
use Rattle.model.specs.declared.refusal.Place.{Place}
use Rattle.model.specs.Automaton.{Automaton}
use Rattle.model.specs.Lists.{first, joined, In}
use Rattle.model.specs.File.{place, byte_places, start_places, arrow_places}
use Rattle.model.specs.FileLaws.{Before4}
use Rattle.model.proofs.Lists.{in_append, map_in, joined_in, counting_in}

-- each comes before all that stand behind it
abbrev pub Ascending : {X : Type 0} → (X → X → Type 0) → List X → Type 0
Ascending R [] = Unit {0}
Ascending {X} R (x ∷ L) = ((y : X) → In L y → R x y) × Ascending R L

module _ {X : Type 0} (R : X → X → Type 0) where
  ascending_append : (L M : List X) → Ascending R L → Ascending R M → ((x y : X) → In L x → In M y → R x y) → Ascending R (L ++ M)
  ascending_append [] M a b h = b
  ascending_append (x ∷ L) M (l, a) b h = (λ y i. go y (in_append L M y i), ascending_append L M a b (λ z y i j. h z y (inr i) j))
    where
      go : (y : X) → In L y ⊎ In M y → R x y
      go y (inl j) = l y j
      go y (inr j) = h x y (inl refl) j

  ascending_map : (f : ℕ → X) → ((i j : ℕ) → i < j → R (f i) (f j)) → (a n : ℕ) → Ascending R (map f (range_with_len a n))
  ascending_map f h a zero = tt
  ascending_map f h a (suc n) = (
    λ y i. (let (k, j, e) = map_in f (range_with_len (a + 1) n) y i in subst (R (f a)) (sym e) (h a k (omega (arith, (counting_in (a + 1) n k j).0)))),
    ascending_map f h (a + 1) n,
  )

  ascending_joined : (f : ℕ → List X) → ((i : ℕ) → Ascending R (f i)) → ((i j : ℕ) (x y : X) → i < j → In (f i) x → In (f j) y → R x y) → (a n : ℕ) → Ascending R (joined f (range_with_len a n))
  ascending_joined f each h a zero = tt
  ascending_joined f each h a (suc n) =
      ascending_append (f a) (joined f (range_with_len (a + 1) n)) (each a) (ascending_joined f each h (a + 1) n)
      (λ x y i j. (let (k, l, m) = joined_in f (range_with_len (a + 1) n) y j in h a k x y (omega (arith, (counting_in (a + 1) n k l).0)) i m))

  -- the first that passes is the one that passes with none before it that does
  pub first_is : ((x y : X) → R x y → R y x → ⊥) → (f : X → Bool) (L : List X) → Ascending R L → (p : X)
      → (first f L ≡ some p) ↔ (In L p × (f p ≡ true) × ((x : X) → In L x → R x p → f x ≡ false))
  first_is never f [] a p = (λ e. (let z : ◌≡◌ {A = ℕ} 0 1 = cc in absurd (omega arith)), λ h. absurd h.0)
  first_is never f (y ∷ L) (l, a) p = go (cases_Bool (f y)) (first_is never f L a p)
    where
      go : (f y ≡ true) ⊎ (f y ≡ false) → (first f L ≡ some p) ↔ (In L p × (f p ≡ true) × ((x : X) → In L x → R x p → f x ≡ false))
          → (first f (y ∷ L) ≡ some p) ↔ (In (y ∷ L) p × (f p ≡ true) × ((x : X) → In (y ∷ L) x → R x p → f x ≡ false))
      go (inl t) below = (λ e. here (k e), λ h. there h)
        where
          k : first f (y ∷ L) ≡ some p → p ≡ y
          k e = let s : first f (y ∷ L) ≡ some y = rw (t, first) in cc

          here : p ≡ y → In (y ∷ L) p × (f p ≡ true) × ((x : X) → In (y ∷ L) x → R x p → f x ≡ false)
          here e = (inl e, ap f e ∙ t, λ x i r. absurd (none_before x i (subst (R x) e r)))
            where
              none_before : (x : X) → In (y ∷ L) x → R x y → ⊥
              none_before x (inl s) r = never x y r (subst₂ R s (sym s) r)
              none_before x (inr i) r = never x y r (l x i)

          there : In (y ∷ L) p × (f p ≡ true) × ((x : X) → In (y ∷ L) x → R x p → f x ≡ false) → first f (y ∷ L) ≡ some p
          there (inl e, q, n) = let s : first f (y ∷ L) ≡ some y = rw (t, first) in cc
          there (inr i, q, n) = absurd (both_ways (f y) (n y (inl refl) (l p i)) t)
      go (inr t) below = (λ e. here (below.0 (sym s ∙ e)), λ h. s ∙ below.1 (there h))
        where
          s : first f (y ∷ L) ≡ first f L
          s = rw (t, first)

          here : In L p × (f p ≡ true) × ((x : X) → In L x → R x p → f x ≡ false) → In (y ∷ L) p × (f p ≡ true) × ((x : X) → In (y ∷ L) x → R x p → f x ≡ false)
          here (i, q, n) = (inr i, q, none_before)
            where
              none_before : (x : X) → In (y ∷ L) x → R x p → f x ≡ false
              none_before x (inl e) r = ap f e ∙ t
              none_before x (inr j) r = n x j r

          there : In (y ∷ L) p × (f p ≡ true) × ((x : X) → In (y ∷ L) x → R x p → f x ≡ false) → In L p × (f p ≡ true) × ((x : X) → In L x → R x p → f x ≡ false)
          there (inl e, q, n) = absurd (both_ways (f y) t (sym (ap f e) ∙ q))
          there (inr i, q, n) = (i, q, λ x j r. n x (inr j) r)

-- places by state, situation, rule state and follower: the one order of all three looks
abbrev pub Earlier : Place → Place → Type 0
Earlier a b = Before4 a.state a.situation a.rule_state a.follower b.state b.situation b.rule_state b.follower

pub never_both : (a b : Place) → Earlier a b → Earlier b a → ⊥
never_both a b h k = omega arith

module _ (A : Automaton) where
  pub bytes_ascend : (m : ℕ) → Ascending Earlier (byte_places A m)
  bytes_ascend m =
      ascending_joined Earlier (λ s. map (λ q. place s 0 q 0) (range_with_len 0 A.states))
      (λ s. ascending_map Earlier (λ q. place s 0 q 0) (λ i j l. inr (refl, inr (refl, inl l))) 0 A.states)
      (λ s s' a b l i j. (let ea : a.state ≡ s = of_state s a i in let eb : b.state ≡ s' = of_state s' b j in inl (omega arith)))
      0 m
    where
      of_state : (s : ℕ) (a : Place) → In (map (λ q. place s 0 q 0) (range_with_len 0 A.states)) a → a.state ≡ s
      of_state s a i = let (q, j, e) = map_in (λ q. place s 0 q 0) (range_with_len 0 A.states) a i in ap (λ (b : Place). b.state) e

  pub starts_ascend : Ascending Earlier (start_places A)
  starts_ascend = ascending_map Earlier (λ q. place 0 0 q 0) (λ i j l. inr (refl, inr (refl, inl l))) 0 A.states

  -- the places of arrows from a rule state, in a situation, and from a state
  abbrev from_rule : ℕ → ℕ → ℕ → List Place
  from_rule s x q = map (λ p. place s x q p) (range_with_len 0 A.states)

  abbrev in_situation : ℕ → ℕ → List Place
  in_situation s x = joined (from_rule s x) (range_with_len 0 A.states)

  abbrev from_state : ℕ → List Place
  from_state s = joined (in_situation s) (range_with_len 0 A.situations)

  of_rule : (s x q : ℕ) (a : Place) → In (from_rule s x q) a → (a.state ≡ s) × (a.situation ≡ x) × (a.rule_state ≡ q)
  of_rule s x q a i =
      let (p, j, e) = map_in (λ p. place s x q p) (range_with_len 0 A.states) a i in
      (ap (λ (b : Place). b.state) e, ap (λ (b : Place). b.situation) e, ap (λ (b : Place). b.rule_state) e)

  of_situation : (s x : ℕ) (a : Place) → In (in_situation s x) a → (a.state ≡ s) × (a.situation ≡ x)
  of_situation s x a i = let (q, j, k) = joined_in (from_rule s x) (range_with_len 0 A.states) a i in let (e, f, g) = of_rule s x q a k in (e, f)

  of_state : (s : ℕ) (a : Place) → In (from_state s) a → a.state ≡ s
  of_state s a i = let (x, j, k) = joined_in (in_situation s) (range_with_len 0 A.situations) a i in (of_situation s x a k).0

  pub arrows_ascend : (m : ℕ) → Ascending Earlier (arrow_places A m)
  arrows_ascend m =
      ascending_joined Earlier from_state
      (λ s. ascending_joined Earlier (in_situation s)
      (λ x. ascending_joined Earlier (from_rule s x)
      (λ q. ascending_map Earlier (λ p. place s x q p) (λ i j l. inr (refl, inr (refl, inr (refl, l)))) 0 A.states)
      (λ q q' a b l i j. (let (e, f, g) = of_rule s x q a i in let (e', f', g') = of_rule s x q' b j in inr (e ∙ sym e', inr (f ∙ sym f', inl (omega arith)))))
      0 A.states)
      (λ x x' a b l i j. (let (e, f) = of_situation s x a i in let (e', f') = of_situation s x' b j in inr (e ∙ sym e', inl (omega arith))))
      0 A.situations)
      (λ s s' a b l i j. (let e : a.state ≡ s = of_state s a i in let e' : b.state ≡ s' = of_state s' b j in inl (omega arith)))
      0 m
