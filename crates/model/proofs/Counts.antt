-- Counts over several rules: certificates, cycles, and that a controller has one count or reaches a rejecting cycle.
use Rattle.std.proofs.Common.{◌≡◌, ℕ, ◌*◌, ◌<◌, ◌≤◌, ◌⊎◌, ◌↔◌, List, [], ◌∷◌, sym, refl, subst, subst₂, inl, inr, arith}
use Rattle.std.proofs.lemmas.Bool.{cases_lt}
use Rattle.model.specs.Lists.{In}
use Rattle.model.specs.Automaton.{Automaton, Controller, WellFormedFor, WellFormed, Path, AtMost, Exceeds, HasCount, RejectingCycle, CountAtMost, CountAbove, CountIs}
use Rattle.model.specs.Rules.{together}
use Rattle.model.specs.CountLaws.{RulesFor, Marking, Valid, CertificatesExact, BoundedWithoutCycle, CountOrCycle}
use Rattle.model.proofs.Paths.{bounded_is_finite}
use Rattle.model.proofs.Tallies.{certificate_exact, count_decided}
use Rattle.model.proofs.Cycles.{count_or_cycle}
use Rattle.model.proofs.Sides.{together_alike, together_agrees}

formed_for : (S C : ℕ) (A : Automaton) (K : Controller) → (A.situations ≡ S) × (A.commands ≡ C) → WellFormedFor S C K → WellFormed A K
formed_for S C A K (e, f) wf = subst₂ (λ s c. WellFormedFor s c K) (sym e) (sym f) wf

pub certificates_exact : CertificatesExact
certificates_exact S C house added h K c wf = ((λ v. agree.0.1 (exact.0 v), λ most. exact.1 (agree.0.0 most)), decide (count_decided (together house added) K c formed))
  where
    formed : WellFormed (together house added) K
    formed = formed_for S C (together house added) K (together_alike S C house added h) wf

    exact : ((M : Marking) × Valid (together house added) K c M) ↔ AtMost (together house added) K c
    exact = certificate_exact (together house added) K c formed

    agree : (CountAtMost (house ∷ added) K c ↔ AtMost (together house added) K c) × (CountAbove (house ∷ added) K c ↔ Exceeds (together house added) K c)
    agree = let (a, b, c) = together_agrees S C house added h K c in (a, b)

    decide : AtMost (together house added) K c ⊎ Exceeds (together house added) K c → CountAtMost (house ∷ added) K c ⊎ CountAbove (house ∷ added) K c
    decide (inl a) = inl (agree.0.1 a)
    decide (inr e) = inr (agree.1.1 e)

pub bounded_without_cycle : BoundedWithoutCycle
bounded_without_cycle rules K c most = ((λ A i. (bounded_is_finite A K c (most A i)).0), λ A i. (bounded_is_finite A K c (most A i)).1)

module _ (S C : ℕ) (K : Controller) (wf : WellFormedFor S C K) where
  -- each rule has its count, or a cycle; and the count over all is the largest
  abbrev Cycles : List Automaton → Type 0
  Cycles rules = (A : Automaton) × In rules A × RejectingCycle A K

  largest : (A : Automaton) (rest : List Automaton) (c k : ℕ) → HasCount A K c → CountIs rest K k → (n : ℕ) × CountIs (A ∷ rest) K n
  largest A rest c k h g = go (cases_lt c k)
    where
      most : (n : ℕ) → c ≤ n → k ≤ n → CountAtMost (A ∷ rest) K n
      most n a b B (inl e) s q t w = omega (arith, h.most s q t (subst (λ D. Path D K s q t) e w))
      most n a b B (inr i) s q t w = omega (arith, g.most B i s q t w)

      first : (c ≡ 0) ⊎ ((s : ℕ) × (q : ℕ) × Path A K s q c) → (c ≡ 0) ⊎ ((B : Automaton) × In (A ∷ rest) B × (s : ℕ) × (q : ℕ) × Path B K s q c)
      first (inl e) = inl e
      first (inr (s, q, w)) = inr (A, inl refl, s, q, w)

      others : (k ≡ 0) ⊎ ((B : Automaton) × In rest B × (s : ℕ) × (q : ℕ) × Path B K s q k) → (k ≡ 0) ⊎ ((B : Automaton) × In (A ∷ rest) B × (s : ℕ) × (q : ℕ) × Path B K s q k)
      others (inl e) = inl e
      others (inr (B, i, s, q, w)) = inr (B, inr i, s, q, w)

      go : (c < k) ⊎ (k ≤ c) → (n : ℕ) × CountIs (A ∷ rest) K n
      go (inl l) = (k, record { most = most k (omega arith) (omega arith); attained = others g.attained })
      go (inr l) = (c, record { most = most c (omega arith) l; attained = first h.attained })

  one_or_cycle : (rules : List Automaton) → RulesFor S C rules → ((c : ℕ) × CountIs rules K c) ⊎ Cycles rules
  one_or_cycle [] h = inl (0, record { most = λ A i. absurd i; attained = inl refl })
  one_or_cycle (A ∷ rest) h = go (count_or_cycle A K (formed_for S C A K (h A (inl refl)) wf)) (one_or_cycle rest (λ B i. h B (inr i)))
    where
      go : ((c : ℕ) × HasCount A K c × (c ≤ K.size * A.states)) ⊎ RejectingCycle A K → ((c : ℕ) × CountIs rest K c) ⊎ Cycles rest → ((c : ℕ) × CountIs (A ∷ rest) K c) ⊎ Cycles (A ∷ rest)
      go (inr z) r = inr (A, inl refl, z)
      go (inl a) (inr (B, i, z)) = inr (B, inr i, z)
      go (inl (c, h, few)) (inl (k, g)) = inl (largest A rest c k h g)

  above : (A : Automaton) → RulesFor S C (A ∷ []) → RejectingCycle A K → (c : ℕ) → Exceeds A K c
  above A h z c = go (count_decided A K c (formed_for S C A K (h A (inl refl)) wf))
    where
      go : AtMost A K c ⊎ Exceeds A K c → Exceeds A K c
      go (inl most) = absurd ((bounded_is_finite A K c most).0 z)
      go (inr e) = e

count_below : (rules : List Automaton) (K : Controller) (c k : ℕ) → CountIs rules K c → CountIs rules K k → c ≤ k
count_below rules K c k h g = go h.attained
  where
    go : (c ≡ 0) ⊎ ((A : Automaton) × In rules A × (s : ℕ) × (q : ℕ) × Path A K s q c) → c ≤ k
    go (inl e) = omega arith
    go (inr (A, i, s, q, w)) = g.most A i s q c w

pub counts_or_cycles : CountOrCycle
counts_or_cycles S C rules h K wf = (
  one_or_cycle S C K wf rules h,
  (λ c k a b. omega (arith, count_below rules K c k a b, count_below rules K k c b a)),
  λ z c. let (A, i, y) = z in (A, i, above S C K wf A (λ B j. alone A i B j) y c),
)
  where
    alone : (A : Automaton) → In rules A → (B : Automaton) → (B ≡ A) ⊎ ⊥ → (B.situations ≡ S) × (B.commands ≡ C)
    alone A i B (inl e) = subst (λ D. (D.situations ≡ S) × (D.commands ≡ C)) (sym e) (h A i)
    alone A i B (inr b) = absurd b
