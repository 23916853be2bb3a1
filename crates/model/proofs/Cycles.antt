-- A path with more rejecting pairs than the run graph has pairs goes around a cycle. So a controller has a count, or such a cycle.
use Rattle.std.proofs.Common.{◌≡◌, ℕ, zero, suc, ◌+◌, ◌*◌, ◌<◌, ◌≤◌, true, false, ◌⊎◌, sym, refl, subst, subst₂, inl, inr, arith}
use Rattle.std.proofs.lemmas.Bool.{cases_lt, cases_Bool}
use Rattle.model.specs.Automaton.{Automaton, Controller, weight, Follows, WellFormed, Path, begin, onward, AtMost, Exceeds, HasCount, Trail, arrow, further, RejectingCycle}
use Rattle.model.proofs.Finite.{sum, sum_le, sum_lt, sum_bound}
use Rattle.model.proofs.Paths.{path_inside}
use Rattle.model.proofs.Tallies.{raise, raise_cases, raise_here, count_decided}

module _ (A : Automaton) (K : Controller) where
  abbrev total : (ℕ → ℕ → ℕ) → ℕ
  total V = sum K.size (λ s. sum A.states (V s))

  -- from (i, j), or from there by a trail, the path comes to (s, q)
  abbrev Leads : ℕ → ℕ → ℕ → ℕ → Type 0
  Leads i j s q = ((i ≡ s) × (j ≡ q)) ⊎ ((t : ℕ) × Trail A K i j s q t)

  lead_on : (i j s q x p : ℕ) → Leads i j s q → Follows A q (K.command s) x p → (t : ℕ) × Trail A K i j (K.next s x) p t
  lead_on i j s q x p (inl (e, f)) follows =
      (weight A p, subst₂ (λ a b. Trail A K a b (K.next s x) p (weight A p)) (sym e) (sym f) (arrow x p follows))
  lead_on i j s q x p (inr (t, r)) follows = (t + weight A p, further x p r follows)

  -- the rejecting pairs of a path that has met none twice: 1 at those that it has met, and 0 elsewhere
  record Met (s q t : ℕ) : Type 0 where
    at : ℕ → ℕ → ℕ
    once : (i j : ℕ) → at i j ≤ 1
    many : t ≤ total at
    path : (i j : ℕ) → 0 < at i j → (n : ℕ) × Path A K i j n
    rejecting : (i j : ℕ) → 0 < at i j → A.reject j ≡ true
    leads : (i j : ℕ) → 0 < at i j → Leads i j s q

  -- one more pair, where the marks before it lead to it
  module _ (s q t : ℕ) (hs : s < K.size) (hq : q < A.states) (w : (n : ℕ) × Path A K s q n)
      (V : ℕ → ℕ → ℕ) (once : (i j : ℕ) → V i j ≤ 1) (many : t ≤ total V)
      (path : (i j : ℕ) → 0 < V i j → (n : ℕ) × Path A K i j n) (rejecting : (i j : ℕ) → 0 < V i j → A.reject j ≡ true)
      (trail : (i j : ℕ) → 0 < V i j → (n : ℕ) × Trail A K i j s q n) where
    fresh : A.reject q ≡ true → V s q ≡ 0 → Met s q (t + 1)
    fresh r z =
        record {
          at = raise V s q 1;
          once = λ i j. once' i j (raise_cases V s q 1 i j);
          many = omega (arith, more);
          path = λ i j p. path' i j p (raise_cases V s q 1 i j);
          rejecting = λ i j p. rejecting' i j p (raise_cases V s q 1 i j);
          leads = λ i j p. leads' i j p (raise_cases V s q 1 i j);
        }
      where
        V' : ℕ → ℕ → ℕ
        V' = raise V s q 1

        Cases : ℕ → ℕ → Type 0
        Cases i j = ((s ≡ i) × (q ≡ j) × (V' i j ≡ 1)) ⊎ (V' i j ≡ V i j)

        once' : (i j : ℕ) → Cases i j → V' i j ≤ 1
        once' i j (inl c) = omega (arith, c.2)
        once' i j (inr e) = omega (arith, e, once i j)

        up : (i j : ℕ) → Cases i j → V i j ≤ V' i j
        up i j (inl c) = omega (arith, c.2, once i j)
        up i j (inr e) = omega arith

        more : total V < total V'
        more =
            sum_lt K.size (λ i. sum A.states (V i)) (λ i. sum A.states (V' i))
            (λ i _. sum_le A.states (V i) (V' i) (λ j _. up i j (raise_cases V s q 1 i j))) s hs
            (sum_lt A.states (V s) (V' s) (λ j _. up s j (raise_cases V s q 1 s j)) q hq (omega (arith, raise_here V s q 1, z)))

        path' : (i j : ℕ) → 0 < V' i j → Cases i j → (n : ℕ) × Path A K i j n
        path' i j p (inl c) = (w.0, subst₂ (λ a b. Path A K a b w.0) c.0 c.1 w.1)
        path' i j p (inr e) = path i j (omega arith)

        rejecting' : (i j : ℕ) → 0 < V' i j → Cases i j → A.reject j ≡ true
        rejecting' i j p (inl c) = subst (λ b. A.reject b ≡ true) c.1 r
        rejecting' i j p (inr e) = rejecting i j (omega arith)

        leads' : (i j : ℕ) → 0 < V' i j → Cases i j → Leads i j s q
        leads' i j p (inl c) = inl (sym c.0, sym c.1)
        leads' i j p (inr e) = inr (trail i j (omega arith))

    meet : RejectingCycle A K ⊎ Met s q (t + weight A q)
    meet = go (cases_Bool (A.reject q)) (cases_lt 0 (V s q))
      where
        go : (A.reject q ≡ true) ⊎ (A.reject q ≡ false) → (0 < V s q) ⊎ (V s q ≤ 0) → RejectingCycle A K ⊎ Met s q (t + weight A q)
        go (inr n) b =
            inr (rw n record { at = V; once = once; many = omega arith; path = path; rejecting = rejecting; leads = λ i j p. inr (trail i j p) })
        go (inl r) (inl p) =
            inl record { at = s; rule = q; before = w.0; around = (trail s q p).0; reached = w.1; rejecting = r; cycle = (trail s q p).1 }
        go (inl r) (inr z) = inr (rw r (fresh r (omega arith)))

  module _ (wf : WellFormed A K) where
    met : {s q t : ℕ} → Path A K s q t → RejectingCycle A K ⊎ Met s q t
    met (begin {q} b) =
        let r : RejectingCycle A K ⊎ Met 0 q (0 + weight A q) =
        meet 0 q 0 wf.some_state b.inside (weight A q, begin b) (λ _ _. 0) (λ _ _. omega arith) (omega arith)
        (λ i j p. absurd (omega arith)) (λ i j p. absurd (omega arith)) (λ i j p. absurd (omega arith)) in
        subst (λ n. RejectingCycle A K ⊎ Met 0 q n) (omega arith) r
    met (onward {s} {q} {t} x p w f) = go (met w)
      where
        go : RejectingCycle A K ⊎ Met s q t → RejectingCycle A K ⊎ Met (K.next s x) p (t + weight A p)
        go (inl z) = inl z
        go (inr m) =
            meet (K.next s x) p t (wf.nexts s x (path_inside A K wf w).0 f.known) f.inside (t + weight A p, onward x p w f)
            m.at m.once m.many m.path m.rejecting (λ i j pos. lead_on i j s q x p (m.leads i j pos) f)

    met_few : {s q t : ℕ} → Met s q t → t ≤ K.size * A.states
    met_few m =
        omega (
          arith,
          m.many,
          sum_bound K.size (λ s. sum A.states (m.at s)) A.states (λ s _. omega (arith, sum_bound A.states (m.at s) 1 (λ q _. m.once s q))),
        )

    -- a bound, however large, leads down to the count
    descend : (c : ℕ) → AtMost A K c → (k : ℕ) × HasCount A K k × (k ≤ c)
    descend zero most = (0, record { most = most; attained = inl refl }, omega arith)
    descend (suc c) most = go (count_decided A K c wf) (descend c)
      where
        go : AtMost A K c ⊎ Exceeds A K c → (AtMost A K c → (k : ℕ) × HasCount A K k × (k ≤ c)) → (k : ℕ) × HasCount A K k × (k ≤ suc c)
        go (inl m) below = let r : (k : ℕ) × HasCount A K k × (k ≤ c) = below m in (r.0, r.1, omega (arith, r.2))
        go (inr (s, q, t, w, over)) below =
            (suc c, record { most = most; attained = inr (s, q, subst (λ n. Path A K s q n) (omega (arith, over, most s q t w)) w) }, omega arith)

    pub count_or_cycle : ((c : ℕ) × HasCount A K c × (c ≤ K.size * A.states)) ⊎ RejectingCycle A K
    count_or_cycle = go (count_decided A K (K.size * A.states) wf)
      where
        late : {s q t : ℕ} → K.size * A.states < t → RejectingCycle A K ⊎ Met s q t → RejectingCycle A K
        late over (inl z) = z
        late over (inr m) = absurd (omega (arith, over, met_few m))

        go : AtMost A K (K.size * A.states) ⊎ Exceeds A K (K.size * A.states) → ((c : ℕ) × HasCount A K c × (c ≤ K.size * A.states)) ⊎ RejectingCycle A K
        go (inl most) = inl (descend (K.size * A.states) most)
        go (inr (s, q, t, w, over)) = inr (late over (met w))
