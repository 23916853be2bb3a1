-- Each controller and each c have a valid certificate, or a path whose count is over c: raise marks along arrows, until no arrow is broken.
use Rattle.std.proofs.Common.{◌≡◌, ℕ, zero, suc, ◌+◌, ◌-◌, ◌*◌, ◌<◌, ◌≤◌, true, false, cond, ◌&&◌, eqb, ◌⊎◌, sym, refl, ◌∙◌, subst₂, inl, inr, arith}
use mathlib.Core.Path.{subst₃}
use Rattle.std.proofs.lemmas.Bool.Decides.{nat_tests}
use Rattle.std.proofs.lemmas.Bool.{cases_lt, cases_Bool}
use Rattle.model.specs.Automaton.{Automaton, Controller, weight, WellFormed, Path, begin, onward, AtMost, Exceeds}
use Rattle.model.specs.CountLaws.{Marking, Valid}
use Rattle.model.proofs.Theory.{CertificateExact, CountDecided}
use Rattle.model.proofs.Paths.{certificate_sound}
use Rattle.model.proofs.Finite.{all_or_stop, sum, sum_le, sum_lt, sum_bound, settle}

-- the certificate with one mark changed
abbrev pub raise : Marking → ℕ → ℕ → ℕ → Marking
raise C s p v s' p' = cond (eqb s s' && eqb p p') v (C s' p')

pub raise_cases : (C : Marking) (s p v s' p' : ℕ) → ((s ≡ s') × (p ≡ p') × (raise C s p v s' p' ≡ v)) ⊎ (raise C s p v s' p' ≡ C s' p')
raise_cases C s p v s' p' = grind (arith, nat_tests)

pub raise_here : (C : Marking) (s p v : ℕ) → raise C s p v s p ≡ v
raise_here C s p v = grind (arith, nat_tests)

module _ (A : Automaton) (K : Controller) (c : ℕ) where
  -- each mark is within c, and earned by a path
  record Earned (C : Marking) : Type 0 where
    within : (s q : ℕ) → C s q ≤ c + 1
    earned : (s q t : ℕ) → C s q ≡ t + 1 → Path A K s q t

  -- a path that the certificate does not cover
  record Broken (C : Marking) : Type 0 where
    state : ℕ
    rule : ℕ
    tally : ℕ
    inside : (state < K.size) × (rule < A.states)
    path : Path A K state rule tally
    low : C state rule < tally + 1

  abbrev total : Marking → ℕ
  total C = sum K.size (λ s. sum A.states (C s))

  abbrev room : Marking → ℕ
  room C = K.size * (A.states * (c + 1)) - total C

  -- each constraint holds, or is broken
  module _ (wf : WellFormed A K) (C : Marking) (good : Earned C) where
    start_at : (q : ℕ) → q < A.states → (A.start q ≡ true → 1 + weight A q ≤ C 0 q) ⊎ Broken C
    start_at q h = go (cases_Bool (A.start q)) (cases_lt (C 0 q) (1 + weight A q))
      where
        go : (A.start q ≡ true) ⊎ (A.start q ≡ false) → (C 0 q < 1 + weight A q) ⊎ (1 + weight A q ≤ C 0 q) → (A.start q ≡ true → 1 + weight A q ≤ C 0 q) ⊎ Broken C
        go b (inr l) = inl (λ _. l)
        go (inr f) (inl l) = inl (λ e. absurd (grind arith))
        go (inl e) (inl l) =
            inr record { state = 0; rule = q; tally = weight A q; inside = (wf.some_state, h); path = begin (record { inside = h; starts = e }); low = omega arith }

    Carried : ℕ → ℕ → ℕ → ℕ → Type 0
    Carried s q x p = 0 < C s q → A.follows q (K.command s) x p ≡ true → C s q + weight A p ≤ C (K.next s x) p

    carry_at : (s q x p : ℕ) → s < K.size → x < A.situations → p < A.states → Carried s q x p ⊎ Broken C
    unfolding Carried
    carry_at s q x p hs hx hp = go (C s q) refl (cases_Bool (A.follows q (K.command s) x p)) (cases_lt (C (K.next s x) p) (C s q + weight A p))
      where
        go : (m : ℕ) → C s q ≡ m → (A.follows q (K.command s) x p ≡ true) ⊎ (A.follows q (K.command s) x p ≡ false)
            → (C (K.next s x) p < C s q + weight A p) ⊎ (C s q + weight A p ≤ C (K.next s x) p) → Carried s q x p ⊎ Broken C
        go m e b (inr l) = inl (λ _ _. l)
        go m e (inr f) (inl l) = inl (λ _ g. absurd (grind arith))
        go zero e (inl g) (inl l) = inl (λ pos _. absurd (omega arith))
        go (suc t) e (inl g) (inl l) =
            inr record {
              state = K.next s x;
              rule = p;
              tally = t + weight A p;
              inside = (wf.nexts s x hs hx, hp);
              path = onward x p (good.earned s q t (omega arith)) (record { known = hx; inside = hp; follows = g });
              low = omega arith;
            }

    all_carried : ((s : ℕ) → s < K.size → (q : ℕ) → q < A.states → (x : ℕ) → x < A.situations → (p : ℕ) → p < A.states → Carried s q x p) ⊎ Broken C
    all_carried =
        all_or_stop (λ s. (q : ℕ) → q < A.states → (x : ℕ) → x < A.situations → (p : ℕ) → p < A.states → Carried s q x p) (Broken C) K.size λ s hs.
        all_or_stop (λ q. (x : ℕ) → x < A.situations → (p : ℕ) → p < A.states → Carried s q x p) (Broken C) A.states λ q hq.
        all_or_stop (λ x. (p : ℕ) → p < A.states → Carried s q x p) (Broken C) A.situations λ x hx.
        all_or_stop (λ p. Carried s q x p) (Broken C) A.states λ p hp. carry_at s q x p hs hx hp

    -- the certificate is valid, or leaves a path uncovered
    valid_or_broken : Valid A K c C ⊎ Broken C
    unfolding Carried
    valid_or_broken =
        go (all_or_stop (λ q. A.start q ≡ true → 1 + weight A q ≤ C 0 q) (Broken C) A.states start_at) all_carried
      where
        go : ((q : ℕ) → q < A.states → A.start q ≡ true → 1 + weight A q ≤ C 0 q) ⊎ Broken C
            → ((s : ℕ) → s < K.size → (q : ℕ) → q < A.states → (x : ℕ) → x < A.situations → (p : ℕ) → p < A.states → Carried s q x p) ⊎ Broken C
            → Valid A K c C ⊎ Broken C
        go (inr b) r = inr b
        go (inl a) (inr b) = inr b
        go (inl a) (inl r) =
            inl record {
              within = λ s q _ _. good.within s q;
              begins = λ q b. a q b.inside b.starts;
              carries = λ s q x p hs hq pos f. r s hs q hq x f.known p f.inside pos f.follows;
            }

  total_bound : (C : Marking) → Earned C → total C ≤ K.size * (A.states * (c + 1))
  total_bound C good =
      sum_bound K.size (λ s. sum A.states (C s)) (A.states * (c + 1)) (λ s _. sum_bound A.states (C s) (c + 1) (λ q _. good.within s q))

  -- a broken certificate is raised, if that leads to no tally over c
  module _ (C : Marking) (good : Earned C) (b : Broken C) (le : b.tally ≤ c) where
    raised : Marking
    raised = raise C b.state b.rule (b.tally + 1)

    raised_earned : Earned raised
    unfolding raised
    raised_earned = record { within = λ s q. within' s q (raise_cases C b.state b.rule (b.tally + 1) s q); earned = λ s q t e. earned' s q t e (raise_cases C b.state b.rule (b.tally + 1) s q) }
      where
        within' : (s q : ℕ) → ((b.state ≡ s) × (b.rule ≡ q) × (raised s q ≡ b.tally + 1)) ⊎ (raised s q ≡ C s q) → raised s q ≤ c + 1
        within' s q (inl r) = omega (arith, r.2)
        within' s q (inr e) = omega (arith, e, good.within s q)

        earned' : (s q t : ℕ) → raised s q ≡ t + 1 → ((b.state ≡ s) × (b.rule ≡ q) × (raised s q ≡ b.tally + 1)) ⊎ (raised s q ≡ C s q) → Path A K s q t
        earned' s q t e (inl r) =
            let same : b.tally ≡ t = omega (arith, e, r.2) in
            subst₃ (λ s q t. Path A K s q t) r.0 r.1 same b.path
        earned' s q t e (inr f) = good.earned s q t (sym f ∙ e)

    raised_up : (s q : ℕ) → C s q ≤ raised s q
    unfolding raised
    raised_up s q = go (raise_cases C b.state b.rule (b.tally + 1) s q)
      where
        go : ((b.state ≡ s) × (b.rule ≡ q) × (raised s q ≡ b.tally + 1)) ⊎ (raised s q ≡ C s q) → C s q ≤ raised s q
        go (inl r) = let l : C s q < b.tally + 1 = subst₂ (λ i j. C i j < b.tally + 1) r.0 r.1 b.low in omega (arith, r.2)
        go (inr e) = omega arith

    raised_room : room raised < room C
    unfolding raised
    raised_room =
        let more : total C < total raised =
        sum_lt K.size (λ s. sum A.states (C s)) (λ s. sum A.states (raised s))
        (λ s _. sum_le A.states (C s) (raised s) (λ q _. raised_up s q))
        b.state b.inside.0
        (sum_lt A.states (C b.state) (raised b.state) (λ q _. raised_up b.state q) b.rule b.inside.1
        (rw (raise_here C b.state b.rule (b.tally + 1)) b.low)) in
        omega (arith, more, total_bound raised raised_earned)

  -- a turn: a valid certificate, a path over c, or a certificate with less room
  turn : WellFormed A K → (C : Marking) → Earned C → (((C : Marking) × Valid A K c C) ⊎ Exceeds A K c) ⊎ ((C' : Marking) × Earned C' × (room C' < room C))
  turn wf C good = go (valid_or_broken wf C good)
    where
      mend : (b : Broken C) → (c < b.tally) ⊎ (b.tally ≤ c) → (((C : Marking) × Valid A K c C) ⊎ Exceeds A K c) ⊎ ((C' : Marking) × Earned C' × (room C' < room C))
      mend b (inl over) = inl (inr (b.state, b.rule, b.tally, b.path, over))
      mend b (inr le) = inr (raised C good b le, raised_earned C good b le, raised_room C good b le)

      go : Valid A K c C ⊎ Broken C → (((C : Marking) × Valid A K c C) ⊎ Exceeds A K c) ⊎ ((C' : Marking) × Earned C' × (room C' < room C))
      go (inl v) = inl (inl (C, v))
      go (inr b) = mend b (cases_lt c b.tally)

  pub certified_or_exceeds : WellFormed A K → ((C : Marking) × Valid A K c C) ⊎ Exceeds A K c
  certified_or_exceeds wf =
      settle room Earned (((C : Marking) × Valid A K c C) ⊎ Exceeds A K c) (turn wf) (suc (room (λ _ _. 0))) (λ _ _. 0) (omega arith)
      (record { within = λ s q. omega arith; earned = λ s q t e. absurd (omega arith) })

pub certificate_exact : CertificateExact
certificate_exact A K c wf = (λ v. certificate_sound A K c v.0 wf v.1, λ most. go most (certified_or_exceeds A K c wf))
  where
    go : AtMost A K c → ((C : Marking) × Valid A K c C) ⊎ Exceeds A K c → (C : Marking) × Valid A K c C
    go most (inl v) = v
    go most (inr (s, q, t, w, over)) = absurd (omega (arith, over, most s q t w))

pub count_decided : CountDecided
count_decided A K c wf = go (certified_or_exceeds A K c wf)
  where
    go : ((C : Marking) × Valid A K c C) ⊎ Exceeds A K c → AtMost A K c ⊎ Exceeds A K c
    go (inl v) = inl (certificate_sound A K c v.0 wf v.1)
    go (inr e) = inr e
