-- Paths and certificates: a valid certificate bounds every path; a bound leaves no rejecting cycle, and bounds endless paths.
use Rattle.std.proofs.Common.{◌≡◌, ℕ, zero, suc, ◌+◌, ◌<◌, ◌≤◌, true, sym, subst, add_assoc, add-one, arith}
use Rattle.model.specs.Automaton.{Automaton, Controller, weight, Follows, WellFormed, Path, begin, onward, Trail, arrow, further, RejectingCycle}
use Rattle.model.specs.Automaton.{Endless}
use Rattle.model.specs.CountLaws.{Marking, Valid}
use Rattle.model.specs.CountLaws.{visits}
use Rattle.model.proofs.Theory.{CertificateSound, BoundedIsFinite}

module _ (A : Automaton) (K : Controller) (wf : WellFormed A K) where
  -- a path stays among the states of both
  pub path_inside : {s q t : ℕ} → Path A K s q t → (s < K.size) × (q < A.states)
  path_inside (begin b) = (wf.some_state, b.inside)
  path_inside (onward x p w f) = (wf.nexts _ x (path_inside w).0 f.known, f.inside)

  module _ (c : ℕ) (C : Marking) (v : Valid A K c C) where
    covered : {s q t : ℕ} → Path A K s q t → t + 1 ≤ C s q
    covered (begin {q} b) = omega (arith, v.begins q b)
    covered (onward {s} {q} {t} x p w f) =
        let h : t + 1 ≤ C s q = covered w in
        let i : (s < K.size) × (q < A.states) = path_inside w in
        omega (arith, v.carries s q x p i.0 i.1 (omega arith) f)

pub certificate_sound : CertificateSound
certificate_sound A K c C wf v s q t w =
    let i : (s < K.size) × (q < A.states) = path_inside A K wf w in
    omega (arith, v.within s q i.0 i.1, covered A K wf c C v w)

module _ (A : Automaton) (K : Controller) where
  -- a path goes on along a trail
  along : {s q t s' q' t' : ℕ} → Path A K s q t → Trail A K s q s' q' t' → Path A K s' q' (t + t')
  along w (arrow x p f) = onward x p w f
  along {t} w (further {s' = s₁} {t = t₁} x p r f) =
      subst (λ n. Path A K (K.next s₁ x) p n) (add_assoc t t₁ (weight A p)) (onward x p (along w r) f)

  -- its last pair counts
  trail_counts : {s q s' q' t : ℕ} → Trail A K s q s' q' t → weight A q' ≤ t
  trail_counts (arrow x p f) = omega arith
  trail_counts (further x p r f) = omega arith

  pub weight_rejecting : (q : ℕ) → A.reject q ≡ true → weight A q ≡ 1
  weight_rejecting q e = grind arith

  -- as often around as one likes
  around : (Z : RejectingCycle A K) (k : ℕ) → (t : ℕ) × Path A K Z.at Z.rule t × (k ≤ t)
  around Z zero = (Z.before, Z.reached, omega arith)
  around Z (suc k) =
      let r : (t : ℕ) × Path A K Z.at Z.rule t × (k ≤ t) = around Z k in
      (r.0 + Z.around, along r.1 Z.cycle, omega (arith, r.2, trail_counts Z.cycle, weight_rejecting Z.rule Z.rejecting))

  module _ (E : Endless A K) where
    until : (k : ℕ) → Path A K (E.state k) (E.rule k) (visits A E.rule (suc k))
    until zero =
        subst (λ s. Path A K s (E.rule 0) (0 + weight A (E.rule 0))) (sym E.first)
        (subst (λ n. Path A K 0 (E.rule 0) n) (omega arith) (begin E.starts))
    until (suc k) =
        let m : E.state (suc k) ≡ K.next (E.state k) (E.situation k) = rw add-one at (E.moves k) in
        let f : Follows A (E.rule k) (K.command (E.state k)) (E.situation k) (E.rule (suc k)) = rw add-one at (E.follows k) in
        subst (λ s. Path A K s (E.rule (suc k)) (visits A E.rule (suc (suc k)))) (sym m)
        (onward (E.situation k) (E.rule (suc k)) (until k) f)

pub bounded_is_finite : BoundedIsFinite
bounded_is_finite A K c most = (
  λ Z. (let r : (t : ℕ) × Path A K Z.at Z.rule t × (suc c ≤ t) = around A K Z (suc c) in omega (arith, r.2, most _ _ _ r.1)),
  λ E k. omega (arith, most _ _ _ (until A K E k)),
)
