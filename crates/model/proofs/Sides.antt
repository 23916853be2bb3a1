-- Rules side by side have the paths of each, and no others.
use Rattle.std.proofs.Common.{◌≡◌, ℕ, ◌+◌, ◌-◌, ◌<◌, ◌≤◌, true, cond, not, ltb, ◌⊎◌, List, [], ◌∷◌, sym, refl, ap, ◌∙◌, subst, subst₂, inl, inr, arith}
use Rattle.std.proofs.lemmas.Bool.{cases_lt, lt-ltb, le-ltb, ltb-true, ltb-false, and_parts, and_from, not-true, not_from_false}
use Rattle.model.specs.Automaton.{Automaton, weight, Starts, Follows, Controller, Path, begin, onward, AtMost, Exceeds, CountAtMost, CountAbove}
use Rattle.model.specs.Rules.{beside, together}
use Rattle.model.specs.Lists.{In}
use Rattle.model.proofs.Parts.{left_start, left_reject, left_follows, right_start, right_reject, right_follows}
use Rattle.model.specs.CountLaws.{RulesFor, TogetherAgrees}

-- the states of A are those of B under f
record Within (A B : Automaton) (f : ℕ → ℕ) : Type 0 where
  starts : (q : ℕ) → Starts A q → Starts B (f q)
  follows : (q u x p : ℕ) → q < A.states → Follows A q u x p → Follows B (f q) u x (f p)
  hits : (q : ℕ) → q < A.states → weight B (f q) ≡ weight A q

path_rule : {A : Automaton} {K : Controller} {s q t : ℕ} → Path A K s q t → q < A.states
path_rule (begin b) = b.inside
path_rule (onward x p w f) = f.inside

within_path : {A : Automaton} (B : Automaton) (f : ℕ → ℕ) (K : Controller) → Within A B f → {s q t : ℕ} → Path A K s q t → Path B K s (f q) t
within_path B f K h (begin {q} b) = subst (λ n. Path B K 0 (f q) n) (h.hits q b.inside) (begin (h.starts q b))
within_path B f K h (onward {s} {q} {t} x p w g) =
    subst (λ n. Path B K (K.next s x) (f p) (t + n)) (h.hits p g.inside) (onward x (f p) (within_path B f K h w) (h.follows q (K.command s) x p (path_rule w) g))

module _ (S : ℕ) (A B : Automaton) (hA : A.situations ≡ S) (hB : B.situations ≡ S) where
  AB : Automaton
  AB = beside A B

  states_is : AB.states ≡ A.states + B.states
  unfolding AB
  states_is = refl

  situations_is : AB.situations ≡ S
  unfolding AB
  situations_is = omega arith

  left_within : Within A AB (λ q. q)
  unfolding AB
  left_within =
      record {
        starts = λ q b. record { inside = omega (arith, states_is, b.inside); starts = left_start A B q b.inside ∙ b.starts };
        follows = λ q u x p h f.
            record {
              known = omega (arith, situations_is, f.known);
              inside = omega (arith, states_is, f.inside);
              follows = left_follows A B q u x p h ∙ and_from (ltb p A.states) (A.follows q u x p) (lt-ltb p A.states f.inside) f.follows;
            };
        hits = λ q h. ap (λ b. cond b 1 0) (left_reject A B q h);
      }

  back : (q : ℕ) → A.states + q - A.states ≡ q
  back q = omega arith

  right_within : Within B AB (λ q. A.states + q)
  unfolding AB
  right_within =
      record {
        starts = λ q b. record { inside = omega (arith, states_is, b.inside); starts = right_start A B (A.states + q) (omega arith) ∙ ap B.start (back q) ∙ b.starts };
        follows = λ q u x p h f.
            record {
              known = omega (arith, situations_is, f.known);
              inside = omega (arith, states_is, f.inside);
              follows = right_follows A B (A.states + q) u x (A.states + p) (omega arith)
                  ∙ and_from (not (ltb (A.states + p) A.states)) (B.follows (A.states + q - A.states) u x (A.states + p - A.states))
                  (not_from_false (ltb (A.states + p) A.states) (le-ltb (A.states + p) A.states (omega arith)))
                  (subst₂ (λ i j. B.follows i u x j ≡ true) (sym (back q)) (sym (back p)) f.follows);
            };
        hits = λ q h. ap (λ b. cond b 1 0) (right_reject A B (A.states + q) (omega arith) ∙ ap B.reject (back q));
      }

  -- a path of the two is a path of the one that its last state is of
  Either : Controller → ℕ → ℕ → ℕ → Type 0
  Either K s q t = ((q < A.states) × Path A K s q t) ⊎ ((A.states ≤ q) × Path B K s (q - A.states) t)

  split : (K : Controller) {s q t : ℕ} → Path AB K s q t → Either K s q t
  unfolding Either AB
  split K (begin {q} b) = go (cases_lt q A.states)
    where
      go : (q < A.states) ⊎ (A.states ≤ q) → Either K 0 q (weight AB q)
      go (inl h) =
          inl (h, subst (λ n. Path A K 0 q n) (ap (λ b. cond b 1 0) (sym (left_reject A B q h))) (begin (record { inside = h; starts = sym (left_start A B q h) ∙ b.starts })))
      go (inr h) =
          inr (
            h,
            subst (λ n. Path B K 0 (q - A.states) n) (ap (λ b. cond b 1 0) (sym (right_reject A B q h)))
                (begin (record { inside = omega (arith, states_is, b.inside); starts = sym (right_start A B q h) ∙ b.starts })),
          )
  split K (onward {s} {q} {t} x p w f) = go (split K w)
    where
      go : Either K s q t → Either K (K.next s x) p (t + weight AB p)
      go (inl (h, v)) =
          let u : ℕ = K.command s in
          let (a, b) = and_parts (ltb p A.states) (A.follows q u x p) (sym (left_follows A B q u x p h) ∙ f.follows) in
          let hp : p < A.states = ltb-true p A.states a in
          inl (
            hp,
            subst (λ n. Path A K (K.next s x) p (t + n)) (ap (λ b. cond b 1 0) (sym (left_reject A B p hp)))
                (onward x p v (record { known = omega (arith, situations_is, f.known); inside = hp; follows = b })),
          )
      go (inr (h, v)) =
          let u : ℕ = K.command s in
          let (a, b) = and_parts (not (ltb p A.states)) (B.follows (q - A.states) u x (p - A.states)) (sym (right_follows A B q u x p h) ∙ f.follows) in
          let hp : A.states ≤ p = ltb-false p A.states (not-true (ltb p A.states) a) in
          inr (
            hp,
            subst (λ n. Path B K (K.next s x) (p - A.states) (t + n)) (ap (λ b. cond b 1 0) (sym (right_reject A B p hp)))
                (onward x (p - A.states) v (record { known = omega (arith, situations_is, f.known); inside = omega (arith, states_is, f.inside); follows = b })),
          )

module _ (S C : ℕ) where
  alike_beside : (house A : Automaton) (rest : List Automaton) → RulesFor S C (house ∷ (A ∷ rest)) → RulesFor S C (beside house A ∷ rest)
  alike_beside house A rest h B (inl e) =
      let (a, b) = h house (inl refl) in
      let (c, d) = h A (inr (inl refl)) in
      subst (λ D. (D.situations ≡ S) × (D.commands ≡ C)) (sym e) (omega arith, omega arith)
  alike_beside house A rest h B (inr i) = h B (inr (inr i))

  pub together_alike : (house : Automaton) (rest : List Automaton) → RulesFor S C (house ∷ rest) → ((together house rest).situations ≡ S) × ((together house rest).commands ≡ C)
  together_alike house [] h = h house (inl refl)
  together_alike house (A ∷ rest) h = together_alike (beside house A) rest (alike_beside house A rest h)

  module _ (K : Controller) where
    pub from_together : (house : Automaton) (rest : List Automaton) → RulesFor S C (house ∷ rest) → {s q t : ℕ} → Path (together house rest) K s q t
        → (A : Automaton) × In (house ∷ rest) A × (p : ℕ) × Path A K s p t
    unfolding AB Either
    from_together house [] h {s} {q} {t} w = (house, inl refl, q, w)
    from_together house (A ∷ rest) h {s} {q} {t} w = go (from_together (beside house A) rest (alike_beside house A rest h) w)
      where
        pick : (p : ℕ) → ((p < house.states) × Path house K s p t) ⊎ ((house.states ≤ p) × Path A K s (p - house.states) t) → (B : Automaton) × In (house ∷ (A ∷ rest)) B × (p : ℕ) × Path B K s p t
        pick p (inl (l, v)) = (house, inl refl, p, v)
        pick p (inr (l, v)) = (A, inr (inl refl), p - house.states, v)

        halves : (p : ℕ) → Path (beside house A) K s p t → ((p < house.states) × Path house K s p t) ⊎ ((house.states ≤ p) × Path A K s (p - house.states) t)
        halves p v = split S house A (h house (inl refl)).0 (h A (inr (inl refl))).0 K v

        go : (B : Automaton) × In (beside house A ∷ rest) B × (p : ℕ) × Path B K s p t → (B : Automaton) × In (house ∷ (A ∷ rest)) B × (p : ℕ) × Path B K s p t
        go (B, inl e, p, v) = pick p (halves p (subst (λ D. Path D K s p t) e v))
        go (B, inr i, p, v) = (B, inr (inr i), p, v)

    pub to_together : (house : Automaton) (rest : List Automaton) → RulesFor S C (house ∷ rest) → (A : Automaton) → In (house ∷ rest) A → {s q t : ℕ} → Path A K s q t
        → (p : ℕ) × Path (together house rest) K s p t
    unfolding AB
    to_together house [] h A (inl e) {s} {q} {t} w = (q, subst (λ D. Path D K s q t) e w)
    to_together house [] h A (inr i) w = absurd i
    to_together house (B ∷ rest) h A i {s} {q} {t} w = go i (λ D j s q t v. to_together (beside house B) rest (alike_beside house B rest h) D j v)
      where
        hh : house.situations ≡ S
        hh = (h house (inl refl)).0

        hB : B.situations ≡ S
        hB = (h B (inr (inl refl))).0

        go : In (house ∷ (B ∷ rest)) A → ((D : Automaton) → In (beside house B ∷ rest) D → (s q t : ℕ) → Path D K s q t → (p : ℕ) × Path (together (beside house B) rest) K s p t)
            → (p : ℕ) × Path (together (beside house B) rest) K s p t
        go (inl e) later = later (beside house B) (inl refl) s q t (within_path (beside house B) (λ q. q) K (left_within S house B hh hB) (subst (λ D. Path D K s q t) e w))
        go (inr (inl e)) later = later (beside house B) (inl refl) s (house.states + q) t (within_path (beside house B) (λ q. house.states + q) K (right_within S house B hh hB) (subst (λ D. Path D K s q t) e w))
        go (inr (inr i)) later = later A (inr i) s q t w

pub together_agrees : TogetherAgrees
together_agrees S C house rest h K c = ((most, all), (over, some), (λ k. record { most = most k.most; attained = came k.attained }, λ k. record { most = all k.most; attained = back' k.attained }))
  where
    most : CountAtMost (house ∷ rest) K c → AtMost (together house rest) K c
    most a s q t w = let (A, i, p, v) = from_together S C K house rest h w in a A i s p t v

    all : AtMost (together house rest) K c → CountAtMost (house ∷ rest) K c
    all a A i s q t w = let (p, v) = to_together S C K house rest h A i w in a s p t v

    over : CountAbove (house ∷ rest) K c → Exceeds (together house rest) K c
    over (A, i, (s, q, t, w, m)) = let (p, v) = to_together S C K house rest h A i w in (s, p, t, v, m)

    some : Exceeds (together house rest) K c → CountAbove (house ∷ rest) K c
    some (s, q, t, w, m) = let (A, i, p, v) = from_together S C K house rest h w in (A, i, (s, p, t, v, m))

    came : (c ≡ 0) ⊎ ((A : Automaton) × In (house ∷ rest) A × (s : ℕ) × (q : ℕ) × Path A K s q c) → (c ≡ 0) ⊎ ((s : ℕ) × (q : ℕ) × Path (together house rest) K s q c)
    came (inl e) = inl e
    came (inr (A, i, s, q, w)) = let (p, v) = to_together S C K house rest h A i w in inr (s, p, v)

    back' : (c ≡ 0) ⊎ ((s : ℕ) × (q : ℕ) × Path (together house rest) K s q c) → (c ≡ 0) ⊎ ((A : Automaton) × In (house ∷ rest) A × (s : ℕ) × (q : ℕ) × Path A K s q c)
    back' (inl e) = inl e
    back' (inr (s, q, w)) = let (A, i, p, v) = from_together S C K house rest h w in inr (A, i, s, p, v)
