-- Two rules side by side: what each part answers.
use Rattle.std.proofs.Common.{◌≡◌, ℕ, zero, suc, ◌+◌, ◌-◌, ◌<◌, ◌≤◌, Bool, true, false, not, ◌&&◌, eqb, ltb, ◌⊎◌, ◌↔◌, List, [], ◌∷◌, ◌++◌, length, sym, refl, ap, ◌∙◌, subst, subst₂, inl, inr, arith, length-append}
use Rattle.std.proofs.lemmas.Bool.{cases_Bool, cases_lt, lt-ltb, le-ltb, eqb-true, eq-eqb, not-true, not_from_false, true≢false}
use Rattle.model.specs.Automaton.{Automaton}
use Rattle.model.specs.Rules.{reply, beside, together}
use Rattle.model.specs.RuleLaws.{NearestExact, FreeExact, ReplyExact, PartAt, PairExact, total_states, TogetherCountsOn}

module _ (A B : Automaton) where
  pub left_start : (q : ℕ) → q < A.states → (beside A B).start q ≡ A.start q
  left_start q h = rw (lt-ltb q A.states h)

  pub left_reject : (q : ℕ) → q < A.states → (beside A B).reject q ≡ A.reject q
  left_reject q h = rw (lt-ltb q A.states h)

  pub left_follows : (q u x p : ℕ) → q < A.states → (beside A B).follows q u x p ≡ (ltb p A.states && A.follows q u x p)
  left_follows q u x p h =
      ap {B = Bool} (λ (b : Bool). elim b [ true ↦ ltb p A.states && A.follows q u x p | false ↦ not (ltb p A.states) && B.follows (q - A.states) u x (p - A.states) ]) (lt-ltb q A.states h)

  pub right_start : (q : ℕ) → A.states ≤ q → (beside A B).start q ≡ B.start (q - A.states)
  right_start q h = rw (le-ltb q A.states h)

  pub right_reject : (q : ℕ) → A.states ≤ q → (beside A B).reject q ≡ B.reject (q - A.states)
  right_reject q h = rw (le-ltb q A.states h)

  pub right_follows : (q u x p : ℕ) → A.states ≤ q → (beside A B).follows q u x p ≡ (not (ltb p A.states) && B.follows (q - A.states) u x (p - A.states))
  right_follows q u x p h =
      ap {B = Bool} (λ (b : Bool). elim b [ true ↦ ltb p A.states && A.follows q u x p | false ↦ not (ltb p A.states) && B.follows (q - A.states) u x (p - A.states) ]) (le-ltb q A.states h)

-- THE RULES THAT ARE BUILT IN

pub nearest_exact : NearestExact
nearest_exact n = (λ a b. grind arith, λ a. grind arith, λ a. grind arith)

pub free_exact : FreeExact
free_exact S C = (refl, refl, refl, refl, refl, λ u x. refl)

pub reply_exact : ReplyExact
reply_exact S C a b = (refl, refl, refl, (λ q. (eqb-true q 0, eq-eqb q 0)), (λ q. (eqb-true q 1, eq-eqb q 1)), λ q u x p hq hp. arrows q u x p hq hp)
  where
    Arrow : ℕ → ℕ → ℕ → ℕ → Type 0
    Arrow q u x p = ((q ≡ 0) × (p ≡ 0)) ⊎ (((q ≡ 0) × (p ≡ 1) × (x ≡ a)) ⊎ ((q ≡ 1) × (p ≡ 1) × (u ≡ b → ⊥)))

    from_0 : (u x : ℕ) → Arrow 0 u x 1 → eqb x a ≡ true
    from_0 u x (inl (e, f)) = absurd (omega arith)
    from_0 u x (inr (inl (e, f, g))) = eq-eqb x a g
    from_0 u x (inr (inr (e, f, g))) = absurd (omega arith)

    none : (u x : ℕ) → Arrow 1 u x 0 → false ≡ true
    none u x (inl (e, f)) = absurd (omega arith)
    none u x (inr (inl (e, f, g))) = absurd (omega arith)
    none u x (inr (inr (e, f, g))) = absurd (omega arith)

    from_1 : (u x : ℕ) → Arrow 1 u x 1 → not (eqb u b) ≡ true
    from_1 u x (inl (e, f)) = absurd (omega arith)
    from_1 u x (inr (inl (e, f, g))) = absurd (omega arith)
    from_1 u x (inr (inr (e, f, g))) = go (cases_Bool (eqb u b))
      where
        go : (eqb u b ≡ true) ⊎ (eqb u b ≡ false) → not (eqb u b) ≡ true
        go (inl t) = absurd (g (eqb-true u b t))
        go (inr n) = not_from_false (eqb u b) n

    but : (u : ℕ) → not (eqb u b) ≡ true → u ≡ b → ⊥
    but u e f = true≢false (sym (eq-eqb u b f) ∙ not-true (eqb u b) e)

    arrows : (q u x p : ℕ) → q < 2 → p < 2 → ((reply S C a b).follows q u x p ≡ true) ↔ Arrow q u x p
    arrows zero u x zero hq hp = (λ e. inl (refl, refl), λ w. refl)
    arrows zero u x (suc zero) hq hp = (λ e. inr (inl (refl, refl, eqb-true x a e)), from_0 u x)
    arrows (suc zero) u x zero hq hp = (λ e. absurd (true≢false (sym e)), none u x)
    arrows (suc zero) u x (suc zero) hq hp = (λ e. inr (inr (refl, refl, but u e)), from_1 u x)
    arrows zero u x (suc (suc p)) hq hp = absurd (omega arith)
    arrows (suc zero) u x (suc (suc p)) hq hp = absurd (omega arith)
    arrows (suc (suc q)) u x p hq hp = absurd (omega arith)

-- PARTS

and_false : (a b : Bool) → a ≡ false → (a && b) ≡ false
and_false a b e = rw e

and_true : (a b : Bool) → a ≡ true → (a && b) ≡ b
and_true a b e = rw e

module _ (A B : Automaton) where
  pub first_part : PartAt (beside A B) 0 A
  first_part =
      record {
        inside = omega arith;
        starts = λ q h. (let e : 0 + q ≡ q = omega arith in rw e (left_start A B q h));
        rejects = λ q h. (let e : 0 + q ≡ q = omega arith in rw e (left_reject A B q h));
        follows = λ q u x p h k. (let e : 0 + q ≡ q = omega arith in let f : 0 + p ≡ p = omega arith in
            rw (e, f) (left_follows A B q u x p h ∙ and_true (ltb p A.states) (A.follows q u x p) (lt-ltb p A.states k)));
        apart_from = λ q u x p h k o. (let e : 0 + q ≡ q = omega arith in
            rw e (left_follows A B q u x p h ∙ and_false (ltb p A.states) (A.follows q u x p) (le-ltb p A.states (beyond p o))));
        apart_to = λ q u x p h k o. (let f : 0 + p ≡ p = omega arith in
            rw f (right_follows A B q u x p (beyond q o) ∙ and_false (not (ltb p A.states)) (B.follows (q - A.states) u x (p - A.states)) (ap not (lt-ltb p A.states k))));
      }
    where
      beyond : (p : ℕ) → (p < 0) ⊎ (0 + A.states ≤ p) → A.states ≤ p
      beyond p (inl l) = absurd (omega arith)
      beyond p (inr l) = omega arith

  back : (q : ℕ) → A.states + q - A.states ≡ q
  back q = omega arith

  pub second_part : PartAt (beside A B) A.states B
  second_part =
      record {
        inside = omega arith;
        starts = λ q h. right_start A B (A.states + q) (omega arith) ∙ ap B.start (back q);
        rejects = λ q h. right_reject A B (A.states + q) (omega arith) ∙ ap B.reject (back q);
        follows = λ q u x p h k. right_follows A B (A.states + q) u x (A.states + p) (omega arith)
            ∙ and_true (not (ltb (A.states + p) A.states)) (B.follows (A.states + q - A.states) u x (A.states + p - A.states)) (not_from_false (ltb (A.states + p) A.states) (le-ltb (A.states + p) A.states (omega arith)))
            ∙ ap (λ i. B.follows i u x (A.states + p - A.states)) (back q)
            ∙ ap (λ i. B.follows q u x i) (back p);
        apart_from = λ q u x p h k o. right_follows A B (A.states + q) u x p (omega arith)
            ∙ and_false (not (ltb p A.states)) (B.follows (A.states + q - A.states) u x (p - A.states)) (ap not (lt-ltb p A.states (below p k o)));
        apart_to = λ q u x p h k o. left_follows A B q u x (A.states + p) (below q h o)
            ∙ and_false (ltb (A.states + p) A.states) (A.follows q u x (A.states + p)) (le-ltb (A.states + p) A.states (omega arith));
      }
    where
      below : (p : ℕ) → p < (beside A B).states → (p < A.states) ⊎ (A.states + B.states ≤ p) → p < A.states
      below p h (inl l) = l
      below p h (inr l) = absurd (omega arith)

pub pair_exact : PairExact
pair_exact A B = (first_part A B, second_part A B, refl, refl, refl, refl, (λ q. refl), (λ q. refl), λ q u x p. refl)

whole : (A : Automaton) → PartAt A 0 A
whole A =
    record {
      inside = omega arith;
      starts = λ q h. (let e : 0 + q ≡ q = omega arith in rw e refl);
      rejects = λ q h. (let e : 0 + q ≡ q = omega arith in rw e refl);
      follows = λ q u x p h k. (let e : 0 + q ≡ q = omega arith in let f : 0 + p ≡ p = omega arith in rw (e, f) refl);
      apart_from = λ q u x p h k o. absurd (out p k o);
      apart_to = λ q u x p h k o. absurd (out q h o);
    }
  where
    out : (p : ℕ) → p < A.states → (p < 0) ⊎ (0 + A.states ≤ p) → ⊥
    out p h (inl l) = omega arith
    out p h (inr l) = omega arith

-- a part of a part is a part
part_of_part : (U T A : Automaton) (m n : ℕ) → PartAt U m T → PartAt T n A → PartAt U (m + n) A
part_of_part U T A m n a b =
    record {
      inside = omega (arith, a.inside, b.inside);
      starts = λ q h. ap U.start (there q) ∙ a.starts (n + q) (omega (arith, b.inside)) ∙ b.starts q h;
      rejects = λ q h. ap U.reject (there q) ∙ a.rejects (n + q) (omega (arith, b.inside)) ∙ b.rejects q h;
      follows = λ q u x p h k. ap (λ i. U.follows i u x (m + n + p)) (there q) ∙ ap (λ i. U.follows (m + (n + q)) u x i) (there p)
          ∙ a.follows (n + q) u x (n + p) (omega (arith, b.inside)) (omega (arith, b.inside)) ∙ b.follows q u x p h k;
      apart_from = λ q u x p h k o. ap (λ i. U.follows i u x p) (there q) ∙ from q u x p h k o (cases_lt p m) (cases_lt p (m + T.states));
      apart_to = λ q u x p h k o. ap (λ i. U.follows q u x i) (there p) ∙ to q u x p h k o (cases_lt q m) (cases_lt q (m + T.states));
    }
  where
    there : (q : ℕ) → m + n + q ≡ m + (n + q)
    there q = omega arith

    within : (p : ℕ) → m ≤ p → (p < m + n) ⊎ (m + n + A.states ≤ p) → (p - m < n) ⊎ (n + A.states ≤ p - m)
    within p l (inl o) = inl (omega arith)
    within p l (inr o) = inr (omega arith)

    from : (q u x p : ℕ) → q < A.states → p < U.states → (p < m + n) ⊎ (m + n + A.states ≤ p) → (p < m) ⊎ (m ≤ p) → (p < m + T.states) ⊎ (m + T.states ≤ p)
        → U.follows (m + (n + q)) u x p ≡ false
    from q u x p h k o (inl l) e = a.apart_from (n + q) u x p (omega (arith, b.inside)) k (inl l)
    from q u x p h k o (inr l) (inr e) = a.apart_from (n + q) u x p (omega (arith, b.inside)) k (inr e)
    from q u x p h k o (inr l) (inl e) =
        let s : p ≡ m + (p - m) = omega arith in
        ap (λ i. U.follows (m + (n + q)) u x i) s ∙ a.follows (n + q) u x (p - m) (omega (arith, b.inside)) (omega arith) ∙ b.apart_from q u x (p - m) h (omega arith) (within p l o)

    to : (q u x p : ℕ) → q < U.states → p < A.states → (q < m + n) ⊎ (m + n + A.states ≤ q) → (q < m) ⊎ (m ≤ q) → (q < m + T.states) ⊎ (m + T.states ≤ q)
        → U.follows q u x (m + (n + p)) ≡ false
    to q u x p h k o (inl l) e = a.apart_to q u x (n + p) h (omega (arith, b.inside)) (inl l)
    to q u x p h k o (inr l) (inr e) = a.apart_to q u x (n + p) h (omega (arith, b.inside)) (inr e)
    to q u x p h k o (inr l) (inl e) =
        let s : q ≡ m + (q - m) = omega arith in
        ap (λ i. U.follows i u x (m + (n + p))) s ∙ a.follows (q - m) u x (n + p) (omega arith) (omega (arith, b.inside)) ∙ b.apart_to (q - m) u x p (omega arith) k (within q l o)

-- what is a part stays one as more rules stand beside
stays_part : (T : Automaton) (rest : List Automaton) (n : ℕ) (A : Automaton) → PartAt T n A → PartAt (together T rest) n A
stays_part T [] n A p = p
stays_part T (B ∷ rest) n A p =
    stays_part (beside T B) rest n A (subst (λ i. PartAt (beside T B) i A) (let e : 0 + n ≡ n = omega arith in e) (part_of_part (beside T B) T A 0 n (first_part T B) p))

pub together_states : (T : Automaton) (rest : List Automaton) → (together T rest).states ≡ total_states (T ∷ rest)
together_states T [] = omega arith
together_states T (B ∷ rest) = let e : (together (beside T B) rest).states ≡ T.states + B.states + total_states rest = together_states (beside T B) rest in omega arith

pub together_counts_on : TogetherCountsOn
together_counts_on house added before A behind e = (part added house before e, together_states house added)
  where
    part : (added : List Automaton) (house : Automaton) (before : List Automaton) → house ∷ added ≡ before ++ (A ∷ behind) → PartAt (together house added) (total_states before) A
    part added house [] e = let f : house ≡ A = cc in stays_part house added 0 A (subst (λ D. PartAt house 0 D) f (whole house))
    part [] house (b ∷ before) e = absurd (omega (arith, ap length e, length-append before (A ∷ behind)))
    part (B ∷ rest) house (b ∷ []) e =
        let f : house ≡ b = cc in
        let g : B ≡ A = cc in
        let n : house.states ≡ b.states + 0 = omega (arith, ap (λ (D : Automaton). D.states) f) in
        stays_part (beside house B) rest (b.states + 0) A (subst₂ (λ i D. PartAt (beside house B) i D) n g (second_part house B))
    part (B ∷ rest) house (b ∷ d ∷ before) e =
        let f : house ≡ b = cc in
        let g : B ≡ d = cc in
        let k : beside house B ∷ rest ≡ (beside house B ∷ before) ++ (A ∷ behind) = (let l : rest ≡ before ++ (A ∷ behind) = cc in ap {B = List Automaton} (λ r. beside house B ∷ r) l) in
        let n : house.states + B.states + total_states before ≡ b.states + (d.states + total_states before) = omega (arith, ap (λ (D : Automaton). D.states) f, ap (λ (D : Automaton). D.states) g) in
        subst (λ i. PartAt (together (beside house B) rest) i A) n (part rest (beside house B) (beside house B ∷ before) k)
