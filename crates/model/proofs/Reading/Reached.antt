-- The search over rule states meets exactly the reached states.
use Rattle.std.proofs.Common.{◌≡◌, ℕ, zero, suc, ◌+◌, ◌<◌, true, false, eqb, ◌↔◌, List, [], ◌∷◌, length, sym, refl, ◌∙◌, subst, inl, ⊎_elim, arith}
use mathlib.Core.Option.{Option, none, some}
use Rattle.std.specs.List.{range_with_len}
use Rattle.std.proofs.lemmas.Bool.{eqb-true, eq-eqb}
use Rattle.std.proofs.lemmas.Bool.Decides.{Decides-eqb}
use Rattle.std.proofs.lemmas.List.FromFn.{length-range_with_len}
use Rattle.model.specs.Automaton.{Automaton, Follows}
use Rattle.model.specs.Search.{reached_from}
use Rattle.model.specs.Lists.{any, joined, In, Distinct}
use Rattle.model.specs.Text.{TextRule, meaning, neighbours, reached, all_reached}
use Rattle.model.specs.SearchLaws.{Leads, here, further}
use Rattle.model.specs.ReadingLaws.{Reached, at_start, by_arrow, AllReached}
use Rattle.model.proofs.Reading.Basics.{by_test, true_false}
use Rattle.model.proofs.Lists.{in_joined, joined_in, in_counting, counting_in, pigeons}
use Rattle.model.proofs.Searches.{decides_met, Listed, Over, Result, searched}

pub distinct_counting : (a n : ℕ) → Distinct (range_with_len a n)
distinct_counting a zero = tt
distinct_counting a (suc n) = ((λ h. let r = counting_in (a + 1) n a h in omega arith), distinct_counting (a + 1) n)

-- NEIGHBOURS

module _ (A : Automaton) (q : ℕ) where
  abbrev those : ℕ → ℕ → ℕ → List ℕ
  those u x p = elim (A.follows q u x p) [ true ↦ p ∷ [] | false ↦ [] ]

  in_those : (u x p : ℕ) → A.follows q u x p ≡ true → In (those u x p) p
  in_those u x p e = let d : those u x p ≡ p ∷ [] = cc in subst (λ z. In z p) (sym d) (inl refl)

  from_those : (u x p r : ℕ) → In (those u x p) r → (r ≡ p) × (A.follows q u x p ≡ true)
  from_those u x p r h =
      by_test (A.follows q u x p)
      (λ e. let d : those u x p ≡ p ∷ [] = cc in let k : In (p ∷ []) r = subst (λ z. In z r) d h in (⊎_elim (λ v. v) (λ v. absurd v) k, e))
      (λ e. let d : those u x p ≡ [] = cc in let k : In {X = ℕ} [] r = subst (λ z. In z r) d h in absurd k)

  pub in_neighbours : (u x p : ℕ) → u < A.commands → Follows A q u x p → In (neighbours A q) p
  unfolding neighbours
  in_neighbours u x p h f =
      in_joined (λ u. joined (λ x. joined (those u x) (range_with_len 0 A.states)) (range_with_len 0 A.situations)) (range_with_len 0 A.commands) u p
      (in_counting 0 A.commands u (omega arith) (omega arith))
      (in_joined (λ x. joined (those u x) (range_with_len 0 A.states)) (range_with_len 0 A.situations) x p
      (in_counting 0 A.situations x (omega arith) (omega (arith, f.known)))
      (in_joined (those u x) (range_with_len 0 A.states) p p (in_counting 0 A.states p (omega arith) (omega (arith, f.inside))) (in_those u x p f.follows)))

  pub from_neighbours : (p : ℕ) → In (neighbours A q) p → (u : ℕ) × (x : ℕ) × (u < A.commands) × Follows A q u x p
  unfolding neighbours
  from_neighbours p h =
      let a = joined_in (λ u. joined (λ x. joined (those u x) (range_with_len 0 A.states)) (range_with_len 0 A.situations)) (range_with_len 0 A.commands) p h in
      let u = a.0 in
      let b = joined_in (λ x. joined (those u x) (range_with_len 0 A.states)) (range_with_len 0 A.situations) p a.2 in
      let x = b.0 in
      let c = joined_in (those u x) (range_with_len 0 A.states) p b.2 in
      let d = from_those u x c.0 p c.2 in
      let hu = counting_in 0 A.commands u a.1 in
      let hx = counting_in 0 A.situations x b.1 in
      let hp = counting_in 0 A.states c.0 c.1 in
      let is = d.0 in
      (u, x, omega arith, record { known = omega arith; inside = omega arith; follows = subst (λ z. A.follows q u x z ≡ true) (sym is) d.1 })

-- REACHED

module _ (S C : ℕ) (r : TextRule) (start : r.start < r.states) where
  abbrev A : Automaton
  A = meaning S C r

  pub led_reached : (q : ℕ) → Leads (neighbours A) r.start q → Reached A q
  led_reached q here = at_start (record { inside = start; starts = eq-eqb r.start r.start refl })
  led_reached q (further {y = p} z way h) = let n = from_neighbours A p z h in by_arrow n.0 n.1 z (led_reached p way) n.2 n.3

  pub reached_led : (q : ℕ) → Reached A q → Leads (neighbours A) r.start q
  reached_led q (at_start s) = subst (λ z. Leads (neighbours A) r.start z) (sym (eqb-true q r.start s.starts)) here
  reached_led q (by_arrow {q = w} u x p way h f) = further p (reached_led w way) (in_neighbours A w u x p h f)

  reached_inside : (q : ℕ) → Reached A q → q < r.states
  reached_inside q (at_start s) = s.inside
  reached_inside q (by_arrow u x p way h f) = f.inside

  led_counted : (q : ℕ) → Leads (neighbours A) r.start q → In (range_with_len 0 r.states) q
  led_counted q way = in_counting 0 r.states q (omega arith) (omega (arith, reached_inside q (led_reached q way)))

  answer : Result eqb Decides-eqb (neighbours A) r.states r.start (reached S C r)
  unfolding reached reached_from
  answer = searched eqb Decides-eqb (neighbours A) r.states r.start

  -- the list that the search gives has each reached state once
  pub reached_list : (L : List ℕ) → reached S C r ≡ some L → Distinct L × ((q : ℕ) → In L q ↔ Reached A q)
  reached_list L e =
      let d : Listed eqb Decides-eqb (neighbours A) r.states r.start L = subst (λ o. Result eqb Decides-eqb (neighbours A) r.states r.start o) e answer in
      (d.once, λ q. ((λ h. led_reached q (d.has q h)), (λ h. d.all q (reached_led q h))))

  -- there is one
  pub reached_some : (L : List ℕ) × (reached S C r ≡ some L)
  reached_some = go (reached S C r) refl
    where
      go : (o : Option (List ℕ)) → reached S C r ≡ o → (L : List ℕ) × (reached S C r ≡ some L)
      go none e =
          let d : Over eqb Decides-eqb (neighbours A) r.states r.start = subst (λ o. Result eqb Decides-eqb (neighbours A) r.states r.start o) e answer in
          let n = pigeons d.0 (range_with_len 0 r.states) d.1 (λ q h. led_counted q (d.2 q h)) in
          let k : ⊥ = omega (arith, n, d.3, length-range_with_len 0 r.states) in
          absurd k
      go (some L) e = (L, e)

  all_reached_is : (L : List ℕ) → reached S C r ≡ some L → all_reached S C r ≡ eqb (length L) r.states
  unfolding all_reached
  all_reached_is L e = rw (e, all_reached)

  pub all_reached_exact : (all_reached S C r ≡ true) ↔ AllReached A
  all_reached_exact =
      let s = reached_some in
      let L = s.0 in
      let l = reached_list L s.1 in
      let is = all_reached_is L s.1 in
      let short = pigeons L (range_with_len 0 r.states) l.0 (λ q h. in_counting 0 r.states q (omega arith) (omega (arith, reached_inside q ((l.1 q).0 h)))) in
      let size = length-range_with_len 0 r.states in (
        (λ e q h.
            by_test (any (eqb q) L)
            (λ t. (l.1 q).0 ((decides_met eqb Decides-eqb L q).0 t))
            (λ t.
            let full = eqb-true (length L) r.states (sym is ∙ e) in
            let more = pigeons (q ∷ L) (range_with_len 0 r.states) ((λ i. true_false ((decides_met eqb Decides-eqb L q).1 i) t), l.0)
            (λ p k. ⊎_elim (λ v. in_counting 0 r.states p (omega arith) (omega arith)) (λ v. in_counting 0 r.states p (omega arith) (omega (arith, reached_inside p ((l.1 p).0 v)))) k) in
            let k : ⊥ = omega arith in
            absurd k)),
        (λ h.
            let long = pigeons (range_with_len 0 r.states) L (distinct_counting 0 r.states) (λ q k. (l.1 q).1 (h q (let z = counting_in 0 r.states q k in omega arith))) in
            is ∙ eq-eqb (length L) r.states (omega arith)),
      )
