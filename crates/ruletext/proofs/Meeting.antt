-- The search over the states of a rule meets exactly those that are reached.
use Rattle.std.proofs.Common.{◌≡◌, ℕ, suc, ◌+◌, ◌<◌, ◌≤◌, Bool, true, false, cond, ◌&&◌, eqb, ltb, ◌⊎◌, List, [], ◌∷◌, map, length, take, Some, None, Decides, Option, sym, refl, ap, ◌∙◌, subst, inl, inr, arith, length-take-le}
use Rattle.std.specs.List.{list_any, range_with_len}
use Rattle.std.proofs.lemmas.List.FromFn.{length-range_with_len}
use Rattle.std.proofs.lemmas.Bool.{eq-eqb, eqb-true, lt-ltb, ltb-true, and_parts, and_from, both_ways, cases_Bool}
use Rattle.std.proofs.lemmas.Bool.Decides.{Decides-eqb, Decides-like}
use Rattle.model.specs.Automaton.{Automaton}
use Rattle.model.specs.Lists.{any, In}
use Rattle.model.specs.Search.{reached_from}
use Rattle.model.specs.SearchLaws.{Leads, here, further}
use Rattle.model.specs.ReadingLaws.{Reached, at_start, by_arrow, AllReached}
use Rattle.model.proofs.Lists.{in_map, map_in, in_counting, counting_in, decides_any, pigeons}
use Rattle.model.proofs.Reading.Basics.{by_test}
use Rattle.model.proofs.Reading.Reached.{distinct_counting}
use Rattle.model.proofs.Searches.{decides_met, Listed, Over, Result, searched}
use Rattle.search.specs.Meeting.{present, successors, Found}
use Rattle.ruletext.specs.declared.table.StateSet.{StateSet}
use Rattle.ruletext.specs.Tables.{ArrowTable, arrow, automaton, Within, Led, led, follower}

-- THE ARROWS OF THE GRAPH

same_any : {X : Type 0} (f : X → Bool) (xs : List X) → list_any f xs ≡ any f xs
same_any f [] = refl
same_any f (x ∷ xs) = let ih = same_any f xs in by_test (f x) (λ t. cc) (λ t. cc)

decides_list_any : {X : Type 0} (f : X → Bool) (P : X → Type 0) → ((x : X) → Decides (f x) (P x)) → (xs : List X) → Decides (list_any f xs) ((x : X) × In xs x × P x)
decides_list_any f P h xs = subst (λ b. Decides b ((x : _) × In xs x × P x)) (sym (same_any f xs)) (decides_any f P h xs)

module _ (arrows : ArrowTable) where
  decides_led : (q p : ℕ) → Decides (led arrows q p) (Led arrows q p)
  decides_led q p =
      Decides-like (led arrows q p)
      (λ r. let (u, i, s) = r in let (x, j, e) = s in (u, x, omega (arith, (counting_in 0 8 u i).1), omega (arith, (counting_in 0 8 x j).1), e))
      (λ r. let (u, x, hu, hx, e) = r in (u, in_counting 0 8 u (omega arith) (omega arith), (x, in_counting 0 8 x (omega arith) (omega arith), e)))
      (decides_list_any (λ u. list_any (λ x. arrow arrows q u x p) (range_with_len 0 8)) (λ u. (x : ℕ) × In (range_with_len 0 8) x × (arrow arrows q u x p ≡ true))
      (λ u. decides_list_any (λ x. arrow arrows q u x p) (λ x. arrow arrows q u x p ≡ true) (λ x. ((λ e. e), (λ e. e))) (range_with_len 0 8)) (range_with_len 0 8))

  follower_there : (q p : ℕ) → q < 8 → led arrows q p ≡ true → follower arrows q p ≡ Some p
  follower_there q p h e = ap (λ b. cond b (Some p) None) (and_from (ltb q 8) (led arrows q p) (lt-ltb q 8 h) e)

  follower_not : (q p : ℕ) → (ltb q 8 && led arrows q p) ≡ false → follower arrows q p ≡ None
  follower_not q p e = ap (λ b. cond b (Some p) None) e

in_present : (os : List (Option ℕ)) (y : ℕ) → In os (Some y) → In (present os) y
in_present [] y i = absurd i
in_present (None ∷ os) y (inl e) = let z : ◌≡◌ {A = ℕ} 0 1 = cc in absurd (omega arith)
in_present (None ∷ os) y (inr i) = in_present os y i
in_present (Some x ∷ os) y (inl e) = inl (cc)
in_present (Some x ∷ os) y (inr i) = inr (in_present os y i)

present_in : (os : List (Option ℕ)) (y : ℕ) → In (present os) y → In os (Some y)
present_in [] y i = absurd i
present_in (None ∷ os) y i = inr (present_in os y i)
present_in (Some x ∷ os) y (inl e) = inl (ap Some e)
present_in (Some x ∷ os) y (inr i) = inr (present_in os y i)

module _ (arrows : ArrowTable) (start : ℕ) where
  abbrev next : ℕ → List ℕ
  next q = successors 8 (follower arrows) q

  next_in : (q p : ℕ) → In (next q) p → (q < 8) × (p < 8) × Led arrows q p
  next_in q p i =
      let (k, j, e) = map_in (follower arrows q) (range_with_len 0 8) (Some p) (present_in (map (follower arrows q) (range_with_len 0 8)) p i) in
      go k (counting_in 0 8 k j).1 e (cases_Bool (ltb q 8 && led arrows q k))
    where
      go : (k : ℕ) → k < 0 + 8 → Some p ≡ follower arrows q k → ((ltb q 8 && led arrows q k) ≡ true) ⊎ ((ltb q 8 && led arrows q k) ≡ false) → (q < 8) × (p < 8) × Led arrows q p
      go k h e (inl t) =
          let (a, b) = and_parts (ltb q 8) (led arrows q k) t in
          let f : Some p ≡ Some k = e ∙ ap (λ b. cond b (Some k) None) t in
          let g : p ≡ k = cc in
          (ltb-true q 8 a, omega arith, subst (λ n. Led arrows q n) (sym g) ((decides_led arrows q k).0 b))
      go k h e (inr n) = let f : Some p ≡ None = e ∙ follower_not arrows q k n in let z : ◌≡◌ {A = ℕ} 0 1 = cc in absurd (omega arith)

  in_next : (q p : ℕ) → q < 8 → p < 8 → Led arrows q p → In (next q) p
  in_next q p hq hp l =
      in_present (map (follower arrows q) (range_with_len 0 8)) p
      (subst (λ o. In (map (follower arrows q) (range_with_len 0 8)) o) (follower_there arrows q p hq ((decides_led arrows q p).1 l))
      (in_map (follower arrows q) (range_with_len 0 8) p (in_counting 0 8 p (omega arith) (omega arith))))

  module _ (S C n : ℕ) (rejecting : StateSet) (hn : n ≤ 8) (hs : start < n) (inside : Within S C n arrows) where
    abbrev A : Automaton
    A = automaton S C n start rejecting arrows

    follows_true : (q u x p : ℕ) → q < 8 → u < 8 → x < 8 → p < 8 → arrow arrows q u x p ≡ true → A.follows q u x p ≡ true
    follows_true q u x p hq hu hx hp e =
        and_from (ltb q 8 && (ltb u 8 && (ltb x 8 && ltb p 8))) (arrow arrows q u x p)
        (and_from (ltb q 8) (ltb u 8 && (ltb x 8 && ltb p 8)) (lt-ltb q 8 hq)
        (and_from (ltb u 8) (ltb x 8 && ltb p 8) (lt-ltb u 8 hu) (and_from (ltb x 8) (ltb p 8) (lt-ltb x 8 hx) (lt-ltb p 8 hp))))
        e

    leads_reached : {q : ℕ} → Leads next start q → Reached A q
    leads_reached here = at_start (record { inside = hs; starts = eq-eqb start start refl })
    leads_reached (further {y = w} z way i) =
        let (hw, hz, u, x, hu, hx, e) = flat w z (next_in w z i) in
        let k = inside w u x z hw hu hx hz e in
        by_arrow u x z (leads_reached way) k.1 (record { known = k.2; inside = k.3; follows = follows_true w u x z hw hu hx hz e })
      where
        flat : (w z : ℕ) → (w < 8) × (z < 8) × Led arrows w z → (w < 8) × (z < 8) × (u : ℕ) × (x : ℕ) × (u < 8) × (x < 8) × (arrow arrows w u x z ≡ true)
        flat w z (a, b, (u, x, hu, hx, e)) = (a, b, u, x, hu, hx, e)

    reached_leads : {q : ℕ} → Reached A q → Leads next start q
    reached_leads (at_start {q} s) = subst (λ z. Leads next start z) (sym (eqb-true q start s.starts)) here
    reached_leads (by_arrow {q = w} u x z way h f) =
        let p = and_parts (ltb w 8 && (ltb u 8 && (ltb x 8 && ltb z 8))) (arrow arrows w u x z) f.follows in
        let a = and_parts (ltb w 8) (ltb u 8 && (ltb x 8 && ltb z 8)) p.0 in
        let b = and_parts (ltb u 8) (ltb x 8 && ltb z 8) a.1 in
        let c = and_parts (ltb x 8) (ltb z 8) b.1 in
        further {y = w} z (reached_leads way) (in_next w z (ltb-true w 8 a.0) (ltb-true z 8 c.1) (u, x, ltb-true u 8 b.0, ltb-true x 8 c.0, p.1))

    reached_inside : {q : ℕ} → Reached A q → q < n
    reached_inside (at_start s) = s.inside
    reached_inside (by_arrow u x p l hu f) = f.inside

    below : (L : List ℕ) → ((q : ℕ) → In L q → Leads next start q) → (q : ℕ) → In L q → In (range_with_len 0 n) q
    below L h q i = in_counting 0 n q (omega arith) (omega (arith, reached_inside (leads_reached (h q i))))

    -- all states are reached exactly if as many are met as there are
    pub counted : (met : List ℕ) (k : ℕ) → Found (Some k) met (reached_from eqb next 8 start) → Decides (eqb k n) (AllReached A)
    counted met k (some-node, few, e) =
        ((λ t q h. full (eqb-true k n t) q h (cases_Bool (any (eqb q) (take k met)))), λ all. eq-eqb k n (many all))
      where
        l : Listed eqb Decides-eqb next 8 start (take k met)
        l = subst (Result eqb Decides-eqb next 8 start) e (searched eqb Decides-eqb next 8 start)

        long : length (take k met) ≡ k
        long = length-take-le k met few

        full : k ≡ n → (q : ℕ) → q < n → (any (eqb q) (take k met) ≡ true) ⊎ (any (eqb q) (take k met) ≡ false) → Reached A q
        full same q h (inl y) = leads_reached (l.has q ((decides_met eqb Decides-eqb (take k met) q).0 y))
        full same q h (inr no_such) =
            absurd (let m : suc (length (take k met)) ≤ length (range_with_len 0 n) = pigeons (q ∷ take k met) (range_with_len 0 n) ((λ i. both_ways (any (eqb q) (take k met)) no_such ((decides_met eqb Decides-eqb (take k met) q).1 i)), l.once) (λ p i. more p i) in
            omega (arith, m, long, length-range_with_len 0 n))
          where
            more : (p : ℕ) → (p ≡ q) ⊎ In (take k met) p → In (range_with_len 0 n) p
            more p (inl s) = in_counting 0 n p (omega arith) (omega arith)
            more p (inr i) = below (take k met) l.has p i

        many : AllReached A → k ≡ n
        many all =
            let a : length (range_with_len 0 n) ≤ length (take k met) = pigeons (range_with_len 0 n) (take k met) (distinct_counting 0 n) (λ q i. l.all q (reached_leads (all q (omega (arith, (counting_in 0 n q i).1))))) in
            let b : length (take k met) ≤ length (range_with_len 0 n) = pigeons (take k met) (range_with_len 0 n) l.once (below (take k met) l.has) in
            omega (arith, a, b, long, length-range_with_len 0 n)

    -- there is always room
    pub never : (met : List ℕ) → Found None met (reached_from eqb next 8 start) → ⊥
    never met e = go (subst (Result eqb Decides-eqb next 8 start) e (searched eqb Decides-eqb next 8 start))
      where
        go : Over eqb Decides-eqb next 8 start → ⊥
        go (L, d, h, m) = let k : length L ≤ length (range_with_len 0 n) = pigeons L (range_with_len 0 n) d (below L h) in omega (arith, k, m, length-range_with_len 0 n)
