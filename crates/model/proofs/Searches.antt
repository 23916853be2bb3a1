-- The search lists what a first node leads to, each node once, in the order of meeting; or that is more than there is room for.
use Rattle.std.proofs.Common.{◌≡◌, ℕ, zero, suc, ◌+◌, ◌<◌, ◌≤◌, Bool, true, false, leb, ◌⊎◌, ◌↔◌, List, [], ◌∷◌, ◌++◌, length, Decides, sym, refl, ap, ◌∙◌, subst, inl, inr, append_assoc, arith, length-append}
use mathlib.Core.Option.{Option, none, some}
use Rattle.std.proofs.lemmas.Bool.{cases_Bool, both_ways, leb-true, leb-false}
use Rattle.std.proofs.lemmas.Bool.Decides.{Decides-like}
use Rattle.model.specs.Search.{fresh, explore, reached_from}
use Rattle.model.specs.Lists.{any, In, Distinct}
use Rattle.model.specs.SearchLaws.{Leads, here, further, MetBehind, InMeetingOrder, SearchExact}
use Rattle.model.proofs.Lists.{in_left, in_right, in_append, decides_any, distinct_append}

-- where y stands in two lists, one behind the other
split_append : {X : Type 0} (L M before : List X) (y : X) (behind : List X) → L ++ M ≡ before ++ (y ∷ behind)
    → ((more : List X) × (L ≡ before ++ (y ∷ more))) ⊎ ((front : List X) × (before ≡ L ++ front) × (M ≡ front ++ (y ∷ behind)))
split_append [] M before y behind e = inr (before, refl, e)
split_append (x ∷ L) M [] y behind e = inl (L, (let f : x ≡ y = cc in cc))
split_append {X} (x ∷ L) M (b ∷ before) y behind e = go (split_append L M before y behind (cc))
  where
    f : x ≡ b
    f = cc

    go : ((more : List X) × (L ≡ before ++ (y ∷ more))) ⊎ ((front : List X) × (before ≡ L ++ front) × (M ≡ front ++ (y ∷ behind)))
        → ((more : List X) × (x ∷ L ≡ (b ∷ before) ++ (y ∷ more))) ⊎ ((front : List X) × (b ∷ before ≡ (x ∷ L) ++ front) × (M ≡ front ++ (y ∷ behind)))
    go (inl (more, g)) = inl (more, cc)
    go (inr (front, g, h)) = inr (front, cc, h)

module _ {X : Type 0} (same : X → X → Bool) (decides : (a b : X) → Decides (same a b) (a ≡ b)) where
  pub decides_met : (met : List X) (x : X) → Decides (any (same x) met) (In met x)
  decides_met met x =
      Decides-like (any (same x) met) (λ r. subst (λ y. In met y) (sym r.2) r.1) (λ i. (x, i, refl))
      (decides_any (same x) (λ y. x ≡ y) (decides x) met)

  fresh_old : (met xs : List X) (x : X) → any (same x) met ≡ true → fresh same met (x ∷ xs) ≡ fresh same met xs
  fresh_old met xs x t = rw (t, fresh)

  fresh_new : (met xs : List X) (x : X) → any (same x) met ≡ false → fresh same met (x ∷ xs) ≡ x ∷ fresh same (x ∷ met) xs
  fresh_new met xs x n = rw (n, fresh)

  unmet : (met : List X) (x : X) → any (same x) met ≡ false → In met x → ⊥
  unmet met x n i = both_ways (any (same x) met) n ((decides_met met x).1 i)

  fresh_in : (met xs : List X) (y : X) → In (fresh same met xs) y → In xs y × (In met y → ⊥)
  fresh_in met [] y i = absurd i
  fresh_in met (x ∷ xs) y i = go (cases_Bool (any (same x) met)) (fresh_in met xs y) (fresh_in (x ∷ met) xs y)
    where
      new : any (same x) met ≡ false → (In (fresh same (x ∷ met) xs) y → In xs y × (In (x ∷ met) y → ⊥)) → (y ≡ x) ⊎ In (fresh same (x ∷ met) xs) y → In (x ∷ xs) y × (In met y → ⊥)
      new n later (inl e) = (inl e, λ j. unmet met x n (subst (λ z. In met z) e j))
      new n later (inr j) = let (a, b) = later j in (inr a, λ k. b (inr k))

      go : (any (same x) met ≡ true) ⊎ (any (same x) met ≡ false) → (In (fresh same met xs) y → In xs y × (In met y → ⊥))
          → (In (fresh same (x ∷ met) xs) y → In xs y × (In (x ∷ met) y → ⊥)) → In (x ∷ xs) y × (In met y → ⊥)
      go (inl t) below later = let (a, b) = below (subst (λ l. In l y) (fresh_old met xs x t) i) in (inr a, b)
      go (inr n) below later = new n later (subst (λ l. In l y) (fresh_new met xs x n) i)

  in_fresh : (met xs : List X) (y : X) → In xs y → In met y ⊎ In (fresh same met xs) y
  in_fresh met [] y i = absurd i
  in_fresh met (x ∷ xs) y i = go (cases_Bool (any (same x) met)) i (in_fresh met xs y) (in_fresh (x ∷ met) xs y)
    where
      old : any (same x) met ≡ true → In met y ⊎ In (fresh same met xs) y → In met y ⊎ In (fresh same met (x ∷ xs)) y
      old t (inl j) = inl j
      old t (inr j) = inr (subst (λ l. In l y) (sym (fresh_old met xs x t)) j)

      new : any (same x) met ≡ false → In (x ∷ met) y ⊎ In (fresh same (x ∷ met) xs) y → In met y ⊎ In (fresh same met (x ∷ xs)) y
      new n (inl (inl e)) = inr (subst (λ l. In l y) (sym (fresh_new met xs x n)) (inl e))
      new n (inl (inr j)) = inl j
      new n (inr j) = inr (subst (λ l. In l y) (sym (fresh_new met xs x n)) (inr j))

      go : (any (same x) met ≡ true) ⊎ (any (same x) met ≡ false) → (y ≡ x) ⊎ In xs y → (In xs y → In met y ⊎ In (fresh same met xs) y)
          → (In xs y → In (x ∷ met) y ⊎ In (fresh same (x ∷ met) xs) y) → In met y ⊎ In (fresh same met (x ∷ xs)) y
      go (inl t) (inl e) below later = inl (subst (λ z. In met z) (sym e) ((decides_met met x).0 t))
      go (inl t) (inr j) below later = old t (below j)
      go (inr n) (inl e) below later = inr (subst (λ l. In l y) (sym (fresh_new met xs x n)) (inl e))
      go (inr n) (inr j) below later = new n (later j)

  fresh_distinct : (met xs : List X) → Distinct (fresh same met xs)
  fresh_distinct met [] = tt
  fresh_distinct met (x ∷ xs) = go (cases_Bool (any (same x) met)) (fresh_distinct met xs) (fresh_distinct (x ∷ met) xs)
    where
      go : (any (same x) met ≡ true) ⊎ (any (same x) met ≡ false) → Distinct (fresh same met xs) → Distinct (fresh same (x ∷ met) xs) → Distinct (fresh same met (x ∷ xs))
      go (inl t) below later = subst (λ l. Distinct l) (sym (fresh_old met xs x t)) below
      go (inr n) below later =
          subst (λ l. Distinct l) (sym (fresh_new met xs x n)) ((λ i. (fresh_in (x ∷ met) xs x i).1 (inl refl)), later)

  -- what is fresh in front of y: y stands in the list, and all before it there was met, or is fresh and in front of y
  fresh_split : (met xs front : List X) (y : X) (behind : List X) → fresh same met xs ≡ front ++ (y ∷ behind)
      → (left : List X) × (right : List X) × (xs ≡ left ++ (y ∷ right)) × ((w : X) → In left w → In met w ⊎ In front w)
  fresh_split met [] front y behind e = absurd (omega (arith, ap length e, length-append front (y ∷ behind)))
  fresh_split met (x ∷ xs) front y behind e = go (cases_Bool (any (same x) met)) front e (fresh_split met xs) (fresh_split (x ∷ met) xs)
    where
      go : (any (same x) met ≡ true) ⊎ (any (same x) met ≡ false) → (front : List X) → fresh same met (x ∷ xs) ≡ front ++ (y ∷ behind)
          → ((front : List X) (y : X) (behind : List X) → fresh same met xs ≡ front ++ (y ∷ behind)
          → (left : List X) × (right : List X) × (xs ≡ left ++ (y ∷ right)) × ((w : X) → In left w → In met w ⊎ In front w))
          → ((front : List X) (y : X) (behind : List X) → fresh same (x ∷ met) xs ≡ front ++ (y ∷ behind)
          → (left : List X) × (right : List X) × (xs ≡ left ++ (y ∷ right)) × ((w : X) → In left w → In (x ∷ met) w ⊎ In front w))
          → (left : List X) × (right : List X) × (x ∷ xs ≡ left ++ (y ∷ right)) × ((w : X) → In left w → In met w ⊎ In front w)
      go (inl t) front e below later =
          let (left, right, f, h) = below front y behind (sym (fresh_old met xs x t) ∙ e) in
          (x ∷ left, right, ap {B = List X} (λ l. x ∷ l) f, λ w i. old left h w i)
        where
          old : (left : List X) → ((w : X) → In left w → In met w ⊎ In front w) → (w : X) → (w ≡ x) ⊎ In left w → In met w ⊎ In front w
          old left h w (inl s) = inl (subst (λ z. In met z) (sym s) ((decides_met met x).0 t))
          old left h w (inr i) = h w i
      go (inr n) [] e below later = let f : x ∷ fresh same (x ∷ met) xs ≡ y ∷ behind = sym (fresh_new met xs x n) ∙ e in ([], xs, (let g : x ≡ y = cc in cc), λ w i. absurd i)
      go (inr n) (v ∷ front) e below later =
          let f : x ∷ fresh same (x ∷ met) xs ≡ v ∷ (front ++ (y ∷ behind)) = sym (fresh_new met xs x n) ∙ e in
          let g : x ≡ v = cc in
          let (left, right, k, h) = later front y behind (cc) in
          (x ∷ left, right, ap {B = List X} (λ l. x ∷ l) k, λ w i. new left h g w i)
        where
          moved : (w : X) → x ≡ v → In (x ∷ met) w ⊎ In front w → In met w ⊎ In (v ∷ front) w
          moved w g (inl (inl s)) = inr (inl (s ∙ g))
          moved w g (inl (inr i)) = inl i
          moved w g (inr i) = inr (inr i)

          new : (left : List X) → ((w : X) → In left w → In (x ∷ met) w ⊎ In front w) → x ≡ v → (w : X) → (w ≡ x) ⊎ In left w → In met w ⊎ In (v ∷ front) w
          new left h g w (inl s) = inr (inl (s ∙ g))
          new left h g w (inr i) = moved w g (h w i)

  module _ (next : X → List X) (room : ℕ) (x : X) where
    pub record Listed (L : List X) : Type 0 where
      pub few : length L ≤ room
      pub once : Distinct L
      pub has : (y : X) → In L y → Leads next x y
      pub all : (y : X) → Leads next x y → In L y
      pub ordered : InMeetingOrder next x L

    abbrev pub Over : Type 0
    Over = (L : List X) × Distinct L × ((y : X) → In L y → Leads next x y) × (room < length L)

    abbrev pub Result : Option (List X) → Type 0
    Result none = Over
    Result (some L) = Listed L

    record Inv (turns : ℕ) (done met waiting : List X) : Type 0 where
      few : length met ≤ room
      once : Distinct met
      has : (y : X) → In met y → Leads next x y
      start : In met x
      waits : (y : X) → In waiting y → In met y
      closed : (y z : X) → In met y → In (next y) z → In met z ⊎ In waiting y
      budget : room + length waiting ≤ turns + length met
      order : met ≡ done ++ waiting
      ordered : InMeetingOrder next x met

    ended : (turns : ℕ) (done met : List X) → Inv turns done met [] → Listed met
    ended turns done met i =
        record {
          few = i.few;
          once = i.once;
          has = i.has;
          all = λ y l. lead l;
          ordered = i.ordered;
        }
      where
        on : (y z : X) → In met z ⊎ In [] y → In met z
        on y z (inl j) = j
        on y z (inr j) = absurd j

        lead : {y : X} → Leads next x y → In met y
        lead here = i.start
        lead (further {y} z l j) = on y z (i.closed y z (lead l) j)

    module _ (turns : ℕ) (done met : List X) (w : X) (waiting : List X) (i : Inv (suc turns) done met (w ∷ waiting)) where
      new : List X
      new = fresh same met (next w)

      met_on : Distinct (met ++ new) × ((y : X) → In (met ++ new) y → Leads next x y)
      unfolding new
      met_on = (
        distinct_append met new i.once (fresh_distinct met (next w)) (λ y a b. (fresh_in met (next w) y b).1 a),
        λ y j. lead y (in_append met new y j),
      )
        where
          lead : (y : X) → In met y ⊎ In new y → Leads next x y
          lead y (inl j) = i.has y j
          lead y (inr j) = further {y = w} y (i.has w (i.waits w (inl refl))) (fresh_in met (next w) y j).0

      turn : length (met ++ new) ≤ room → Inv turns (done ++ (w ∷ [])) (met ++ new) (waiting ++ new)
      unfolding new
      turn fits =
          record {
            few = fits;
            once = met_on.0;
            has = met_on.1;
            start = in_left met new x i.start;
            waits = λ y j. wait y (in_append waiting new y j);
            closed = λ y z j k. close y z (in_append met new y j) k;
            budget = omega (arith, i.budget, length-append waiting new, length-append met new);
            order = ap (λ l. l ++ new) i.order ∙ append_assoc done (w ∷ waiting) new ∙ sym (append_assoc done (w ∷ []) (waiting ++ new));
            ordered = λ before y behind e. stand before y behind (split_append met new before y behind e);
          }
        where
          wait : (y : X) → In waiting y ⊎ In new y → In (met ++ new) y
          wait y (inl j) = in_left met new y (i.waits y (inr j))
          wait y (inr j) = in_right met new y j

          both : (z : X) → In met z ⊎ In new z → In (met ++ new) z
          both z (inl j) = in_left met new z j
          both z (inr j) = in_right met new z j

          close : (y z : X) → In met y ⊎ In new y → In (next y) z → In (met ++ new) z ⊎ In (waiting ++ new) y
          close y z (inr j) k = inr (in_right waiting new y j)
          close y z (inl j) k = go (i.closed y z j k)
            where
              go : In met z ⊎ In (w ∷ waiting) y → In (met ++ new) z ⊎ In (waiting ++ new) y
              go (inl h) = inl (in_left met new z h)
              go (inr (inl e)) = inl (both z (in_fresh met (next w) z (subst (λ v. In (next v) z) e k)))
              go (inr (inr h)) = inr (in_left waiting new y h)

          -- the neighbours of a node whose turn is over are met
          over : (e z : X) → In done e → In (next e) z → In met z
          over e z j k = go (i.closed e z (subst (λ l. In l e) (sym i.order) (in_left done (w ∷ waiting) e j)) k)
            where
              twice : (l m : List X) → Distinct (l ++ m) → In l e → In m e → ⊥
              twice [] m d a b = a
              twice (v ∷ l) m d (inl s) b = d.0 (subst (λ u. In (l ++ m) u) s (in_right l m e b))
              twice (v ∷ l) m d (inr a) b = twice l m d.1 a b

              go : In met z ⊎ In (w ∷ waiting) e → In met z
              go (inl h) = h
              go (inr h) = absurd (twice done (w ∷ waiting) (subst (λ l. Distinct l) i.order i.once) j h)

          stand : (before : List X) (y : X) (behind : List X)
              → ((more : List X) × (met ≡ before ++ (y ∷ more))) ⊎ ((front : List X) × (before ≡ met ++ front) × (new ≡ front ++ (y ∷ behind)))
              → ((before ≡ []) × (y ≡ x)) ⊎ MetBehind next before y
          stand before y behind (inl (more, e)) = i.ordered before y more e
          stand before y behind (inr (front, e, f)) =
              let (left, right, g, h) = fresh_split met (next w) front y behind f in
              inr (
                done,
                w,
                waiting ++ front,
                left,
                right,
                e ∙ ap (λ l. l ++ front) i.order ∙ append_assoc done (w ∷ waiting) front,
                g,
                λ v j. subst (λ l. In l v) (sym e) (here_or v (h v j)),
                λ d v j k. subst (λ l. In l v) (sym e) (in_left met front v (over d v j k)),
              )
            where
              here_or : (v : X) → In met v ⊎ In front v → In (met ++ front) v
              here_or v (inl j) = in_left met front v j
              here_or v (inr j) = in_right met front v j

    explored : (turns : ℕ) (done met waiting : List X) → Inv turns done met waiting → Result (explore same next room turns met waiting)
    unfolding new
    explored zero done met [] i = ended zero done met i
    explored zero done met (w ∷ waiting) i = absurd (omega (arith, i.budget, i.few))
    explored (suc turns) done met [] i = ended (suc turns) done met i
    explored (suc turns) done met (w ∷ waiting) i =
        go (cases_Bool (leb (length (met ++ fresh same met (next w))) room)) (explored turns (done ++ (w ∷ [])) (met ++ fresh same met (next w)) (waiting ++ fresh same met (next w)))
      where
        go : (leb (length (met ++ fresh same met (next w))) room ≡ true) ⊎ (leb (length (met ++ fresh same met (next w))) room ≡ false)
            → (Inv turns (done ++ (w ∷ [])) (met ++ fresh same met (next w)) (waiting ++ fresh same met (next w)) → Result (explore same next room turns (met ++ fresh same met (next w)) (waiting ++ fresh same met (next w))))
            → Result (explore same next room (suc turns) met (w ∷ waiting))
        go (inl t) below = rw (t, explore) (below (turn turns done met w waiting i (leb-true (length (met ++ fresh same met (next w))) room t)))
        go (inr n) below =
            let r : Distinct (met ++ fresh same met (next w)) × ((y : X) → In (met ++ fresh same met (next w)) y → Leads next x y) = met_on turns done met w waiting i in
            rw (n, explore) (met ++ fresh same met (next w), r.0, r.1, leb-false (length (met ++ fresh same met (next w))) room n)

    pub searched : Result (reached_from same next room x)
    unfolding reached_from
    searched = go (cases_Bool (leb 1 room))
      where
        go : (leb 1 room ≡ true) ⊎ (leb 1 room ≡ false) → Result (reached_from same next room x)
        go (inl t) =
            let h : 1 ≤ room = leb-true 1 room t in
            let e : reached_from same next room x ≡ explore same next room room (x ∷ []) (x ∷ []) = rw (t, reached_from) in
            subst Result (sym e) (explored room [] (x ∷ []) (x ∷ [])
            record {
              few = omega arith;
              once = ((λ i. i), tt);
              has = λ y i. first y i;
              start = inl refl;
              waits = λ y i. i;
              closed = λ y z i j. inr i;
              budget = omega arith;
              order = refl;
              ordered = λ before y behind e. only before y behind e;
            })
          where
            first : (y : X) → (y ≡ x) ⊎ ⊥ → Leads next x y
            first y (inl e) = subst (λ z. Leads next x z) (sym e) here
            first y (inr b) = absurd b

            only : (before : List X) (y : X) (behind : List X) → x ∷ [] ≡ before ++ (y ∷ behind)
                → ((before ≡ []) × (y ≡ x)) ⊎ MetBehind next before y
            only [] y behind e = inl (refl, cc)
            only (v ∷ before) y behind e = absurd (omega (arith, ap length e, length-append before (y ∷ behind)))
        go (inr n) =
            let h : room < 1 = leb-false 1 room n in
            let e : reached_from same next room x ≡ none = rw (n, reached_from) in
            subst Result (sym e) (x ∷ [], ((λ i. i), tt), (λ y i. first y i), omega arith)
          where
            first : (y : X) → (y ≡ x) ⊎ ⊥ → Leads next x y
            first y (inl e) = subst (λ z. Leads next x z) (sym e) here
            first y (inr b) = absurd b

pub search_exact : (X : Type 0) → SearchExact X
search_exact X same next decides room x = (
  λ L e. list L (subst (Result same decides next room x) e (searched same decides next room x)),
  λ e. subst (Result same decides next room x) e (searched same decides next room x),
)
  where
    list : (L : List X) → Listed same decides next room x L → Distinct L × (length L ≤ room) × ((y : X) → In L y ↔ Leads next x y) × InMeetingOrder next x L
    list L r = (r.once, r.few, λ y. (r.has y, r.all y), r.ordered)
