-- The links of the nodes met, as the successors of a node are met.
use Rattle.std.proofs.Common.{◌≡◌, ℕ, ◌+◌, ◌*◌, ◌<◌, ◌≤◌, Bool, true, List, [], ◌∷◌, ◌++◌, map, length, get_or, take, set, Some, None, fold, Option, sym, refl, ap, ◌∙◌, subst, inl, inr, mul-le-mul_right, suc-mul, arith, length-append}
use Rattle.std.specs.List.{range_with_len}
use borrow.Rule.Slice.PartMut.{put_mid, post_of}
use Rattle.std.proofs.lemmas.List.{length-take-le, get_or-take, get_or-append-add, get_or_append_left, get_or-set_same, get_or-set_other}
use Rattle.std.proofs.lemmas.Bool.{cases_lt, cases_eq}
use Rattle.std.proofs.lemmas.List.Sums.{fold_push}
use Rattle.std.proofs.lemmas.List.FromFn.{map-range_with_len_more}
use Rattle.model.specs.Search.{place}
use Rattle.search.specs.Meeting.{with_met, link_to, Link, LinkedFrom, Linked}
use Rattle.search.proofs.Places.{place_le, place_behind, place_front, place_one}
use Rattle.search.proofs.OneByOne.{met_extends, met_new, met_old}

-- a place in rows that stand one behind another
pub in_rows : (row i degree n len : ℕ) → row < n → i < degree → n * degree ≤ len → row * degree + i < len
in_rows row i degree n len lt k r = omega (arith, mul-le-mul_right degree lt, suc-mul row degree)

-- and a row there
pub row_in_rows : (row degree n len : ℕ) → row < n → n * degree ≤ len → row * degree + degree ≤ len
row_in_rows row degree n len lt r = omega (arith, mul-le-mul_right degree lt, suc-mul row degree)

-- of a list into which a part was written: what lies before the part
pub get_or_before : {X : Type 0} (a k : ℕ) (xs ys : List X) (j : ℕ) (d : X) → j < a → a ≤ length xs → get_or (put_mid a k xs ys) j d ≡ get_or xs j d
get_or_before a k xs ys j d lt le =
    let e = length-take-le a xs le in
    get_or_append_left (take a xs) (ys ++ post_of a k xs) d j (omega arith) ∙ get_or-take a xs j d lt

-- and what lies in it
pub get_or_inside : {X : Type 0} (a k : ℕ) (xs ys : List X) (i : ℕ) (d : X) → i < length ys → a ≤ length xs → get_or (put_mid a k xs ys) (a + i) d ≡ get_or ys i d
get_or_inside a k xs ys i d lt le =
    let e = length-take-le a xs le in
    ap (λ n. get_or (put_mid a k xs ys) (n + i) d) (sym e) ∙ get_or-append-add (take a xs) (ys ++ post_of a k xs) i d ∙ get_or_append_left ys (post_of a k xs) d i lt

-- the links of the first nodes met, wherever the row of each lies
abbrev pub LinkedBy : {X : Type 0} → (X → X → Bool) → ℕ → (X → ℕ → Option X) → List X → (ℕ → List (Option ℕ)) → ℕ → Type 0
LinkedBy {X} same degree successor met row_of rows =
    (k : ℕ) (d : X) → k < rows → LinkedFrom same successor met (row_of k) (get_or met k d) degree

module _ {X : Type 0} (same : X → X → Bool) where
  -- a link stays when more nodes are met
  link_stays : (m n : List X) (o : Option X) (link : Option ℕ) → Link same m o link → Link same (m ++ n) o link
  link_stays m n None link h = h
  link_stays m n (Some y) link h =
      (h.0 ∙ ap (λ k. Some k) (sym (place_front same m n y h.1)), omega (arith, length-append m n, place_front same m n y h.1, h.1))

  -- and so do the links of a node
  pub linked_stays : (successor : X → ℕ → Option X) (m new : List X) (links : List (Option ℕ)) (x : X) (n : ℕ)
      → LinkedFrom same successor m links x n → LinkedFrom same successor (m ++ new) links x n
  linked_stays successor m new links x n h i l = link_stays m new (successor x i) (get_or links i None) (h i l)

  -- and a meeting makes one
  link_met : ((x : X) → same x x ≡ true) → (m : List X) (o : Option X) → Link same (with_met same m o) o (link_to same m o)
  link_met itself m None = refl
  link_met itself m (Some y) = elim (cases_lt (place same m y) (length m)) [
    | inl h ↦ rw (met_old same m y h) (refl, h)
    | inr h ↦
        (let e : place same m y ≡ length m = omega (arith, place_le same m y) in
        let f : place same (m ++ (y ∷ [])) y ≡ place same m y = omega (arith, e, place_behind same m (y ∷ []) y e, place_one same y y (itself y)) in
        rw (met_new same m y h) (ap (λ k. Some k) (sym f), omega (arith, e, f, length-append m (y ∷ []))))
  ]

  -- one row more, of the node that stands at its place; the rows before it hold what they held
  pub linked_by_more : (degree : ℕ) (successor : X → ℕ → Option X) (m new n : List X) (links links' : ℕ → List (Option ℕ)) (x : X) (row : ℕ) (reached : List (Option ℕ))
      → n ≡ m ++ new → LinkedBy same degree successor m links row → row < length m → ((d : X) → get_or m row d ≡ x)
      → LinkedFrom same successor n reached x degree
      → ((k i : ℕ) → k < row → i < degree → get_or (links' k) i None ≡ get_or (links k) i None)
      → ((i : ℕ) → i < degree → get_or (links' row) i None ≡ get_or reached i None)
      → LinkedBy same degree successor n links' (row + 1)
  linked_by_more degree successor m new n links links' x row reached en h lm here l kept now k d lk i li = elim (cases_eq k row) [
    | inl e ↦
        subst (λ v. Link same n (successor (get_or n v d) i) (get_or (links' v) i None)) (sym e)
        (subst (λ v. Link same n (successor (get_or n row d) i) v) (sym (now i li))
        (subst (λ v. Link same n (successor v i) (get_or reached i None)) (sym (at row lm ∙ here d)) (l i li)))
    | inr ne ↦
        subst (λ v. Link same n (successor (get_or n k d) i) v) (sym (kept k i (omega (arith, lk, ne)) li))
        (subst (λ v. Link same n (successor v i) (get_or (links k) i None)) (sym (at k (omega (arith, lk, lm, ne))))
        (subst (λ v. Link same v (successor (get_or m k d) i) (get_or (links k) i None)) (sym en)
        (link_stays m new (successor (get_or m k d) i) (get_or (links k) i None) (h k d (omega (arith, lk, ne)) i li))))
  ]
    where
      at : (j : ℕ) → j < length m → get_or n j d ≡ get_or m j d
      at j lt = ap (λ v. get_or v j d) en ∙ get_or_append_left m new d j lt

  -- the same, of rows that a list holds
  pub linked_more : (degree : ℕ) (successor : X → ℕ → Option X) (m new n : List X) (links : List (List (Option ℕ))) (x : X) (row : ℕ) (reached : List (Option ℕ))
      → n ≡ m ++ new → Linked same degree successor m links row → row < length m → row < length links → ((d : X) → get_or m row d ≡ x)
      → LinkedFrom same successor n reached x degree → Linked same degree successor n (set links row reached) (row + 1)
  linked_more degree successor m new n links x row reached en h lm ll here l =
      linked_by_more degree successor m new n (λ k. get_or links k []) (λ k. get_or (set links row reached) k []) x row reached en h lm here l
      (λ k i lk li. ap (λ v. get_or v i None) (get_or-set_other links row k reached [] (omega (arith, lk))))
      (λ i li. ap (λ v. get_or v i None) (get_or-set_same links row reached [] ll))

  module _ (successor : X → ℕ → Option X) (before : List X) (x : X) where
    -- in the turn of x: so many of its successors are met, from the nodes met before
    pub record Spreading (m : List X) (links : List (Option ℕ)) (i : ℕ) : Type 0 where
      pub met : m ≡ fold (with_met same) before (map (successor x) (range_with_len 0 i))
      pub linked : LinkedFrom same successor m links x i

    pub spreading_more : ((y : X) → same y y ≡ true) → (m n : List X) (links : List (Option ℕ)) (i : ℕ) (link : Option ℕ) → Spreading m links i → i < length links
        → n ≡ with_met same m (successor x i) → link ≡ link_to same m (successor x i)
        → Spreading n (set links i link) (i + 1)
    spreading_more itself m n links i link s room en el =
        record {
          met =
              en ∙ ap {B = List X} (λ v. with_met same v (successor x i)) s.met
              ∙ sym (fold_push (with_met same) before (map (successor x) (range_with_len 0 i)) (successor x i))
              ∙ ap {B = List X} (λ v. fold (with_met same) before v) (sym (map-range_with_len_more (successor x) 0 i i (omega arith)));
          linked = λ j lj. elim (cases_eq j i) [
            | inl ji ↦ subst (λ v. Link same n (successor x v) (get_or (set links i link) v None)) (sym ji) last
            | inr ne ↦
                subst (λ v. Link same n (successor x j) v) (sym (get_or-set_other links i j link None ne))
                (subst (λ v. Link same v (successor x j) (get_or links j None)) (sym e)
                (link_stays m (met_extends same m (successor x i)).0 (successor x j) (get_or links j None) (s.linked j (omega (arith, ne)))))
          ];
        }
      where
        e : n ≡ m ++ (met_extends same m (successor x i)).0
        e = en ∙ (met_extends same m (successor x i)).1

        last : Link same n (successor x i) (get_or (set links i link) i None)
        last =
            subst (λ v. Link same n (successor x i) v) (sym (get_or-set_same links i link None room ∙ el))
            (subst (λ v. Link same v (successor x i) (link_to same m (successor x i))) (sym en) (link_met itself m (successor x i)))
