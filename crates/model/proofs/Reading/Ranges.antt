-- The first number out of range.
use Rattle.std.proofs.Common.{◌≡◌, Bool, true, false, not, ltb, leb, List, [], ◌∷◌, ◌++◌, sym, refl, ap, ◌∙◌, subst, inl, inr, ⊎_elim}
use mathlib.Core.Option.{none, some}
use Rattle.std.proofs.lemmas.Bool.{and_parts, and_from, leb-true, ltb-true, le-leb, lt-ltb, not-true, not-false, not_from_true}
use Rattle.model.specs.Lists.{first, In}
use Rattle.model.specs.Text.{Number, inside}
use Rattle.model.specs.ReadingLaws.{Inside}
use Rattle.model.proofs.Reading.Basics.{by_test, true_false}

pub none_some : {P X : Type 0} {x : X} → none ≡ some x → P
none_some {P} e = let z : true ≡ false = ap (elim [ none ↦ true | some y ↦ false ]) e in true_false (sym z) refl

pub some_same : {X : Type 0} {x y : X} → some x ≡ some y → x ≡ y
some_same e = cc

pub inside_true : (k : Number) → inside k ≡ true → Inside k
inside_true k e = let p = and_parts (leb k.least k.value) (ltb k.value k.under) e in (leb-true k.least k.value p.0, ltb-true k.value k.under p.1)

pub true_inside : (k : Number) → Inside k → inside k ≡ true
true_inside k h = and_from (leb k.least k.value) (ltb k.value k.under) (le-leb k.least k.value h.0) (lt-ltb k.value k.under h.1)

abbrev pub outside : Number → Bool
outside k = not (inside k)

abbrev pub AllInside : List Number → Type 0
AllInside ks = (k : Number) → In ks k → Inside k

outside_false : (k : Number) → Inside k → outside k ≡ false
outside_false k h = not_from_true (inside k) (true_inside k h)

first_step : (k : Number) (ks : List Number) → outside k ≡ false → first outside (k ∷ ks) ≡ first outside ks
first_step k ks t = cc

first_here : (k : Number) (ks : List Number) → outside k ≡ true → first outside (k ∷ ks) ≡ some k
first_here k ks t = cc

pub first_none : (ks : List Number) → first outside ks ≡ none → AllInside ks
first_none [] e k h = absurd h
first_none (j ∷ ks) e k h =
    by_test (outside j)
    (λ t. none_some (sym e ∙ first_here j ks t))
    (λ t. ⊎_elim (λ d. subst (λ z. Inside z) (sym d) (inside_true j (not-false (inside j) t))) (λ d. first_none ks (sym (first_step j ks t) ∙ e) k d) h)

pub none_first : (ks : List Number) → AllInside ks → first outside ks ≡ none
none_first [] h = refl
none_first (k ∷ ks) h = first_step k ks (outside_false k (h k (inl refl))) ∙ none_first ks (λ j d. h j (inr d))

-- the first that lies outside, with those before and behind it
pub record Outside (ks : List Number) (k : Number) : Type 0 where
  pub good : List Number
  pub others : List Number
  pub split : ks ≡ good ++ (k ∷ others)
  pub before : AllInside good
  pub out : Inside k → ⊥

pub first_some : (ks : List Number) (k : Number) → first outside ks ≡ some k → Outside ks k
first_some [] k e = none_some e
first_some (j ∷ ks) k e =
    let ih = first_some ks k in
    by_test (outside j)
    (λ t.
    let is : j ≡ k = some_same (sym (first_here j ks t) ∙ e) in
    record {
      good = [];
      others = ks;
      split = ap (λ z. z ∷ ks) is;
      before = λ z h. absurd h;
      out = λ h. true_false (true_inside k h) (subst (λ z. inside z ≡ false) is (not-true (inside j) t));
    })
    (λ t.
    let o = ih (sym (first_step j ks t) ∙ e) in
    record {
      good = j ∷ o.good;
      others = o.others;
      split = ap (λ z. j ∷ z) o.split;
      before = λ z h. ⊎_elim (λ d. subst (λ y. Inside y) (sym d) (inside_true j (not-false (inside j) t))) (λ d. o.before z d) h;
      out = o.out;
    })

pub some_first : (good : List Number) (k : Number) (others : List Number) → AllInside good → (Inside k → ⊥) → first outside (good ++ (k ∷ others)) ≡ some k
some_first [] k others h o = by_test (outside k) (λ t. first_here k others t) (λ t. absurd (o (inside_true k (not-false (inside k) t))))
some_first (j ∷ good) k others h o = first_step j (good ++ (k ∷ others)) (outside_false j (h j (inl refl))) ∙ some_first good k others (λ z d. h z (inr d)) o
