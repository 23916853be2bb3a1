-- The two readers that go up to the line end: digits, and the rest of a name.
use Rattle.std.proofs.Common.{◌≡◌, ℕ, suc, ◌+◌, ◌-◌, Bool, true, false, eqb, List, [], ◌∷◌, ◌++◌, sym, refl, ap, ◌∙◌, subst, inl, inr, ⊎_elim, arith}
use Rattle.std.proofs.lemmas.Bool.{eqb-true}
use Rattle.model.specs.Lists.{every, joined}
use Rattle.model.specs.Text.{digit_byte, one_digit, digit_word}
use Rattle.model.specs.Reading.{Part, part, wrong, digits}
use Rattle.model.proofs.Reading.Basics.{by_test, true_false, part_wrong, wrong_same, part_same}
use Rattle.model.proofs.Reading.Readers.{Takes, Stops, Proper}
use Rattle.model.proofs.Reading.Words.{digit_value, digit_written}

-- every, one step
pub every_cons : {X : Type 0} (f : X → Bool) (x : X) (xs : List X) → f x ≡ true → every f xs ≡ true → every f (x ∷ xs) ≡ true
every_cons f x xs e d = cc

pub every_parts : {X : Type 0} (f : X → Bool) (x : X) (xs : List X) → every f (x ∷ xs) ≡ true → (f x ≡ true) × (every f xs ≡ true)
every_parts f x xs e = by_test (f x) (λ t. (t, cc)) (λ t. let z : every f (x ∷ xs) ≡ false = cc in true_false e z)

-- DIGITS

pub data Digits : List ℕ → Type 0 where
  none : Digits []
  end : (w : List ℕ) → Digits (10 ∷ w)
  lone : Digits (32 ∷ [])
  other : (b : ℕ) (w : List ℕ) → eqb b 10 ≡ false → eqb b 32 ≡ false → Digits (b ∷ w)
  no_digit : (d : ℕ) (w : List ℕ) → digit_byte d ≡ false → Digits (32 ∷ d ∷ w)
  more : (d : ℕ) (w : List ℕ) → digit_byte d ≡ true → Digits w → Digits (32 ∷ d ∷ w)

pub see : (bytes : List ℕ) → Digits bytes
see [] = none
see (b ∷ []) =
    by_test (eqb b 10) (λ e. subst (λ z. Digits (z ∷ [])) (sym (eqb-true b 10 e)) (end []))
    (λ e. by_test (eqb b 32) (λ s. subst (λ z. Digits (z ∷ [])) (sym (eqb-true b 32 s)) lone) (λ s. other b [] e s))
see (b ∷ d ∷ w) =
    let rest = see w in
    by_test (eqb b 10) (λ e. subst (λ z. Digits (z ∷ d ∷ w)) (sym (eqb-true b 10 e)) (end (d ∷ w)))
    (λ e. by_test (eqb b 32)
    (λ s. subst (λ z. Digits (z ∷ d ∷ w)) (sym (eqb-true b 32 s)) (by_test (digit_byte d) (λ t. more d w t rest) (λ t. no_digit d w t)))
    (λ s. other b (d ∷ w) e s))

pub digits_end : (i : ℕ) (w : List ℕ) → digits i (10 ∷ w) ≡ part [] (suc i) w
digits_end i [] = refl
digits_end i (d ∷ w) = refl

pub digits_other : (i b : ℕ) (w : List ℕ) → eqb b 10 ≡ false → eqb b 32 ≡ false → digits i (b ∷ w) ≡ wrong i
digits_other i b [] e s = cc
digits_other i b (d ∷ w) e s = cc

pub digits_no_digit : (i d : ℕ) (w : List ℕ) → digit_byte d ≡ false → digits i (32 ∷ d ∷ w) ≡ wrong (suc i)
digits_no_digit i d w e = cc

digits_more : (i d : ℕ) (w : List ℕ) (ds : List ℕ) (j : ℕ) (rest : List ℕ) → digit_byte d ≡ true → digits (suc (suc i)) w ≡ part ds j rest
    → digits i (32 ∷ d ∷ w) ≡ part ((d - 48) ∷ ds) j rest
digits_more i d w ds j rest e h = cc

digits_more_wrong : (i d : ℕ) (w : List ℕ) (j : ℕ) → digit_byte d ≡ true → digits (suc (suc i)) w ≡ wrong j → digits i (32 ∷ d ∷ w) ≡ wrong j
digits_more_wrong i d w j e h = cc

-- what the digits gave behind one more
pub digits_cases : {P : Type 0} (i d : ℕ) (w : List ℕ) → digit_byte d ≡ true
    → ((ds : List ℕ) (j : ℕ) (rest : List ℕ) → digits (suc (suc i)) w ≡ part ds j rest → digits i (32 ∷ d ∷ w) ≡ part ((d - 48) ∷ ds) j rest → P)
    → ((j : ℕ) → digits (suc (suc i)) w ≡ wrong j → digits i (32 ∷ d ∷ w) ≡ wrong j → P) → P
digits_cases {P} i d w e a b = go (digits (suc (suc i)) w) refl
  where
    go : (o : Part (List ℕ)) → digits (suc (suc i)) w ≡ o → P
    go (part ds j rest) h = a ds j rest h (digits_more i d w ds j rest e h)
    go (wrong j) h = b j h (digits_more_wrong i d w j e h)

digits_takes : {bytes : List ℕ} → Digits bytes → (i : ℕ) (x : List ℕ) (j : ℕ) (rest : List ℕ) → digits i bytes ≡ part x j rest → Takes digits i bytes x j rest
digits_takes none i x j rest e = part_wrong (sym e)
digits_takes (end w) i x j rest e =
    let s = part_same (sym (digits_end i w) ∙ e) in
    record {
      eaten = 10 ∷ [];
      split = ap (λ z. 10 ∷ z) s.behind;
      count = omega (arith, s.place);
      again = λ v. digits_end i v ∙ ap (λ z. part z (suc i) v) s.value ∙ ap (λ k. part x k v) s.place;
    }
digits_takes lone i x j rest e = part_wrong (sym e)
digits_takes (other b w t s) i x j rest e = part_wrong (sym e ∙ digits_other i b w t s)
digits_takes (no_digit d w t) i x j rest e = part_wrong (sym e ∙ digits_no_digit i d w t)
digits_takes (more d w t v) i x j rest e =
    let ih = digits_takes v (suc (suc i)) in
    digits_cases i d w t
    (λ ds k r h c.
    let s = part_same (sym c ∙ e) in
    let u = ih ds k r h in
    record {
      eaten = 32 ∷ d ∷ u.eaten;
      split = ap (λ z. 32 ∷ d ∷ z) (u.split ∙ ap (λ z. u.eaten ++ z) s.behind);
      count = omega (arith, s.place, u.count);
      again = λ z. digits_more i d (u.eaten ++ z) ds k z t (u.again z) ∙ ap (λ y. part y k z) s.value ∙ ap (λ n. part x n z) s.place;
    })
    (λ k h c. part_wrong (sym e ∙ c))

digits_stops : {bytes : List ℕ} → Digits bytes → (i j : ℕ) → digits i bytes ≡ wrong j → Stops digits i bytes j
digits_stops none i j e =
    let s = wrong_same e in
    record {
      front = [];
      back = [];
      split = refl;
      count = omega (arith, s);
      more = 10 ∷ [];
      some_more = omega arith;
      value = [];
      place = suc i;
      goes = refl;
      halts = inl refl;
    }
digits_stops (end w) i j e = part_wrong (sym (digits_end i w) ∙ e)
digits_stops lone i j e =
    let s = wrong_same e in
    record {
      front = 32 ∷ [];
      back = [];
      split = refl;
      count = omega (arith, s);
      more = 48 ∷ 10 ∷ [];
      some_more = omega arith;
      value = 0 ∷ [];
      place = suc (suc (suc i));
      goes = refl;
      halts = inl refl;
    }
digits_stops (other b w t q) i j e =
    let s = wrong_same (sym (digits_other i b w t q) ∙ e) in
    record {
      front = [];
      back = b ∷ w;
      split = refl;
      count = omega (arith, s);
      more = 10 ∷ [];
      some_more = omega arith;
      value = [];
      place = suc i;
      goes = refl;
      halts = inr (b, w, refl, λ z. digits_other i b z t q ∙ ap wrong s);
    }
digits_stops (no_digit d w t) i j e =
    let s = wrong_same (sym (digits_no_digit i d w t) ∙ e) in
    record {
      front = 32 ∷ [];
      back = d ∷ w;
      split = refl;
      count = omega (arith, s);
      more = 48 ∷ 10 ∷ [];
      some_more = omega arith;
      value = 0 ∷ [];
      place = suc (suc (suc i));
      goes = refl;
      halts = inr (d, w, refl, λ z. digits_no_digit i d z t ∙ ap wrong s);
    }
digits_stops (more d w t v) i j e =
    let ih = digits_stops v (suc (suc i)) in
    digits_cases i d w t
    (λ ds k r h c. part_wrong (sym c ∙ e))
    (λ k h c.
    let s : k ≡ j = wrong_same (sym c ∙ e) in
    let u = ih k h in
    record {
      front = 32 ∷ d ∷ u.front;
      back = u.back;
      split = ap (λ z. 32 ∷ d ∷ z) u.split;
      count = omega (arith, s, u.count);
      more = u.more;
      some_more = u.some_more;
      value = (d - 48) ∷ u.value;
      place = u.place;
      goes = digits_more i d (u.front ++ u.more) u.value u.place [] t u.goes;
      halts = ⊎_elim (λ q. inl q) (λ q. inr (q.0, q.1, q.2, λ z. digits_more_wrong i d (u.front ++ (q.0 ∷ z)) k t (q.3 z) ∙ ap wrong s)) u.halts;
    })

pub digits_proper : Proper digits
digits_proper = record { takes = λ i bytes. digits_takes (see bytes) i; stops = λ i bytes. digits_stops (see bytes) i }

pub record ReadDigits (bytes : List ℕ) (ds rest : List ℕ) : Type 0 where
  pub good : every one_digit ds ≡ true
  pub split : bytes ≡ joined digit_word ds ++ (10 ∷ rest)

sound : {bytes : List ℕ} → Digits bytes → (i : ℕ) (x : List ℕ) (j : ℕ) (rest : List ℕ) → digits i bytes ≡ part x j rest → ReadDigits bytes x rest
sound none i x j rest e = part_wrong (sym e)
sound (end w) i x j rest e =
    let s = part_same (sym (digits_end i w) ∙ e) in
    record { good = subst (λ z. every one_digit z ≡ true) s.value refl; split = subst (λ z. 10 ∷ w ≡ joined digit_word z ++ (10 ∷ rest)) s.value (ap (λ z. 10 ∷ z) s.behind) }
sound lone i x j rest e = part_wrong (sym e)
sound (other b w t s) i x j rest e = part_wrong (sym e ∙ digits_other i b w t s)
sound (no_digit d w t) i x j rest e = part_wrong (sym e ∙ digits_no_digit i d w t)
sound (more d w t v) i x j rest e =
    let ih = sound v (suc (suc i)) in
    digits_cases i d w t
    (λ ds k r h c.
    let s = part_same (sym c ∙ e) in
    let u = ih ds k r h in
    let a = digit_value d t in
    let whole : 32 ∷ d ∷ w ≡ joined digit_word ((d - 48) ∷ ds) ++ (10 ∷ rest) =
    ap (λ z. 32 ∷ d ∷ z) (u.split ∙ ap (λ z. joined digit_word ds ++ (10 ∷ z)) s.behind) ∙ ap (λ z. 32 ∷ z ∷ (joined digit_word ds ++ (10 ∷ rest))) (sym a.1) in
    record {
      good = subst (λ z. every one_digit z ≡ true) s.value (every_cons one_digit (d - 48) ds a.0 u.good);
      split = subst (λ z. 32 ∷ d ∷ w ≡ joined digit_word z ++ (10 ∷ rest)) s.value whole;
    })
    (λ k h c. part_wrong (sym e ∙ c))

pub digits_sound : (i : ℕ) (bytes x : List ℕ) (j : ℕ) (rest : List ℕ) → digits i bytes ≡ part x j rest → ReadDigits bytes x rest
digits_sound i bytes x j rest e = sound (see bytes) i x j rest e

pub digits_complete : (ds : List ℕ) (i : ℕ) (rest : List ℕ) → every one_digit ds ≡ true → (j : ℕ) × (digits i (joined digit_word ds ++ (10 ∷ rest)) ≡ part ds j rest)
digits_complete [] i rest h = (suc i, digits_end i rest)
digits_complete (d ∷ ds) i rest h =
    let p = every_parts one_digit d ds h in
    let v = digit_written d p.0 in
    let ih = digits_complete ds (suc (suc i)) rest p.1 in
    (ih.0, digits_more i (d + 48) (joined digit_word ds ++ (10 ∷ rest)) ds ih.0 rest v.0 ih.1 ∙ ap (λ z. part (z ∷ ds) ih.0 rest) v.1)
