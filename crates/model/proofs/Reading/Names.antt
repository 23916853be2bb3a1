-- The rest of a name, up to the line end.
use Rattle.std.proofs.Common.{◌≡◌, ℕ, zero, suc, ◌≤◌, true, false, eqb, List, [], ◌∷◌, ◌++◌, length, sym, refl, ap, ◌∙◌, subst, inl, inr, ⊎_elim, arith}
use Rattle.std.proofs.lemmas.Bool.{eqb-true, ne_eqb}
use Rattle.model.specs.Lists.{every}
use Rattle.model.specs.Text.{name_byte}
use Rattle.model.specs.Reading.{Part, part, wrong, name_rest}
use Rattle.model.proofs.Reading.Basics.{by_test, true_false, part_wrong, wrong_same, part_same}
use Rattle.model.proofs.Reading.Readers.{Takes, Stops, Proper}
use Rattle.model.proofs.Reading.Digits.{every_cons, every_parts}

-- a byte of a name is no line end
pub no_end : (b : ℕ) → name_byte b ≡ true → eqb b 10 ≡ false
no_end b e = ne_eqb b 10 (λ s. let z : name_byte 10 ≡ true = subst (λ k. name_byte k ≡ true) s e in true_false z refl)

pub name_end : (n i : ℕ) (w : List ℕ) → name_rest n i (10 ∷ w) ≡ part [] (suc i) w
name_end zero i w = refl
name_end (suc n) i w = refl

pub name_over : (i b : ℕ) (w : List ℕ) → eqb b 10 ≡ false → name_rest zero i (b ∷ w) ≡ wrong i
name_over i b w e = cc

pub name_other : (n i b : ℕ) (w : List ℕ) → eqb b 10 ≡ false → name_byte b ≡ false → name_rest (suc n) i (b ∷ w) ≡ wrong i
name_other n i b w e t = cc

name_more : (n i b : ℕ) (w bs : List ℕ) (j : ℕ) (rest : List ℕ) → name_byte b ≡ true → name_rest n (suc i) w ≡ part bs j rest
    → name_rest (suc n) i (b ∷ w) ≡ part (b ∷ bs) j rest
name_more n i b w bs j rest t h = let e = no_end b t in cc

name_more_wrong : (n i b : ℕ) (w : List ℕ) (j : ℕ) → name_byte b ≡ true → name_rest n (suc i) w ≡ wrong j → name_rest (suc n) i (b ∷ w) ≡ wrong j
name_more_wrong n i b w j t h = let e = no_end b t in cc

pub name_cases : {P : Type 0} (n i b : ℕ) (w : List ℕ) → name_byte b ≡ true
    → ((bs : List ℕ) (j : ℕ) (rest : List ℕ) → name_rest n (suc i) w ≡ part bs j rest → name_rest (suc n) i (b ∷ w) ≡ part (b ∷ bs) j rest → P)
    → ((j : ℕ) → name_rest n (suc i) w ≡ wrong j → name_rest (suc n) i (b ∷ w) ≡ wrong j → P) → P
name_cases {P} n i b w t f g = go (name_rest n (suc i) w) refl
  where
    go : (o : Part (List ℕ)) → name_rest n (suc i) w ≡ o → P
    go (part bs j rest) h = f bs j rest h (name_more n i b w bs j rest t h)
    go (wrong j) h = g j h (name_more_wrong n i b w j t h)

-- the bytes behind: none, the line end, one more, a wrong one
data Names : ℕ → List ℕ → Type 0 where
  none : (n : ℕ) → Names n []
  end : (n : ℕ) (w : List ℕ) → Names n (10 ∷ w)
  over : (b : ℕ) (w : List ℕ) → eqb b 10 ≡ false → Names zero (b ∷ w)
  other : (n b : ℕ) (w : List ℕ) → eqb b 10 ≡ false → name_byte b ≡ false → Names (suc n) (b ∷ w)
  more : (n b : ℕ) (w : List ℕ) → name_byte b ≡ true → Names n w → Names (suc n) (b ∷ w)

see : (bytes : List ℕ) (n : ℕ) → Names n bytes
see [] n = none n
see (b ∷ w) zero = by_test (eqb b 10) (λ e. subst (λ z. Names zero (z ∷ w)) (sym (eqb-true b 10 e)) (end zero w)) (λ e. over b w e)
see (b ∷ w) (suc n) =
    let ih = see w n in
    by_test (eqb b 10) (λ e. subst (λ z. Names (suc n) (z ∷ w)) (sym (eqb-true b 10 e)) (end (suc n) w))
    (λ e. by_test (name_byte b) (λ t. more n b w t ih) (λ t. other n b w e t))

takes : {n : ℕ} {bytes : List ℕ} → Names n bytes → (i : ℕ) (x : List ℕ) (j : ℕ) (rest : List ℕ) → name_rest n i bytes ≡ part x j rest → Takes (name_rest n) i bytes x j rest
takes (none n) i x j rest e = part_wrong (sym e)
takes (end n w) i x j rest e =
    let s = part_same (sym (name_end n i w) ∙ e) in
    record {
      eaten = 10 ∷ [];
      split = ap (λ z. 10 ∷ z) s.behind;
      count = omega (arith, s.place);
      again = λ v. name_end n i v ∙ ap (λ z. part z (suc i) v) s.value ∙ ap (λ k. part x k v) s.place;
    }
takes (over b w t) i x j rest e = part_wrong (sym e ∙ name_over i b w t)
takes (other n b w s t) i x j rest e = part_wrong (sym e ∙ name_other n i b w s t)
takes (more n b w t v) i x j rest e =
    let ih = takes v (suc i) in
    name_cases n i b w t
    (λ bs k r h c.
    let s = part_same (sym c ∙ e) in
    let u = ih bs k r h in
    record {
      eaten = b ∷ u.eaten;
      split = ap (λ z. b ∷ z) (u.split ∙ ap (λ z. u.eaten ++ z) s.behind);
      count = omega (arith, s.place, u.count);
      again = λ z. name_more n i b (u.eaten ++ z) bs k z t (u.again z) ∙ ap (λ y. part y k z) s.value ∙ ap (λ m. part x m z) s.place;
    })
    (λ k h c. part_wrong (sym e ∙ c))

stops : {n : ℕ} {bytes : List ℕ} → Names n bytes → (i j : ℕ) → name_rest n i bytes ≡ wrong j → Stops (name_rest n) i bytes j
stops (none n) i j e =
    let s = wrong_same e in
    record {
      front = [];
      back = [];
      split = refl;
      count = omega (arith, s);
      more = 10 ∷ [];
      some_more = omega arith;
      value = [];
      place = suc i;
      goes = name_end n i [];
      halts = inl refl;
    }
stops (end n w) i j e = part_wrong (sym (name_end n i w) ∙ e)
stops (over b w t) i j e =
    let s = wrong_same (sym (name_over i b w t) ∙ e) in
    record {
      front = [];
      back = b ∷ w;
      split = refl;
      count = omega (arith, s);
      more = 10 ∷ [];
      some_more = omega arith;
      value = [];
      place = suc i;
      goes = refl;
      halts = inr (b, w, refl, λ z. name_over i b z t ∙ ap wrong s);
    }
stops (other n b w q t) i j e =
    let s = wrong_same (sym (name_other n i b w q t) ∙ e) in
    record {
      front = [];
      back = b ∷ w;
      split = refl;
      count = omega (arith, s);
      more = 10 ∷ [];
      some_more = omega arith;
      value = [];
      place = suc i;
      goes = refl;
      halts = inr (b, w, refl, λ z. name_other n i b z q t ∙ ap wrong s);
    }
stops (more n b w t v) i j e =
    let ih = stops v (suc i) in
    name_cases n i b w t
    (λ bs k r h c. part_wrong (sym c ∙ e))
    (λ k h c.
    let s : k ≡ j = wrong_same (sym c ∙ e) in
    let u = ih k h in
    record {
      front = b ∷ u.front;
      back = u.back;
      split = ap (λ z. b ∷ z) u.split;
      count = omega (arith, s, u.count);
      more = u.more;
      some_more = u.some_more;
      value = b ∷ u.value;
      place = u.place;
      goes = name_more n i b (u.front ++ u.more) u.value u.place [] t u.goes;
      halts = ⊎_elim (λ q. inl q) (λ q. inr (q.0, q.1, q.2, λ z. name_more_wrong n i b (u.front ++ (q.0 ∷ z)) k t (q.3 z) ∙ ap wrong s)) u.halts;
    })

pub name_rest_proper : (n : ℕ) → Proper (name_rest n)
name_rest_proper n = record { takes = λ i bytes. takes (see bytes n) i; stops = λ i bytes. stops (see bytes n) i }

pub record ReadName (n : ℕ) (bytes bs rest : List ℕ) : Type 0 where
  pub good : every name_byte bs ≡ true
  pub short : length bs ≤ n
  pub split : bytes ≡ bs ++ (10 ∷ rest)

sound : {n : ℕ} {bytes : List ℕ} → Names n bytes → (i : ℕ) (x : List ℕ) (j : ℕ) (rest : List ℕ) → name_rest n i bytes ≡ part x j rest → ReadName n bytes x rest
sound (none n) i x j rest e = part_wrong (sym e)
sound (end n w) i x j rest e =
    let s = part_same (sym (name_end n i w) ∙ e) in
    let r : ReadName n (10 ∷ w) [] rest = record { good = refl; short = omega arith; split = ap (λ z. 10 ∷ z) s.behind } in
    subst (λ z. ReadName n (10 ∷ w) z rest) s.value r
sound (over b w t) i x j rest e = part_wrong (sym e ∙ name_over i b w t)
sound (other n b w s t) i x j rest e = part_wrong (sym e ∙ name_other n i b w s t)
sound (more n b w t v) i x j rest e =
    let ih = sound v (suc i) in
    name_cases n i b w t
    (λ bs k r h c.
    let s = part_same (sym c ∙ e) in
    let u = ih bs k r h in
    let y : ReadName (suc n) (b ∷ w) (b ∷ bs) rest =
    record { good = every_cons name_byte b bs t u.good; short = omega (arith, u.short); split = ap (λ z. b ∷ z) (u.split ∙ ap (λ z. bs ++ (10 ∷ z)) s.behind) } in
    subst (λ z. ReadName (suc n) (b ∷ w) z rest) s.value y)
    (λ k h c. part_wrong (sym e ∙ c))

pub name_rest_sound : (n i : ℕ) (bytes x : List ℕ) (j : ℕ) (rest : List ℕ) → name_rest n i bytes ≡ part x j rest → ReadName n bytes x rest
name_rest_sound n i bytes x j rest e = sound (see bytes n) i x j rest e

pub name_rest_complete : (bs : List ℕ) (n i : ℕ) (rest : List ℕ) → every name_byte bs ≡ true → length bs ≤ n
    → (j : ℕ) × (name_rest n i (bs ++ (10 ∷ rest)) ≡ part bs j rest)
name_rest_complete [] n i rest h l = (suc i, name_end n i rest)
name_rest_complete (b ∷ bs) zero i rest h l = let k : ⊥ = omega arith in absurd k
name_rest_complete (b ∷ bs) (suc n) i rest h l =
    let p = every_parts name_byte b bs h in
    let ih = name_rest_complete bs n (suc i) rest p.1 (omega arith) in
    (ih.0, name_more n i b (bs ++ (10 ∷ rest)) bs ih.0 rest p.0 ih.1)
