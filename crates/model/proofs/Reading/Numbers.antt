-- Each number of a line stands at its byte, and each digit of a line other than n is one of its numbers.
use Rattle.std.proofs.Common.{◌≡◌, ℕ, zero, suc, ◌+◌, ◌-◌, ◌<◌, ◌≤◌, true, false, ◌⊎◌, List, [], ◌∷◌, ◌++◌, length, get_or, sym, refl, ◌∙◌, subst, inl, inr, ⊎_elim, append-nil, arith, length-append}
use Rattle.std.proofs.lemmas.Bool.{cases_lt}
use Rattle.std.proofs.lemmas.List.{get_or_append_left, get_or-append_right, get_or-append-add}
use Rattle.model.specs.Lists.{In, joined}
use Rattle.model.specs.Text.{Choice, one, each, Arrows, Line, n_line, s_line, r_line, t_line, line_bytes, digit_byte, digit_word, choice_word, Number, numbers, state_numbers, choice_number}
use Rattle.model.specs.ReadingLaws.{Ascending, NumbersStand}
use Rattle.model.proofs.Reading.Basics.{true_false}
use Rattle.model.proofs.Lists.{in_left, in_right, in_append}

-- bytes that begin at byte o of their line, and the numbers that stand in them
record Stands (o : ℕ) (bytes : List ℕ) (ks : List Number) : Type 0 where
  placed : (k : Number) → In ks k → (j : ℕ) × (k.at ≡ o + j) × (j < length bytes) × (get_or bytes j 0 ≡ k.value + 48)
  numbered : (j : ℕ) → j < length bytes → digit_byte (get_or bytes j 0) ≡ true → (k : Number) × In ks k × (k.at ≡ o + j)
  ascending : Ascending ks

ascending_append : (ks js : List Number) → Ascending ks → Ascending js → ((k j : Number) → In ks k → In js j → k.at < j.at) → Ascending (ks ++ js)
ascending_append [] js a b h = b
ascending_append (k ∷ ks) js a b h =
    ((λ j i. ⊎_elim (λ q. a.0 j q) (λ q. h k j (inl refl) q) (in_append ks js j i)), ascending_append ks js a.1 b (λ x y i q. h x y (inr i) q))

both : (o : ℕ) (v w : List ℕ) (ks js : List Number) → Stands o v ks → Stands (o + length v) w js → Stands o (v ++ w) (ks ++ js)
both o v w ks js s t =
    record {
      placed = λ k i.
          ⊎_elim
          (λ q. let p = s.placed k q in (p.0, p.1, omega (arith, p.2, length-append v w), get_or_append_left v w 0 p.0 p.2 ∙ p.3))
          (λ q.
          let p = t.placed k q in
          (length v + p.0, omega (arith, p.1), omega (arith, p.2, length-append v w), get_or-append-add v w p.0 0 ∙ p.3))
          (in_append ks js k i);
      numbered = λ j h d.
          ⊎_elim
          (λ (l : j < length v).
          let n = s.numbered j l (subst (λ z. digit_byte z ≡ true) (get_or_append_left v w 0 j l) d) in
          (n.0, in_left ks js n.0 n.1, n.2))
          (λ (l : length v ≤ j).
          let n = t.numbered (j - length v) (omega (arith, h, length-append v w)) (subst (λ z. digit_byte z ≡ true) (get_or-append_right v w (length v) j 0 refl l) d) in
          (n.0, in_right ks js n.0 n.1, omega (arith, n.2)))
          (cases_lt j (length v));
      ascending = ascending_append ks js s.ascending t.ascending (λ k j i q.
          let a = s.placed k i in
          let b = t.placed j q in
          omega (arith, a.1, a.2, b.1));
    }

-- a byte that is no digit
plain : (o b : ℕ) → digit_byte b ≡ false → Stands o (b ∷ []) []
plain o b e = record { placed = λ k i. absurd i; numbered = at; ascending = tt }
  where
    at : (j : ℕ) → j < 1 → digit_byte (get_or (b ∷ []) j 0) ≡ true → (k : Number) × In [] k × (k.at ≡ o + j)
    at zero h d = true_false d e
    at (suc j) h d = let k : ⊥ = omega arith in absurd k

digit_stands : (o i d least under : ℕ) → i ≡ o + 1 → Stands o (digit_word d) (record { value = d; at = i; least = least; under = under } ∷ [])
digit_stands o i d least under e =
    record {
      placed = λ k h. ⊎_elim (λ q. subst (λ z. (j : ℕ) × (z.at ≡ o + j) × (j < 2) × (get_or (digit_word d) j 0 ≡ z.value + 48)) (sym q) (1, e, omega arith, refl)) (λ q. absurd q) h;
      numbered = at;
      ascending = ((λ j h. absurd h), tt);
    }
  where
    at : (j : ℕ) → j < 2 → digit_byte (get_or (digit_word d) j 0) ≡ true
        → (k : Number) × In (record { value = d; at = i; least = least; under = under } ∷ []) k × (k.at ≡ o + j)
    at zero h c = true_false c refl
    at (suc zero) h c = (record { value = d; at = i; least = least; under = under }, inl refl, e)
    at (suc (suc j)) h c = let k : ⊥ = omega arith in absurd k

states_stand : (n : ℕ) (qs : List ℕ) (o i : ℕ) → i ≡ o + 1 → Stands o (joined digit_word qs) (state_numbers n i qs)
states_stand n [] o i e = record { placed = λ k h. absurd h; numbered = λ j h d. let k : ⊥ = omega arith in absurd k; ascending = tt }
states_stand n (q ∷ qs) o i e =
    both o (digit_word q) (joined digit_word qs) (record { value = q; at = i; least = 0; under = n } ∷ []) (state_numbers n (i + 2) qs)
    (digit_stands o i q 0 n e) (states_stand n qs (o + 2) (i + 2) (omega arith))

choice_stands : (n : ℕ) (u : Choice) (o i : ℕ) → i ≡ o + 1 → Stands o (choice_word u) (choice_number n i u)
choice_stands n (one d) o i e = digit_stands o i d 0 n e
choice_stands n each o i e = both o (32 ∷ []) (42 ∷ []) [] [] (plain o 32 refl) (plain (o + 1) 42 refl)

choice_size : (u : Choice) → length (choice_word u) ≡ 2
choice_size (one d) = refl
choice_size each = refl

module _ (S C n : ℕ) where
  s_stands : (m q : ℕ) → Stands 0 (line_bytes (s_line m q)) (numbers S C n (s_line m q))
  s_stands m q =
      both 0 (115 ∷ []) (digit_word m ++ (digit_word q ++ (10 ∷ []))) [] (numbers S C n (s_line m q)) (plain 0 115 refl)
      (both 1 (digit_word m) (digit_word q ++ (10 ∷ [])) (record { value = m; at = 2; least = 1; under = 9 } ∷ []) (state_numbers n 4 (q ∷ [])) (digit_stands 1 2 m 1 9 refl)
      (both 3 (digit_word q) (10 ∷ []) (state_numbers n 4 (q ∷ [])) [] (digit_stands 3 4 q 0 n refl) (plain 5 10 refl)))

  r_stands : (qs : List ℕ) → Stands 0 (line_bytes (r_line qs)) (numbers S C n (r_line qs))
  r_stands qs =
      both 0 (114 ∷ []) (joined digit_word qs ++ (10 ∷ [])) [] (state_numbers n 2 qs) (plain 0 114 refl)
      (subst (λ z. Stands 1 (joined digit_word qs ++ (10 ∷ [])) z) (append-nil (state_numbers n 2 qs))
      (both 1 (joined digit_word qs) (10 ∷ []) (state_numbers n 2 qs) [] (states_stand n qs 1 2 refl) (plain (1 + length (joined digit_word qs)) 10 refl)))

  t_stands : (a : Arrows) → Stands 0 (line_bytes (t_line a)) (numbers S C n (t_line a))
  t_stands a =
      let W = joined digit_word a.to in
      let u = choice_word a.command in
      let x = choice_word a.situation in
      let ks = state_numbers n 8 a.to in
      let js = choice_number S 6 a.situation in
      let is = choice_number C 4 a.command in
      let last : Stands 7 (W ++ (10 ∷ [])) ks =
      subst (λ z. Stands 7 (W ++ (10 ∷ [])) z) (append-nil ks) (both 7 W (10 ∷ []) ks [] (states_stand n a.to 7 8 refl) (plain (7 + length W) 10 refl)) in
      let third : Stands 5 (x ++ (W ++ (10 ∷ []))) (js ++ ks) =
      both 5 x (W ++ (10 ∷ [])) js ks (choice_stands S a.situation 5 6 refl) (subst (λ z. Stands (5 + z) (W ++ (10 ∷ [])) ks) (sym (choice_size a.situation)) last) in
      let second : Stands 3 (u ++ (x ++ (W ++ (10 ∷ [])))) (is ++ (js ++ ks)) =
      both 3 u (x ++ (W ++ (10 ∷ []))) is (js ++ ks) (choice_stands C a.command 3 4 refl) (subst (λ z. Stands (3 + z) (x ++ (W ++ (10 ∷ []))) (js ++ ks)) (sym (choice_size a.command)) third) in
      both 0 (116 ∷ []) (digit_word a.from ++ (u ++ (x ++ (W ++ (10 ∷ []))))) [] (state_numbers n 2 (a.from ∷ []) ++ (is ++ (js ++ ks))) (plain 0 116 refl)
      (both 1 (digit_word a.from) (u ++ (x ++ (W ++ (10 ∷ [])))) (state_numbers n 2 (a.from ∷ [])) (is ++ (js ++ ks)) (digit_stands 1 2 a.from 0 n refl) second)

  abbrev Standing : Line → Type 0
  Standing l =
      ((k : Number) → In (numbers S C n l) k → (k.at < length (line_bytes l)) × (get_or (line_bytes l) k.at 0 ≡ k.value + 48))
      × ((i : ℕ) → i < length (line_bytes l) → digit_byte (get_or (line_bytes l) i 0) ≡ true
      → ((name : List ℕ) × (l ≡ n_line name)) ⊎ ((k : Number) × In (numbers S C n l) k × (k.at ≡ i)))
      × Ascending (numbers S C n l)

  told : (l : Line) → Stands 0 (line_bytes l) (numbers S C n l) → Standing l
  told l s = (
    (λ k i.
        let p = s.placed k i in
        let is : p.0 ≡ k.at = omega (arith, p.1) in
        (omega (arith, p.2), subst (λ z. get_or (line_bytes l) z 0 ≡ k.value + 48) is p.3)),
    (λ i h d. let m = s.numbered i h d in inr (m.0, m.1, omega (arith, m.2))),
    s.ascending,
  )

  standing : (l : Line) → Standing l
  standing (n_line name) = ((λ k i. absurd i), (λ i h d. inl (name, refl)), tt)
  standing (s_line m q) = told (s_line m q) (s_stands m q)
  standing (r_line qs) = told (r_line qs) (r_stands qs)
  standing (t_line a) = told (t_line a) (t_stands a)

pub numbers_stand : NumbersStand
numbers_stand S C n l = standing S C n l
