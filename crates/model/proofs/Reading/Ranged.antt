-- The ranges of a rule, in plain words; and its lines are settled by their bytes.
use Rattle.std.proofs.Common.{◌≡◌, ℕ, ◌+◌, ◌<◌, ◌≤◌, Bool, true, ◌&&◌, ◌||◌, leb, ◌↔◌, List, [], ◌∷◌, ◌++◌, map, length, sym, refl, ap, ◌∙◌, subst, inl, inr, ⊎_elim, arith}
use Rattle.std.proofs.lemmas.Bool.{and_parts, and_from, or_cases, or_left, or_right, leb-true, le-leb, lt-ltb}
use Rattle.model.specs.Lists.{every, In, joined}
use Rattle.model.specs.Text.{Choice, one, each, Arrows, Line, n_line, s_line, r_line, t_line, correct, line_bytes, between, digit_byte, name_byte, one_digit, good_choice, TextRule, Number, numbers, state_numbers, choice_number}
use Rattle.model.specs.Reading.{first_line}
use Rattle.model.specs.ReadingLaws.{Inside, InRange, NumbersGood, NameByte, Below, Ranged, RangeExact, LinesUnique}
use Rattle.model.proofs.Reading.Basics.{part_same}
use Rattle.model.proofs.Reading.Ranges.{AllInside}
use Rattle.model.proofs.Reading.Digits.{every_cons, every_parts}
use Rattle.model.proofs.Lists.{in_left, in_right, in_append}
use Rattle.model.proofs.Reading.Lines.{line_complete}

every_in : {X : Type 0} (f : X → Bool) (xs : List X) → every f xs ≡ true → (x : X) → In xs x → f x ≡ true
every_in f [] e x h = absurd h
every_in f (y ∷ ys) e x h =
    let p = every_parts f y ys e in
    ⊎_elim (λ is. subst (λ z. f z ≡ true) (sym is) p.0) (λ q. every_in f ys p.1 x q) h

in_every : {X : Type 0} (f : X → Bool) (xs : List X) → ((x : X) → In xs x → f x ≡ true) → every f xs ≡ true
in_every f [] h = refl
in_every f (y ∷ ys) h = every_cons f y ys (h y (inl refl)) (in_every f ys (λ x q. h x (inr q)))

in_map : (ts : List Arrows) (a : Arrows) → In ts a → In (map t_line ts) (t_line a)
in_map [] a h = absurd h
in_map (t ∷ ts) a (inl e) = inl (ap t_line e)
in_map (t ∷ ts) a (inr h) = inr (in_map ts a h)

from_map : (ts : List Arrows) (l : Line) → In (map t_line ts) l → (a : Arrows) × In ts a × (l ≡ t_line a)
from_map [] l h = absurd h
from_map (t ∷ ts) l (inl e) = (t, inl refl, e)
from_map (t ∷ ts) l (inr h) = let r = from_map ts l h in (r.0, inr r.1, r.2)

name_words : (b : ℕ) → (name_byte b ≡ true) ↔ NameByte b
name_words b =
    let to : (low high : ℕ) → between low high b ≡ true → (low ≤ b) × (b ≤ high) =
    λ low high e. let p = and_parts (leb low b) (leb b high) e in (leb-true low b p.0, leb-true b high p.1) in
    let from : (low high : ℕ) → (low ≤ b) × (b ≤ high) → between low high b ≡ true =
    λ low high h. and_from (leb low b) (leb b high) (le-leb low b h.0) (le-leb b high h.1) in (
      (λ e.
          ⊎_elim (λ t. inl (to 48 57 t)) (λ t. inr (⊎_elim (λ s. inl (to 65 90 s)) (λ s. inr (to 97 122 s)) (or_cases (between 65 90 b) (between 97 122 b) t)))
          (or_cases (digit_byte b) (between 65 90 b || between 97 122 b) e)),
      (λ h.
          ⊎_elim (λ t. or_left (digit_byte b) (between 65 90 b || between 97 122 b) (from 48 57 t))
          (λ t. or_right (digit_byte b) (between 65 90 b || between 97 122 b)
          (⊎_elim (λ s. or_left (between 65 90 b) (between 97 122 b) (from 65 90 s)) (λ s. or_right (between 65 90 b) (between 97 122 b) (from 97 122 s)) t))
          h),
    )

states_inside : (n i : ℕ) (qs : List ℕ) → AllInside (state_numbers n i qs) → (q : ℕ) → In qs q → q < n
states_inside n i [] h q k = absurd k
states_inside n i (p ∷ qs) h q (inl e) = let z = h (record { value = p; at = i; least = 0; under = n }) (inl refl) in omega (arith, z.1)
states_inside n i (p ∷ qs) h q (inr k) = states_inside n (i + 2) qs (λ m d. h m (inr d)) q k

inside_states : (n i : ℕ) (qs : List ℕ) → ((q : ℕ) → In qs q → q < n) → AllInside (state_numbers n i qs)
inside_states n i [] h k d = absurd d
inside_states n i (p ∷ qs) h k (inl e) = let z = h p (inl refl) in subst (λ v. Inside v) (sym e) (omega arith)
inside_states n i (p ∷ qs) h k (inr d) = inside_states n (i + 2) qs (λ q m. h q (inr m)) k d

choice_below : (n i : ℕ) (u : Choice) → AllInside (choice_number n i u) → Below n u
choice_below n i (one d) h = (h (record { value = d; at = i; least = 0; under = n }) (inl refl)).1
choice_below n i each h = tt

below_choice : (n i : ℕ) (u : Choice) → Below n u → AllInside (choice_number n i u)
below_choice n i (one d) h k (inl e) = subst (λ v. Inside v) (sym e) (omega (arith, h))
below_choice n i (one d) h k (inr q) = absurd q
below_choice n i each h k d = absurd d

below_good : (n : ℕ) (u : Choice) → n ≤ 8 → Below n u → good_choice u ≡ true
below_good n (one d) l h = lt-ltb d 10 (omega (arith, h))
below_good n each l h = refl

all_append : (ks js : List Number) → AllInside ks → AllInside js → AllInside (ks ++ js)
all_append ks js a b k h = ⊎_elim (λ q. a k q) (λ q. b k q) (in_append ks js k h)

module _ (S C : ℕ) (r : TextRule) where
  pub to_plain : InRange S C r → Ranged S C r
  to_plain h =
      let n = r.states in
      let name = (h (n_line r.name) (inl refl)).0 in
      let p = and_parts (between 1 8 (length r.name)) (every name_byte r.name) name in
      let b = and_parts (leb 1 (length r.name)) (leb (length r.name) 8) p.0 in
      let s = (h (s_line n r.start) (inr (inl refl))).1 in
      let m = s (record { value = n; at = 2; least = 1; under = 9 }) (inl refl) in
      let q = s (record { value = r.start; at = 4; least = 0; under = n }) (inr (inl refl)) in
      record {
        named = (leb-true 1 (length r.name) b.0, leb-true (length r.name) 8 b.1, λ c i. (name_words c).0 (every_in name_byte r.name p.1 c i));
        counted = (m.0, omega (arith, m.1));
        starts = q.1;
        rejects = states_inside n 2 r.rejecting (h (r_line r.rejecting) (inr (inr (inl refl)))).1;
        leads = λ a i.
            let t = (h (t_line a) (inr (inr (inr (in_map r.arrows a i))))).1 in
            let ks = state_numbers n 8 a.to in
            let js = choice_number S 6 a.situation in
            let is = choice_number C 4 a.command in (
              (t (record { value = a.from; at = 2; least = 0; under = n }) (inl refl)).1,
              choice_below C 4 a.command (λ k d. t k (inr (in_left is (js ++ ks) k d))),
              choice_below S 6 a.situation (λ k d. t k (inr (in_right is (js ++ ks) k (in_left js ks k d)))),
              states_inside n 8 a.to (λ k d. t k (inr (in_right is (js ++ ks) k (in_right js ks k d)))),
            );
      }

  module _ (good : NumbersGood S C) (w : Ranged S C r) where
    abbrev LineFine : Line → Type 0
    LineFine l = (correct l ≡ true) × AllInside (numbers S C r.states l)

    few : (qs : List ℕ) → ((q : ℕ) → In qs q → q < r.states) → every one_digit qs ≡ true
    few qs h = in_every one_digit qs (λ q i. let a = h q i in let b = w.counted in lt-ltb q 10 (omega (arith, b.1)))

    n_fine : LineFine (n_line r.name)
    n_fine =
        let m = w.named in (
          and_from (between 1 8 (length r.name)) (every name_byte r.name)
              (and_from (leb 1 (length r.name)) (leb (length r.name) 8) (le-leb 1 (length r.name) m.0) (le-leb (length r.name) 8 m.1))
              (in_every name_byte r.name (λ b i. (name_words b).1 (m.2 b i))),
          λ k h. absurd h,
        )

    s_fine : LineFine (s_line r.states r.start)
    s_fine =
        let c = w.counted in
        let s = w.starts in (
          and_from (one_digit r.states) (one_digit r.start) (lt-ltb r.states 10 (omega (arith, c.1))) (lt-ltb r.start 10 (omega (arith, c.1, s))),
          all_append (record { value = r.states; at = 2; least = 1; under = 9 } ∷ []) (state_numbers r.states 4 (r.start ∷ []))
              (λ k h. ⊎_elim (λ e. subst (λ v. Inside v) (sym e) (c.0, omega (arith, c.1))) (λ e. absurd e) h)
              (inside_states r.states 4 (r.start ∷ []) (λ q h. ⊎_elim (λ e. subst (λ v. v < r.states) (sym e) s) (λ e. absurd e) h)),
        )

    r_fine : LineFine (r_line r.rejecting)
    r_fine = (few r.rejecting w.rejects, inside_states r.states 2 r.rejecting w.rejects)

    t_fine : (a : Arrows) → In r.arrows a → LineFine (t_line a)
    t_fine a i =
        let t = w.leads a i in
        let c = w.counted in
        let u = a.command in
        let x = a.situation in
        let n = r.states in (
          and_from (one_digit a.from) (good_choice u && (good_choice x && every one_digit a.to)) (lt-ltb a.from 10 (omega (arith, t.0, c.1)))
              (and_from (good_choice u) (good_choice x && every one_digit a.to) (below_good C u good.3 t.1)
              (and_from (good_choice x) (every one_digit a.to) (below_good S x good.1 t.2) (few a.to t.3))),
          all_append (state_numbers n 2 (a.from ∷ [])) (choice_number C 4 u ++ (choice_number S 6 x ++ state_numbers n 8 a.to))
              (inside_states n 2 (a.from ∷ []) (λ q h. ⊎_elim (λ e. subst (λ v. v < n) (sym e) t.0) (λ e. absurd e) h))
              (all_append (choice_number C 4 u) (choice_number S 6 x ++ state_numbers n 8 a.to) (below_choice C 4 u t.1)
              (all_append (choice_number S 6 x) (state_numbers n 8 a.to) (below_choice S 6 x t.2) (inside_states n 8 a.to t.3))),
        )

    pub from_plain : InRange S C r
    from_plain l (inl e) = subst (λ z. LineFine z) (sym e) n_fine
    from_plain l (inr (inl e)) = subst (λ z. LineFine z) (sym e) s_fine
    from_plain l (inr (inr (inl e))) = subst (λ z. LineFine z) (sym e) r_fine
    from_plain l (inr (inr (inr h))) = let m = from_map r.arrows l h in subst (λ z. LineFine z) (sym m.2) (t_fine m.0 m.1)

pub range_exact : RangeExact
range_exact S C r good = (to_plain S C r, from_plain S C r good)

-- SETTLED BY THE BYTES

no_bytes : {P : Type 0} (l : Line) (rest : List ℕ) → line_bytes l ++ rest ≡ [] → P
no_bytes (n_line name) rest e = Rattle.model.proofs.Reading.Basics.cons_nil e
no_bytes (s_line n q) rest e = Rattle.model.proofs.Reading.Basics.cons_nil e
no_bytes (r_line qs) rest e = Rattle.model.proofs.Reading.Basics.cons_nil e
no_bytes (t_line a) rest e = Rattle.model.proofs.Reading.Basics.cons_nil e

pub lines_unique : LinesUnique
lines_unique [] [] h k e = refl
lines_unique [] (m ∷ ms) h k e = no_bytes m (joined line_bytes ms) (sym e)
lines_unique (l ∷ ls) [] h k e = no_bytes l (joined line_bytes ls) e
lines_unique (l ∷ ls) (m ∷ ms) h k e =
    let a = line_complete l (joined line_bytes ls) (h l (inl refl)) in
    let b = line_complete m (joined line_bytes ms) (k m (inl refl)) in
    let s = part_same (sym a.1 ∙ ap first_line e ∙ b.1) in
    let ih = lines_unique ls ms (λ x i. h x (inr i)) (λ x i. k x (inr i)) s.behind in
    ap (λ z. z ∷ ls) s.value ∙ ap (λ z. m ∷ z) ih
