-- The lines so far, and the rule that they state.
use Rattle.std.proofs.Common.{◌≡◌, ℕ, true, List, [], ◌∷◌, ◌++◌, map, sym, refl, ap, ◌∙◌, subst, inl, inr, ⊎_elim, append_assoc, append-nil, arith}
use mathlib.Core.Option.{Option, none, some}
use Rattle.std.proofs.lemmas.List.{map-append}
use Rattle.model.specs.Lists.{In}
use Rattle.model.specs.Text.{Arrows, Line, n_line, s_line, r_line, t_line, correct, TextRule, lines, numbers}
use Rattle.model.specs.Reading.{SoFar, nothing, named, sized, full, with_arrows, onward, states_so_far}
use Rattle.model.specs.ReadingLaws.{Inside, InRange}
use Rattle.model.proofs.Reading.Ranges.{none_some, some_same, AllInside}
use Rattle.model.proofs.Lists.{in_append}

-- ONE LINE

data Moves : SoFar → Line → SoFar → Type 0 where
  by_n : (name : List ℕ) → Moves nothing (n_line name) (named name)
  by_s : (name : List ℕ) (n q : ℕ) → Moves (named name) (s_line n q) (sized name n q)
  by_r : (name : List ℕ) (n q : ℕ) (qs : List ℕ) → Moves (sized name n q) (r_line qs) (full (record { name = name; states = n; start = q; rejecting = qs; arrows = [] }))
  by_t : (r : TextRule) (a : Arrows) → Moves (full r) (t_line a) (full (with_arrows r a))

moves : (f : SoFar) (l : Line) (g : SoFar) → onward f l ≡ some g → Moves f l g
moves nothing (n_line name) g e = subst (λ z. Moves nothing (n_line name) z) (some_same e) (by_n name)
moves nothing (s_line n q) g e = none_some e
moves nothing (r_line qs) g e = none_some e
moves nothing (t_line a) g e = none_some e
moves (named name) (n_line other) g e = none_some e
moves (named name) (s_line n q) g e = subst (λ z. Moves (named name) (s_line n q) z) (some_same e) (by_s name n q)
moves (named name) (r_line qs) g e = none_some e
moves (named name) (t_line a) g e = none_some e
moves (sized name n q) (n_line other) g e = none_some e
moves (sized name n q) (s_line m p) g e = none_some e
moves (sized name n q) (r_line qs) g e = subst (λ z. Moves (sized name n q) (r_line qs) z) (some_same e) (by_r name n q qs)
moves (sized name n q) (t_line a) g e = none_some e
moves (full r) (n_line other) g e = none_some e
moves (full r) (s_line m p) g e = none_some e
moves (full r) (r_line qs) g e = none_some e
moves (full r) (t_line a) g e = subst (λ z. Moves (full r) (t_line a) z) (some_same e) (by_t r a)

-- the lines that lead so far
abbrev pub lines_so_far : SoFar → List Line
lines_so_far nothing = []
lines_so_far (named name) = n_line name ∷ []
lines_so_far (sized name n q) = n_line name ∷ s_line n q ∷ []
lines_so_far (full r) = lines r

moves_lines : {f : SoFar} {l : Line} {g : SoFar} → Moves f l g → lines_so_far g ≡ lines_so_far f ++ (l ∷ [])
moves_lines (by_n name) = refl
moves_lines (by_s name n q) = refl
moves_lines (by_r name n q qs) = refl
moves_lines (by_t r a) = ap (λ z. n_line r.name ∷ s_line r.states r.start ∷ r_line r.rejecting ∷ z) (map-append t_line r.arrows (a ∷ []))

-- the number of states is stated, and is n
abbrev Stated : SoFar → ℕ → Type 0
Stated nothing n = ⊥
Stated (named name) n = ⊥
Stated (sized name m q) n = m ≡ n
Stated (full r) n = r.states ≡ n

moves_stated : {f : SoFar} {l : Line} {g : SoFar} → Moves f l g → (n : ℕ) → Stated f n → Stated g n
moves_stated (by_n name) n h = absurd h
moves_stated (by_s name m q) n h = absurd h
moves_stated (by_r name m q qs) n h = h
moves_stated (by_t r a) n h = h

stated_is : (f : SoFar) (n : ℕ) → Stated f n → states_so_far f ≡ n
stated_is nothing n h = absurd h
stated_is (named name) n h = absurd h
stated_is (sized name m q) n h = h
stated_is (full r) n h = h

-- SEVERAL LINES

abbrev pub after : SoFar → List Line → Option SoFar
after f [] = some f
after f (l ∷ ls) = elim (onward f l) [ none ↦ none | some g ↦ after g ls ]

pub after_cons : (f : SoFar) (l : Line) (ls : List Line) (g : SoFar) → onward f l ≡ some g → after f (l ∷ ls) ≡ after g ls
after_cons f l ls g e = cc

pub after_inv : (f : SoFar) (l : Line) (ls : List Line) (h : SoFar) → after f (l ∷ ls) ≡ some h → (g : SoFar) × (onward f l ≡ some g) × (after g ls ≡ some h)
after_inv f l ls h e = go (onward f l) refl
  where
    go : (o : Option SoFar) → onward f l ≡ o → (g : SoFar) × (onward f l ≡ some g) × (after g ls ≡ some h)
    go none d = none_some (let z : after f (l ∷ ls) ≡ none = cc in sym z ∙ e)
    go (some g) d = (g, d, sym (after_cons f l ls g d) ∙ e)

pub after_split : (xs ys : List Line) (f h : SoFar) → after f (xs ++ ys) ≡ some h → (g : SoFar) × (after f xs ≡ some g) × (after g ys ≡ some h)
after_split [] ys f h e = (f, refl, e)
after_split (x ∷ xs) ys f h e =
    let i = after_inv f x (xs ++ ys) h e in
    let r = after_split xs ys i.0 h i.2 in
    (r.0, after_cons f x xs i.0 i.1 ∙ r.1, r.2)

pub after_join : (xs ys : List Line) (f g : SoFar) → after f xs ≡ some g → after f (xs ++ ys) ≡ after g ys
after_join [] ys f g e = ap (λ z. after z ys) (some_same e)
after_join (x ∷ xs) ys f g e =
    let i = after_inv f x xs g e in
    after_cons f x (xs ++ ys) i.0 i.1 ∙ after_join xs ys i.0 g i.2

pub after_push : (xs : List Line) (l : Line) (f g h : SoFar) → after f xs ≡ some g → onward g l ≡ some h → after f (xs ++ (l ∷ [])) ≡ some h
after_push xs l f g h e d = after_join xs (l ∷ []) f g e ∙ after_cons g l [] h d

pub after_lines : (ls : List Line) (f g : SoFar) → after f ls ≡ some g → lines_so_far g ≡ lines_so_far f ++ ls
after_lines [] f g e = ap lines_so_far (sym (some_same e)) ∙ sym (append-nil (lines_so_far f))
after_lines (l ∷ ls) f g e =
    let i = after_inv f l ls g e in
    after_lines ls i.0 g i.2 ∙ ap (λ z. z ++ ls) (moves_lines (moves f l i.0 i.1)) ∙ append_assoc (lines_so_far f) (l ∷ []) ls

after_stated : (ls : List Line) (f g : SoFar) (n : ℕ) → after f ls ≡ some g → Stated f n → Stated g n
after_stated [] f g n e h = subst (λ z. Stated z n) (some_same e) h
after_stated (l ∷ ls) f g n e h =
    let i = after_inv f l ls g e in
    after_stated ls i.0 g n i.2 (moves_stated (moves f l i.0 i.1) n h)

-- the numbers of a line stay the same from then on
module _ (S C : ℕ) where
  moves_numbers : {f : SoFar} {l : Line} {g : SoFar} → Moves f l g → (ls : List Line) (h : SoFar) → after g ls ≡ some h
      → numbers S C (states_so_far h) l ≡ numbers S C (states_so_far g) l
  moves_numbers (by_n name) ls h e = refl
  moves_numbers (by_s name n q) ls h e = ap (λ z. numbers S C z (s_line n q)) (stated_is h n (after_stated ls (sized name n q) h n e refl))
  moves_numbers (by_r name n q qs) ls h e =
      ap (λ z. numbers S C z (r_line qs)) (stated_is h n (after_stated ls (full (record { name = name; states = n; start = q; rejecting = qs; arrows = [] })) h n e refl))
  moves_numbers (by_t r a) ls h e = ap (λ z. numbers S C z (t_line a)) (stated_is h r.states (after_stated ls (full (with_arrows r a)) h r.states e refl))

  pub onward_numbers : (f : SoFar) (l : Line) (g : SoFar) → onward f l ≡ some g → (ls : List Line) (h : SoFar) → after g ls ≡ some h
      → numbers S C (states_so_far h) l ≡ numbers S C (states_so_far g) l
  onward_numbers f l g e ls h d = moves_numbers (moves f l g e) ls h d

  pub kept_numbers : (xs : List Line) (f g : SoFar) → after f xs ≡ some g → (ys : List Line) (h : SoFar) → after g ys ≡ some h
      → (l : Line) → In xs l → numbers S C (states_so_far h) l ≡ numbers S C (states_so_far g) l
  kept_numbers [] f g e ys h d l k = absurd k
  kept_numbers (x ∷ xs) f g e ys h d l k =
      let i = after_inv f x xs g e in
      ⊎_elim
      (λ is.
      subst (λ z. numbers S C (states_so_far h) z ≡ numbers S C (states_so_far g) z) (sym is)
      (onward_numbers f x i.0 i.1 (xs ++ ys) h (after_join xs ys i.0 g i.2 ∙ d) ∙ sym (onward_numbers f x i.0 i.1 xs g i.2)))
      (λ q. kept_numbers xs i.0 g i.2 ys h d l q)
      k

  -- every line is correct, with its numbers in range
  abbrev pub Fine : List Line → SoFar → Type 0
  Fine ls f = (l : Line) → In ls l → (correct l ≡ true) × AllInside (numbers S C (states_so_far f) l)

  pub fine_push : (xs : List Line) (f : SoFar) (l : Line) (g : SoFar) → after nothing xs ≡ some f → onward f l ≡ some g → Fine xs f
      → correct l ≡ true → AllInside (numbers S C (states_so_far g) l) → Fine (xs ++ (l ∷ [])) g
  fine_push xs f l g e d h c k m q =
      ⊎_elim
      (λ i. let old = h m i in (old.0, subst (λ z. AllInside z) (sym (kept_numbers xs nothing f e (l ∷ []) g (after_cons f l [] g d) m i)) old.1))
      (λ i. ⊎_elim (λ is. subst (λ z. (correct z ≡ true) × AllInside (numbers S C (states_so_far g) z)) (sym is) (c, k)) (λ v. absurd v) i)
      (in_append xs (l ∷ []) m q)

-- A RULE'S LINES

abbrev with_all : TextRule → List Arrows → TextRule
with_all r ts = record { name = r.name; states = r.states; start = r.start; rejecting = r.rejecting; arrows = ts }

after_arrows : (r : TextRule) (ts before : List Arrows) → after (full (with_all r before)) (map t_line ts) ≡ some (full (with_all r (before ++ ts)))
after_arrows r [] before = ap (λ z. some (full (with_all r z))) (sym (append-nil before))
after_arrows r (a ∷ ts) before = after_arrows r ts (before ++ (a ∷ [])) ∙ ap (λ z. some (full (with_all r z))) (append_assoc before (a ∷ []) ts)

pub after_rule : (r : TextRule) → after nothing (lines r) ≡ some (full r)
after_rule r = after_arrows r r.arrows []

-- the lines of a rule begin so, then comes this one: it is in order
pub in_order : (before : List Line) (f : SoFar) (r : TextRule) (l : Line) (more : List Line) → after nothing before ≡ some f → lines r ≡ before ++ (l ∷ more)
    → (g : SoFar) × (onward f l ≡ some g) × (after g more ≡ some (full r))
in_order before f r l more e d =
    let s = after_split before (l ∷ more) nothing (full r) (ap (λ z. after nothing z) (sym d) ∙ after_rule r) in
    let is : s.0 ≡ f = some_same (sym s.1 ∙ e) in
    after_inv f l more (full r) (subst (λ z. after z (l ∷ more) ≡ some (full r)) is s.2)

-- COMPLETED

-- a rule in range that begins so
abbrev pub completed : SoFar → TextRule
completed nothing = record { name = 48 ∷ []; states = 1; start = 0; rejecting = []; arrows = [] }
completed (named name) = record { name = name; states = 1; start = 0; rejecting = []; arrows = [] }
completed (sized name n q) = record { name = name; states = n; start = q; rejecting = []; arrows = [] }
completed (full r) = r

abbrev pub missing : SoFar → List Line
missing nothing = n_line (48 ∷ []) ∷ s_line 1 0 ∷ r_line [] ∷ []
missing (named name) = s_line 1 0 ∷ r_line [] ∷ []
missing (sized name n q) = r_line [] ∷ []
missing (full r) = []

pub completed_lines : (f : SoFar) → lines (completed f) ≡ lines_so_far f ++ missing f
completed_lines nothing = refl
completed_lines (named name) = refl
completed_lines (sized name n q) = refl
completed_lines (full r) = sym (append-nil (lines r))

module _ (S C : ℕ) where
  two_inside : AllInside (numbers S C 1 (s_line 1 0))
  two_inside k (inl e) = subst (λ z. Inside z) (sym e) (omega arith)
  two_inside k (inr (inl e)) = subst (λ z. Inside z) (sym e) (omega arith)
  two_inside k (inr (inr h)) = absurd h

  last_two : (l : Line) → In (s_line 1 0 ∷ r_line [] ∷ []) l → (correct l ≡ true) × AllInside (numbers S C 1 l)
  last_two l (inl e) = subst (λ z. (correct z ≡ true) × AllInside (numbers S C 1 z)) (sym e) (refl, two_inside)
  last_two l (inr (inl e)) = subst (λ z. (correct z ≡ true) × AllInside (numbers S C 1 z)) (sym e) (refl, λ k h. absurd h)
  last_two l (inr (inr h)) = absurd h

  pub completed_fine : (f : SoFar) → Fine S C (lines_so_far f) f → InRange S C (completed f)
  completed_fine nothing h l (inl e) = subst (λ z. (correct z ≡ true) × AllInside (numbers S C 1 z)) (sym e) (refl, λ k q. absurd q)
  completed_fine nothing h l (inr i) = last_two l i
  completed_fine (named name) h l (inl e) = subst (λ z. (correct z ≡ true) × AllInside (numbers S C 1 z)) (sym e) (h (n_line name) (inl refl))
  completed_fine (named name) h l (inr i) = last_two l i
  completed_fine (sized name n q) h l (inl e) = h l (inl e)
  completed_fine (sized name n q) h l (inr (inl e)) = h l (inr (inl e))
  completed_fine (sized name n q) h l (inr (inr (inl e))) = subst (λ z. (correct z ≡ true) × AllInside (numbers S C n z)) (sym e) (refl, λ k i. absurd i)
  completed_fine (sized name n q) h l (inr (inr (inr i))) = absurd i
  completed_fine (full r) h l i = h l i
