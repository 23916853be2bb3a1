-- Arrays filled from the front, and the marks of a step. Assumes nothing.
use Rattle.std.proofs.Common.{◌≡◌, ℕ, zero, suc, ◌+◌, ◌-◌, ◌<◌, ◌≤◌, max, Bool, true, false, cond, ◌&&◌, ltb, List, [], ◌∷◌, ◌++◌, map, length, get_or, set, replicate, Some, None, Option as Maybe, sym, refl, ap, ◌∙◌, inl, inr, add-zero, add-suc, arith, length-append, ext_get_or}
use Rattle.std.specs.List.{range_with_len}
use Rattle.std.proofs.lemmas.List.{set_at, append_assoc, get_or_append_left, get_or-append_right, get_or-replicate, length-replicate}
use Rattle.std.proofs.lemmas.List.FromFn.{map-range_with_len_more, length-map-range_with_len, get_or-map-range_with_len}
use Rattle.std.proofs.lemmas.Bool.{lt-ltb, le-ltb, cases_lt, cases_Bool}
use Rattle.synthesis.specs.Tables.{stored, stepped, mark_before}
use Rattle.synthesis.specs.declared.position.Position.{Position as Stored}
use Rattle.model.specs.Automaton.{Automaton, weight}
use Rattle.model.specs.Positions.{Position, mark, largest, handed, step, fits}
use Rattle.synthesis.proofs.Deciding.{fits_sound, fits_complete}

abbrev pub position : List ℕ → Stored
position ms = record { marks = ms }

-- an array of so many places, filled from the front
abbrev pub filled : ℕ → (ℕ → ℕ) → ℕ → List ℕ
filled size f n = map f (range_with_len 0 n) ++ replicate (size - n) 0

pub filled_more : (size : ℕ) (f : ℕ → ℕ) (xs : List ℕ) (i y : ℕ) → i < size → xs ≡ filled size f i → y ≡ f i → set xs i y ≡ filled size f (i + 1)
filled_more size f xs i y h e v =
    let L = List ℕ in
    let front = map f (range_with_len 0 i) in
    let n : size - i ≡ suc (size - (i + 1)) = omega arith in
    ap {B = L} (λ l. set l i y) (e ∙ ap {B = L} (λ k. front ++ replicate k 0) n)
    ∙ set_at front 0 (replicate (size - (i + 1)) 0) y i (length-map-range_with_len f 0 i)
    ∙ sym (append_assoc front (y ∷ []) (replicate (size - (i + 1)) 0))
    ∙ ap {B = L} (λ z. (front ++ (z ∷ [])) ++ replicate (size - (i + 1)) 0) v
    ∙ ap {B = L} (λ l. l ++ replicate (size - (i + 1)) 0) (sym (map-range_with_len_more f 0 i i (omega arith)))

-- filled to the end of the marks, it is what the list of marks is stored as
pub filled_all : (f : ℕ → ℕ) (xs : List ℕ) (i n : ℕ) → i ≡ n → xs ≡ filled 16 f i → position xs ≡ stored (map f (range_with_len 0 n))
filled_all f xs i n ei e =
    ap position (e ∙ ap (filled 16 f) ei ∙ ap {B = List ℕ} (λ k. map f (range_with_len 0 n) ++ replicate (16 - k) 0) (sym (length-map-range_with_len f 0 n)))

-- an array whose places are so filled is what the list of marks is stored as
pub stored_by : (f : ℕ → ℕ) (n : ℕ) (xs : List ℕ) → n ≤ 16 → length xs ≡ 16 → ((q : ℕ) → q < 16 → get_or xs q 0 ≡ cond (ltb q n) (f q) 0) → position xs ≡ stored (map f (range_with_len 0 n))
stored_by f n xs le long h =
    let front : List ℕ = map f (range_with_len 0 n) in
    let behind : List ℕ = replicate (16 - length front) 0 in
    let lf : length front ≡ n = length-map-range_with_len f 0 n in
    let lb : length behind ≡ 16 - n = length-replicate (16 - length front) 0 ∙ ap {B = ℕ} (λ k. 16 - k) lf in
    ap position (ext_get_or 0 xs (front ++ behind) (omega (arith, long, lf, lb, le, length-append front behind))
    (λ q l. elim (cases_lt q n) [
      | inl k ↦
          h q (omega (arith, l, long)) ∙ ap {B = ℕ} (λ b. cond b (f q) 0) (lt-ltb q n k)
          ∙ sym (get_or_append_left front behind 0 q (omega (arith, k, lf)) ∙ get_or-map-range_with_len f 0 n q q 0 k (omega arith))
      | inr k ↦
          h q (omega (arith, l, long)) ∙ ap {B = ℕ} (λ b. cond b (f q) 0) (le-ltb q n k)
          ∙ sym (get_or-append_right front behind n q 0 lf k ∙ get_or-replicate (16 - length front) (q - n) 0 0 (omega (arith, l, long, k, lf)))
    ]))

-- what is counted only below n
largest_cut : (f g : ℕ → ℕ) (n k : ℕ) → ((q : ℕ) → q < n → f q ≡ g q) → ((q : ℕ) → n ≤ q → f q ≡ 0) → largest f (n + k) ≡ largest g n
largest_cut f g n zero h z = ap {B = ℕ} (largest f) (add-zero n) ∙ like n h
  where
    like : (m : ℕ) → ((q : ℕ) → q < m → f q ≡ g q) → largest f m ≡ largest g m
    like zero h = refl
    like (suc m) h = let r = like m (λ q l. h q (omega arith)) in omega (arith, r, h m (omega arith))
largest_cut f g n (suc k) h z =
    let r = largest_cut f g n k h z in
    ap {B = ℕ} (largest f) (add-suc n k) ∙ omega (arith, r, z (n + k) (omega arith))

pub largest_of : (f g : ℕ → ℕ) (n m : ℕ) → n ≤ m → ((q : ℕ) → q < n → f q ≡ g q) → ((q : ℕ) → n ≤ q → f q ≡ 0) → largest f m ≡ largest g n
largest_of f g n m le h z = let e : m ≡ n + (m - n) = omega arith in ap {B = ℕ} (largest f) e ∙ largest_cut f g n (m - n) h z

-- a mark that is passed on grows by the weight of its follower; the absent mark stays absent
abbrev pub grown : ℕ → ℕ → ℕ
grown w m = cond (ltb 0 m) (m + w) 0

pub grown_absent : (w m : ℕ) → m ≤ 0 → grown w m ≡ 0
grown_absent w m h = ap {B = ℕ} (λ b. cond b (m + w) 0) (le-ltb 0 m h)

pub grown_present : (w m : ℕ) → 0 < m → grown w m ≡ m + w
grown_present w m h = ap {B = ℕ} (λ b. cond b (m + w) 0) (lt-ltb 0 m h)

grown_max : (w a b : ℕ) → grown w (max a b) ≡ max (grown w a) (grown w b)
grown_max w a b =
    elim (cases_lt 0 a) [
      | inl p ↦
          elim (cases_lt 0 b) [
            | inl q ↦ omega (arith, grown_present w (max a b) (omega arith), grown_present w a p, grown_present w b q)
            | inr q ↦ omega (arith, grown_present w (max a b) (omega arith), grown_present w a p, grown_absent w b q)
          ]
      | inr p ↦
          elim (cases_lt 0 b) [
            | inl q ↦ omega (arith, grown_present w (max a b) (omega arith), grown_absent w a p, grown_present w b q)
            | inr q ↦ omega (arith, grown_absent w (max a b) (omega arith), grown_absent w a p, grown_absent w b q)
          ]
    ]

handed_grown : (A : Automaton) (u x : ℕ) (P : Position) (p q : ℕ) → handed A u x P p q ≡ grown (weight A p) (mark_before A u x P p q)
handed_grown A u x P p q = go (ltb 0 (mark P q)) refl (A.follows q u x p)
  where
    go : (b : Bool) → ltb 0 (mark P q) ≡ b → (f : Bool) → cond (b && f) (mark P q + weight A p) 0 ≡ grown (weight A p) (cond f (mark P q) 0)
    go true e true = ap {B = ℕ} (λ v. cond v (mark P q + weight A p) 0) (sym e)
    go true e false = refl
    go false e true = ap {B = ℕ} (λ v. cond v (mark P q + weight A p) 0) (sym e)
    go false e false = refl

-- the largest mark handed on is the largest mark, grown once
pub largest_grown : (A : Automaton) (u x : ℕ) (P : Position) (p n : ℕ) → largest (handed A u x P p) n ≡ grown (weight A p) (largest (mark_before A u x P p) n)
largest_grown A u x P p zero = refl
largest_grown A u x P p (suc n) =
    ap {B = ℕ} (λ v. max v (largest (handed A u x P p) n)) (handed_grown A u x P p n)
    ∙ ap {B = ℕ} (λ v. max (grown (weight A p) (mark_before A u x P p n)) v) (largest_grown A u x P p n)
    ∙ sym (grown_max (weight A p) (mark_before A u x P p n) (largest (mark_before A u x P p) n))

-- the step's marks all fit, or one does not
pub all_fit : (c n : ℕ) (f : ℕ → ℕ) → ((k : ℕ) → k < n → f k ≤ c + 1) → fits c (map f (range_with_len 0 n)) ≡ true
all_fit c n f h =
    fits_complete c (map f (range_with_len 0 n)) (λ q k. let l : q < n = omega (arith, k, length-map-range_with_len f 0 n) in omega (arith, h q l, get_or-map-range_with_len f 0 n q q 0 l (omega arith)))

pub one_over : (c n p : ℕ) (f : ℕ → ℕ) → p < n → c + 1 < f p → fits c (map f (range_with_len 0 n)) ≡ false
one_over c n p f l h =
    elim (cases_Bool (fits c (map f (range_with_len 0 n)))) [
      | inl e ↦ absurd (omega (arith, fits_sound c (map f (range_with_len 0 n)) e p, get_or-map-range_with_len f 0 n p p 0 l (omega arith)))
      | inr e ↦ e
    ]

pub stepped_some : (A : Automaton) (c u x : ℕ) (P : Position) → fits c (step A u x P) ≡ true → Some (stored (step A u x P)) ≡ stepped A c u x P
unfolding stepped
stepped_some A c u x P e = ap {B = Maybe Stored} (λ b. cond b (Some (stored (step A u x P))) None) (sym e)

pub stepped_none : (A : Automaton) (c u x : ℕ) (P : Position) → fits c (step A u x P) ≡ false → None ≡ stepped A c u x P
unfolding stepped
stepped_none A c u x P e = ap {B = Maybe Stored} (λ b. cond b (Some (stored (step A u x P))) None) (sym e)
