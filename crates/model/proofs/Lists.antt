-- What is in a list, and what tests on lists decide.
use Rattle.std.proofs.Common.{◌≡◌, ℕ, zero, suc, ◌+◌, ◌<◌, ◌≤◌, Bool, true, false, eqb, ◌⊎◌, List, [], ◌∷◌, ◌++◌, map, length, get_or, Decides, sym, refl, ap, ◌∙◌, subst, inl, inr, append_assoc, arith, length-append}
use Rattle.std.specs.List.{range_with_len, filter}
use Rattle.std.proofs.lemmas.Bool.{cases_Bool, cases_eq, true≢false, both_ways}
use Rattle.std.proofs.lemmas.Bool.Decides.{Decides-eqb}
use Rattle.model.specs.Search.{place}
use Rattle.model.specs.Lists.{every, any, joined, In, Distinct}
use Rattle.model.specs.Positions.{same}

pub in_left : {X : Type 0} (L M : List X) (x : X) → In L x → In (L ++ M) x
in_left [] M x i = absurd i
in_left (y ∷ L) M x (inl e) = inl e
in_left (y ∷ L) M x (inr i) = inr (in_left L M x i)

pub in_right : {X : Type 0} (L M : List X) (x : X) → In M x → In (L ++ M) x
in_right [] M x i = i
in_right (y ∷ L) M x i = inr (in_right L M x i)

pub in_append : {X : Type 0} (L M : List X) (x : X) → In (L ++ M) x → In L x ⊎ In M x
in_append [] M x i = inr i
in_append (y ∷ L) M x (inl e) = inl (inl e)
in_append {X} (y ∷ L) M x (inr i) = go (in_append L M x i)
  where
    go : In L x ⊎ In M x → In (y ∷ L) x ⊎ In M x
    go (inl j) = inl (inr j)
    go (inr j) = inr j

pub in_map : {X Y : Type 0} (f : X → Y) (L : List X) (x : X) → In L x → In (map f L) (f x)
in_map f [] x i = absurd i
in_map f (y ∷ L) x (inl e) = inl (ap f e)
in_map f (y ∷ L) x (inr i) = inr (in_map f L x i)

pub map_in : {X Y : Type 0} (f : X → Y) (L : List X) (y : Y) → In (map f L) y → (x : X) × In L x × (y ≡ f x)
map_in f [] y i = absurd i
map_in f (x ∷ L) y (inl e) = (x, inl refl, e)
map_in f (x ∷ L) y (inr i) = let (z, j, e) = map_in f L y i in (z, inr j, e)

pub in_joined : {X Y : Type 0} (f : X → List Y) (L : List X) (x : X) (y : Y) → In L x → In (f x) y → In (joined f L) y
in_joined f [] x y i j = absurd i
in_joined f (z ∷ L) x y (inl e) j = in_left (f z) (joined f L) y (subst (λ w. In (f w) y) e j)
in_joined f (z ∷ L) x y (inr i) j = in_right (f z) (joined f L) y (in_joined f L x y i j)

pub joined_in : {X Y : Type 0} (f : X → List Y) (L : List X) (y : Y) → In (joined f L) y → (x : X) × In L x × In (f x) y
joined_in f [] y i = absurd i
joined_in {X} {Y} f (z ∷ L) y i = go (in_append (f z) (joined f L) y i) (joined_in f L y)
  where
    go : In (f z) y ⊎ In (joined f L) y → (In (joined f L) y → (x : X) × In L x × In (f x) y) → (x : X) × In (z ∷ L) x × In (f x) y
    go (inl j) below = (z, inl refl, j)
    go (inr j) below = let (w, k, h) = below j in (w, inr k, h)

pub joined_append : {X Y : Type 0} (f : X → List Y) (L M : List X) → joined f (L ++ M) ≡ joined f L ++ joined f M
joined_append f [] M = refl
joined_append f (x ∷ L) M = ap (λ l. f x ++ l) (joined_append f L M) ∙ sym (append_assoc (f x) (joined f L) (joined f M))

pub in_counting : (a n i : ℕ) → a ≤ i → i < a + n → In (range_with_len a n) i
in_counting a zero i l h = absurd (omega arith)
in_counting a (suc n) i l h = go (cases_eq i a) (in_counting (a + 1) n i)
  where
    go : (i ≡ a) ⊎ (i ≡ a → ⊥) → (a + 1 ≤ i → i < a + 1 + n → In (range_with_len (a + 1) n) i) → In (range_with_len a (suc n)) i
    go (inl e) below = inl e
    go (inr ne) below = inr (below (omega arith) (omega arith))

pub counting_in : (a n i : ℕ) → In (range_with_len a n) i → (a ≤ i) × (i < a + n)
counting_in a zero i m = absurd m
counting_in a (suc n) i (inl e) = (omega arith, omega arith)
counting_in a (suc n) i (inr m) = let r : (a + 1 ≤ i) × (i < a + 1 + n) = counting_in (a + 1) n i m in (omega (arith, r.0), omega (arith, r.1))

-- what a filter leaves

pub in_kept_by : {X : Type 0} (test : X → Bool) (L : List X) (x : X) → In L x → test x ≡ true → In (filter test L) x
in_kept_by test [] x i e = absurd i
in_kept_by test (y ∷ L) x i e = go (cases_Bool (test y)) i (in_kept_by test L x)
  where
    go : (test y ≡ true) ⊎ (test y ≡ false) → (x ≡ y) ⊎ In L x → (In L x → test x ≡ true → In (filter test L) x) → In (filter test (y ∷ L)) x
    go (inl t) (inl s) below = rw t (inl s)
    go (inl t) (inr i) below = rw t (inr (below i e))
    go (inr n) (inl s) below = absurd (both_ways (test y) n (sym (ap test s) ∙ e))
    go (inr n) (inr i) below = rw n (below i e)

pub kept_by_in : {X : Type 0} (test : X → Bool) (L : List X) (x : X) → In (filter test L) x → In L x × (test x ≡ true)
kept_by_in test [] x i = absurd i
kept_by_in test (y ∷ L) x i = go (cases_Bool (test y)) (kept_by_in test L x)
  where
    take_in : (x ≡ y) ⊎ In (filter test L) x → test y ≡ true → (In (filter test L) x → In L x × (test x ≡ true)) → ((x ≡ y) ⊎ In L x) × (test x ≡ true)
    take_in (inl s) t below = (inl s, ap test s ∙ t)
    take_in (inr j) t below = (inr (below j).0, (below j).1)

    go : (test y ≡ true) ⊎ (test y ≡ false) → (In (filter test L) x → In L x × (test x ≡ true)) → ((x ≡ y) ⊎ In L x) × (test x ≡ true)
    go (inl t) below = take_in (rw t at i) t below
    go (inr n) below = let j : In (filter test L) x = rw n at i in (inr (below j).0, (below j).1)

pub kept_by_turn : {X : Type 0} (test : X → Bool) (L : List X) → (filter test L ≡ L) ⊎ (length (filter test L) < length L)
kept_by_turn test [] = inl refl
kept_by_turn {X} test (y ∷ L) = go (cases_Bool (test y)) (kept_by_turn test L)
  where
    go : (test y ≡ true) ⊎ (test y ≡ false) → (filter test L ≡ L) ⊎ (length (filter test L) < length L)
        → (filter test (y ∷ L) ≡ y ∷ L) ⊎ (length (filter test (y ∷ L)) < length (y ∷ L))
    go (inl t) (inl e) = rw t (inl (ap {B = List X} (λ l. y ∷ l) e))
    go (inl t) (inr l) = rw t (inr (omega arith))
    go (inr n) (inl e) = rw n (inr (let h : length (filter test L) ≡ length L = ap length e in omega arith))
    go (inr n) (inr l) = rw n (inr (omega arith))

-- tests

pub decides_any : {X : Type 0} (f : X → Bool) (P : X → Type 0) → ((x : X) → Decides (f x) (P x)) → (L : List X) → Decides (any f L) ((x : X) × In L x × P x)
decides_any f P each [] = (λ e. absurd (true≢false (sym e)), λ r. absurd r.1)
decides_any {X} f P each (y ∷ L) = go (cases_Bool (f y)) (decides_any f P each L)
  where
    go : (f y ≡ true) ⊎ (f y ≡ false) → Decides (any f L) ((x : X) × In L x × P x) → Decides (any f (y ∷ L)) ((x : X) × In (y ∷ L) x × P x)
    go (inl t) below = rw (t, any) (λ _. (y, inl refl, (each y).0 t), λ _. refl)
    go (inr n) below = rw (n, any) (λ e. (let (x, i, p) = below.0 e in (x, inr i, p)), λ r. other r)
      where
        other : (x : X) × In (y ∷ L) x × P x → any f L ≡ true
        other (x, inl s, p) = absurd (both_ways (f y) n ((each y).1 (subst P s p)))
        other (x, inr i, p) = below.1 (x, i, p)

pub decides_every : {X : Type 0} (f : X → Bool) (P : X → Type 0) → ((x : X) → Decides (f x) (P x)) → (L : List X) → Decides (every f L) ((x : X) → In L x → P x)
decides_every f P each [] = (λ e x i. absurd i, λ r. refl)
decides_every {X} f P each (y ∷ L) = go (cases_Bool (f y)) (decides_every f P each L)
  where
    go : (f y ≡ true) ⊎ (f y ≡ false) → Decides (every f L) ((x : X) → In L x → P x) → Decides (every f (y ∷ L)) ((x : X) → In (y ∷ L) x → P x)
    go (inl t) below = rw (t, every) (λ e x i. other e x i, λ r. below.1 (λ x i. r x (inr i)))
      where
        other : every f L ≡ true → (x : X) → (x ≡ y) ⊎ In L x → P x
        other e x (inl s) = subst P (sym s) ((each y).0 t)
        other e x (inr i) = below.0 e x i
    go (inr n) below = rw (n, every) (λ e. absurd (true≢false (sym e)), λ r. absurd (both_ways (f y) n ((each y).1 (r y (inl refl)))))

pub decides_same : (P Q : List ℕ) → Decides (same P Q) (P ≡ Q)
decides_same [] [] = (λ _. refl, λ _. refl)
decides_same [] (b ∷ Q) = (λ e. cc, λ e. cc)
decides_same (a ∷ P) [] = (λ e. cc, λ e. cc)
decides_same (a ∷ P) (b ∷ Q) = go (cases_Bool (eqb a b)) (decides_same P Q)
  where
    go : (eqb a b ≡ true) ⊎ (eqb a b ≡ false) → Decides (same P Q) (P ≡ Q) → Decides (same (a ∷ P) (b ∷ Q)) (◌≡◌ {A = List ℕ} (a ∷ P) (b ∷ Q))
    go (inl t) below = rw (t, same) (λ e. (let h : a ≡ b = (Decides-eqb a b).0 t in let k : P ≡ Q = below.0 e in cc), λ e. below.1 (cc))
    go (inr n) below = rw (n, same) (λ e. absurd (true≢false (sym e)), λ e. (let h : a ≡ b = cc in absurd (both_ways (eqb a b) n ((Decides-eqb a b).1 h))))

pub in_getD : {X : Type 0} (L : List X) (i : ℕ) (d : X) → i < length L → In L (get_or L i d)
in_getD [] i d h = absurd (omega arith)
in_getD (Q ∷ L) zero d h = inl refl
in_getD (Q ∷ L) (suc i) d h = inr (in_getD L i d (omega arith))

-- lists without repeats

pub in_index : {X : Type 0} (L : List X) (x d : X) → In L x → (k : ℕ) × (k < length L) × (get_or L k d ≡ x)
in_index [] x d i = absurd i
in_index (y ∷ L) x d (inl e) = (0, omega arith, sym e)
in_index (y ∷ L) x d (inr i) = let (k, h, e) = in_index L x d i in (suc k, omega arith, e)

-- two places of one node are one place
pub one_place : {X : Type 0} (L : List X) (i j : ℕ) (d : X) → Distinct L → i < length L → j < length L → get_or L i d ≡ get_or L j d → i ≡ j
one_place [] i j d u hi hj e = absurd (omega arith)
one_place (x ∷ L) zero zero d u hi hj e = refl
one_place (x ∷ L) zero (suc j) d u hi hj e = absurd (u.0 (subst (λ y. In L y) (sym e) (in_getD L j d (omega arith))))
one_place (x ∷ L) (suc i) zero d u hi hj e = absurd (u.0 (subst (λ y. In L y) e (in_getD L i d (omega arith))))
one_place (x ∷ L) (suc i) (suc j) d u hi hj e = ap suc (one_place L i j d u.1 (omega arith) (omega arith) e)

pub distinct_append : {X : Type 0} (L M : List X) → Distinct L → Distinct M → ((x : X) → In L x → In M x → ⊥) → Distinct (L ++ M)
distinct_append [] M d e apart = e
distinct_append {X} (x ∷ L) M (n, d) e apart = (λ i. go (in_append L M x i), distinct_append L M d e (λ y i j. apart y (inr i) j))
  where
    go : In L x ⊎ In M x → ⊥
    go (inl i) = n i
    go (inr j) = apart x (inl refl) j

-- the list without the first x
abbrev Split : {X : Type 0} → List X → X → Type 0
Split {X} L x = (a : List X) × (b : List X) × (L ≡ a ++ (x ∷ b))

split_in : {X : Type 0} (L : List X) (x : X) → In L x → Split L x
split_in [] x i = absurd i
split_in {X} (y ∷ L) x (inl e) = ([], L, ap {B = List X} (λ z. z ∷ L) (sym e))
split_in {X} (y ∷ L) x (inr i) = let (a, b, e) = split_in L x i in (y ∷ a, b, ap {B = List X} (λ l. y ∷ l) e)

-- a list without repeats, all of it in another, is no longer
pub pigeons : {X : Type 0} (L M : List X) → Distinct L → ((x : X) → In L x → In M x) → length L ≤ length M
pigeons [] M d h = omega arith
pigeons {X} (x ∷ L) M (n, d) h =
    let (a, b, e) = split_in M x (h x (inl refl)) in
    let l : length L ≤ length (a ++ b) = pigeons L (a ++ b) d (λ y i. away a b e y i (in_append a (x ∷ b) y (subst (λ l. In l y) e (h y (inr i))))) in
    omega (arith, ap length e, length-append a (x ∷ b), length-append a b)
  where
    away : (a b : List X) → M ≡ a ++ (x ∷ b) → (y : X) → In L y → In a y ⊎ In (x ∷ b) y → In (a ++ b) y
    away a b e y i (inl j) = in_left a b y j
    away a b e y i (inr (inl s)) = absurd (n (subst (λ z. In L z) s i))
    away a b e y i (inr (inr j)) = in_right a b y j

-- the place of one in the list
pub place_in : {X : Type 0} (test : X → X → Bool) → ((a b : X) → Decides (test a b) (a ≡ b)) → (L : List X) (x d : X) → In L x → (place test L x < length L) × (get_or L (place test L x) d ≡ x)
place_in test each [] x d i = absurd i
place_in test each (y ∷ L) x d i = go (cases_Bool (test x y)) i (place_in test each L x d)
  where
    go : (test x y ≡ true) ⊎ (test x y ≡ false) → (x ≡ y) ⊎ In L x → (In L x → (place test L x < length L) × (get_or L (place test L x) d ≡ x))
        → (place test (y ∷ L) x < length (y ∷ L)) × (get_or (y ∷ L) (place test (y ∷ L) x) d ≡ x)
    go (inl t) j below = rw (t, place) (omega arith, sym ((each x y).0 t))
    go (inr n) (inl s) below = absurd (both_ways (test x y) n ((each x y).1 s))
    go (inr n) (inr j) below = let r : (place test L x < length L) × (get_or L (place test L x) d ≡ x) = below j in rw (n, place) (omega (arith, r.0), r.1)

-- a list for each in turn, by number
pub joined_counting : {X Y : Type 0} (f : ℕ → List Y) (g : X → List Y) (L : List X) (a : ℕ) (d : X) → ((i j : ℕ) → a + i ≡ j → i < length L → f j ≡ g (get_or L i d)) → joined f (range_with_len a (length L)) ≡ joined g L
joined_counting f g [] a d h = refl
joined_counting f g (x ∷ L) a d h =
    let e : f a ≡ g x = h 0 a (omega arith) (omega arith) in
    let k : joined f (range_with_len (a + 1) (length L)) ≡ joined g L = joined_counting f g L (a + 1) d (λ i j s l. h (suc i) j (omega arith) (omega arith)) in
    cc
