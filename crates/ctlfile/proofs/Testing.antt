-- The tests of a row and of an arrow, part by part. Assumes nothing.
use Rattle.std.proofs.Common.{◌≡◌, ℕ, zero, suc, ◌+◌, ◌<◌, Bool, true, false, ◌≤◌, ◌⊎◌, inl, inr, ◌&&◌, ltb, List, [], ◌∷◌, length, get_or, sym, refl, ap, ◌∙◌, arith}
use Rattle.std.specs.List.{list_all, range_with_len}
use Rattle.std.proofs.lemmas.Bool.{lt-ltb, le-ltb, ltb-true, and_parts, cases_eq, true≢false}
use Rattle.model.specs.Automaton.{Automaton, weight, Row, no_row}
use Rattle.model.specs.Lists.{every}
use Rattle.model.specs.File.{Window, mark_in, good_row, bad_arrow, place}
use Rattle.model.proofs.Lists.{decides_every, in_getD}

-- EVERY, by number

list_all_at : (p : ℕ → Bool) (a n : ℕ) → list_all p (range_with_len a n) ≡ true → (k : ℕ) → a ≤ k → k < a + n → p k ≡ true
list_all_at p a zero e k l m = absurd (omega arith)
list_all_at p a (suc n) e k l m =
    let (t, r) = and_parts (p a) (list_all p (range_with_len (a + 1) n)) e in go t (λ q. list_all_at p (a + 1) n r k (omega arith) (omega arith)) (cases_eq k a)
  where
    go : p a ≡ true → ((k ≡ a → ⊥) → p k ≡ true) → (k ≡ a) ⊎ (k ≡ a → ⊥) → p k ≡ true
    go t above (inl q) = ap {B = Bool} p q ∙ t
    go t above (inr q) = above q

list_all_fails : (p : ℕ → Bool) (a n : ℕ) → list_all p (range_with_len a n) ≡ false → (k : ℕ) × (k < a + n) × (p k ≡ false)
list_all_fails p a zero e = absurd (true≢false e)
list_all_fails p a (suc n) e = go (p a) refl (list_all_fails p (a + 1) n)
  where
    go : (b : Bool) → p a ≡ b → (list_all p (range_with_len (a + 1) n) ≡ false → (k : ℕ) × (k < a + 1 + n) × (p k ≡ false)) → (k : ℕ) × (k < a + suc n) × (p k ≡ false)
    go true t above = let w = above (rw t at e) in (w.0, omega (arith, w.1), w.2)
    go false t above = (a, omega arith, t)

pub every_passes : {X : Type 0} (f : X → Bool) (L : List X) (d : X) → ((k : ℕ) → k < length L → f (get_or L k d) ≡ true) → every f L ≡ true
every_passes f [] d h = refl
every_passes f (x ∷ L) d h = let t : f x ≡ true = h 0 (omega arith) in rw (t, every) (every_passes f L d (λ k l. h (suc k) (omega arith)))

pub every_fails : {X : Type 0} (f : X → Bool) (L : List X) (i : ℕ) (d : X) → i < length L → f (get_or L i d) ≡ false → every f L ≡ false
every_fails f [] i d l e = absurd (omega arith)
every_fails f (x ∷ L) zero d l e = rw (e, every)
every_fails {X} f (x ∷ L) (suc i) d l e = go (f x) (every_fails f L i d (omega arith) e)
  where
    go : (b : Bool) → every f L ≡ false → elim b as (λ v. Bool) [ true ↦ every f L | false ↦ false ] ≡ false
    go true below = below
    go false below = refl

pub every_at : {X : Type 0} (f : X → Bool) (L : List X) (i : ℕ) (d : X) → every f L ≡ true → i < length L → f (get_or L i d) ≡ true
every_at f L i d e l = (decides_every f (λ x. f x ≡ true) (λ x. (λ t. t, λ t. t)) L).0 e (get_or L i d) (in_getD L i d l)

-- every one of so many, by number
pub every_numbered : {X : Type 0} (f : X → Bool) (L : List X) (d : X) (n : ℕ) → length L ≡ n → list_all (λ k. f (get_or L k d)) (range_with_len 0 n) ≡ every f L
every_numbered {X} f L d n long = go (list_all (λ k. f (get_or L k d)) (range_with_len 0 n)) refl
  where
    go : (b : Bool) → list_all (λ k. f (get_or L k d)) (range_with_len 0 n) ≡ b → list_all (λ k. f (get_or L k d)) (range_with_len 0 n) ≡ every f L
    go true e = e ∙ sym (every_passes f L d (λ k l. list_all_at (λ k. f (get_or L k d)) 0 n e k (omega arith) (omega (arith, long))))
    go false e = let w = list_all_fails (λ k. f (get_or L k d)) 0 n e in e ∙ sym (every_fails f L w.0 d (omega (arith, long, w.1)) w.2)

-- what good rows say of a command and of a next state

pub good_command : (A : Automaton) (w : Window) (s : ℕ) → every (good_row A (length w.rows)) w.rows ≡ true → s < length w.rows → (get_or w.rows s no_row).command < A.commands
good_command A w s e l =
    let r : Row = get_or w.rows s no_row in
    ltb-true r.command A.commands (and_parts (ltb r.command A.commands) (every (λ n. ltb n (length w.rows)) r.nexts) (every_at (good_row A (length w.rows)) w.rows s no_row e l)).0

pub good_next : (A : Automaton) (w : Window) (s x : ℕ) → every (good_row A (length w.rows)) w.rows ≡ true → s < length w.rows → x < length (get_or w.rows s no_row).nexts
    → get_or (get_or w.rows s no_row).nexts x 0 < length w.rows
good_next A w s x e l h =
    let r : Row = get_or w.rows s no_row in
    ltb-true (get_or r.nexts x 0) (length w.rows)
    (every_at (λ n. ltb n (length w.rows)) r.nexts x 0
    (and_parts (ltb r.command A.commands) (every (λ n. ltb n (length w.rows)) r.nexts) (every_at (good_row A (length w.rows)) w.rows s no_row e l)).1 h)

-- ARROWS

if_is : (x y : Bool) → elim x [ true ↦ y | false ↦ false ] ≡ (x && y)
if_is true y = refl
if_is false y = refl

-- from a rule state that is absent
pub absent_arrow : (A : Automaton) (w : Window) (s x q p : ℕ) → mark_in w s q ≡ 0 → bad_arrow A w (place s x q p) ≡ false
absent_arrow A w s x q p e = let t : ltb 0 (mark_in w s q) ≡ false = le-ltb 0 (mark_in w s q) (omega arith) in rw (t, bad_arrow)

-- from one that is present with the mark m, under the command u, to the state t
pub arrow_test : (A : Automaton) (w : Window) (s x q p m u t : ℕ) → m ≡ mark_in w s q → 0 < m → u ≡ (get_or w.rows s no_row).command → t ≡ get_or (get_or w.rows s no_row).nexts x 0
    → bad_arrow A w (place s x q p) ≡ (A.follows q u x p && ltb (mark_in w t p) (m + weight A p))
arrow_test A w s x q p m u t em h eu et =
    let here : ltb 0 (mark_in w s q) ≡ true = lt-ltb 0 (mark_in w s q) (omega arith) in
    let r : Row = get_or w.rows s no_row in
    let opened : bad_arrow A w (place s x q p) ≡ elim (A.follows q r.command x p) [ true ↦ ltb (mark_in w (get_or r.nexts x 0) p) (mark_in w s q + weight A p) | false ↦ false ] = rw (here, bad_arrow) in
    opened
    ∙ if_is (A.follows q r.command x p) (ltb (mark_in w (get_or r.nexts x 0) p) (mark_in w s q + weight A p))
    ∙ sym (λ i. A.follows q (eu i) x p && ltb (mark_in w (et i) p) (em i + weight A p))
