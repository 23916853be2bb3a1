-- The safe part as a list, its length, and the first position. Assumes nothing.
use Rattle.std.proofs.Common.{◌≡◌, ℕ, zero, suc, ◌+◌, ◌<◌, ◌≤◌, Bool, true, false, cond, eqb, ◌⊎◌, List, [], ◌∷◌, length, get_or, sym, refl, ap, ◌∙◌, subst, inl, inr, true≢false, zero-le, arith, length-append}
use mathlib.Core.Bool.{false≢true}
use mathlib.Core.Option.{some}
use Rattle.std.specs.List.{count_by, filter}
use Rattle.std.proofs.lemmas.List.Recursion.{is_count_by}
use Rattle.model.specs.Automaton.{Automaton}
use Rattle.model.specs.Lists.{In}
use Rattle.model.specs.Positions.{Position, start_position, successors, reach, member, kept, pruned, safe_part}
use Rattle.model.specs.SearchLaws.{InMeetingOrder, MetBehind}
use Rattle.model.proofs.Lists.{kept_by_in}
use Rattle.model.proofs.Reaching.{reach_exact, pruned_in}
use Rattle.synthesis.proofs.Deciding.{member_sound, member_complete}
use Rattle.synthesis.specs.Safety.{flag, trues}

module _ {X : Type 0} where
  kept_all : (f : X → Bool) (xs : List X) → ((x : X) → In xs x → f x ≡ true) → filter f xs ≡ xs
  kept_all f [] h = refl
  kept_all f (x ∷ xs) h = ap {B = List X} (λ b. cond b (x ∷ filter f xs) (filter f xs)) (h x (inl refl)) ∙ ap {B = List X} (λ l. x ∷ l) (kept_all f xs (λ y i. h y (inr i)))

  -- what f keeps, g keeps as well
  kept_kept : (f g : X → Bool) (xs : List X) → ((x : X) → f x ≡ true → g x ≡ true) → filter f (filter g xs) ≡ filter f xs
  kept_kept f g [] h = refl
  kept_kept f g (x ∷ xs) h = go (f x) (g x) refl refl (kept_kept f g xs h)
    where
      go : (b c : Bool) → f x ≡ b → g x ≡ c → filter f (filter g xs) ≡ filter f xs
          → filter f (cond c (x ∷ filter g xs) (filter g xs)) ≡ cond b (x ∷ filter f xs) (filter f xs)
      go true true e p r = ap {B = List X} (λ t. cond t (x ∷ filter f (filter g xs)) (filter f (filter g xs))) e ∙ ap {B = List X} (λ l. x ∷ l) r
      go true false e p r = absurd (true≢false (sym (h x e) ∙ p))
      go false true e p r = ap {B = List X} (λ t. cond t (x ∷ filter f (filter g xs)) (filter f (filter g xs))) e ∙ r
      go false false e p r = r

module _ (A : Automaton) where
  -- what is left is what it tests
  left_is : (n : ℕ) (L : List Position) → pruned A n L ≡ filter (member (pruned A n L)) L
  left_is zero L = sym (kept_all (member L) L (λ P i. member_complete L P i))
  left_is (suc n) L = go (eqb (length (filter (kept A L) L)) (length L)) (left_is n (filter (kept A L) L))
    where
      go : (b : Bool) → pruned A n (filter (kept A L) L) ≡ filter (member (pruned A n (filter (kept A L) L))) (filter (kept A L) L)
          → elim b as (λ v. List Position) [ true ↦ L | false ↦ pruned A n (filter (kept A L) L) ]
          ≡ filter (member (elim b as (λ v. List Position) [ true ↦ L | false ↦ pruned A n (filter (kept A L) L) ])) L
      go true r = sym (kept_all (member L) L (λ P i. member_complete L P i))
      go false r =
          let rest = filter (kept A L) L in
          let R = pruned A n rest in
          r ∙ kept_kept (member R) (kept A L) L (λ P m. (kept_by_in (kept A L) L P (pruned_in A n rest P (member_sound R P m))).1)

  count_kept : (f : Position → Bool) (L : List Position) (flags : List Bool) → length flags ≡ length L → ((h : ℕ) → h < length L → flag flags h ≡ f (get_or L h [])) → length (filter f L) ≡ trues flags
  count_kept f [] [] e h = refl
  count_kept f [] (b ∷ flags) e h = absurd (omega arith)
  count_kept f (P ∷ L) [] e h = absurd (omega arith)
  count_kept f (P ∷ L) (b ∷ flags) e h = go b (f P) (h 0 (omega arith)) (count_kept f L flags (omega arith) (λ k l. h (suc k) (omega arith)))
    where
      go : (b c : Bool) → b ≡ c → length (filter f L) ≡ trues flags → length (cond c (P ∷ filter f L) (filter f L)) ≡ cond b 1 0 + trues flags
      go true true e r = omega arith
      go false false e r = omega arith
      go true false e r = absurd (true≢false e)
      go false true e r = absurd (false≢true e)

  pub safe_count : (L : List Position) (flags : List Bool) → length flags ≡ length L → ((h : ℕ) → h < length L → flag flags h ≡ member (safe_part A L) (get_or L h [])) → length (safe_part A L) ≡ trues flags
  unfolding safe_part
  safe_count L flags e h = ap {B = ℕ} length (left_is (length L) L) ∙ count_kept (member (safe_part A L)) L flags e h

  pub start_first : (c room : ℕ) (L : List Position) → reach A c room ≡ some L → 0 < length L → get_or L 0 [] ≡ start_position A
  start_first c room L e lt = go L ((reach_exact A c room).0 L e).3 lt
    where
      go : (L : List Position) → InMeetingOrder (successors A c) (start_position A) L → 0 < length L → get_or L 0 [] ≡ start_position A
      go [] ordered lt = absurd (omega arith)
      go (P ∷ L) ordered lt = front (ordered [] P L refl)
        where
          front : (◌≡◌ {A = List Position} [] [] × (P ≡ start_position A)) ⊎ MetBehind (successors A c) [] P → P ≡ start_position A
          front (inl (e, f)) = f
          front (inr (earlier, z, later, left, right, e, f, g, h)) = absurd (omega (arith, ap length e, length-append earlier (z ∷ later)))

pub trues_counted : (bs : List Bool) → count_by (λ b. b) bs ≡ trues bs
trues_counted bs = sym (is_count_by trues (λ b. b) refl (λ b bs. more b (trues bs)) bs)
  where
    more : (b : Bool) (n : ℕ) → cond b 1 0 + n ≡ cond b (1 + n) n
    more true n = refl
    more false n = omega arith

pub trues_short : (bs : List Bool) → trues bs ≤ length bs
trues_short [] = zero-le
trues_short (b ∷ bs) = go b (trues_short bs)
  where
    go : (b : Bool) → trues bs ≤ length bs → cond b 1 0 + trues bs ≤ suc (length bs)
    go true h = omega arith
    go false h = omega arith

-- one flag is set at least
pub trues_some : (bs : List Bool) → 0 < length bs → flag bs 0 ≡ true → 0 < trues bs
trues_some [] l e = absurd (omega arith)
trues_some (b ∷ bs) l e = subst (λ v. 0 < cond v 1 0 + trues bs) (sym e) (omega arith)
