-- The new nodes of the model's search are those that are met one by one.
use Rattle.std.proofs.Common.{◌≡◌, ℕ, suc, ◌+◌, ◌<◌, ◌≤◌, Bool, true, false, cond, ◌||◌, ltb, List, [], ◌∷◌, ◌++◌, map, length, drop, Some, None, fold, Option, sym, refl, ap, ◌∙◌, inl, inr, true≢false, append_assoc, append-nil, arith, length-append}
use mathlib.Core.Bool.{false≢true}
use Rattle.std.specs.List.{range_with_len}
use Rattle.std.proofs.lemmas.List.{take-append-drop}
use Rattle.std.proofs.lemmas.Bool.{lt-ltb, le-ltb, cases_lt}
use Rattle.std.proofs.lemmas.List.Sums.{fold_push}
use Rattle.std.proofs.lemmas.List.FromFn.{map-range_with_len_more, take-map-range_with_len}
use Rattle.model.specs.Lists.{any}
use Rattle.model.specs.Search.{place, fresh}
use Rattle.search.specs.Meeting.{present, successors, with_met, with_successors}

module _ {X : Type 0} (same : X → X → Bool) where
  -- a node is met if it has a place
  any_place : (xs : List X) (y : X) → any (same y) xs ≡ ltb (place same xs y) (length xs)
  any_place [] y = refl
  any_place (x ∷ xs) y = go (same y x) (any_place xs y)
    where
      go : (b : Bool) → any (same y) xs ≡ ltb (place same xs y) (length xs)
          → elim b as (λ v. Bool) [ true ↦ true | false ↦ any (same y) xs ] ≡ ltb (elim b as (λ v. ℕ) [ true ↦ 0 | false ↦ suc (place same xs y) ]) (suc (length xs))
      go true r = sym (lt-ltb 0 (suc (length xs)) (omega arith))
      go false r = elim (cases_lt (place same xs y) (length xs)) [
        | inl h ↦ r ∙ lt-ltb (place same xs y) (length xs) h ∙ sym (lt-ltb (suc (place same xs y)) (suc (length xs)) (omega arith))
        | inr h ↦ r ∙ le-ltb (place same xs y) (length xs) h ∙ sym (le-ltb (suc (place same xs y)) (suc (length xs)) (omega arith))
      ]

  any_append : (f : X → Bool) (xs ys : List X) → any f (xs ++ ys) ≡ (any f xs || any f ys)
  any_append f [] ys = refl
  any_append f (x ∷ xs) ys = go (f x) (any_append f xs ys)
    where
      go : (b : Bool) → any f (xs ++ ys) ≡ (any f xs || any f ys)
          → elim b as (λ v. Bool) [ true ↦ true | false ↦ any f (xs ++ ys) ] ≡ (elim b as (λ v. Bool) [ true ↦ true | false ↦ any f xs ] || any f ys)
      go true r = refl
      go false r = r

  -- what is new depends on the test alone
  fresh_like : (m n ys : List X) → ((y : X) → any (same y) m ≡ any (same y) n) → fresh same m ys ≡ fresh same n ys
  fresh_like m n [] h = refl
  fresh_like m n (y ∷ ys) h =
      go (any (same y) m) (any (same y) n) (h y) (fresh_like m n ys h)
      (fresh_like (y ∷ m) (y ∷ n) ys (λ z. ap (λ b. elim (same z y) as (λ v. Bool) [ true ↦ true | false ↦ b ]) (h z)))
    where
      go : (b c : Bool) → b ≡ c → fresh same m ys ≡ fresh same n ys → fresh same (y ∷ m) ys ≡ fresh same (y ∷ n) ys
          → elim b as (λ v. List X) [ true ↦ fresh same m ys | false ↦ y ∷ fresh same (y ∷ m) ys ]
          ≡ elim c as (λ v. List X) [ true ↦ fresh same n ys | false ↦ y ∷ fresh same (y ∷ n) ys ]
      go true true e r t = r
      go false false e r t = ap {B = List X} (λ l. y ∷ l) t
      go true false e r t = absurd (true≢false e)
      go false true e r t = absurd (false≢true e)

  or_swap : (a b : Bool) → (a || b) ≡ (b || a)
  or_swap true true = refl
  or_swap true false = refl
  or_swap false true = refl
  or_swap false false = refl

  one_by_one : (m : List X) (os : List (Option X)) → fold (with_met same) m os ≡ m ++ fresh same m (present os)
  one_by_one m [] = sym (append-nil m)
  one_by_one m (None ∷ os) = one_by_one m os
  one_by_one m (Some y ∷ os) = go (any (same y) m) (any_place m y) (one_by_one m os) (one_by_one (m ++ (y ∷ [])) os)
    where
      behind : (z : X) → any (same z) (m ++ (y ∷ [])) ≡ any (same z) (y ∷ m)
      behind z = any_append (same z) m (y ∷ []) ∙ or_swap (any (same z) m) (any (same z) (y ∷ [])) ∙ sym (any_append (same z) (y ∷ []) m)

      go : (b : Bool) → b ≡ ltb (place same m y) (length m)
          → fold (with_met same) m os ≡ m ++ fresh same m (present os)
          → fold (with_met same) (m ++ (y ∷ [])) os ≡ (m ++ (y ∷ [])) ++ fresh same (m ++ (y ∷ [])) (present os)
          → fold (with_met same) (cond (ltb (place same m y) (length m)) m (m ++ (y ∷ []))) os
          ≡ m ++ elim b as (λ v. List X) [ true ↦ fresh same m (present os) | false ↦ y ∷ fresh same (y ∷ m) (present os) ]
      go true e r t = rw (← e) r
      go false e r t =
          rw (← e) (t ∙ ap {B = List X} (λ l. (m ++ (y ∷ [])) ++ l) (fresh_like (m ++ (y ∷ [])) (y ∷ m) (present os) behind)
          ∙ append_assoc m (y ∷ []) (fresh same (y ∷ m) (present os)))

  -- the nodes met, and behind them the new ones among the successors
  pub met_behind : (degree : ℕ) (successor : X → ℕ → Option X) (m : List X) (x : X)
      → with_successors same degree successor m x ≡ m ++ fresh same m (successors degree successor x)
  met_behind degree successor m x = one_by_one m (map (successor x) (range_with_len 0 degree))

  -- a meeting adds at most at the end
  pub met_extends : (m : List X) (o : Option X) → (new : List X) × (with_met same m o ≡ m ++ new)
  met_extends m None = ([], sym (append-nil m))
  met_extends m (Some y) = go (ltb (place same m y) (length m))
    where
      go : (b : Bool) → (new : List X) × (cond b m (m ++ (y ∷ [])) ≡ m ++ new)
      go true = ([], sym (append-nil m))
      go false = (y ∷ [], refl)

  pub met_new : (m : List X) (y : X) → length m ≤ place same m y → with_met same m (Some y) ≡ m ++ (y ∷ [])
  met_new m y h = let e = le-ltb (place same m y) (length m) h in rw e

  pub met_old : (m : List X) (y : X) → place same m y < length m → with_met same m (Some y) ≡ m
  met_old m y h = let e = lt-ltb (place same m y) (length m) h in rw e

  folded_append : (m : List X) (os ps : List (Option X)) → fold (with_met same) m (os ++ ps) ≡ fold (with_met same) (fold (with_met same) m os) ps
  folded_append m [] ps = refl
  folded_append m (o ∷ os) ps = folded_append (with_met same m o) os ps

  -- once there are too many, there are too many in the end
  pub over_all : (successor : ℕ → Option X) (room degree i : ℕ) (m : List X) → i < degree
      → room < length (with_met same (fold (with_met same) m (map successor (range_with_len 0 i))) (successor i))
      → room < length (fold (with_met same) m (map successor (range_with_len 0 degree)))
  over_all successor room degree i m lt over =
      let all = map successor (range_with_len 0 degree) in
      let before = map successor (range_with_len 0 i) in
      let now = with_met same (fold (with_met same) m before) (successor i) in
      let rest = drop (i + 1) all in
      let e : all ≡ (before ++ (successor i ∷ [])) ++ rest =
      sym (take-append-drop (i + 1) all) ∙ ap {B = List (Option X)} (λ l. l ++ rest) (take-map-range_with_len successor 0 degree (i + 1) (omega arith) ∙ map-range_with_len_more successor 0 i i (omega arith)) in
      let f : fold (with_met same) m all ≡ now ++ fresh same now (present rest) =
      ap {B = List X} (λ l. fold (with_met same) m l) e ∙ folded_append m (before ++ (successor i ∷ [])) rest
      ∙ ap {B = List X} (λ l. fold (with_met same) l rest) (fold_push (with_met same) m before (successor i)) ∙ one_by_one now rest in
      omega (arith, ap {B = ℕ} length f, length-append now (fresh same now (present rest)), over)
