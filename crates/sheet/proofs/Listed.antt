-- Tests on lists, and sums over the states of rules. Assumes nothing.
use Rattle.std.proofs.Common.{◌≡◌, ◌+◌, ◌≤◌, Bool, true, false, not, List, [], ◌∷◌, ◌++◌, length, sum_by, refl, ◌∙◌, arith}
use Rattle.std.specs.List.{filter, list_any, items_where_true}
use Rattle.std.specs.List.Retain.{ReturnsInTurn, IsFiltered}
use Rattle.std.proofs.lemmas.List.Sums.{sum_by-cons, sum_by_push}
use Rattle.std.proofs.lemmas.List.Filters.{sum_by-filter_both}
use Rattle.model.specs.Automaton.{Automaton}
use Rattle.model.specs.Rules.{beside}
use Rattle.model.specs.Lists.{any, every}
use Rattle.ruletext.specs.declared.rule.ReadRule.{ReadRule}
use Rattle.sheet.specs.Added.{meaning, states_of}

-- the library's test of a list is ours
pub any_is : {X : Type 0} (f : X → Bool) (xs : List X) → list_any f xs ≡ any f xs
any_is f [] = refl
any_is f (x ∷ xs) = grind (arith, any_is f xs)

-- the states of rules together
pub states_sum : (H : Automaton) (rules : List ReadRule) → states_of H rules ≡ H.states + sum_by (λ r. (meaning r).states) rules
states_sum H [] = omega arith
states_sum H (r ∷ rules) =
    let below = states_sum (beside H (meaning r)) rules in
    omega (arith, below, sum_by-cons (λ (r : ReadRule). (meaning r).states) r rules)

-- with one rule more behind the others
pub states_push : (H : Automaton) (rules : List ReadRule) (r : ReadRule) → states_of H (rules ++ (r ∷ [])) ≡ states_of H rules + (meaning r).states
states_push H rules r =
    omega (arith, states_sum H (rules ++ (r ∷ [])), states_sum H rules, sum_by_push (λ (r : ReadRule). (meaning r).states) rules r)

-- some of the rules have no more states
pub states_kept : (H : Automaton) (p : ReadRule → Bool) (rules : List ReadRule) → states_of H (filter p rules) ≤ states_of H rules
states_kept H p rules =
    omega (arith, states_sum H (filter p rules), states_sum H rules, sum_by-filter_both p (λ x. not (p x)) (λ _. refl) (λ (r : ReadRule). (meaning r).states) rules)

-- what every one passes, some of them pass, and one more that passes
pub every_kept : {X : Type 0} (f p : X → Bool) (xs : List X) → every f xs ≡ true → every f (filter p xs) ≡ true
every_kept f p [] e = refl
every_kept f p (x ∷ xs) e = grind (arith, every_kept f p xs, e)

pub every_push : {X : Type 0} (f : X → Bool) (xs : List X) (a : X) → every f xs ≡ true → f a ≡ true → every f (xs ++ (a ∷ [])) ≡ true
every_push f [] a e t = grind (arith, t)
every_push f (x ∷ xs) a e t = grind (arith, every_push f xs a, e, t)

-- what is kept of a list by a test that changes, where its answers rest on what no call changes
module _ {X F : Type 0} (R : F → X → Bool → F → Type 0) (test : X → Bool) (I : F → Type 0) (says : (f : F) (x : X) (b : Bool) (g : F) → I f → R f x b g → (b ≡ test x) × I g) where
  kept_head : (x : X) (xs : List X) (bs : List Bool) (b : Bool) → b ≡ test x → items_where_true bs xs ≡ filter test xs → items_where_true (b ∷ bs) (x ∷ xs) ≡ filter test (x ∷ xs)
  kept_head x xs bs true e h = grind (arith, e, h)
  kept_head x xs bs false e h = grind (arith, e, h)

  kept_in_turn : (f : F) (bs : List Bool) (xs : List X) (g : F) → I f → length bs ≡ length xs → ReturnsInTurn R f bs xs g → items_where_true bs xs ≡ filter test xs
  kept_in_turn f [] [] g i e t = refl
  kept_in_turn f [] (x ∷ xs) g i e t = absurd (omega arith)
  kept_in_turn f (b ∷ bs) [] g i e t = absurd t
  kept_in_turn f (b ∷ bs) (x ∷ xs) g i e t =
      let one = says f x b t.0 i t.1 in
      kept_head x xs bs b one.0 (kept_in_turn t.0 bs xs g one.1 (omega arith) t.2)

  pub kept_is : (f : F) (xs ys : List X) → I f → IsFiltered R f xs ys → ys ≡ filter test xs
  kept_is f xs ys i k = k.4 ∙ kept_in_turn f k.0 xs k.1 i k.2 k.3
