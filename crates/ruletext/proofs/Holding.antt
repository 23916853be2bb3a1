-- A line whose numbers are in range, in plain words.
use Rattle.std.proofs.Common.{◌≡◌, ℕ, ◌+◌, ◌<◌, List, [], ◌∷◌, ◌++◌, None, refl, inl, inr, arith}
use mathlib.Core.Option as model
use Rattle.model.specs.Lists.{first, In}
use Rattle.model.specs.Text.{Number, Choice, one, each, Arrows, t_line, numbers, state_numbers, choice_number}
use Rattle.model.specs.ReadingLaws.{Below}
use Rattle.model.proofs.Lists.{in_left, in_right}
use Rattle.model.proofs.Reading.Ranges.{AllInside, outside, first_none}
use Rattle.ruletext.specs.Ranges.{spot, first_outside}

pub spot_none : (o : model.Option Number) → spot o ≡ None → o ≡ model.none
spot_none model.none e = refl
spot_none (model.some k) e = let z : ◌≡◌ {A = ℕ} 0 1 = cc in absurd (omega arith)

all_inside : (ks : List Number) → first_outside ks ≡ None → AllInside ks
all_inside ks e = first_none ks (spot_none (first outside ks) e)

states_inside : (n i : ℕ) (qs : List ℕ) → AllInside (state_numbers n i qs) → (q : ℕ) → In qs q → q < n
states_inside n i [] h q k = absurd k
states_inside n i (p ∷ qs) h q (inl e) = let z = h (record { value = p; at = i; least = 0; under = n }) (inl refl) in omega (arith, z.1)
states_inside n i (p ∷ qs) h q (inr k) = states_inside n (i + 2) qs (λ m d. h m (inr d)) q k

choice_below : (n i : ℕ) (u : Choice) → AllInside (choice_number n i u) → Below n u
choice_below n i (one d) h = (h (record { value = d; at = i; least = 0; under = n }) (inl refl)).1
choice_below n i each h = tt

-- the states of an r line
pub states_below : (n i : ℕ) (qs : List ℕ) → first_outside (state_numbers n i qs) ≡ None → (q : ℕ) → In qs q → q < n
states_below n i qs e = states_inside n i qs (all_inside (state_numbers n i qs) e)

-- the numbers of a t line
pub record Leading (S C n : ℕ) (a : Arrows) : Type 0 where
  pub from : a.from < n
  pub command : Below C a.command
  pub situation : Below S a.situation
  pub to : (p : ℕ) → In a.to p → p < n

pub arrows_below : (S C n : ℕ) (a : Arrows) → first_outside (numbers S C n (t_line a)) ≡ None → Leading S C n a
arrows_below S C n a e =
    let t = all_inside (numbers S C n (t_line a)) e in
    let ks = state_numbers n 8 a.to in
    let js = choice_number S 6 a.situation in
    let is = choice_number C 4 a.command in
    record {
      from = (t (record { value = a.from; at = 2; least = 0; under = n }) (inl refl)).1;
      command = choice_below C 4 a.command (λ k d. t k (inr (in_left is (js ++ ks) k d)));
      situation = choice_below S 6 a.situation (λ k d. t k (inr (in_right is (js ++ ks) k (in_left js ks k d))));
      to = states_inside n 8 a.to (λ k d. t k (inr (in_right is (js ++ ks) k (in_right js ks k d))));
    }
