-- The states that words name, word by word.
use Rattle.std.proofs.Common.{◌≡◌, ℕ, suc, ◌+◌, ◌*◌, ◌<◌, ◌≤◌, Bool, cond, eqb, leb, ltb, List, [], ◌∷◌, length, Some, None, Option, sym, refl, ap, ◌∙◌, arith}
use Rattle.std.specs.List.{position, position_or_len}
use Rattle.std.proofs.lemmas.Bool.{le-ltb, lt-ltb, ltb-true, ltb-false, le-leb, leb-true, leb-false}
use Rattle.model.specs.Text.{state_numbers, among}
use Rattle.model.proofs.Reading.Basics.{by_test}
use Rattle.ruletext.specs.Lines.{digit_of, states_of}
use Rattle.ruletext.specs.Tables.{names}
use Rattle.ruletext.specs.Ranges.{first_outside}

-- the first of the states lies outside, or not
outside_here : (n i q : ℕ) (qs : List ℕ) → n ≤ q → first_outside (state_numbers n i (q ∷ qs)) ≡ Some i
outside_here n i q qs h = let t = le-ltb q n h in let z = le-leb 0 q (omega arith) in cc

outside_later : (n i q : ℕ) (qs : List ℕ) → q < n → first_outside (state_numbers n i (q ∷ qs)) ≡ first_outside (state_numbers n (i + 2) qs)
outside_later n i q qs h = let t = lt-ltb q n h in let z = le-leb 0 q (omega arith) in cc

-- the first word of which the state is too large, as its byte
module _ (n : ℕ) where
  abbrev too_large : List ℕ → Bool
  too_large word = leb n (digit_of word)

  abbrev byte_at : ℕ → Option ℕ → Option ℕ
  byte_at i None = None
  byte_at i (Some k) = Some (i + 2 * k)

  abbrev first_from : List (List ℕ) → Option ℕ
  first_from words = cond (ltb (position_or_len too_large words) (length words)) (Some (position_or_len too_large words)) None

  outside_position : (i : ℕ) (words : List (List ℕ)) → first_outside (state_numbers n i (states_of words)) ≡ byte_at i (first_from words)
  outside_position i [] = refl
  outside_position i (w ∷ ws) =
      by_test (leb n (digit_of w))
      (λ t.
      let here : position_or_len too_large (w ∷ ws) ≡ 0 = rw t in
      let at : first_from (w ∷ ws) ≡ Some 0 = ap (λ k. cond (ltb k (suc (length ws))) (Some k) None) here ∙ ap (λ b. cond b (Some 0) None) (lt-ltb 0 (suc (length ws)) (omega arith)) in
      let none : i + 2 * 0 ≡ i = omega arith in
      outside_here n i (digit_of w) (states_of ws) (leb-true n (digit_of w) t) ∙ sym (ap (byte_at i) at ∙ ap Some none))
      (λ t.
      let one : 1 + position_or_len too_large ws ≡ suc (position_or_len too_large ws) = omega arith in
      let there : position_or_len too_large (w ∷ ws) ≡ suc (position_or_len too_large ws) = rw t one in
      outside_later n i (digit_of w) (states_of ws) (leb-false n (digit_of w) t) ∙ outside_position (i + 2) ws
      ∙ later (position_or_len too_large ws) ∙ sym (ap (λ k. byte_at i (cond (ltb k (suc (length ws))) (Some k) None)) there))
    where
      later : (k : ℕ) → byte_at (i + 2) (cond (ltb k (length ws)) (Some k) None) ≡ byte_at i (cond (ltb (suc k) (suc (length ws))) (Some (suc k)) None)
      later k =
          by_test (ltb k (length ws))
          (λ t. let u = lt-ltb (suc k) (suc (length ws)) (omega (arith, ltb-true k (length ws) t)) in let e : i + 2 + 2 * k ≡ i + 2 * suc k = omega arith in
          ap (λ b. byte_at (i + 2) (cond b (Some k) None)) t ∙ ap Some e ∙ sym (ap (λ b. byte_at i (cond b (Some (suc k)) None)) u))
          (λ t. let u = le-ltb (suc k) (suc (length ws)) (omega (arith, ltb-false k (length ws) t)) in
          ap (λ b. byte_at (i + 2) (cond b (Some k) None)) t ∙ sym (ap (λ b. byte_at i (cond b (Some (suc k)) None)) u))

  pub outside_none : (i : ℕ) (words : List (List ℕ)) → position too_large words ≡ None → first_outside (state_numbers n i (states_of words)) ≡ None
  outside_none i words e = outside_position i words ∙ ap (byte_at i) e

  pub outside_some : (i k : ℕ) (words : List (List ℕ)) → position too_large words ≡ Some k → first_outside (state_numbers n i (states_of words)) ≡ Some (i + 2 * k)
  outside_some i k words e = outside_position i words ∙ ap (byte_at i) e

-- the words name a state exactly if it is among theirs
pub named_among : (words : List (List ℕ)) (p : ℕ) → names words p ≡ among (states_of words) p
named_among [] p = refl
named_among (w ∷ ws) p = let ih = named_among ws p in by_test (eqb p (digit_of w)) (λ t. cc) (λ t. cc)
