-- When two names are the same. Assumes nothing.
use Rattle.std.proofs.Common.{◌≡◌, ℕ, ◌<◌, Bool, true, false, eqb, List, [], ◌∷◌, map, length, get_or, ◌↔◌, refl, ap, ◌∙◌, sym, arith, ext_get_or}
use Rattle.std.proofs.lemmas.List.{length-map, get_or-map}
use Rattle.std.proofs.lemmas.Bool.{false≢true, eqb-true}
use Rattle.std.specs.Char.{to_ascii_lowercase}
use Rattle.model.specs.Sheet.{small, same_name}
use Rattle.model.proofs.Lists.{decides_same}
use Rattle.synthesis.proofs.Deciding.{same_bool}

small_letter : (b : ℕ) → to_ascii_lowercase b ≡ small b
small_letter b = grind arith

small_letters : (name : List ℕ) → map to_ascii_lowercase name ≡ map small name
small_letters [] = refl
small_letters (b ∷ name) = let e = small_letter b in let h = small_letters name in cc

-- they are the same if their small letters are
pub alike : (a b : List ℕ) (r : Bool) → (r ≡ true) ↔ (map to_ascii_lowercase a ≡ map to_ascii_lowercase b) → r ≡ same_name a b
alike a b r h =
    let same = decides_same (map small a) (map small b) in
    same_bool r (same_name a b)
    (λ e. same.1 (sym (small_letters a) ∙ h.0 e ∙ small_letters b))
    (λ e. h.1 (small_letters a ∙ same.0 e ∙ sym (small_letters b)))

-- PLACE BY PLACE

module _ (a b : List ℕ) where
  abbrev At : ℕ → Type 0
  At k = to_ascii_lowercase (get_or a k 0) ≡ to_ascii_lowercase (get_or b k 0)

  same_length : map to_ascii_lowercase a ≡ map to_ascii_lowercase b → length a ≡ length b
  same_length e = sym (length-map a to_ascii_lowercase) ∙ ap length e ∙ length-map b to_ascii_lowercase

  same_at : (k : ℕ) → k < length a → k < length b → map to_ascii_lowercase a ≡ map to_ascii_lowercase b → At k
  same_at k l m e = sym (get_or-map to_ascii_lowercase a k 0 0 l) ∙ ap {B = ℕ} (λ v. get_or v k 0) e ∙ get_or-map to_ascii_lowercase b k 0 0 m

  same_all : length a ≡ length b → ((k : ℕ) → k < length a → k < length b → At k) → map to_ascii_lowercase a ≡ map to_ascii_lowercase b
  same_all long each =
      ext_get_or 0 (map to_ascii_lowercase a) (map to_ascii_lowercase b) (length-map a to_ascii_lowercase ∙ long ∙ sym (length-map b to_ascii_lowercase))
      (λ k l.
      let m = length-map a to_ascii_lowercase in
      let in_a : k < length a = omega (arith, m, l) in
      let in_b : k < length b = omega (arith, long, in_a) in
      get_or-map to_ascii_lowercase a k 0 0 in_a ∙ each k in_a in_b ∙ sym (get_or-map to_ascii_lowercase b k 0 0 in_b))

  -- names of other lengths are not the same
  pub longer : (length a ≡ length b → ⊥) → eqb (length a) (length b) ≡ same_name a b
  longer apart = alike a b (eqb (length a) (length b)) (λ e. absurd (apart (eqb-true (length a) (length b) e)), λ e. absurd (apart (same_length e)))

  -- names as long are the same if their small letters are, place by place
  pub alike_by_place : (r : Bool) → length a ≡ length b → (r ≡ true → (k : ℕ) → k < length a → k < length b → At k) → (r ≡ false → (k : ℕ) × (k < length a) × (At k → ⊥)) → r ≡ same_name a b
  alike_by_place true long each apart = alike a b true (λ e. same_all long (each refl), λ e. refl)
  alike_by_place false long each apart =
      let (k, l, differ) = apart refl in
      alike a b false (λ e. absurd (false≢true e), λ e. absurd (differ (same_at k l (omega (arith, long, l)) e)))
