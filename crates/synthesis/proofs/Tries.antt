-- One bound after the other. Assumes nothing.
use Rattle.std.proofs.Common.{◌≡◌, ℕ, suc, ◌+◌, ◌-◌, ◌<◌, ◌≤◌, Bool, true, false, List, length, take, Some, Option as Maybe, sym, refl, ap, ◌∙◌, add-one, subst, inl, inr, arith}
use mathlib.Core.Option.{Option, none, some}
use Rattle.std.proofs.lemmas.Bool.{cases_lt}
use Rattle.std.proofs.lemmas.List.{length-map, length-take-le, get_or-take}
use Rattle.model.specs.Automaton.{Automaton}
use Rattle.model.specs.Positions.{Position, Solution, found, too_crowded, reach, member, safe_part, start_position, found_in, try_from, solve}
use Rattle.synthesis.specs.declared.position.Position.{Position as Stored}
use Rattle.synthesis.specs.Tables.{view}
use Rattle.synthesis.specs.Safety.{flag}
use Rattle.synthesis.specs.Surveys.{shown, Surveyed}
use Rattle.synthesis.proofs.Whole.{start_first}

module _ (A : Automaton) (room : ℕ) where
  abbrev seek : ℕ → ℕ → Option (List Position) → Solution
  seek t c none = too_crowded
  seek t c (some L) =
      let R = safe_part A L in
      elim (member R (start_position A)) as (λ v. Solution) [ true ↦ found (found_in A c R) | false ↦ try_from A room t (suc c) ]

  tried : (t c : ℕ) → try_from A room (suc t) c ≡ seek t c (reach A c room)
  tried t c = go (reach A c room)
    where
      go : (o : Option (List Position)) → elim o as (λ v. Solution) [ none ↦ too_crowded | some L ↦ elim (member (safe_part A L) (start_position A)) as (λ v. Solution) [ true ↦ found (found_in A c (safe_part A L)) | false ↦ try_from A room t (suc c) ] ] ≡ seek t c o
      go none = refl
      go (some L) = refl

  pub try_begins : (limit : ℕ) → try_from A room (suc limit - 0) 0 ≡ solve A room limit
  unfolding solve
  try_begins limit = let e : suc limit - 0 ≡ suc limit = omega arith in ap {B = Solution} (λ t. try_from A room t 0) e

  pub try_found : (limit c : ℕ) (L : List Position) → c ≤ limit → reach A c room ≡ some L → member (safe_part A L) (start_position A) ≡ true → try_from A room (suc limit - c) c ≡ found (found_in A c (safe_part A L))
  try_found limit c L h e m =
      let t : suc limit - c ≡ suc (limit - c) = omega arith in
      ap {B = Solution} (λ n. try_from A room n c) t ∙ tried (limit - c) c ∙ ap {B = Solution} (seek (limit - c) c) e
      ∙ ap {B = Solution} (λ b. elim b as (λ v. Solution) [ true ↦ found (found_in A c (safe_part A L)) | false ↦ try_from A room (limit - c) (suc c) ]) m

  pub try_next : (limit c : ℕ) (L : List Position) → c ≤ limit → reach A c room ≡ some L → member (safe_part A L) (start_position A) ≡ false
      → try_from A room (suc limit - (c + 1)) (c + 1) ≡ try_from A room (suc limit - c) c
  try_next limit c L h e m =
      let t : suc limit - c ≡ suc (limit - c) = omega arith in
      let u : suc limit - (c + 1) ≡ limit - c = omega arith in
      ap {B = Solution} (λ n. try_from A room n (c + 1)) u
      ∙ ap {B = Solution} (try_from A room (limit - c)) (add-one c)
      ∙ sym (ap {B = Solution} (λ n. try_from A room n c) t ∙ tried (limit - c) c ∙ ap {B = Solution} (seek (limit - c) c) e
      ∙ ap {B = Solution} (λ b. elim b as (λ v. Solution) [ true ↦ found (found_in A c (safe_part A L)) | false ↦ try_from A room (limit - c) (suc c) ]) m)

  -- the start's flag tells whether the start is safe
  pub start_told : (c len : ℕ) (slots : List Stored) (links : List (List (Maybe ℕ))) (safe : List Bool) → len ≤ length slots → Surveyed A c room (Some len) slots links safe → 0 < len
      → flag safe 0 ≡ member (safe_part A (shown A len slots)) (start_position A)
  start_told c len slots links safe hl s lt =
      let L = shown A len slots in
      let e : length L ≡ len = length-map (take len slots) (view A.states) ∙ length-take-le len slots hl in
      s.1 0 lt ∙ ap {B = Bool} (member (safe_part A L)) (start_first A c room L s.0.1 (omega (arith, e)))

  pub start_lost : (c : ℕ) (slots : List Stored) (links : List (List (Maybe ℕ))) (safe : List Bool) → member (safe_part A (shown A 0 slots)) (start_position A) ≡ false
  unfolding safe_part member
  start_lost c slots links safe = refl

  -- a start whose flag is down is not safe
  pub start_unsafe : (c len : ℕ) (slots : List Stored) (links : List (List (Maybe ℕ))) (safe : List Bool) → len ≤ length slots → Surveyed A c room (Some len) slots links safe → flag (take (len - 0) safe) 0 ≡ false
      → member (safe_part A (shown A len slots)) (start_position A) ≡ false
  start_unsafe c len slots links safe hl s down =
      elim (cases_lt 0 len) [
        | inl k ↦ sym (start_told c len slots links safe hl s k) ∙ sym (get_or-take (len - 0) safe 0 false (omega (arith, k))) ∙ down
        | inr h ↦
            (let z : 0 ≡ len = omega (arith, h) in
            subst (λ n. member (safe_part A (shown A n slots)) (start_position A) ≡ false) z (start_lost c slots links safe))
      ]
