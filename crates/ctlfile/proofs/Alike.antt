-- Automata that answer alike below their numbers have the same files. Assumes nothing.
use Rattle.std.proofs.Common.{◌≡◌, ℕ, ◌+◌, ◌-◌, ◌<◌, Bool, true, false, cond, ◌&&◌, eqb, ltb, leb, List, [], ◌∷◌, length, get_or, take, drop, Ok, Err, Result, sym, refl, ap, ◌∙◌, inl, inr, arith}
use mathlib.Core.Option.{Option, none, some}
use Rattle.model.specs.declared.refusal.Place.{Place}
use Rattle.model.specs.declared.refusal.Refusal.{Refusal}
use Rattle.model.specs.declared.refusal.Refusal.TheVariants.{Trailer, OtherSheet, Layout, Record, Certificate}
use Rattle.model.specs.Automaton.{Automaton, weight, Row, no_row}
use Rattle.model.specs.Lists.{every, first, In}
use Rattle.model.specs.Positions.{same}
use Rattle.model.specs.File.{number_of, piece, file_mark, records_size, certificate_size, trailer, file, Window, mark_in, good_row, bad_byte, bad_start, bad_arrow, byte_places, start_places, arrow_places, first_broken, look_through, check}
use Rattle.model.proofs.Files.{window_at}
use Rattle.model.proofs.Checking.{starts_in, arrows_in}
use Rattle.synthesis.specs.Tables.{Agrees}
use Rattle.ctlfile.specs.Agreement.{ChecksAlike, FilesAlike}
use Rattle.ctlfile.proofs.Testing.{good_command}

first_like : {X : Type 0} (f g : X → Bool) (L : List X) → ((x : X) → In L x → f x ≡ g x) → first f L ≡ first g L
first_like f g [] h = refl
first_like {X} f g (x ∷ L) h =
    ap {B = Option X} (λ b. elim b as (λ v. Option X) [ true ↦ some x | false ↦ first f L ]) (h x (inl refl))
    ∙ ap {B = Option X} (λ o. elim (g x) as (λ v. Option X) [ true ↦ some x | false ↦ o ]) (first_like f g L (λ y i. h y (inr i)))

-- the tests of a file's end, and what follows if they pass
abbrev tested : Automaton → List ℕ → Result ℕ Refusal → Result ℕ Refusal
tested A bytes looked =
    let at = length bytes - 20 in
    let end = drop at bytes in
    let m = number_of (piece 12 2 end) in
    let c = get_or end 17 0 in
    let records = records_size A.situations m in
    let cert = certificate_size A.states m in
    elim (leb 20 (length bytes) && (same (take 4 end) file_mark && (same (drop 18 end) (0 ∷ 0 ∷ []) && (leb 1 m && (leb m 1024 && leb c 14))))) as (λ v. Result ℕ Refusal) [
      | false ↦ Err Trailer
      | true ↦
          elim (eqb (get_or end 14 0) A.situations && (eqb (get_or end 15 0) A.commands && eqb (get_or end 16 0) A.states)) as (λ v. Result ℕ Refusal) [
            | false ↦ Err OtherSheet
            | true ↦
                elim (eqb (number_of (piece 4 4 end)) (records + cert) && (eqb (number_of (piece 8 4 end)) cert && leb (records + cert) at)) as (λ v. Result ℕ Refusal) [
                  | false ↦ Err Layout
                  | true ↦ looked
                ]
          ]
    ]

module _ (A B : Automaton) (g : Agrees A B) where
  -- B's answers under A's numbers
  abbrev C : Automaton
  C = record { situations = A.situations; commands = A.commands; states = A.states; start = B.start; reject = B.reject; follows = B.follows }

  CIs : C ≡ B
  CIs = λ i. record { situations = g.situations i; commands = g.commands i; states = g.states i; start = B.start; reject = B.reject; follows = B.follows }

  weight_same : (q : ℕ) → q < A.states → weight A q ≡ weight C q
  weight_same q h = ap {B = ℕ} (λ b. cond b 1 0) (g.reject q (omega (arith, g.states)))

  start_same : (w : Window) (a : Place) → In (start_places A) a → bad_start A w a ≡ bad_start C w a
  start_same w a i =
      let (q, hq, e) = starts_in A a i in
      let s = g.start q (omega (arith, g.states)) in
      let v = weight_same q hq in
      ap {B = Bool} (bad_start A w) e ∙ (λ j. s j && ltb (mark_in w 0 q) (1 + v j)) ∙ ap {B = Bool} (bad_start C w) (sym e)

  arrow_same : (w : Window) → every (good_row A (length w.rows)) w.rows ≡ true → (a : Place) → In (arrow_places A (length w.rows)) a → bad_arrow A w a ≡ bad_arrow C w a
  arrow_same w good a i =
      let (s, x, q, p, hs, hx, hq, hp, e) = arrows_in A (length w.rows) a i in
      let r : Row = get_or w.rows s no_row in
      let hu : r.command < A.commands = good_command A w s good hs in
      let f = g.follows q r.command x p (omega (arith, g.states)) (omega (arith, g.commands)) (omega (arith, g.situations)) (omega (arith, g.states)) in
      let v = weight_same p hp in
      ap {B = Bool} (bad_arrow A w) e
      ∙ (λ j. elim (ltb 0 (mark_in w s q)) as (λ v. Bool) [
        | true ↦ elim (f j) as (λ v. Bool) [ true ↦ ltb (mark_in w (get_or r.nexts x 0) p) (mark_in w s q + v j) | false ↦ false ]
        | false ↦ false
      ])
      ∙ ap {B = Bool} (bad_arrow C w) (sym e)

  broken_same : (w : Window) → every (good_row A (length w.rows)) w.rows ≡ true → first_broken A w ≡ first_broken C w
  unfolding first_broken
  broken_same w good =
      let s : first (bad_start A w) (start_places A) ≡ first (bad_start C w) (start_places A) = first_like (bad_start A w) (bad_start C w) (start_places A) (start_same w) in
      let t : first (bad_arrow A w) (arrow_places A (length w.rows)) ≡ first (bad_arrow C w) (arrow_places A (length w.rows)) = first_like (bad_arrow A w) (bad_arrow C w) (arrow_places A (length w.rows)) (arrow_same w good) in
      λ j. elim (first (bad_byte w) (byte_places A (length w.rows))) as (λ v. Option Place) [ some at ↦ some at | none ↦ elim (s j) as (λ v. Option Place) [ some at ↦ some at | none ↦ t j ] ]

  looked_same : (w : Window) → look_through A w ≡ look_through C w
  unfolding look_through
  looked_same w = go (every (good_row A (length w.rows)) w.rows) (broken_same w)
    where
      go : (b : Bool) → (b ≡ true → first_broken A w ≡ first_broken C w)
          → elim b as (λ v. Result ℕ Refusal) [ false ↦ Err Record | true ↦ elim (first_broken A w) as (λ v. Result ℕ Refusal) [ some at ↦ Err (Certificate at) | none ↦ Ok w.count ] ]
          ≡ elim b as (λ v. Result ℕ Refusal) [ false ↦ Err Record | true ↦ elim (first_broken C w) as (λ v. Result ℕ Refusal) [ some at ↦ Err (Certificate at) | none ↦ Ok w.count ] ]
      go false h = refl
      go true h = ap {B = Result ℕ Refusal} (λ o. elim o as (λ v. Result ℕ Refusal) [ some at ↦ Err (Certificate at) | none ↦ Ok w.count ]) (h refl)

  check_same : (bytes : List ℕ) → check A bytes ≡ check C bytes
  unfolding check
  check_same bytes =
      let end = drop (length bytes - 20) bytes in
      ap {B = Result ℕ Refusal} (tested A bytes) (looked_same (window_at A bytes (length bytes - 20) (number_of (piece 12 2 end)) (get_or end 17 0)))

  file_same : (rows : List Row) (certificate : List ℕ) (c : ℕ) → file A rows certificate c ≡ file C rows certificate c
  unfolding file trailer
  file_same rows certificate c = refl

pub checks_alike : ChecksAlike
checks_alike A B g bytes = check_same A B g bytes ∙ ap {B = Result ℕ Refusal} (λ D. check D bytes) (CIs A B g)

pub files_alike : FilesAlike
files_alike A B g rows certificate c = file_same A B g rows certificate c ∙ ap {B = List ℕ} (λ D. file D rows certificate c) (CIs A B g)
