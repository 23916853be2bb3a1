-- What check makes of a file's end, by the tests of its trailer, and the window that it looks through. Assumes nothing.
use Rattle.std.proofs.Common.{◌≡◌, ℕ, zero, suc, ◌+◌, ◌-◌, ◌*◌, ◌<◌, ◌≤◌, Bool, true, false, ◌&&◌, eqb, leb, List, [], ◌∷◌, map, length, get_or, take, drop, Err, Result, sym, refl, ap, ◌∙◌, arith}
use Rattle.std.proofs.lemmas.List.{take-take, drop-take}
use Rattle.std.proofs.lemmas.Bool.{lt-leb, le-leb, leb-true, eqb-true, and_parts, and_from, and_left, and_right}
use Rattle.model.specs.declared.refusal.Refusal.{Refusal}
use Rattle.model.specs.declared.refusal.Refusal.TheVariants.{Trailer as BadTrailer, OtherSheet, Layout}
use Rattle.model.specs.Automaton.{Automaton}
use Rattle.model.specs.Positions.{same}
use Rattle.model.specs.File.{number_of, piece, file_mark, byte_mark, records_size, certificate_size, pieces, row_of, look_through, check}
use Rattle.model.proofs.Files.{window_at, check_parts, check_end}
use Rattle.ctlfile.specs.declared.trailer.Trailer.{Trailer}
use Rattle.ctlfile.specs.Windows.{showing}
use Rattle.ctlfile.specs.Trailers.{trailer_in, marked, in_range, for_rule, records_of, certificate_of, laid_out, window_in, Opens}

-- PIECES of lists with the same front

pieces_like : (m size : ℕ) (l k : List ℕ) → take (m * size) l ≡ take (m * size) k → pieces m size l ≡ pieces m size k
pieces_like zero size l k e = refl
pieces_like (suc m) size l k e =
    let more : suc m * size ≡ size + m * size = omega arith in
    let f : take (size + m * size) l ≡ take (size + m * size) k = ap {B = List ℕ} (λ n. take n l) (sym more) ∙ e ∙ ap {B = List ℕ} (λ n. take n k) more in
    let a : take size l ≡ take size k = sym (take-take size (size + m * size) l (omega arith)) ∙ ap {B = List ℕ} (take size) f ∙ take-take size (size + m * size) k (omega arith) in
    let b : take (m * size) (drop size l) ≡ take (m * size) (drop size k) = sym (drop-take size (m * size) l) ∙ ap {B = List ℕ} (drop size) f ∙ drop-take size (m * size) k in
    let r : pieces m size (drop size l) ≡ pieces m size (drop size k) = pieces_like m size (drop size l) (drop size k) b in
    λ i. a i ∷ r i

-- the parts of a file show what the whole file does
parts_same : (m S n c : ℕ) (records certificate : List ℕ)
    → showing m S n c (take (records_size S m) records) (take (certificate_size n m) certificate)
    ≡ record { rows = map (row_of S) (pieces m (1 + 2 * S) records); marks = map (map byte_mark) (pieces m n certificate); count = c }
unfolding showing
parts_same m S n c records certificate =
    let R = records_size S m in
    let C = certificate_size n m in
    let rows : pieces m (1 + 2 * S) (take R records) ≡ pieces m (1 + 2 * S) records = pieces_like m (1 + 2 * S) (take R records) records (take-take R R records (omega arith)) in
    let marks : pieces m n (take C certificate) ≡ pieces m n certificate = pieces_like m n (take C certificate) certificate (take-take C C certificate (omega arith)) in
    λ i. record { rows = map (row_of S) (rows i); marks = map (map byte_mark) (marks i); count = c }

-- THE TESTS

regrouped : (a b c d : Bool) → (a && (b && (c && d))) ≡ (a && ((b && c) && d))
regrouped true true c d = refl
regrouped true false c d = refl
regrouped false b c d = refl

module _ (A : Automaton) (bytes : List ℕ) where
  abbrev at : ℕ
  at = length bytes - 20

  abbrev end : List ℕ
  end = drop at bytes

  abbrev told : Trailer
  told = trailer_in end

  abbrev first_test : Bool
  first_test =
      leb 20 (length bytes)
      && (same (take 4 end) file_mark && (same (drop 18 end) (0 ∷ 0 ∷ []) && (leb 1 (number_of (piece 12 2 end)) && (leb (number_of (piece 12 2 end)) 1024 && leb (get_or end 17 0) 14))))

  first_is : first_test ≡ (leb 20 (length bytes) && (marked end && in_range told))
  unfolding marked trailer_in
  first_is =
      regrouped (leb 20 (length bytes)) (same (take 4 end) file_mark) (same (drop 18 end) (0 ∷ 0 ∷ [])) (leb 1 (number_of (piece 12 2 end)) && (leb (number_of (piece 12 2 end)) 1024 && leb (get_or end 17 0) 14))

  check_is : check A bytes ≡ check_end A bytes at end
  unfolding check
  check_is = refl

  not_first : (leb 20 (length bytes) && (marked end && in_range told)) ≡ false → check A bytes ≡ Err BadTrailer
  not_first f = let t : first_test ≡ false = first_is ∙ f in check_is ∙ rw (t, check_parts)

  pub too_short : length bytes < 20 → check A bytes ≡ Err BadTrailer
  too_short h = not_first (and_left (leb 20 (length bytes)) (marked end && in_range told) (lt-leb 20 (length bytes) h))

  pub unmarked : (last : List ℕ) → last ≡ drop (length bytes - 20) bytes → marked last ≡ false → check A bytes ≡ Err BadTrailer
  unmarked last e f = not_first (and_right (leb 20 (length bytes)) (marked end && in_range told) (and_left (marked end) (in_range told) (ap {B = Bool} marked (sym e) ∙ f)))

  out_of_range : in_range told ≡ false → check A bytes ≡ Err BadTrailer
  out_of_range f = not_first (and_right (leb 20 (length bytes)) (marked end && in_range told) (and_right (marked end) (in_range told) f))

  module _ (long : 20 ≤ length bytes) (marks : marked end ≡ true) (range : in_range told ≡ true) where
    passed : first_test ≡ true
    passed = first_is ∙ and_from (leb 20 (length bytes)) (marked end && in_range told) (le-leb 20 (length bytes) long) (and_from (marked end) (in_range told) marks range)

    other_sheet : for_rule A told ≡ false → check A bytes ≡ Err OtherSheet
    unfolding trailer_in
    other_sheet f = check_is ∙ rw (passed, f, check_parts)

    module _ (for : for_rule A told ≡ true) where
      numbers : (told.situations ≡ A.situations) × (told.rule_states ≡ A.states)
      numbers =
          let (s, rest) = and_parts (eqb told.situations A.situations) (eqb told.commands A.commands && eqb told.rule_states A.states) for in
          let (c, n) = and_parts (eqb told.commands A.commands) (eqb told.rule_states A.states) rest in
          (eqb-true told.situations A.situations s, eqb-true told.rule_states A.states n)

      layout_is : laid_out told at
          ≡ (eqb told.to_records (records_size A.situations told.states + certificate_size A.states told.states)
          && (eqb told.to_certificate (certificate_size A.states told.states) && leb (records_size A.situations told.states + certificate_size A.states told.states) at))
      layout_is =
          λ i. eqb told.to_records (records_size (numbers.0 i) told.states + certificate_size (numbers.1 i) told.states)
          && (eqb told.to_certificate (certificate_size (numbers.1 i) told.states) && leb (records_size (numbers.0 i) told.states + certificate_size (numbers.1 i) told.states) at)

      not_laid_out : laid_out told at ≡ false → check A bytes ≡ Err Layout
      unfolding trailer_in
      not_laid_out f = let g = sym layout_is ∙ f in check_is ∙ rw (passed, for, g, check_parts)

      looked_through : laid_out told at ≡ true → check A bytes ≡ look_through A (window_at A bytes at told.states told.count)
      unfolding trailer_in
      looked_through f = let g = sym layout_is ∙ f in check_is ∙ rw (passed, for, g, check_parts)

-- WHAT THE CODE HAS READ

module _ (A : Automaton) (bytes last : List ℕ) (t : Trailer) (room : ℕ) (long : 20 ≤ length bytes) (room_is : room ≡ length bytes - 20) (last_is : last ≡ drop (length bytes - 20) bytes)
    (read-last : t ≡ trailer_in last) (marks-last : marked last ≡ true) where
  read : t ≡ trailer_in (end A bytes)
  read = read-last ∙ ap {B = Trailer} trailer_in last_is

  marks : marked (end A bytes) ≡ true
  marks = ap {B = Bool} marked (sym last_is) ∙ marks-last

  pub refused_range : in_range t ≡ false → check A bytes ≡ Err BadTrailer
  refused_range e = out_of_range A bytes (ap {B = Bool} in_range (sym read) ∙ e)

  module _ (range : in_range t ≡ true) where
    range_told : in_range (trailer_in (end A bytes)) ≡ true
    range_told = ap {B = Bool} in_range (sym read) ∙ range

    pub refused_sheet : for_rule A t ≡ false → check A bytes ≡ Err OtherSheet
    refused_sheet e = other_sheet A bytes long marks range_told (ap {B = Bool} (for_rule A) (sym read) ∙ e)

    module _ (for : for_rule A t ≡ true) where
      for_told : for_rule A (trailer_in (end A bytes)) ≡ true
      for_told = ap {B = Bool} (for_rule A) (sym read) ∙ for

      laid_told : (b : Bool) → laid_out t room ≡ b → laid_out (trailer_in (end A bytes)) (at A bytes) ≡ b
      laid_told b e = sym (λ i. laid_out (read i) (room_is i)) ∙ e

      pub refused_layout : laid_out t room ≡ false → check A bytes ≡ Err Layout
      refused_layout e = not_laid_out A bytes long marks range_told for_told (laid_told false e)

      same_numbers : (t.situations ≡ A.situations) × (t.rule_states ≡ A.states)
      same_numbers =
          let n = numbers A bytes long marks range_told for_told in
          (ap {B = ℕ} (λ (u : Trailer). u.situations) read ∙ n.0, ap {B = ℕ} (λ (u : Trailer). u.rule_states) read ∙ n.1)

      window_is : window_in t bytes ≡ window_at A bytes (at A bytes) (trailer_in (end A bytes)).states (trailer_in (end A bytes)).count
      window_is =
          parts_same t.states t.situations t.rule_states t.count (drop (at A bytes - (records_of t + certificate_of t)) bytes) (drop (at A bytes - certificate_of t) bytes)
          ∙ (λ i. record {
            rows = map (row_of (same_numbers.0 i)) (pieces t.states (1 + 2 * same_numbers.0 i) (drop (at A bytes - (records_size (same_numbers.0 i) t.states + certificate_size (same_numbers.1 i) t.states)) bytes));
            marks = map (map byte_mark) (pieces t.states (same_numbers.1 i) (drop (at A bytes - certificate_size (same_numbers.1 i) t.states) bytes));
            count = t.count;
          })
          ∙ (λ i. window_at A bytes (at A bytes) (read i).states (read i).count)

      pub opens : laid_out t room ≡ true → Opens A bytes t
      opens laid =
          let (a, rest) = and_parts (eqb t.to_records (records_of t + certificate_of t)) (eqb t.to_certificate (certificate_of t) && leb (records_of t + certificate_of t) room) laid in
          let fits : records_of t + certificate_of t ≤ room = leb-true (records_of t + certificate_of t) room (and_parts (eqb t.to_certificate (certificate_of t)) (leb (records_of t + certificate_of t) room) rest).1 in
          let (one, more) = and_parts (leb 1 t.states) (leb t.states 1024 && leb t.count 14) range in
          let (few, low) = and_parts (leb t.states 1024) (leb t.count 14) more in
          record {
            some_state = leb-true 1 t.states one;
            few_states = leb-true t.states 1024 few;
            low_count = leb-true t.count 14 low;
            situations = same_numbers.0;
            states = same_numbers.1;
            room = omega (arith, fits, room_is, long);
            through = looked_through A bytes long marks range_told for_told (laid_told true laid) ∙ ap {B = Result ℕ Refusal} (look_through A) (sym window_is);
          }
