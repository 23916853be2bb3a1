-- Whatever bytes check accepts are a file of a controller for the sheet.
use Rattle.std.proofs.Common.{◌≡◌, ℕ, zero, suc, ◌+◌, ◌-◌, ◌*◌, ◌/◌, ◌%◌, ◌<◌, ◌≤◌, Bool, true, false, ◌&&◌, eqb, ltb, leb, ◌⊎◌, List, [], ◌∷◌, ◌++◌, map, length, get_or, take, drop, Ok as accepts, Err as refuses, sym, refl, ap, ◌∙◌, subst, inl, inr, append_assoc, arith, length-drop, take-append-drop}
use mathlib.Core.Option.{Option, none, some}
use lib.ListN.{length-map}
use Rattle.std.specs.List.{range_with_len}
use Rattle.std.proofs.lemmas.Bool.{cases_Bool, leb-true, ltb-true, eqb-true, and_parts}
use Rattle.std.proofs.lemmas.List.{length-take-le, drop-drop, drop_more, ext_get_or}
use Rattle.std.proofs.lemmas.List.FromFn.{fill_by_all, get_or-map-range_with_len}
use Rattle.std.proofs.lemmas.Bool.Decides.{Decides-ltb}
use Rattle.model.specs.Automaton.{Automaton, Controller, WellFormed, Row, no_row, controller}
use Rattle.model.specs.Lists.{every, joined, In}
use Rattle.model.specs.Positions.{same}
use Rattle.model.specs.File.{bytes_of, number_of, record_bytes, file_mark, records_size, certificate_size, trailer, file, pieces, row_of, Window, piece, good_row, first_broken, look_through}
use Rattle.model.specs.declared.refusal.Place.{Place}
use Rattle.model.specs.declared.refusal.Refusal.TheVariants.{Trailer, OtherSheet, Layout, Record, Certificate}
use Rattle.model.specs.File as File
use Rattle.model.specs.Sheet.{Sheet, rules, check, Outcome, verdict, respond, opened, run}
use Rattle.model.specs.History.{rows_of, FileOf, ForSheet, AcceptedIsFile, AfterCalls}
use Rattle.model.proofs.Lists.{in_left, in_right, map_in, in_getD, decides_every, decides_same}
use Rattle.model.proofs.Files.{window_at, check_parts}
use Rattle.model.proofs.Checking.{rows_long, verdict_accepts, check_exact}
use Rattle.model.proofs.Sheets.{Sound, opened_sound, run_sound, for_sheet}
use Rattle.model.proofs.Calls.{respond_is}

-- a list of bytes
abbrev Bytes : List ℕ → Type 0
Bytes l = (b : ℕ) → In l b → b < 256

take_bytes : (n : ℕ) (l : List ℕ) → Bytes l → Bytes (take n l)
take_bytes n l h b i = h b (subst (λ k. In k b) (take-append-drop n l) (in_left (take n l) (drop n l) b i))

drop_bytes : (n : ℕ) (l : List ℕ) → Bytes l → Bytes (drop n l)
drop_bytes n l h b i = h b (subst (λ k. In k b) (take-append-drop n l) (in_right (take n l) (drop n l) b i))

bytes_back : (n : ℕ) (l : List ℕ) → length l ≡ n → Bytes l → bytes_of n (number_of l) ≡ l
bytes_back zero [] e h = refl
bytes_back zero (b ∷ l) e h = absurd (omega arith)
bytes_back (suc n) [] e h = absurd (omega arith)
bytes_back (suc n) (b ∷ l) e h =
    let hb : b < 256 = h b (inl refl) in
    let m : (b + 256 * number_of l) % 256 ≡ b = omega arith in
    let d : (b + 256 * number_of l) / 256 ≡ number_of l = omega arith in
    ap {B = List ℕ} (λ x. x ∷ bytes_of n ((b + 256 * number_of l) / 256)) m
    ∙ ap {B = List ℕ} (λ x. b ∷ bytes_of n x) d
    ∙ ap {B = List ℕ} (λ x. b ∷ x) (bytes_back n l (omega arith) (λ c i. h c (inr i)))

pub pieces_long : (m size : ℕ) (l : List ℕ) → length (pieces m size l) ≡ m
pieces_long zero size l = refl
pieces_long (suc m) size l = ap suc (pieces_long m size (drop size l))

halves_back : (S : ℕ) (l : List ℕ) → length l ≡ S * 2 → Bytes l → joined (bytes_of 2) (map number_of (pieces S 2 l)) ≡ l
halves_back zero [] e h = refl
halves_back zero (b ∷ l) e h = absurd (omega arith)
halves_back (suc S) l e h =
    let a : bytes_of 2 (number_of (take 2 l)) ≡ take 2 l = bytes_back 2 (take 2 l) (length-take-le 2 l (omega arith)) (take_bytes 2 l h) in
    let k : joined (bytes_of 2) (map number_of (pieces S 2 (drop 2 l))) ≡ drop 2 l = halves_back S (drop 2 l) (length-drop 2 l ∙ omega arith) (drop_bytes 2 l h) in
    ap (λ x. x ++ joined (bytes_of 2) (map number_of (pieces S 2 (drop 2 l)))) a ∙ ap (λ x. take 2 l ++ x) k ∙ take-append-drop 2 l

record_back : (S : ℕ) (l : List ℕ) → length l ≡ 1 + 2 * S → Bytes l → record_bytes (row_of S l) ≡ l
unfolding record_bytes
record_back S [] e h = absurd (omega arith)
record_back S (b ∷ l) e h = ap {B = List ℕ} (λ x. b ∷ x) (halves_back S l (omega arith) (λ c i. h c (inr i)))

-- records read and written again, with what stands behind them
records_back : (m S : ℕ) (l : List ℕ) → m * (1 + 2 * S) ≤ length l → Bytes l → joined record_bytes (map (row_of S) (pieces m (1 + 2 * S) l)) ++ drop (m * (1 + 2 * S)) l ≡ l
records_back zero S l e h = let z : zero * (1 + 2 * S) ≡ 0 = omega arith in ap (λ n. drop n l) z
records_back (suc m) S l e h =
    let more : suc m * (1 + 2 * S) ≡ 1 + 2 * S + m * (1 + 2 * S) = omega arith in
    let J : List ℕ = joined record_bytes (map (row_of S) (pieces m (1 + 2 * S) (drop (1 + 2 * S) l))) in
    let a : record_bytes (row_of S (take (1 + 2 * S) l)) ≡ take (1 + 2 * S) l = record_back S (take (1 + 2 * S) l) (length-take-le (1 + 2 * S) l (omega arith)) (take_bytes (1 + 2 * S) l h) in
    let k : J ++ drop (m * (1 + 2 * S)) (drop (1 + 2 * S) l) ≡ drop (1 + 2 * S) l = records_back m S (drop (1 + 2 * S) l) (omega (arith, length-drop (1 + 2 * S) l)) (drop_bytes (1 + 2 * S) l h) in
    let d : drop (suc m * (1 + 2 * S)) l ≡ drop (m * (1 + 2 * S)) (drop (1 + 2 * S) l) = ap (λ n. drop n l) more ∙ sym (drop-drop (m * (1 + 2 * S)) (1 + 2 * S) l) in
    ap (λ x. (x ++ J) ++ drop (suc m * (1 + 2 * S)) l) a
    ∙ ap (λ x. (take (1 + 2 * S) l ++ J) ++ x) d
    ∙ append_assoc (take (1 + 2 * S) l) J (drop (m * (1 + 2 * S)) (drop (1 + 2 * S) l))
    ∙ ap (λ x. take (1 + 2 * S) l ++ x) k
    ∙ take-append-drop (1 + 2 * S) l

-- a part of a list, and what stands behind it
part_at : (from n : ℕ) (l : List ℕ) → drop from l ≡ take n (drop from l) ++ drop (from + n) l
part_at from n l = sym (take-append-drop n (drop from l)) ∙ ap (λ x. take n (drop from l) ++ x) (drop-drop n from l)

-- what the tests of check tell
record Passed (A : Automaton) (bytes : List ℕ) (at : ℕ) (mark zeros : List ℕ) (m c S C n back cert x : ℕ) : Type 0 where
  long : 20 ≤ length bytes
  marked : mark ≡ file_mark
  zeroed : zeros ≡ 0 ∷ 0 ∷ []
  one : 1 ≤ m
  few : m ≤ 1024
  low : c ≤ 14
  situations : S ≡ A.situations
  commands : C ≡ A.commands
  states : n ≡ A.states
  both : back ≡ records_size A.situations m + certificate_size A.states m
  second : cert ≡ certificate_size A.states m
  fits : records_size A.situations m + certificate_size A.states m ≤ at
  looked : look_through A (window_at A bytes at m c) ≡ accepts x

module _ (A : Automaton) (bytes : List ℕ) (at : ℕ) (mark zeros : List ℕ) (m c S C n back cert x : ℕ) where
  abbrev T1 : Bool
  T1 = leb 20 (length bytes) && (same mark file_mark && (same zeros (0 ∷ 0 ∷ []) && (leb 1 m && (leb m 1024 && leb c 14))))

  abbrev T2 : Bool
  T2 = eqb S A.situations && (eqb C A.commands && eqb n A.states)

  abbrev T3 : Bool
  T3 = eqb back (records_size A.situations m + certificate_size A.states m) && (eqb cert (certificate_size A.states m) && leb (records_size A.situations m + certificate_size A.states m) at)

  passed : check_parts A bytes at mark zeros m c S C n back cert ≡ accepts x → Passed A bytes at mark zeros m c S C n back cert x
  passed e = go (cases_Bool T1) (cases_Bool T2) (cases_Bool T3)
    where
      go : (T1 ≡ true) ⊎ (T1 ≡ false) → (T2 ≡ true) ⊎ (T2 ≡ false) → (T3 ≡ true) ⊎ (T3 ≡ false) → Passed A bytes at mark zeros m c S C n back cert x
      go (inr t1) t2 t3 =
          let f : check_parts A bytes at mark zeros m c S C n back cert ≡ (refuses Trailer) = rw (t1, check_parts) in
          let z : ◌≡◌ {A = ℕ} 0 1 = cc in absurd (omega arith)
      go (inl t1) (inr t2) t3 =
          let f : check_parts A bytes at mark zeros m c S C n back cert ≡ (refuses OtherSheet) = rw (t1, t2, check_parts) in
          let z : ◌≡◌ {A = ℕ} 0 1 = cc in absurd (omega arith)
      go (inl t1) (inl t2) (inr t3) =
          let f : check_parts A bytes at mark zeros m c S C n back cert ≡ (refuses Layout) = rw (t1, t2, t3, check_parts) in
          let z : ◌≡◌ {A = ℕ} 0 1 = cc in absurd (omega arith)
      go (inl t1) (inl t2) (inl t3) =
          let f : check_parts A bytes at mark zeros m c S C n back cert ≡ look_through A (window_at A bytes at m c) = rw (t1, t2, t3, check_parts) in
          let (a1, b1) = and_parts (leb 20 (length bytes)) (same mark file_mark && (same zeros (0 ∷ 0 ∷ []) && (leb 1 m && (leb m 1024 && leb c 14)))) t1 in
          let (a2, b2) = and_parts (same mark file_mark) (same zeros (0 ∷ 0 ∷ []) && (leb 1 m && (leb m 1024 && leb c 14))) b1 in
          let (a3, b3) = and_parts (same zeros (0 ∷ 0 ∷ [])) (leb 1 m && (leb m 1024 && leb c 14)) b2 in
          let (a4, b4) = and_parts (leb 1 m) (leb m 1024 && leb c 14) b3 in
          let (a5, a6) = and_parts (leb m 1024) (leb c 14) b4 in
          let (d1, d') = and_parts (eqb S A.situations) (eqb C A.commands && eqb n A.states) t2 in
          let (d2, d3) = and_parts (eqb C A.commands) (eqb n A.states) d' in
          let (g1, g') = and_parts (eqb back (records_size A.situations m + certificate_size A.states m)) (eqb cert (certificate_size A.states m) && leb (records_size A.situations m + certificate_size A.states m) at) t3 in
          let (g2, g3) = and_parts (eqb cert (certificate_size A.states m)) (leb (records_size A.situations m + certificate_size A.states m) at) g' in
          record {
            long = leb-true 20 (length bytes) a1;
            marked = (decides_same mark file_mark).0 a2;
            zeroed = (decides_same zeros (0 ∷ 0 ∷ [])).0 a3;
            one = leb-true 1 m a4;
            few = leb-true m 1024 a5;
            low = leb-true c 14 a6;
            situations = eqb-true S A.situations d1;
            commands = eqb-true C A.commands d2;
            states = eqb-true n A.states d3;
            both = eqb-true back (records_size A.situations m + certificate_size A.states m) g1;
            second = eqb-true cert (certificate_size A.states m) g2;
            fits = leb-true (records_size A.situations m + certificate_size A.states m) at g3;
            looked = sym f ∙ e;
          }

looked_good : (A : Automaton) (w : Window) (x : ℕ) → look_through A w ≡ accepts x → (every (good_row A (length w.rows)) w.rows ≡ true) × (w.count ≡ x)
unfolding look_through
looked_good A w x e = go (cases_Bool (every (good_row A (length w.rows)) w.rows)) (first_broken A w) refl
  where
    go : (every (good_row A (length w.rows)) w.rows ≡ true) ⊎ (every (good_row A (length w.rows)) w.rows ≡ false) → (o : Option Place) → first_broken A w ≡ o → (every (good_row A (length w.rows)) w.rows ≡ true) × (w.count ≡ x)
    go (inr n) o k = let f : look_through A w ≡ (refuses Record) = rw (n, look_through) in let z : ◌≡◌ {A = ℕ} 0 1 = cc in absurd (omega arith)
    go (inl t) (some at) k = let f : look_through A w ≡ refuses (Certificate at) = rw (t, k, look_through) in let z : ◌≡◌ {A = ℕ} 0 1 = cc in absurd (omega arith)
    go (inl t) none k = let f : look_through A w ≡ accepts w.count = rw (t, k, look_through) in (t, cc)

-- rows, each with a next state for each situation, are those of their controller
pub rows_same : (A : Automaton) (rows : List Row) → ((r : Row) → In rows r → length r.nexts ≡ A.situations) → rows_of A (controller rows) ≡ rows
rows_same A rows each = ext_get_or no_row (rows_of A (controller rows)) rows (rows_long A (controller rows)) (λ i hi. row_same i (omega (arith, rows_long A (controller rows))))
  where
    row_same : (i : ℕ) → i < length rows → get_or (rows_of A (controller rows)) i no_row ≡ get_or rows i no_row
    row_same i hi =
        let r : Row = get_or rows i no_row in
        let e : r.nexts ≡ map (λ x. get_or r.nexts x 0) (range_with_len 0 A.situations) = fill_by_all (λ x. get_or r.nexts x 0) r.nexts A.situations 0 (each r (in_getD rows i no_row hi)) (λ x hx. refl) in
        get_or-map-range_with_len (λ i. record { command = (controller rows).command i; nexts = map ((controller rows).next i) (range_with_len 0 A.situations) }) 0 (length rows) i i no_row hi (omega arith)
        ∙ ap {B = Row} (λ n. record { command = r.command; nexts = n }) (sym e)

rows_formed : (A : Automaton) (rows : List Row) → 1 ≤ length rows → ((r : Row) → In rows r → length r.nexts ≡ A.situations) → every (good_row A (length rows)) rows ≡ true → WellFormed A (controller rows)
rows_formed A rows one each t =
    record {
      some_state = one;
      commands = λ s hs. ltb-true (get_or rows s no_row).command A.commands (good s hs).0;
      nexts = λ s x hs hx. (decides_every (λ n. ltb n (length rows)) (λ n. n < length rows) (λ n. Decides-ltb n (length rows)) (get_or rows s no_row).nexts).0 (good s hs).1 (get_or (get_or rows s no_row).nexts x 0)
          (in_getD (get_or rows s no_row).nexts x 0 (omega (arith, each (get_or rows s no_row) (in_getD rows s no_row hs))));
    }
  where
    good : (s : ℕ) → s < length rows → (ltb (get_or rows s no_row).command A.commands ≡ true) × (every (λ n. ltb n (length rows)) (get_or rows s no_row).nexts ≡ true)
    good s hs =
        and_parts (ltb (get_or rows s no_row).command A.commands) (every (λ n. ltb n (length rows)) (get_or rows s no_row).nexts)
        ((decides_every (good_row A (length rows)) (λ r. good_row A (length rows) r ≡ true) (λ r. (λ e. e, λ e. e)) rows).0 t (get_or rows s no_row) (in_getD rows s no_row hs))

module _ (A : Automaton) (bytes : List ℕ) (x : ℕ) (small : Bytes bytes) (e : File.check A bytes ≡ accepts x) where
  abbrev at : ℕ
  at = length bytes - 20

  abbrev end : List ℕ
  end = drop at bytes

  abbrev m : ℕ
  m = number_of (piece 12 2 end)

  abbrev D : ℕ
  D = records_size A.situations m + certificate_size A.states m

  p : Passed A bytes at (take 4 end) (drop 18 end) m (get_or end 17 0) (get_or end 14 0) (get_or end 15 0) (get_or end 16 0) (number_of (piece 4 4 end)) (number_of (piece 8 4 end)) x
  unfolding File.check
  p = passed A bytes at (take 4 end) (drop 18 end) m (get_or end 17 0) (get_or end 14 0) (get_or end 15 0) (get_or end 16 0) (number_of (piece 4 4 end)) (number_of (piece 8 4 end)) x e

  end_long : length end ≡ 20
  end_long = length-drop at bytes ∙ omega (arith, p.long)

  small_end : Bytes end
  small_end = drop_bytes at bytes small

  -- a number in the trailer, written again
  again : (from n : ℕ) → from + n ≤ 20 → bytes_of n (number_of (piece from n end)) ≡ take n (drop from end)
  again from n h =
      bytes_back n (take n (drop from end)) (length-take-le n (drop from end) (omega (arith, length-drop from end, end_long))) (take_bytes n (drop from end) (drop_bytes from end small_end))

  count_is : get_or end 17 0 ≡ x
  count_is = (looked_good A (window_at A bytes at m (get_or end 17 0)) x p.looked).1

  end_is : end ≡ trailer A m x
  unfolding trailer
  end_is =
      let a : end ≡ take 4 end ++ drop 4 end = sym (take-append-drop 4 end) in
      let b : drop 4 end ≡ take 4 (drop 4 end) ++ drop 8 end = part_at 4 4 end in
      let c : drop 8 end ≡ take 4 (drop 8 end) ++ drop 12 end = part_at 8 4 end in
      let d : drop 12 end ≡ take 2 (drop 12 end) ++ drop 14 end = part_at 12 2 end in
      let e1 : drop 14 end ≡ get_or end 14 0 ∷ drop 15 end = drop_more end 14 0 (omega (arith, end_long)) in
      let e2 : drop 15 end ≡ get_or end 15 0 ∷ drop 16 end = drop_more end 15 0 (omega (arith, end_long)) in
      let e3 : drop 16 end ≡ get_or end 16 0 ∷ drop 17 end = drop_more end 16 0 (omega (arith, end_long)) in
      let e4 : drop 17 end ≡ get_or end 17 0 ∷ drop 18 end = drop_more end 17 0 (omega (arith, end_long)) in
      let f1 : take 4 end ≡ file_mark = p.marked in
      let f2 : take 4 (drop 4 end) ≡ bytes_of 4 D = sym (again 4 4 (omega arith)) ∙ ap (bytes_of 4) p.both in
      let f3 : take 4 (drop 8 end) ≡ bytes_of 4 (certificate_size A.states m) = sym (again 8 4 (omega arith)) ∙ ap (bytes_of 4) p.second in
      let f4 : take 2 (drop 12 end) ≡ bytes_of 2 m = sym (again 12 2 (omega arith)) in
      let g1 : get_or end 14 0 ≡ A.situations = p.situations in
      let g2 : get_or end 15 0 ≡ A.commands = p.commands in
      let g3 : get_or end 16 0 ≡ A.states = p.states in
      let g4 : get_or end 17 0 ≡ x = count_is in
      let g5 : drop 18 end ≡ 0 ∷ 0 ∷ [] = p.zeroed in
      let h4 : drop 17 end ≡ x ∷ 0 ∷ 0 ∷ [] = e4 ∙ ap (λ (y : ℕ). y ∷ drop 18 end) g4 ∙ ap {B = List ℕ} (λ l. x ∷ l) g5 in
      let h3 : drop 16 end ≡ A.states ∷ x ∷ 0 ∷ 0 ∷ [] = e3 ∙ ap (λ (y : ℕ). y ∷ drop 17 end) g3 ∙ ap {B = List ℕ} (λ l. A.states ∷ l) h4 in
      let h2 : drop 15 end ≡ A.commands ∷ A.states ∷ x ∷ 0 ∷ 0 ∷ [] = e2 ∙ ap (λ (y : ℕ). y ∷ drop 16 end) g2 ∙ ap {B = List ℕ} (λ l. A.commands ∷ l) h3 in
      let h1 : drop 14 end ≡ A.situations ∷ A.commands ∷ A.states ∷ x ∷ 0 ∷ 0 ∷ [] = e1 ∙ ap (λ (y : ℕ). y ∷ drop 15 end) g1 ∙ ap {B = List ℕ} (λ l. A.situations ∷ l) h2 in
      let k4 : drop 12 end ≡ bytes_of 2 m ++ (A.situations ∷ A.commands ∷ A.states ∷ x ∷ 0 ∷ 0 ∷ []) = d ∙ ap (λ l. l ++ drop 14 end) f4 ∙ ap (λ l. bytes_of 2 m ++ l) h1 in
      let k3 : drop 8 end ≡ bytes_of 4 (certificate_size A.states m) ++ (bytes_of 2 m ++ (A.situations ∷ A.commands ∷ A.states ∷ x ∷ 0 ∷ 0 ∷ [])) =
      c ∙ ap (λ l. l ++ drop 12 end) f3 ∙ ap (λ l. bytes_of 4 (certificate_size A.states m) ++ l) k4 in
      let k2 : drop 4 end ≡ bytes_of 4 D ++ (bytes_of 4 (certificate_size A.states m) ++ (bytes_of 2 m ++ (A.situations ∷ A.commands ∷ A.states ∷ x ∷ 0 ∷ 0 ∷ []))) =
      b ∙ ap (λ l. l ++ drop 8 end) f2 ∙ ap (λ l. bytes_of 4 D ++ l) k3 in
      a ∙ ap (λ l. l ++ drop 4 end) f1 ∙ ap (λ l. file_mark ++ l) k2

  -- the records, the certificate, and what stands before them
  abbrev W : List ℕ
  W = drop (at - D) bytes

  abbrev rows : List Row
  rows = map (row_of A.situations) (pieces m (1 + 2 * A.situations) W)

  abbrev V : List ℕ
  V = drop (at - certificate_size A.states m) bytes

  abbrev cert : List ℕ
  cert = take (certificate_size A.states m) V

  rows_count : length rows ≡ m
  rows_count = length-map (pieces m (1 + 2 * A.situations) W) (row_of A.situations) ∙ pieces_long m (1 + 2 * A.situations) W

  rows_nexts : (r : Row) → In rows r → length r.nexts ≡ A.situations
  rows_nexts r i =
      let (l, j, k) = map_in (row_of A.situations) (pieces m (1 + 2 * A.situations) W) r i in
      ap (λ (r : Row). length r.nexts) k ∙ length-map (pieces A.situations 2 (drop 1 l)) number_of ∙ pieces_long A.situations 2 (drop 1 l)

  WSplits : joined record_bytes rows ++ V ≡ W
  WSplits =
      let l : records_size A.situations m ≤ length W = omega (arith, length-drop (at - D) bytes, p.fits, p.long) in
      let o : at - D + records_size A.situations m ≡ at - certificate_size A.states m = omega (arith, p.fits) in
      let q : drop (records_size A.situations m) W ≡ V = drop-drop (records_size A.situations m) (at - D) bytes ∙ ap (λ n. drop n bytes) o in
      ap (λ l. joined record_bytes rows ++ l) (sym q) ∙ records_back m A.situations W l (drop_bytes (at - D) bytes small)

  VSplits : V ≡ cert ++ trailer A m x
  VSplits =
      let o : at - certificate_size A.states m + certificate_size A.states m ≡ at = omega (arith, p.fits) in
      part_at (at - certificate_size A.states m) (certificate_size A.states m) bytes ∙ ap (λ n. cert ++ drop n bytes) o ∙ ap (λ l. cert ++ l) end_is

  cert_count : length cert ≡ certificate_size A.states m
  cert_count = length-take-le (certificate_size A.states m) V (omega (arith, length-drop (at - certificate_size A.states m) bytes, p.fits, p.long))

  pub unpacked_formed : WellFormed A (controller rows) × (length rows ≤ 1024) × (x ≤ 14)
  unpacked_formed = (
    rows_formed A rows (omega (arith, rows_count, p.one)) rows_nexts (looked_good A (window_at A bytes at m (get_or end 17 0)) x p.looked).0,
    omega (arith, rows_count, p.few),
    omega (arith, count_is, p.low),
  )

  pub unpacked_file : FileOf A (controller rows) x bytes
  unfolding file
  unpacked_file = (
    take (at - D) bytes,
    cert,
    cert_count ∙ ap (λ n. n * A.states) (sym rows_count),
    take_bytes (certificate_size A.states m) V (drop_bytes (at - certificate_size A.states m) bytes small),
    sym (take-append-drop (at - D) bytes)
        ∙ ap (λ l. take (at - D) bytes ++ l) (sym WSplits ∙ ap (λ l. joined record_bytes rows ++ l) VSplits
        ∙ ap (λ n. joined record_bytes rows ++ (cert ++ trailer A n x)) (sym rows_count)
        ∙ ap (λ r. file A r cert x) (sym (rows_same A rows rows_nexts))),
  )

accepted_is_file : (s : Sheet) → Sound s → AcceptedIsFile s
accepted_is_file s h bytes c small a =
    let r : respond s (check bytes) ≡ record { sheet = s; answer = verdict (File.check (rules s) bytes) } = respond_is s (check bytes) h.looked in
    let e : File.check (rules s) bytes ≡ accepts c = verdict_accepts (File.check (rules s) bytes) c (sym (ap (λ (o : Outcome). o.answer) r) ∙ a) in
    let (wf, few, low) = unpacked_formed (rules s) bytes c small e in
    let K : Controller = controller (rows (rules s) bytes c small e) in
    let fs : ForSheet s K = for_sheet s h K wf in
    let (exact, clean) = check_exact s h c low K fs few in
    let file : FileOf (rules s) K c bytes = unpacked_file (rules s) bytes c small e in
    (low, (K, fs, few, file, exact.0 (bytes, file, a), clean (bytes, file, a)))

pub accepted_stands : AfterCalls AcceptedIsFile
accepted_stands house S C capacity e calls =
    accepted_is_file (run (opened house S C capacity) calls) (run_sound (opened house S C capacity) (opened_sound house S C capacity e) calls)
