-- Check gives a verdict exactly if the verdict says so of the bytes.
use Rattle.std.proofs.Common.{◌≡◌, ℕ, suc, ◌+◌, ◌-◌, ◌*◌, ◌<◌, ◌≤◌, Bool, true, false, ◌&&◌, eqb, ltb, leb, ◌⊎◌, ◌↔◌, List, [], ◌∷◌, map, length, get_or, take, drop, Ok as accepts, Err as refuses, Decides, Result, sym, refl, ap, ◌∙◌, subst, inl, inr, mul-le-mul, arith, length-drop}
use mathlib.Core.Option.{Option, none, some}
use lib.ListN.{length-map}
use Rattle.std.proofs.lemmas.Bool.{cases_Bool, cases_eq, leb-true, le-leb, eq-eqb, ne_eqb, and_parts, and_from}
use Rattle.std.proofs.lemmas.Bool.Decides.{Decides-like, Decides-at, Decides-and, Decides-eqb, Decides-ltb, not_from_Decides}
use Rattle.std.proofs.lemmas.List.{length-take-le, get_or-take, get_or-drop, get_or-map}
use Rattle.model.specs.declared.refusal.Place.{Place}
use Rattle.model.specs.declared.refusal.Refusal.{Refusal}
use Rattle.model.specs.declared.refusal.Refusal.TheVariants.{OutOfRange, HouseRule, UnlikeRule, NameTaken, NoRoom, NoSuchName, OverLimit, NoneFound, Crowded, NoController, NoSituation, ShortBuffer, Trailer, OtherSheet, Layout, Record, Certificate}
use Rattle.model.specs.Automaton.{Automaton, weight, Row, no_row}
use Rattle.model.specs.Lists.{every, first, In}
use Rattle.model.specs.Positions.{same}
use Rattle.model.specs.File as File
use Rattle.model.specs.File.{number_of, byte_mark, file_mark, pieces, row_of, Window, piece, good_row, mark_in, place, byte_places, start_places, arrow_places, first_broken, look_through, check}
use Rattle.model.specs.FileLaws.{byte_at, trailer_byte, two, four, width, body, told_size, told_count, record_from, told_command, told_next, told_tally, TrailerGood, ForRules, Distances, RecordsGood, BadByte, BadStart, BadArrow, NoBadByte, NoBadStart, NoBadArrow, Before2, Before4, FirstBad, bad_byte, bad_start, bad_arrow, CheckSays, VerdictsExact}
use Rattle.model.proofs.Lists.{in_getD, decides_every, decides_same}
use Rattle.model.proofs.Files.{window_at, check_parts}
use Rattle.model.proofs.Checking.{first_none, none_first, in_bytes, bytes_in, in_starts, starts_in, in_arrows, arrows_in}
use Rattle.model.proofs.Unpacking.{pieces_long}
use Rattle.model.proofs.FileLaws.Layout.{piece_is}
use Rattle.model.proofs.FileLaws.Order.{Ascending, first_is, Earlier, never_both, bytes_ascend, starts_ascend, arrows_ascend}

-- TESTS

decides_leb : (a b : ℕ) → Decides (leb a b) (a ≤ b)
decides_leb a b = (leb-true a b, le-leb a b)

-- a test that is read only if another has passed
decides_then : {P Q : Type 0} (x y : Bool) → Decides x P → (P → Decides y Q) → Decides (x && y) (P × Q)
decides_then x y a b =
    (λ e. (let (f, g) = and_parts x y e in (a.0 f, (b (a.0 f)).0 g)), λ (p, q). and_from x y (a.1 p) ((b p).1 q))

if_is : (x y : Bool) → elim x [ true ↦ y | false ↦ false ] ≡ (x && y)
if_is true y = refl
if_is false y = refl

decides_if : {P Q : Type 0} (x y : Bool) → Decides x P → (P → Decides y Q) → Decides (elim x [ true ↦ y | false ↦ false ]) (P × Q)
decides_if x y a b = Decides-at (elim x [ true ↦ y | false ↦ false ]) (x && y) (if_is x y) (decides_then x y a b)

fails : {P : Type 0} (r : Bool) → Decides r P → (P → ⊥) → r ≡ false
fails true d n = absurd (n (d.0 refl))
fails false d n = refl

-- THE TRAILER

two_read : (l : List ℕ) → number_of (take 2 l) ≡ two (get_or l 0 0) (get_or l 1 0)
two_read [] = omega arith
two_read (a ∷ []) = omega arith
two_read (a ∷ b ∷ l) = omega arith

four_read : (l : List ℕ) → number_of (take 4 l) ≡ four (get_or l 0 0) (get_or l 1 0) (get_or l 2 0) (get_or l 3 0)
four_read [] = omega arith
four_read (a ∷ []) = omega arith
four_read (a ∷ b ∷ []) = omega arith
four_read (a ∷ b ∷ c ∷ []) = omega arith
four_read (a ∷ b ∷ c ∷ d ∷ l) = omega arith

four_first : (l : List ℕ) → 4 ≤ length l → take 4 l ≡ get_or l 0 0 ∷ get_or l 1 0 ∷ get_or l 2 0 ∷ get_or l 3 0 ∷ []
four_first [] h = absurd (omega arith)
four_first (a ∷ []) h = absurd (omega arith)
four_first (a ∷ b ∷ []) h = absurd (omega arith)
four_first (a ∷ b ∷ c ∷ []) h = absurd (omega arith)
four_first (a ∷ b ∷ c ∷ d ∷ l) h = refl

two_whole : (l : List ℕ) → length l ≡ 2 → l ≡ get_or l 0 0 ∷ get_or l 1 0 ∷ []
two_whole [] h = absurd (omega arith)
two_whole (a ∷ []) h = absurd (omega arith)
two_whole (a ∷ b ∷ []) h = refl
two_whole (a ∷ b ∷ c ∷ l) h = absurd (omega arith)

module _ (A : Automaton) (bytes : List ℕ) where
  abbrev end : List ℕ
  end = drop (length bytes - 20) bytes

  abbrev T : ℕ → ℕ
  T i = trailer_byte bytes i

  end_byte : (i : ℕ) → get_or end i 0 ≡ T i
  end_byte i = get_or-drop (length bytes - 20) bytes i 0

  end_later : (n i : ℕ) → get_or (drop n end) i 0 ≡ T (n + i)
  end_later n i = get_or-drop n end i 0 ∙ end_byte (n + i)

  size_read : number_of (piece 12 2 end) ≡ told_size bytes
  size_read = two_read (drop 12 end) ∙ (λ i. two (end_later 12 0 i) (end_later 12 1 i))

  distance_read : (n : ℕ) → number_of (piece n 4 end) ≡ four (T (n + 0)) (T (n + 1)) (T (n + 2)) (T (n + 3))
  distance_read n = four_read (drop n end) ∙ (λ i. four (end_later n 0 i) (end_later n 1 i) (end_later n 2 i) (end_later n 3 i))

  -- check, over what the bytes tell
  abbrev told : Result ℕ Refusal
  told =
      check_parts A bytes (length bytes - 20) (take 4 end) (drop 18 end) (told_size bytes) (told_count bytes) (T 14) (T 15) (T 16)
      (four (T 4) (T 5) (T 6) (T 7)) (four (T 8) (T 9) (T 10) (T 11))

  check_told : check A bytes ≡ told
  unfolding check
  check_told =
      λ i. check_parts A bytes (length bytes - 20) (take 4 end) (drop 18 end) (size_read i) (end_byte 17 i) (end_byte 14 i) (end_byte 15 i) (end_byte 16 i)
      (distance_read 4 i) (distance_read 8 i)

  abbrev trailer_test : Bool
  trailer_test =
      leb 20 (length bytes)
      && (same (take 4 end) file_mark && (same (drop 18 end) (0 ∷ 0 ∷ []) && (leb 1 (told_size bytes) && (leb (told_size bytes) 1024 && leb (told_count bytes) 14))))

  abbrev rules_test : Bool
  rules_test = eqb (T 14) A.situations && (eqb (T 15) A.commands && eqb (T 16) A.states)

  abbrev distances_test : Bool
  distances_test =
      eqb (four (T 4) (T 5) (T 6) (T 7)) (body A (told_size bytes))
      && (eqb (four (T 8) (T 9) (T 10) (T 11)) (told_size bytes * A.states) && leb (body A (told_size bytes)) (length bytes - 20))

  end_long : 20 ≤ length bytes → length end ≡ 20
  end_long h = length-drop (length bytes - 20) bytes ∙ omega arith

  decides_mark : 20 ≤ length bytes → Decides (same (take 4 end) file_mark) ((T 0 ≡ 0x54) × (T 1 ≡ 0x54) × (T 2 ≡ 0x43) × (T 3 ≡ 0x31))
  decides_mark h =
      let e : take 4 end ≡ T 0 ∷ T 1 ∷ T 2 ∷ T 3 ∷ [] = four_first end (omega (arith, end_long h)) ∙ (λ i. end_byte 0 i ∷ end_byte 1 i ∷ end_byte 2 i ∷ end_byte 3 i ∷ []) in
      Decides-like (same (take 4 end) file_mark)
      (λ k. (let f : T 0 ∷ T 1 ∷ T 2 ∷ T 3 ∷ [] ≡ 0x54 ∷ 0x54 ∷ 0x43 ∷ 0x31 ∷ [] = sym e ∙ k in (cc, cc, cc, cc)))
      (λ (a, b, c, d). e ∙ (λ i. a i ∷ b i ∷ c i ∷ d i ∷ []))
      (decides_same (take 4 end) file_mark)

  decides_zeros : 20 ≤ length bytes → Decides (same (drop 18 end) (0 ∷ 0 ∷ [])) ((T 18 ≡ 0) × (T 19 ≡ 0))
  decides_zeros h =
      let e : drop 18 end ≡ T 18 ∷ T 19 ∷ [] = two_whole (drop 18 end) (length-drop 18 end ∙ omega (arith, end_long h)) ∙ (λ i. end_later 18 0 i ∷ end_later 18 1 i ∷ []) in
      Decides-like (same (drop 18 end) (0 ∷ 0 ∷ []))
      (λ k. (let f : T 18 ∷ T 19 ∷ [] ≡ 0 ∷ 0 ∷ [] = sym e ∙ k in (cc, cc)))
      (λ (a, b). e ∙ (λ i. a i ∷ b i ∷ []))
      (decides_same (drop 18 end) (0 ∷ 0 ∷ []))

  decides_trailer : Decides trailer_test (TrailerGood bytes)
  decides_trailer =
      Decides-like trailer_test
      (λ (a, ((b, c, d, e), ((f, g), (h, (i, j))))).
      record { long = a; mark_0 = b; mark_1 = c; mark_2 = d; mark_3 = e; zero_18 = f; zero_19 = g; some_state = h; few_states = i; low_count = j })
      (λ t. (t.long, ((t.mark_0, t.mark_1, t.mark_2, t.mark_3), ((t.zero_18, t.zero_19), (t.some_state, (t.few_states, t.low_count))))))
      (decides_then _ _ (decides_leb 20 (length bytes)) (λ h.
      Decides-and _ _ (decides_mark h) (Decides-and _ _ (decides_zeros h)
      (Decides-and _ _ (decides_leb 1 (told_size bytes)) (Decides-and _ _ (decides_leb (told_size bytes) 1024) (decides_leb (told_count bytes) 14))))))

  decides_rules : Decides rules_test (ForRules A bytes)
  decides_rules =
      Decides-like rules_test
      (λ (a, (b, c)). record { situations = a; commands = b; states = c })
      (λ r. (r.situations, (r.commands, r.states)))
      (Decides-and _ _ (Decides-eqb (T 14) A.situations) (Decides-and _ _ (Decides-eqb (T 15) A.commands) (Decides-eqb (T 16) A.states)))

  decides_distances : 20 ≤ length bytes → Decides distances_test (Distances A bytes)
  decides_distances h =
      Decides-like distances_test
      (λ (a, (b, c)). record { to_records = a; to_certificate = b; within = omega arith })
      (λ d. (d.to_records, (d.to_certificate, omega arith)))
      (Decides-and _ _ (Decides-eqb (four (T 4) (T 5) (T 6) (T 7)) (body A (told_size bytes)))
      (Decides-and _ _ (Decides-eqb (four (T 8) (T 9) (T 10) (T 11)) (told_size bytes * A.states)) (decides_leb (body A (told_size bytes)) (length bytes - 20))))

-- A LOOK at places in order, for the first that is bad

module _ (f : Place → Bool) (Bad : Place → Type 0) (L : List Place) (each : (a : Place) → In L a → Decides (f a) (Bad a)) where
  look_none : (first f L ≡ none) ↔ ((a : Place) → In L a → Bad a → ⊥)
  look_none =
      (λ e a i. not_from_Decides (f a) (each a i) (first_none f L e a i), λ n. none_first f L (λ a i. fails (f a) (each a i) (n a i)))

  look_first : Ascending Earlier L → (p : Place) → (first f L ≡ some p) ↔ (In L p × Bad p × ((a : Place) → In L a → Earlier a p → Bad a → ⊥))
  look_first up p = (
    λ e. (let (i, t, n) = (first_is Earlier never_both f L up p).0 e in (i, (each p i).0 t, λ a j l. not_from_Decides (f a) (each a j) (n a j l))),
    λ (i, b, n). (first_is Earlier never_both f L up p).1 (i, (each p i).1 b, λ a j l. fails (f a) (each a j) (n a j l)),
  )

-- THE RECORDS AND THE CERTIFICATE

get_or_in : {X : Type 0} (L : List X) (x d : X) → In L x → (i : ℕ) × (i < length L) × (x ≡ get_or L i d)
get_or_in [] x d i = absurd i
get_or_in (y ∷ L) x d (inl e) = (0, omega arith, e)
get_or_in (y ∷ L) x d (inr i) = let (k, h, e) = get_or_in L x d i in (suc k, omega arith, e)

-- a byte as a mark: 255 is absent
mark_cases : (b : ℕ) → ((b ≡ 255) × (byte_mark b ≡ 0)) ⊎ ((b ≡ 255 → ⊥) × (byte_mark b ≡ suc b))
mark_cases b = go (cases_eq b 255)
  where
    go : (b ≡ 255) ⊎ (b ≡ 255 → ⊥) → ((b ≡ 255) × (byte_mark b ≡ 0)) ⊎ ((b ≡ 255 → ⊥) × (byte_mark b ≡ suc b))
    go (inl e) = inl (e, rw (eq-eqb b 255 e, byte_mark))
    go (inr n) = inr (n, rw (ne_eqb b 255 n, byte_mark))

decides_present : (b : ℕ) → Decides (ltb 0 (byte_mark b)) (b ≡ 255 → ⊥)
decides_present b = Decides-like (ltb 0 (byte_mark b)) (λ h e. omega (arith, mark_cases b)) (λ n. omega (arith, mark_cases b)) (Decides-ltb 0 (byte_mark b))

decides_above : (b c : ℕ) → Decides (ltb (c + 1) (byte_mark b)) ((b ≡ 255 → ⊥) × (c < b))
decides_above b c =
    Decides-like (ltb (c + 1) (byte_mark b)) (λ h. (λ e. omega (arith, mark_cases b), omega (arith, mark_cases b))) (λ (n, h). omega (arith, mark_cases b))
    (Decides-ltb (c + 1) (byte_mark b))

-- the tally t has the mark n
decides_below : (b t n : ℕ) → n ≡ t + 1 → Decides (ltb (byte_mark b) n) ((b ≡ 255) ⊎ (b < t))
decides_below b t n e = Decides-like (ltb (byte_mark b) n) (λ h. to h (mark_cases b)) from (Decides-ltb (byte_mark b) n)
  where
    to : byte_mark b < n → ((b ≡ 255) × (byte_mark b ≡ 0)) ⊎ ((b ≡ 255 → ⊥) × (byte_mark b ≡ suc b)) → (b ≡ 255) ⊎ (b < t)
    to h (inl (f, z)) = inl f
    to h (inr (f, z)) = inr (omega arith)

    from : (b ≡ 255) ⊎ (b < t) → byte_mark b < n
    from (inl f) = omega (arith, mark_cases b)
    from (inr f) = omega (arith, mark_cases b)

-- what check looks through
abbrev told_window : Automaton → List ℕ → Window
told_window A bytes = window_at A bytes (length bytes - 20) (told_size bytes) (told_count bytes)

module _ (A : Automaton) (bytes : List ℕ) (fits : body A (told_size bytes) + 20 ≤ length bytes) where
  abbrev m : ℕ
  m = told_size bytes

  abbrev w : Window
  w = told_window A bytes

  abbrev records : List ℕ
  records = drop (length bytes - 20 - body A m) bytes

  abbrev tallies : List ℕ
  tallies = drop (length bytes - 20 - m * A.states) bytes

  rows_count : length w.rows ≡ m
  rows_count = length-map (pieces m (width A) records) (row_of A.situations) ∙ pieces_long m (width A) records

  abbrev one_record : ℕ → List ℕ
  one_record s = take (width A) (drop (s * width A) records)

  row_told : (s : ℕ) → s < m → get_or w.rows s no_row ≡ row_of A.situations (one_record s)
  row_told s hs =
      get_or-map (row_of A.situations) (pieces m (width A) records) s [] no_row (omega (arith, pieces_long m (width A) records))
      ∙ ap (row_of A.situations) (piece_is m (width A) records s hs)

  record_byte : (s j : ℕ) → j < width A → get_or (one_record s) j 0 ≡ byte_at bytes (record_from A bytes s + j)
  record_byte s j hj =
      get_or-take (width A) (drop (s * width A) records) j 0 hj
      ∙ get_or-drop (s * width A) records j 0
      ∙ get_or-drop (length bytes - 20 - body A m) bytes (s * width A + j) 0
      ∙ ap (byte_at bytes) (omega arith)

  command_is : (s : ℕ) → s < m → (get_or w.rows s no_row).command ≡ told_command A bytes s
  command_is s hs = ap (λ (r : Row). r.command) (row_told s hs) ∙ record_byte s 0 (omega arith) ∙ ap (byte_at bytes) (omega arith)

  nexts_long : (s : ℕ) → s < m → length (get_or w.rows s no_row).nexts ≡ A.situations
  nexts_long s hs =
      ap (λ (r : Row). length r.nexts) (row_told s hs)
      ∙ length-map (pieces A.situations 2 (drop 1 (one_record s))) number_of ∙ pieces_long A.situations 2 (drop 1 (one_record s))

  next_is : (s x : ℕ) → s < m → x < A.situations → get_or (get_or w.rows s no_row).nexts x 0 ≡ told_next A bytes s x
  next_is s x hs hx =
      ap (λ (r : Row). get_or r.nexts x 0) (row_told s hs)
      ∙ get_or-map number_of (pieces A.situations 2 (drop 1 (one_record s))) x [] 0 (omega (arith, pieces_long A.situations 2 (drop 1 (one_record s))))
      ∙ ap number_of (piece_is A.situations 2 (drop 1 (one_record s)) x hx)
      ∙ two_read (drop (x * 2) (drop 1 (one_record s)))
      ∙ (λ i. two (half 0 (omega arith) (record_from A bytes s + 1 + 2 * x) (omega arith) i) (half 1 (omega arith) (record_from A bytes s + 2 + 2 * x) (omega arith) i))
    where
      half : (k : ℕ) → k < 2 → (at : ℕ) → record_from A bytes s + (1 + (x * 2 + k)) ≡ at → get_or (drop (x * 2) (drop 1 (one_record s))) k 0 ≡ byte_at bytes at
      half k hk at e =
          get_or-drop (x * 2) (drop 1 (one_record s)) k 0 ∙ get_or-drop 1 (one_record s) (x * 2 + k) 0
          ∙ record_byte s (1 + (x * 2 + k)) (omega arith) ∙ ap (byte_at bytes) e

  mark_is : (s q : ℕ) → s < m → q < A.states → mark_in w s q ≡ byte_mark (told_tally A bytes s q)
  mark_is s q hs hq =
      let line : List ℕ = take A.states (drop (s * A.states) tallies) in
      let room : suc s * A.states ≤ m * A.states = mul-le-mul {n₁ = suc s} {m₁ = A.states} {n₂ = m} {m₂ = A.states} hs (omega arith) in
      let long : length line ≡ A.states = length-take-le A.states (drop (s * A.states) tallies) (omega (arith, length-drop (s * A.states) tallies, length-drop (length bytes - 20 - m * A.states) bytes)) in
      ap (λ l. get_or l q 0) (get_or-map (map byte_mark) (pieces m A.states tallies) s [] [] (omega (arith, pieces_long m A.states tallies)) ∙ ap (map byte_mark) (piece_is m A.states tallies s hs))
      ∙ get_or-map byte_mark line q 0 0 (omega arith)
      ∙ ap byte_mark (get_or-take A.states (drop (s * A.states) tallies) q 0 hq
      ∙ get_or-drop (s * A.states) tallies q 0
      ∙ get_or-drop (length bytes - 20 - m * A.states) bytes (s * A.states + q) 0
      ∙ ap (byte_at bytes) (omega arith))

  abbrev Good : Row → Type 0
  Good r = (r.command < A.commands) × ((n : ℕ) → In r.nexts n → n < length w.rows)

  decides_records : Decides (every (good_row A (length w.rows)) w.rows) (RecordsGood A bytes)
  decides_records =
      Decides-like (every (good_row A (length w.rows)) w.rows) to from
      (decides_every (good_row A (length w.rows)) Good
      (λ r. Decides-and _ _ (Decides-ltb r.command A.commands)
      (decides_every (λ n. ltb n (length w.rows)) (λ n. n < length w.rows) (λ n. Decides-ltb n (length w.rows)) r.nexts))
      w.rows)
    where
      to : ((r : Row) → In w.rows r → Good r) → RecordsGood A bytes
      to h =
          let at : (s : ℕ) → s < m → Good (get_or w.rows s no_row) = λ s hs. h (get_or w.rows s no_row) (in_getD w.rows s no_row (omega (arith, rows_count))) in
          record {
            commands = λ s hs. omega (arith, command_is s hs, (at s hs).0);
            nexts = λ s x hs hx.
                omega (arith, rows_count, next_is s x hs hx, (at s hs).1 (get_or (get_or w.rows s no_row).nexts x 0) (in_getD (get_or w.rows s no_row).nexts x 0 (omega (arith, nexts_long s hs))));
          }

      from : RecordsGood A bytes → (r : Row) → In w.rows r → Good r
      from g r i =
          let (s, hs, e) = get_or_in w.rows r no_row i in
          let hm : s < m = omega (arith, rows_count) in
          subst Good (sym e) (
            omega (arith, command_is s hm, g.commands s hm),
            λ n j. (let (x, hx, f) = get_or_in (get_or w.rows s no_row).nexts n 0 j in
                let hS : x < A.situations = omega (arith, nexts_long s hm) in
                omega (arith, rows_count, next_is s x hm hS, g.nexts s x hm hS)),
          )

  -- each look's test at a place

  decides_byte : (s q : ℕ) → s < m → q < A.states → Decides (File.bad_byte w (place s 0 q 0)) (BadByte A bytes s q)
  decides_byte s q hs hq =
      Decides-like (File.bad_byte w (place s 0 q 0))
      (λ (n, h). record { state = hs; rule_state = hq; present = n; above = h })
      (λ b. (b.present, b.above))
      (Decides-at (File.bad_byte w (place s 0 q 0)) (ltb (told_count bytes + 1) (byte_mark (told_tally A bytes s q))) (ap (ltb (told_count bytes + 1)) (mark_is s q hs hq)) (decides_above (told_tally A bytes s q) (told_count bytes)))

  decides_start : (q : ℕ) → 0 < m → q < A.states → Decides (File.bad_start A w (place 0 0 q 0)) (BadStart A bytes q)
  decides_start q hm hq =
      Decides-like (File.bad_start A w (place 0 0 q 0))
      (λ (t, h). record { starts = record { inside = hq; starts = t }; below = h })
      (λ b. (b.starts.starts, b.below))
      (Decides-and (A.start q) (ltb (mark_in w 0 q) (1 + weight A q)) (λ e. e, λ e. e)
      (Decides-at (ltb (mark_in w 0 q) (1 + weight A q)) (ltb (byte_mark (told_tally A bytes 0 q)) (1 + weight A q)) (ap (λ n. ltb n (1 + weight A q)) (mark_is 0 q hm hq))
      (decides_below (told_tally A bytes 0 q) (weight A q) (1 + weight A q) (omega arith))))

  decides_arrow : RecordsGood A bytes → (s x q p : ℕ) → s < m → x < A.situations → q < A.states → p < A.states → Decides (File.bad_arrow A w (place s x q p)) (BadArrow A bytes s x q p)
  decides_arrow good s x q p hs hx hq hp =
      Decides-like (File.bad_arrow A w (place s x q p))
      (λ (n, (t, h)). record { state = hs; rule_state = hq; present = n; follows = record { known = hx; inside = hp; follows = t }; below = h })
      (λ b. (b.present, (b.follows.follows, b.below)))
      (decides_if (ltb 0 (mark_in w s q)) (elim (A.follows q r.command x p) [ true ↦ low | false ↦ false ])
      (Decides-at (ltb 0 (mark_in w s q)) (ltb 0 (byte_mark tally)) (ap (ltb 0) (mark_is s q hs hq)) (decides_present tally))
      (λ n. decides_if (A.follows q r.command x p) low
      (Decides-at (A.follows q r.command x p) (A.follows q (told_command A bytes s) x p) (ap (λ u. A.follows q u x p) (command_is s hs)) (λ e. e, λ e. e))
      (λ t. Decides-at low (ltb (byte_mark next_tally) (byte_mark tally + weight A p)) low_is
      (decides_below next_tally (tally + weight A p) (byte_mark tally + weight A p) (omega (arith, mark_cases tally))))))
    where
      r : Row
      r = get_or w.rows s no_row

      tally : ℕ
      tally = told_tally A bytes s q

      next_tally : ℕ
      next_tally = told_tally A bytes (told_next A bytes s x) p

      low : Bool
      low = ltb (mark_in w (get_or r.nexts x 0) p) (mark_in w s q + weight A p)

      low_is : low ≡ ltb (byte_mark next_tally) (byte_mark tally + weight A p)
      low_is =
          let e : mark_in w (get_or r.nexts x 0) p ≡ byte_mark next_tally = ap (λ n. mark_in w n p) (next_is s x hs hx) ∙ mark_is (told_next A bytes s x) p (good.nexts s x hs hx) hp in
          let f : mark_in w s q ≡ byte_mark tally = mark_is s q hs hq in
          λ i. ltb (e i) (f i + weight A p)

  module _ (some_state : 1 ≤ m) (good : RecordsGood A bytes) where
    abbrev byte_list : List Place
    byte_list = byte_places A (length w.rows)

    abbrev arrow_list : List Place
    arrow_list = arrow_places A (length w.rows)

    -- a place is bad in the sense of each look
    abbrev ByteAt : Place → Type 0
    ByteAt a = BadByte A bytes a.state a.rule_state

    abbrev StartAt : Place → Type 0
    StartAt a = BadStart A bytes a.rule_state

    abbrev ArrowAt : Place → Type 0
    ArrowAt a = BadArrow A bytes a.state a.situation a.rule_state a.follower

    each_byte : (a : Place) → In byte_list a → Decides (File.bad_byte w a) (ByteAt a)
    each_byte a i =
        let (s, q, hs, hq, e) = bytes_in A (length w.rows) a i in
        subst (λ b. Decides (File.bad_byte w b) (ByteAt b)) (sym e) (decides_byte s q (omega (arith, rows_count)) hq)

    each_start : (a : Place) → In (start_places A) a → Decides (File.bad_start A w a) (StartAt a)
    each_start a i = let (q, hq, e) = starts_in A a i in subst (λ b. Decides (File.bad_start A w b) (StartAt b)) (sym e) (decides_start q some_state hq)

    each_arrow : (a : Place) → In arrow_list a → Decides (File.bad_arrow A w a) (ArrowAt a)
    each_arrow a i =
        let (s, x, q, p, hs, hx, hq, hp, e) = arrows_in A (length w.rows) a i in
        subst (λ b. Decides (File.bad_arrow A w b) (ArrowAt b)) (sym e) (decides_arrow good s x q p (omega (arith, rows_count)) hx hq hp)

    -- what is bad is looked at
    byte_listed : (s q : ℕ) → BadByte A bytes s q → In byte_list (place s 0 q 0)
    byte_listed s q b = in_bytes A (length w.rows) s q (omega (arith, rows_count, b.state)) b.rule_state

    start_listed : (q : ℕ) → BadStart A bytes q → In (start_places A) (place 0 0 q 0)
    start_listed q b = in_starts A q b.starts.inside

    arrow_listed : (s x q p : ℕ) → BadArrow A bytes s x q p → In arrow_list (place s x q p)
    arrow_listed s x q p b = in_arrows A (length w.rows) s x q p (omega (arith, rows_count, b.state)) b.follows.known b.rule_state b.follows.inside

    no_byte : (first (File.bad_byte w) byte_list ≡ none) ↔ NoBadByte A bytes
    no_byte =
        let look : (first (File.bad_byte w) byte_list ≡ none) ↔ ((a : Place) → In byte_list a → ByteAt a → ⊥) = look_none (File.bad_byte w) ByteAt byte_list each_byte in
        (λ e s q b. look.0 e (place s 0 q 0) (byte_listed s q b) b, λ n. look.1 (λ a _. n a.state a.rule_state))

    no_start : (first (File.bad_start A w) (start_places A) ≡ none) ↔ NoBadStart A bytes
    no_start =
        let look : (first (File.bad_start A w) (start_places A) ≡ none) ↔ ((a : Place) → In (start_places A) a → StartAt a → ⊥) = look_none (File.bad_start A w) StartAt (start_places A) each_start in
        (λ e q b. look.0 e (place 0 0 q 0) (start_listed q b) b, λ n. look.1 (λ a _. n a.rule_state))

    no_arrow : (first (File.bad_arrow A w) arrow_list ≡ none) ↔ NoBadArrow A bytes
    no_arrow =
        let look : (first (File.bad_arrow A w) arrow_list ≡ none) ↔ ((a : Place) → In arrow_list a → ArrowAt a → ⊥) = look_none (File.bad_arrow A w) ArrowAt arrow_list each_arrow in
        (λ e s x q p b. look.0 e (place s x q p) (arrow_listed s x q p b) b, λ n. look.1 (λ a _. n a.state a.situation a.rule_state a.follower))

    first_byte : (s q : ℕ) → (first (File.bad_byte w) byte_list ≡ some (place s 0 q 0)) ↔ (BadByte A bytes s q × ((s' q' : ℕ) → Before2 s' q' s q → BadByte A bytes s' q' → ⊥))
    first_byte s q =
        let look : (first (File.bad_byte w) byte_list ≡ some (place s 0 q 0)) ↔ (In byte_list (place s 0 q 0) × BadByte A bytes s q × ((a : Place) → In byte_list a → Earlier a (place s 0 q 0) → ByteAt a → ⊥)) =
        look_first (File.bad_byte w) ByteAt byte_list each_byte (bytes_ascend A (length w.rows)) (place s 0 q 0) in (
          λ e. (let (i, b, n) = look.0 e in (b, λ s' q' l b'. n (place s' 0 q' 0) (byte_listed s' q' b') (wide s' q' l) b')),
          λ (b, n). look.1 (byte_listed s q b, b, λ a _ l. n a.state a.rule_state (narrow a l)),
        )
      where
        wide : (s' q' : ℕ) → Before2 s' q' s q → Earlier (place s' 0 q' 0) (place s 0 q 0)
        wide s' q' (inl l) = inl l
        wide s' q' (inr (e, l)) = inr (e, inr (refl, inl l))

        narrow : (a : Place) → Earlier a (place s 0 q 0) → Before2 a.state a.rule_state s q
        narrow a (inl l) = inl l
        narrow a (inr (e, inl l)) = absurd (omega arith)
        narrow a (inr (e, inr (f, inl l))) = inr (e, l)
        narrow a (inr (e, inr (f, inr (g, l)))) = absurd (omega arith)

    first_start : (q : ℕ) → (first (File.bad_start A w) (start_places A) ≡ some (place 0 0 q 0)) ↔ (BadStart A bytes q × ((q' : ℕ) → q' < q → BadStart A bytes q' → ⊥))
    first_start q =
        let look : (first (File.bad_start A w) (start_places A) ≡ some (place 0 0 q 0)) ↔ (In (start_places A) (place 0 0 q 0) × BadStart A bytes q × ((a : Place) → In (start_places A) a → Earlier a (place 0 0 q 0) → StartAt a → ⊥)) =
        look_first (File.bad_start A w) StartAt (start_places A) each_start (starts_ascend A) (place 0 0 q 0) in (
          λ e. (let (i, b, n) = look.0 e in (b, λ q' l b'. n (place 0 0 q' 0) (start_listed q' b') (inr (refl, inr (refl, inl l))) b')),
          λ (b, n). look.1 (start_listed q b, b, λ a _ l. n a.rule_state (narrow a l)),
        )
      where
        narrow : (a : Place) → Earlier a (place 0 0 q 0) → a.rule_state < q
        narrow a l = omega arith

    first_arrow : (s x q p : ℕ) → (first (File.bad_arrow A w) arrow_list ≡ some (place s x q p)) ↔ (BadArrow A bytes s x q p × ((s' x' q' p' : ℕ) → Before4 s' x' q' p' s x q p → BadArrow A bytes s' x' q' p' → ⊥))
    first_arrow s x q p =
        let look : (first (File.bad_arrow A w) arrow_list ≡ some (place s x q p)) ↔ (In arrow_list (place s x q p) × BadArrow A bytes s x q p × ((a : Place) → In arrow_list a → Earlier a (place s x q p) → ArrowAt a → ⊥)) =
        look_first (File.bad_arrow A w) ArrowAt arrow_list each_arrow (arrows_ascend A (length w.rows)) (place s x q p) in (
          λ e. (let (i, b, n) = look.0 e in (b, λ s' x' q' p' l b'. n (place s' x' q' p') (arrow_listed s' x' q' p' b') l b')),
          λ (b, n). look.1 (arrow_listed s x q p b, b, λ a _ l. n a.state a.situation a.rule_state a.follower l),
        )

    -- the three looks, one after the other
    broken_byte : (p : Place) → first (File.bad_byte w) byte_list ≡ some p → first_broken A w ≡ some p
    unfolding first_broken
    broken_byte p k = rw (k, first_broken)

    broken_start : (p : Place) → first (File.bad_byte w) byte_list ≡ none → first (File.bad_start A w) (start_places A) ≡ some p → first_broken A w ≡ some p
    unfolding first_broken
    broken_start p k l = rw (k, l, first_broken)

    broken_arrow : first (File.bad_byte w) byte_list ≡ none → first (File.bad_start A w) (start_places A) ≡ none → first_broken A w ≡ first (File.bad_arrow A w) arrow_list
    unfolding first_broken
    broken_arrow k l = rw (k, l, first_broken)

    abbrev Broken : Option Place → Type 0
    Broken none = NoBadByte A bytes × NoBadStart A bytes × NoBadArrow A bytes
    Broken (some p) = FirstBad A bytes p

    broken_says : Broken (first_broken A w)
    broken_says = go (first (File.bad_byte w) byte_list) refl (first (File.bad_start A w) (start_places A)) refl (first (File.bad_arrow A w) arrow_list) refl
      where
        go : (o₁ : Option Place) → first (File.bad_byte w) byte_list ≡ o₁ → (o₂ : Option Place) → first (File.bad_start A w) (start_places A) ≡ o₂ → (o₃ : Option Place) → first (File.bad_arrow A w) arrow_list ≡ o₃
            → Broken (first_broken A w)
        go (some a) k o₂ l o₃ r =
            let (s, q, hs, hq, e) = bytes_in A (length w.rows) a ((look_first (File.bad_byte w) ByteAt byte_list each_byte (bytes_ascend A (length w.rows)) a).0 k).0 in
            let f : first (File.bad_byte w) byte_list ≡ some (place s 0 q 0) = k ∙ ap some e in
            let (b, n) = (first_byte s q).0 f in
            subst Broken (sym (broken_byte (place s 0 q 0) f)) (bad_byte s q b n)
        go none k (some a) l o₃ r =
            let (q, hq, e) = starts_in A a ((look_first (File.bad_start A w) StartAt (start_places A) each_start (starts_ascend A) a).0 l).0 in
            let f : first (File.bad_start A w) (start_places A) ≡ some (place 0 0 q 0) = l ∙ ap some e in
            let (b, n) = (first_start q).0 f in
            subst Broken (sym (broken_start (place 0 0 q 0) k f)) (bad_start q (no_byte.0 k) b n)
        go none k none l (some a) r =
            let (s, x, q, p, hs, hx, hq, hp, e) = arrows_in A (length w.rows) a ((look_first (File.bad_arrow A w) ArrowAt arrow_list each_arrow (arrows_ascend A (length w.rows)) a).0 r).0 in
            let f : first (File.bad_arrow A w) arrow_list ≡ some (place s x q p) = r ∙ ap some e in
            let (b, n) = (first_arrow s x q p).0 f in
            subst Broken (sym (broken_arrow k l ∙ f)) (bad_arrow s x q p (no_byte.0 k) (no_start.0 l) b n)
        go none k none l none r = subst Broken (sym (broken_arrow k l ∙ r)) (no_byte.0 k, no_start.0 l, no_arrow.0 r)

    broken_none : NoBadByte A bytes → NoBadStart A bytes → NoBadArrow A bytes → first_broken A w ≡ none
    broken_none a b c = broken_arrow (no_byte.1 a) (no_start.1 b) ∙ no_arrow.1 c

    broken_at : (p : Place) → FirstBad A bytes p → first_broken A w ≡ some p
    broken_at p (bad_byte s q b n) = broken_byte p ((first_byte s q).1 (b, n))
    broken_at p (bad_start q a b n) = broken_start p (no_byte.1 a) ((first_start q).1 (b, n))
    broken_at p (bad_arrow s x q p' a b c n) = broken_arrow (no_byte.1 a) (no_start.1 b) ∙ (first_arrow s x q p').1 (c, n)

-- CHECK

module _ (A : Automaton) (bytes : List ℕ) where
  abbrev window : Window
  window = told_window A bytes

  abbrev records_test : Bool
  records_test = every (good_row A (length window.rows)) window.rows

  -- check, by what its tests give
  not_trailer : trailer_test A bytes ≡ false → check A bytes ≡ refuses Trailer
  not_trailer t = check_told A bytes ∙ rw (t, check_parts)

  not_rules : trailer_test A bytes ≡ true → rules_test A bytes ≡ false → check A bytes ≡ refuses OtherSheet
  not_rules t r = check_told A bytes ∙ rw (t, r, check_parts)

  not_distances : trailer_test A bytes ≡ true → rules_test A bytes ≡ true → distances_test A bytes ≡ false → check A bytes ≡ refuses Layout
  not_distances t r d = check_told A bytes ∙ rw (t, r, d, check_parts)

  looks : trailer_test A bytes ≡ true → rules_test A bytes ≡ true → distances_test A bytes ≡ true → check A bytes ≡ look_through A window
  looks t r d = check_told A bytes ∙ rw (t, r, d, check_parts)

  not_records : records_test ≡ false → look_through A window ≡ refuses Record
  unfolding look_through
  not_records g = rw (g, look_through)

  broken : (p : Place) → records_test ≡ true → first_broken A window ≡ some p → look_through A window ≡ refuses (Certificate p)
  unfolding look_through
  broken p g b = rw (g, b, look_through)

  whole : records_test ≡ true → first_broken A window ≡ none → look_through A window ≡ accepts (told_count bytes)
  unfolding look_through
  whole g b = rw (g, b, look_through)

  check_said : CheckSays A bytes (check A bytes)
  check_said = at_trailer (cases_Bool (trailer_test A bytes))
    where
      at_certificate : TrailerGood bytes → ForRules A bytes → Distances A bytes → RecordsGood A bytes → check A bytes ≡ look_through A window → records_test ≡ true
          → (o : Option Place) → first_broken A window ≡ o → CheckSays A bytes (check A bytes)
      at_certificate t r d g e k none b =
          let (x, y, z) = subst (Broken A bytes d.within t.some_state g) b (broken_says A bytes d.within t.some_state g) in
          subst (CheckSays A bytes) (sym (e ∙ whole k b)) (t, r, d, g, x, y, z, refl)
      at_certificate t r d g e k (some p) b =
          subst (CheckSays A bytes) (sym (e ∙ broken p k b)) (t, r, d, g, subst (Broken A bytes d.within t.some_state g) b (broken_says A bytes d.within t.some_state g))

      at_records : TrailerGood bytes → ForRules A bytes → (d : Distances A bytes) → check A bytes ≡ look_through A window
          → (records_test ≡ true) ⊎ (records_test ≡ false) → CheckSays A bytes (check A bytes)
      at_records t r d e (inl k) = at_certificate t r d ((decides_records A bytes d.within).0 k) e k (first_broken A window) refl
      at_records t r d e (inr k) = subst (CheckSays A bytes) (sym (e ∙ not_records k)) (t, r, d, not_from_Decides records_test (decides_records A bytes d.within) k)

      at_distances : trailer_test A bytes ≡ true → rules_test A bytes ≡ true → (distances_test A bytes ≡ true) ⊎ (distances_test A bytes ≡ false) → CheckSays A bytes (check A bytes)
      at_distances i j (inl k) =
          at_records ((decides_trailer A bytes).0 i) ((decides_rules A bytes).0 j) ((decides_distances A bytes ((decides_trailer A bytes).0 i).long).0 k) (looks i j k) (cases_Bool records_test)
      at_distances i j (inr k) =
          subst (CheckSays A bytes) (sym (not_distances i j k))
          ((decides_trailer A bytes).0 i, (decides_rules A bytes).0 j, not_from_Decides (distances_test A bytes) (decides_distances A bytes ((decides_trailer A bytes).0 i).long) k)

      at_rules : trailer_test A bytes ≡ true → (rules_test A bytes ≡ true) ⊎ (rules_test A bytes ≡ false) → CheckSays A bytes (check A bytes)
      at_rules i (inl j) = at_distances i j (cases_Bool (distances_test A bytes))
      at_rules i (inr j) = subst (CheckSays A bytes) (sym (not_rules i j)) ((decides_trailer A bytes).0 i, not_from_Decides (rules_test A bytes) (decides_rules A bytes) j)

      at_trailer : (trailer_test A bytes ≡ true) ⊎ (trailer_test A bytes ≡ false) → CheckSays A bytes (check A bytes)
      at_trailer (inl i) = at_rules i (cases_Bool (rules_test A bytes))
      at_trailer (inr i) = subst (CheckSays A bytes) (sym (not_trailer i)) (not_from_Decides (trailer_test A bytes) (decides_trailer A bytes) i)

  passes : TrailerGood bytes → ForRules A bytes → Distances A bytes → check A bytes ≡ look_through A window
  passes t r d = looks ((decides_trailer A bytes).1 t) ((decides_rules A bytes).1 r) ((decides_distances A bytes t.long).1 d)

  said_check : (v : Result ℕ Refusal) → CheckSays A bytes v → check A bytes ≡ v
  said_check (accepts c) (t, r, d, g, x, y, z, e) =
      passes t r d ∙ whole ((decides_records A bytes d.within).1 g) (broken_none A bytes d.within t.some_state g x y z) ∙ ap accepts (sym e)
  said_check (refuses Trailer) n = not_trailer (fails (trailer_test A bytes) (decides_trailer A bytes) n)
  said_check (refuses OtherSheet) (t, n) = not_rules ((decides_trailer A bytes).1 t) (fails (rules_test A bytes) (decides_rules A bytes) n)
  said_check (refuses Layout) (t, r, n) =
      not_distances ((decides_trailer A bytes).1 t) ((decides_rules A bytes).1 r) (fails (distances_test A bytes) (decides_distances A bytes t.long) n)
  said_check (refuses Record) (t, r, d, n) = passes t r d ∙ not_records (fails records_test (decides_records A bytes d.within) n)
  said_check (refuses (Certificate p)) (t, r, d, g, b) =
      passes t r d ∙ broken p ((decides_records A bytes d.within).1 g) (broken_at A bytes d.within t.some_state g p b)
  said_check (refuses OutOfRange) n = absurd n
  said_check (refuses HouseRule) n = absurd n
  said_check (refuses UnlikeRule) n = absurd n
  said_check (refuses NameTaken) n = absurd n
  said_check (refuses NoRoom) n = absurd n
  said_check (refuses NoSuchName) n = absurd n
  said_check (refuses OverLimit) n = absurd n
  said_check (refuses NoneFound) n = absurd n
  said_check (refuses Crowded) n = absurd n
  said_check (refuses NoController) n = absurd n
  said_check (refuses NoSituation) n = absurd n
  said_check (refuses ShortBuffer) n = absurd n

pub check_says : VerdictsExact
check_says A bytes v = (λ e. subst (CheckSays A bytes) e (check_said A bytes), said_check A bytes v)
