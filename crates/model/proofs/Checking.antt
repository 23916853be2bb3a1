-- Check accepts a file of a controller just where its certificate is valid; so some file is accepted just where the count is at most c.
use Rattle.std.proofs.Common.{◌≡◌, ℕ, zero, suc, ◌+◌, ◌*◌, ◌<◌, ◌≤◌, Bool, true, false, ◌&&◌, eqb, ltb, ◌⊎◌, List, [], ◌∷◌, ◌++◌, map, length, get_or, Ok as accepts, Err as refuses, Result, sym, refl, ap, ◌∙◌, subst, inl, inr, arith}
use mathlib.Core.Option.{Option, none, some}
use Rattle.std.specs.List.{range_with_len}
use Rattle.std.proofs.lemmas.Bool.{cases_Bool, cases_lt, lt-ltb, le-ltb, ltb-false, and_from, and_right, and_left, ne_eqb}
use Rattle.std.proofs.lemmas.List.{get_or-map}
use Rattle.std.proofs.lemmas.List.FromFn.{get_or-map-range_with_len, length-map-range_with_len, length-range_with_len}
use Rattle.std.proofs.lemmas.Bool.Decides.{Decides-ltb}
use Rattle.model.specs.Automaton.{Automaton, weight, Follows, Controller, WellFormed, AtMost, CountAtMost, Row, no_row, controller}
use Rattle.model.specs.Lists.{every, first, joined, In}
use Rattle.model.specs.Positions.{mark}
use Rattle.model.specs.File.{tally_byte, byte_mark, trailer, file, pieces, Window, good_row, mark_in, bad_byte, bad_start, bad_arrow, place, byte_places, start_places, arrow_places, first_broken, look_through}
use Rattle.model.specs.declared.refusal.Place.{Place}
use Rattle.model.specs.declared.refusal.Refusal.{Refusal}
use Rattle.model.specs.declared.refusal.Refusal.TheVariants.{Record, Certificate}
use Rattle.model.specs.File as File
use Rattle.model.specs.Sheet.{Sheet, rule_list, rules, check, accepted, Outcome, verdict, respond, opened, run}
use Rattle.model.specs.History.{rows_of, ForSheet, Accepts, CheckExact, AfterCalls}
use Rattle.model.specs.CountLaws.{Marking, Valid}
use Rattle.model.proofs.Lists.{in_map, map_in, in_joined, joined_in, in_counting, counting_in, decides_every}
use Rattle.model.proofs.Paths.{certificate_sound}
use Rattle.model.proofs.Tallies.{certificate_exact}
use Rattle.model.proofs.Tables.{Agree, moved, formed}
use Rattle.model.proofs.Files.{Plain, pieces_joined, joined_length, file_reads}
use Rattle.model.proofs.Sheets.{Sound, opened_sound, run_sound, for_rules, for_is}
use Rattle.model.proofs.Calls.{respond_is}
use Rattle.model.proofs.Histories.{agrees, no_cycle}

pub first_none : {X : Type 0} (f : X → Bool) (L : List X) → first f L ≡ none → (x : X) → In L x → f x ≡ false
first_none f [] e x i = absurd i
first_none {X} f (y ∷ L) e x i = go (cases_Bool (f y)) i (first_none f L)
  where
    go : (f y ≡ true) ⊎ (f y ≡ false) → (x ≡ y) ⊎ In L x → (first f L ≡ none → (x : X) → In L x → f x ≡ false) → f x ≡ false
    go (inl t) j below = let k : first f (y ∷ L) ≡ some y = rw (t, first) in let z : ◌≡◌ {A = ℕ} 0 1 = cc in absurd (omega arith)
    go (inr n) (inl s) below = ap f s ∙ n
    go (inr n) (inr j) below = let k : first f (y ∷ L) ≡ first f L = rw (n, first) in below (sym k ∙ e) x j

pub none_first : {X : Type 0} (f : X → Bool) (L : List X) → ((x : X) → In L x → f x ≡ false) → first f L ≡ none
none_first f [] h = refl
none_first f (y ∷ L) h = let k : first f (y ∷ L) ≡ first f L = rw (h y (inl refl), first) in k ∙ none_first f L (λ x i. h x (inr i))

module _ (A : Automaton) where
  pub in_bytes : (m s q : ℕ) → s < m → q < A.states → In (byte_places A m) (place s 0 q 0)
  in_bytes m s q hs hq =
      in_joined (λ s. map (λ q. place s 0 q 0) (range_with_len 0 A.states)) (range_with_len 0 m) s (place s 0 q 0) (in_counting 0 m s (omega arith) (omega arith))
      (in_map (λ q. place s 0 q 0) (range_with_len 0 A.states) q (in_counting 0 A.states q (omega arith) (omega arith)))

  pub bytes_in : (m : ℕ) (at : Place) → In (byte_places A m) at → (s : ℕ) × (q : ℕ) × (s < m) × (q < A.states) × (at ≡ place s 0 q 0)
  bytes_in m at i =
      let (s, j, k) = joined_in (λ s. map (λ q. place s 0 q 0) (range_with_len 0 A.states)) (range_with_len 0 m) at i in
      let (q, l, e) = map_in (λ q. place s 0 q 0) (range_with_len 0 A.states) at k in
      let hs : (0 ≤ s) × (s < 0 + m) = counting_in 0 m s j in
      let hq : (0 ≤ q) × (q < 0 + A.states) = counting_in 0 A.states q l in
      (s, q, omega (arith, hs.1), omega (arith, hq.1), e)

  pub in_starts : (q : ℕ) → q < A.states → In (start_places A) (place 0 0 q 0)
  in_starts q hq = in_map (λ q. place 0 0 q 0) (range_with_len 0 A.states) q (in_counting 0 A.states q (omega arith) (omega arith))

  pub starts_in : (at : Place) → In (start_places A) at → (q : ℕ) × (q < A.states) × (at ≡ place 0 0 q 0)
  starts_in at i =
      let (q, l, e) = map_in (λ q. place 0 0 q 0) (range_with_len 0 A.states) at i in
      let hq : (0 ≤ q) × (q < 0 + A.states) = counting_in 0 A.states q l in
      (q, omega (arith, hq.1), e)

  pub in_arrows : (m s x q p : ℕ) → s < m → x < A.situations → q < A.states → p < A.states → In (arrow_places A m) (place s x q p)
  in_arrows m s x q p hs hx hq hp =
      in_joined (λ s. joined (λ x. joined (λ q. map (λ p. place s x q p) (range_with_len 0 A.states)) (range_with_len 0 A.states)) (range_with_len 0 A.situations)) (range_with_len 0 m) s (place s x q p)
      (in_counting 0 m s (omega arith) (omega arith))
      (in_joined (λ x. joined (λ q. map (λ p. place s x q p) (range_with_len 0 A.states)) (range_with_len 0 A.states)) (range_with_len 0 A.situations) x (place s x q p)
      (in_counting 0 A.situations x (omega arith) (omega arith))
      (in_joined (λ q. map (λ p. place s x q p) (range_with_len 0 A.states)) (range_with_len 0 A.states) q (place s x q p)
      (in_counting 0 A.states q (omega arith) (omega arith))
      (in_map (λ p. place s x q p) (range_with_len 0 A.states) p (in_counting 0 A.states p (omega arith) (omega arith)))))

  pub arrows_in : (m : ℕ) (at : Place) → In (arrow_places A m) at
      → (s : ℕ) × (x : ℕ) × (q : ℕ) × (p : ℕ) × (s < m) × (x < A.situations) × (q < A.states) × (p < A.states) × (at ≡ place s x q p)
  arrows_in m at i =
      let (s, is, js) = joined_in (λ s. joined (λ x. joined (λ q. map (λ p. place s x q p) (range_with_len 0 A.states)) (range_with_len 0 A.states)) (range_with_len 0 A.situations)) (range_with_len 0 m) at i in
      let (x, ix, jx) = joined_in (λ x. joined (λ q. map (λ p. place s x q p) (range_with_len 0 A.states)) (range_with_len 0 A.states)) (range_with_len 0 A.situations) at js in
      let (q, iq, jq) = joined_in (λ q. map (λ p. place s x q p) (range_with_len 0 A.states)) (range_with_len 0 A.states) at jx in
      let (p, ip, e) = map_in (λ p. place s x q p) (range_with_len 0 A.states) at jq in
      let hs : (0 ≤ s) × (s < 0 + m) = counting_in 0 m s is in
      let hx : (0 ≤ x) × (x < 0 + A.situations) = counting_in 0 A.situations x ix in
      let hq : (0 ≤ q) × (q < 0 + A.states) = counting_in 0 A.states q iq in
      let hp : (0 ≤ p) × (p < 0 + A.states) = counting_in 0 A.states p ip in
      (s, x, q, p, omega (arith, hs.1), omega (arith, hx.1), omega (arith, hq.1), omega (arith, hp.1), e)

  module _ (w : Window) where
    abbrev Ctl : Controller
    Ctl = controller w.rows

    -- the three looks of first_broken
    looks : first_broken A w ≡ none
        → (first (bad_byte w) (byte_places A (length w.rows)) ≡ none) × (first (bad_start A w) (start_places A) ≡ none) × (first (bad_arrow A w) (arrow_places A (length w.rows)) ≡ none)
    unfolding first_broken
    looks e = go (first (bad_byte w) (byte_places A (length w.rows))) refl (first (bad_start A w) (start_places A)) refl
      where
        go : (o : Option Place) → first (bad_byte w) (byte_places A (length w.rows)) ≡ o → (u : Option Place) → first (bad_start A w) (start_places A) ≡ u
            → (first (bad_byte w) (byte_places A (length w.rows)) ≡ none) × (first (bad_start A w) (start_places A) ≡ none) × (first (bad_arrow A w) (arrow_places A (length w.rows)) ≡ none)
        go (some at) k u l = let f : first_broken A w ≡ some at = rw (k, first_broken) in let z : ◌≡◌ {A = ℕ} 0 1 = cc in absurd (omega arith)
        go none k (some at) l = let f : first_broken A w ≡ some at = rw (k, l, first_broken) in let z : ◌≡◌ {A = ℕ} 0 1 = cc in absurd (omega arith)
        go none k none l = let f : first_broken A w ≡ first (bad_arrow A w) (arrow_places A (length w.rows)) = rw (k, l, first_broken) in (k, l, sym f ∙ e)

    arrow_is : (s x q p : ℕ) → 0 < mark_in w s q → A.follows q (Ctl.command s) x p ≡ true
        → bad_arrow A w (place s x q p) ≡ ltb (mark_in w (Ctl.next s x) p) (mark_in w s q + weight A p)
    arrow_is s x q p pos f = rw (lt-ltb 0 (mark_in w s q) pos, f, bad_arrow)

    none_valid : first_broken A w ≡ none → Valid A Ctl w.count (mark_in w)
    none_valid e =
        let (a, b, c) = looks e in
        record {
          within = λ s q hs hq. ltb-false (w.count + 1) (mark_in w s q) (first_none (bad_byte w) (byte_places A (length w.rows)) a (place s 0 q 0) (in_bytes (length w.rows) s q hs hq));
          begins = λ q k. ltb-false (mark_in w 0 q) (1 + weight A q)
              (started q k.starts (first_none (bad_start A w) (start_places A) b (place 0 0 q 0) (in_starts q k.inside)));
          carries = λ s q x p hs hq pos k. ltb-false (mark_in w (Ctl.next s x) p) (mark_in w s q + weight A p)
              (sym (arrow_is s x q p pos k.follows) ∙ first_none (bad_arrow A w) (arrow_places A (length w.rows)) c (place s x q p) (in_arrows (length w.rows) s x q p hs k.known hq k.inside));
        }
      where
        started : (q : ℕ) → A.start q ≡ true → (A.start q && ltb (mark_in w 0 q) (1 + weight A q)) ≡ false → ltb (mark_in w 0 q) (1 + weight A q) ≡ false
        started q t f = let k : (A.start q && ltb (mark_in w 0 q) (1 + weight A q)) ≡ ltb (mark_in w 0 q) (1 + weight A q) = rw t in sym k ∙ f

    valid_none : Valid A Ctl w.count (mark_in w) → first_broken A w ≡ none
    unfolding first_broken
    valid_none v =
        let a : first (bad_byte w) (byte_places A (length w.rows)) ≡ none = none_first (bad_byte w) (byte_places A (length w.rows)) (λ at i. no_byte at (bytes_in (length w.rows) at i)) in
        let b : first (bad_start A w) (start_places A) ≡ none = none_first (bad_start A w) (start_places A) (λ at i. no_start at (starts_in at i)) in
        let c : first (bad_arrow A w) (arrow_places A (length w.rows)) ≡ none = none_first (bad_arrow A w) (arrow_places A (length w.rows)) (λ at i. no_arrow at (arrows_in (length w.rows) at i)) in
        let f : first_broken A w ≡ first (bad_arrow A w) (arrow_places A (length w.rows)) = rw (a, b, first_broken) in
        f ∙ c
      where
        no_byte : (at : Place) → (s : ℕ) × (q : ℕ) × (s < length w.rows) × (q < A.states) × (at ≡ place s 0 q 0) → bad_byte w at ≡ false
        no_byte at (s, q, hs, hq, e) = ap (bad_byte w) e ∙ le-ltb (w.count + 1) (mark_in w s q) (v.within s q hs hq)

        no_start : (at : Place) → (q : ℕ) × (q < A.states) × (at ≡ place 0 0 q 0) → bad_start A w at ≡ false
        no_start at (q, hq, e) = ap (bad_start A w) e ∙ go (cases_Bool (A.start q))
          where
            go : (A.start q ≡ true) ⊎ (A.start q ≡ false) → (A.start q && ltb (mark_in w 0 q) (1 + weight A q)) ≡ false
            go (inl t) = and_right (A.start q) (ltb (mark_in w 0 q) (1 + weight A q)) (le-ltb (mark_in w 0 q) (1 + weight A q) (v.begins q (record { inside = hq; starts = t })))
            go (inr n) = and_left (A.start q) (ltb (mark_in w 0 q) (1 + weight A q)) n

        no_arrow : (at : Place) → (s : ℕ) × (x : ℕ) × (q : ℕ) × (p : ℕ) × (s < length w.rows) × (x < A.situations) × (q < A.states) × (p < A.states) × (at ≡ place s x q p) → bad_arrow A w at ≡ false
        no_arrow at (s, x, q, p, hs, hx, hq, hp, e) = ap (bad_arrow A w) e ∙ go (cases_lt 0 (mark_in w s q)) (cases_Bool (A.follows q (Ctl.command s) x p))
          where
            go : (0 < mark_in w s q) ⊎ (mark_in w s q ≤ 0) → (A.follows q (Ctl.command s) x p ≡ true) ⊎ (A.follows q (Ctl.command s) x p ≡ false) → bad_arrow A w (place s x q p) ≡ false
            go (inl pos) (inl t) =
                arrow_is s x q p pos t
                ∙ le-ltb (mark_in w (Ctl.next s x) p) (mark_in w s q + weight A p) (v.carries s q x p hs hq pos (record { known = hx; inside = hp; follows = t }))
            go (inl pos) (inr n) = rw (lt-ltb 0 (mark_in w s q) pos, n, bad_arrow)
            go (inr z) t = rw (le-ltb 0 (mark_in w s q) z, bad_arrow)

    pub accepted_valid : (c : ℕ) → look_through A w ≡ accepts c → Valid A Ctl w.count (mark_in w)
    unfolding look_through
    accepted_valid c e = go (cases_Bool (every (good_row A (length w.rows)) w.rows)) (first_broken A w) refl
      where
        go : (every (good_row A (length w.rows)) w.rows ≡ true) ⊎ (every (good_row A (length w.rows)) w.rows ≡ false) → (o : Option Place) → first_broken A w ≡ o → Valid A Ctl w.count (mark_in w)
        go (inr n) o k = let f : look_through A w ≡ (refuses Record) = rw (n, look_through) in let z : ◌≡◌ {A = ℕ} 0 1 = cc in absurd (omega arith)
        go (inl t) (some at) k = let f : look_through A w ≡ refuses (Certificate at) = rw (t, k, look_through) in let z : ◌≡◌ {A = ℕ} 0 1 = cc in absurd (omega arith)
        go (inl t) none k = none_valid k

    pub valid_accepted : every (good_row A (length w.rows)) w.rows ≡ true → Valid A Ctl w.count (mark_in w) → look_through A w ≡ accepts w.count
    unfolding look_through
    valid_accepted t v = rw (t, valid_none v, look_through)

-- the rows of a controller

module _ (A : Automaton) (K : Controller) where
  abbrev row : ℕ → Row
  row s = record { command = K.command s; nexts = map (K.next s) (range_with_len 0 A.situations) }

  pub rows_long : length (rows_of A K) ≡ K.size
  rows_long = length-map-range_with_len row 0 K.size

  row_at : (s : ℕ) → s < K.size → get_or (rows_of A K) s no_row ≡ row s
  row_at s h = get_or-map-range_with_len row 0 K.size s s no_row h (omega arith)

  pub rows_agree : Agree A K (controller (rows_of A K))
  rows_agree =
      record {
        size = rows_long;
        command = λ s h. ap (λ (r : Row). r.command) (row_at s h);
        next = λ s x h hx. ap (λ (r : Row). get_or r.nexts x 0) (row_at s h) ∙ get_or-map-range_with_len (K.next s) 0 A.situations x x 0 hx (omega arith);
      }

  row_in : (r : Row) → In (rows_of A K) r → (s : ℕ) × (s < K.size) × (r ≡ row s)
  row_in r i =
      let (s, j, e) = map_in row (range_with_len 0 K.size) r i in
      let h : (0 ≤ s) × (s < 0 + K.size) = counting_in 0 K.size s j in
      (s, omega (arith, h.1), e)

  module _ (wf : WellFormed A K) where
    next_in : (s n : ℕ) → s < K.size → In (map (K.next s) (range_with_len 0 A.situations)) n → n < K.size
    next_in s n hs i =
        let (x, j, e) = map_in (K.next s) (range_with_len 0 A.situations) n i in
        let h : (0 ≤ x) × (x < 0 + A.situations) = counting_in 0 A.situations x j in
        let k : K.next s x < K.size = wf.nexts s x hs (omega (arith, h.1)) in
        omega arith

    pub rows_plain : K.size ≤ 1024 → (r : Row) → In (rows_of A K) r → Plain A.situations r
    rows_plain few r i =
        let (s, hs, e) = row_in r i in
        subst (Plain A.situations) (sym e) (length-map-range_with_len (K.next s) 0 A.situations, λ n j. (let k : n < K.size = next_in s n hs j in omega arith))

    pub rows_good : every (good_row A (length (rows_of A K))) (rows_of A K) ≡ true
    rows_good =
        (decides_every (good_row A (length (rows_of A K))) (λ r. good_row A (length (rows_of A K)) r ≡ true) (λ r. (λ e. e, λ e. e)) (rows_of A K)).1
        (λ r i. (let (s, hs, e) = row_in r i in
        subst (λ r. good_row A (length (rows_of A K)) r ≡ true) (sym e)
        (and_from (ltb (K.command s) A.commands) (every (λ n. ltb n (length (rows_of A K))) (map (K.next s) (range_with_len 0 A.situations)))
        (lt-ltb (K.command s) A.commands (wf.commands s hs))
        ((decides_every (λ n. ltb n (length (rows_of A K))) (λ n. n < length (rows_of A K)) (λ n. Decides-ltb n (length (rows_of A K))) (map (K.next s) (range_with_len 0 A.situations))).1
        (λ n j. (let k : n < K.size = next_in s n hs j in omega (arith, rows_long)))))))

-- the bytes of a certificate

byte_back : (v : ℕ) → v ≤ 15 → byte_mark (tally_byte v) ≡ v
byte_back zero h = refl
byte_back (suc t) h = let n : eqb t 255 ≡ false = ne_eqb t 255 (λ e. omega arith) in rw (n, byte_mark)

byte_small : (v : ℕ) → v ≤ 15 → tally_byte v < 256
byte_small zero h = omega arith
byte_small (suc t) h = omega arith

module _ (A : Automaton) (K : Controller) (c : ℕ) (low : c ≤ 14) (wf : WellFormed A K) (C : Marking) (v : Valid A K c C) where
  abbrev pub line : ℕ → List ℕ
  line s = map (λ q. tally_byte (C s q)) (range_with_len 0 A.states)

  abbrev pub cert : List ℕ
  cert = joined line (range_with_len 0 K.size)

  line_long : (s : ℕ) → length (line s) ≡ A.states
  line_long s = length-map-range_with_len (λ q. tally_byte (C s q)) 0 A.states

  pub cert_long : length cert ≡ K.size * A.states
  cert_long = joined_length line A.states (range_with_len 0 K.size) (λ s i. line_long s) ∙ ap (λ n. n * A.states) (length-range_with_len 0 K.size)

  pub cert_bytes : (b : ℕ) → In cert b → b < 256
  cert_bytes b i =
      let (s, j, k) = joined_in line (range_with_len 0 K.size) b i in
      let (q, l, e) = map_in (λ q. tally_byte (C s q)) (range_with_len 0 A.states) b k in
      let hs : (0 ≤ s) × (s < 0 + K.size) = counting_in 0 K.size s j in
      let hq : (0 ≤ q) × (q < 0 + A.states) = counting_in 0 A.states q l in
      let w : C s q ≤ c + 1 = v.within s q (omega (arith, hs.1)) (omega (arith, hq.1)) in
      let k : tally_byte (C s q) < 256 = byte_small (C s q) (omega arith) in
      omega arith

  abbrev pub win : Window
  win = record { rows = rows_of A K; marks = map (map byte_mark) (pieces (length (rows_of A K)) A.states (cert ++ trailer A (length (rows_of A K)) c)); count = c }

  marks_are : win.marks ≡ map (map byte_mark) (map line (range_with_len 0 K.size))
  marks_are =
      let e : pieces (length (range_with_len 0 K.size)) A.states (cert ++ trailer A (length (rows_of A K)) c) ≡ map line (range_with_len 0 K.size) =
      pieces_joined line A.states (range_with_len 0 K.size) (trailer A (length (rows_of A K)) c) (λ s i. line_long s) in
      ap (map (map byte_mark)) (ap (λ n. pieces n A.states (cert ++ trailer A (length (rows_of A K)) c)) (rows_long A K ∙ sym (length-range_with_len 0 K.size)) ∙ e)

  mark_is : (s q : ℕ) → s < K.size → q < A.states → mark_in win s q ≡ C s q
  mark_is s q hs hq =
      let w : C s q ≤ c + 1 = v.within s q hs hq in
      ap (λ l. mark (get_or l s []) q) marks_are
      ∙ ap (λ l. get_or l q 0) (get_or-map (map byte_mark) (map line (range_with_len 0 K.size)) s [] [] (omega (arith, length-map-range_with_len line 0 K.size))
      ∙ ap (map byte_mark) (get_or-map-range_with_len line 0 K.size s s [] hs (omega arith)))
      ∙ get_or-map byte_mark (line s) q 0 0 (omega (arith, line_long s))
      ∙ ap byte_mark (get_or-map-range_with_len (λ q. tally_byte (C s q)) 0 A.states q q 0 hq (omega arith))
      ∙ byte_back (C s q) (omega arith)

  win_valid : Valid A (controller (rows_of A K)) c (mark_in win)
  win_valid =
      record {
        within = λ s q h hq. (let hs : s < K.size = omega (arith, rows_long A K) in omega (arith, mark_is s q hs hq, v.within s q hs hq));
        begins = λ q b. omega (arith, mark_is 0 q wf.some_state b.inside, v.begins q b);
        carries = λ s q x p h hq pos f. (let hs : s < K.size = omega (arith, rows_long A K) in
            let e : mark_in win s q ≡ C s q = mark_is s q hs hq in
            let g : Follows A q (K.command s) x p = subst (λ u. Follows A q u x p) ((rows_agree A K).command s hs) f in
            let n : (controller (rows_of A K)).next s x ≡ K.next s x = (rows_agree A K).next s x hs f.known in
            let k : C s q + weight A p ≤ C (K.next s x) p = v.carries s q x p hs hq (omega arith) g in
            let l : mark_in win (K.next s x) p ≡ C (K.next s x) p = mark_is (K.next s x) p (wf.nexts s x hs f.known) f.inside in
            subst (λ i. mark_in win s q + weight A p ≤ mark_in win i p) (sym n) (omega arith));
      }

  pub win_accepted : look_through A win ≡ accepts c
  win_accepted = valid_accepted A win (rows_good A K wf) win_valid

pub verdict_accepts : (v : Result ℕ Refusal) (c : ℕ) → verdict v ≡ accepted c → v ≡ accepts c
verdict_accepts (accepts n) c e = let k : n ≡ c = cc in ap accepts k
verdict_accepts (refuses r) c e = let z : ◌≡◌ {A = ℕ} 0 1 = cc in absurd (omega arith)

module _ (s : Sheet) (h : Sound s) (c : ℕ) (low : c ≤ 14) (K : Controller) (fs : ForSheet s K) (few : K.size ≤ 1024) where
  abbrev pub A : Automaton
  A = rules s

  wf : WellFormed A K
  wf = for_rules s h K fs

  pub reads : (before certificate : List ℕ) → length certificate ≡ K.size * A.states
      → File.check A (before ++ file A (rows_of A K) certificate c) ≡ look_through A (record { rows = rows_of A K; marks = map (map byte_mark) (pieces (length (rows_of A K)) A.states (certificate ++ trailer A (length (rows_of A K)) c)); count = c })
  reads before certificate l =
      file_reads A (rows_of A K) certificate before c (omega (arith, (for_is s h K).0, h.ranges)) h.small (omega (arith, rows_long A K, wf.some_state)) (omega (arith, rows_long A K)) low
      (rows_plain A K wf few) (l ∙ ap (λ n. n * A.states) (sym (rows_long A K)))

  accepts_most : Accepts s K c → CountAtMost (rule_list s) K c
  accepts_most (bytes, (before, certificate, l, b, e), a) =
      let r : respond s (check bytes) ≡ record { sheet = s; answer = verdict (File.check A bytes) } = respond_is s (check bytes) h.looked in
      let k : File.check A bytes ≡ accepts c = verdict_accepts (File.check A bytes) c (sym (ap (λ (o : Outcome). o.answer) r) ∙ a) in
      let w : Window = record { rows = rows_of A K; marks = map (map byte_mark) (pieces (length (rows_of A K)) A.states (certificate ++ trailer A (length (rows_of A K)) c)); count = c } in
      let v : Valid A (controller (rows_of A K)) c (mark_in w) = accepted_valid A w c (sym (reads before certificate l) ∙ ap (File.check A) (sym e) ∙ k) in
      let most : AtMost A (controller (rows_of A K)) c = certificate_sound A (controller (rows_of A K)) c (mark_in w) (formed A K (controller (rows_of A K)) wf (rows_agree A K)) v in
      (agrees s h K c).0.1 (λ i q t p. most i q t (moved A K (controller (rows_of A K)) wf (rows_agree A K) p))

  most_accepts : CountAtMost (rule_list s) K c → Accepts s K c
  most_accepts most =
      let (C, v) = (certificate_exact A K c wf).1 ((agrees s h K c).0.0 most) in
      let bytes : List ℕ = [] ++ file A (rows_of A K) (cert A K c low wf C v) c in
      let k : File.check A bytes ≡ accepts c = reads [] (cert A K c low wf C v) (cert_long A K c low wf C v) ∙ win_accepted A K c low wf C v in
      let r : respond s (check bytes) ≡ record { sheet = s; answer = verdict (File.check A bytes) } = respond_is s (check bytes) h.looked in
      (bytes, ([], cert A K c low wf C v, cert_long A K c low wf C v, cert_bytes A K c low wf C v, refl), ap (λ (o : Outcome). o.answer) r ∙ ap verdict k)

pub check_exact : (s : Sheet) → Sound s → CheckExact s
check_exact s h c low K fs few =
    ((accepts_most s h c low K fs few, most_accepts s h c low K fs few), λ a. no_cycle s h K c (accepts_most s h c low K fs few a))

pub check_stands : AfterCalls CheckExact
check_stands house S C capacity e calls =
    check_exact (run (opened house S C capacity) calls) (run_sound (opened house S C capacity) (opened_sound house S C capacity e) calls)
