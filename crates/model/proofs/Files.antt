-- A file of a controller is read back whole.
use Rattle.std.proofs.Common.{◌≡◌, ℕ, ◌+◌, ◌-◌, ◌*◌, ◌<◌, ◌≤◌, true, false, ◌&&◌, eqb, leb, List, [], ◌∷◌, ◌++◌, map, length, get_or, take, drop, Err as refuses, Result, sym, refl, ap, ◌∙◌, subst₂, inl, inr, append_assoc, append-nil, mul-le-mul, arith, length-append}
use Rattle.std.proofs.lemmas.Bool.{le-leb, eq-eqb, and_from}
use Rattle.std.proofs.lemmas.List.{drop_at, take_at}
use Rattle.model.specs.Automaton.{Automaton, Row}
use Rattle.model.specs.Lists.{joined, In}
use Rattle.model.specs.Positions.{same}
use Rattle.model.specs.File.{bytes_of, number_of, record_bytes, byte_mark, file_mark, records_size, certificate_size, trailer, file, pieces, row_of, Window, piece, look_through, check}
use Rattle.model.specs.declared.refusal.Refusal.{Refusal}
use Rattle.model.specs.declared.refusal.Refusal.TheVariants.{Trailer, OtherSheet, Layout}

pub joined_length : {X : Type 0} (f : X → List ℕ) (size : ℕ) (L : List X) → ((x : X) → In L x → length (f x) ≡ size) → length (joined f L) ≡ length L * size
joined_length f size [] h = omega arith
joined_length f size (x ∷ L) h = omega (arith, length-append (f x) (joined f L), h x (inl refl), joined_length f size L (λ y i. h y (inr i)))

pub pieces_joined : {X : Type 0} (f : X → List ℕ) (size : ℕ) (L : List X) (rest : List ℕ) → ((x : X) → In L x → length (f x) ≡ size) → pieces (length L) size (joined f L ++ rest) ≡ map f L
pieces_joined f size [] rest h = refl
pieces_joined {X} f size (x ∷ L) rest h =
    let e : joined f (x ∷ L) ++ rest ≡ f x ++ (joined f L ++ rest) = append_assoc (f x) (joined f L) rest in
    let t : take size (joined f (x ∷ L) ++ rest) ≡ f x = ap (take size) e ∙ take_at (f x) (joined f L ++ rest) size (h x (inl refl)) in
    let d : drop size (joined f (x ∷ L) ++ rest) ≡ joined f L ++ rest = ap (drop size) e ∙ drop_at (f x) (joined f L ++ rest) size (h x (inl refl)) in
    ap {B = List (List ℕ)} (λ l. l ∷ pieces (length L) size (drop size (joined f (x ∷ L) ++ rest))) t
    ∙ ap {B = List (List ℕ)} (λ l. f x ∷ pieces (length L) size l) d
    ∙ ap {B = List (List ℕ)} (λ l. f x ∷ l) (pieces_joined f size L rest (λ y i. h y (inr i)))

-- a number of two bytes, or of four
two_back : (v : ℕ) → v < 65536 → number_of (bytes_of 2 v) ≡ v
two_back v h = omega arith

four_back : (v : ℕ) → v < 65536 → number_of (bytes_of 4 v) ≡ v
four_back v h = omega arith

numbers_back : (L : List ℕ) → ((n : ℕ) → In L n → n < 65536) → map number_of (map (bytes_of 2) L) ≡ L
numbers_back [] h = refl
numbers_back (n ∷ L) h = let e : number_of (bytes_of 2 n) ≡ n = two_back n (h n (inl refl)) in let k : map number_of (map (bytes_of 2) L) ≡ L = numbers_back L (λ m i. h m (inr i)) in cc

-- a row with so many nexts, each of two bytes
abbrev pub Plain : ℕ → Row → Type 0
Plain S r = (length r.nexts ≡ S) × ((n : ℕ) → In r.nexts n → n < 65536)

pub record_length : (S : ℕ) (r : Row) → length r.nexts ≡ S → length (record_bytes r) ≡ 1 + 2 * S
unfolding record_bytes
record_length S r l = let e : length (joined (bytes_of 2) r.nexts) ≡ length r.nexts * 2 = joined_length (bytes_of 2) 2 r.nexts (λ n i. refl) in omega arith

row_back : (S : ℕ) (r : Row) → Plain S r → row_of S (record_bytes r) ≡ r
unfolding record_bytes
row_back S r (l, h) =
    let e : pieces (length r.nexts) 2 (joined (bytes_of 2) r.nexts ++ []) ≡ map (bytes_of 2) r.nexts = pieces_joined (bytes_of 2) 2 r.nexts [] (λ n i. refl) in
    let f : pieces S 2 (joined (bytes_of 2) r.nexts) ≡ map (bytes_of 2) r.nexts = subst₂ (λ n l. pieces n 2 l ≡ map (bytes_of 2) r.nexts) l (append-nil (joined (bytes_of 2) r.nexts)) e in
    ap {B = Row} (λ l. record { command = r.command; nexts = l }) (ap (map number_of) f ∙ numbers_back r.nexts h)

rows_back : (S : ℕ) (rows : List Row) → ((r : Row) → In rows r → Plain S r) → map (row_of S) (map record_bytes rows) ≡ rows
rows_back S [] h = refl
rows_back S (r ∷ rows) h = let e : row_of S (record_bytes r) ≡ r = row_back S r (h r (inl refl)) in let k : map (row_of S) (map record_bytes rows) ≡ rows = rows_back S rows (λ m i. h m (inr i)) in cc

-- check, over the parts that it reads
abbrev pub window_at : Automaton → List ℕ → ℕ → ℕ → ℕ → Window
window_at A bytes at m c =
    record {
      rows = map (row_of A.situations) (pieces m (1 + 2 * A.situations) (drop (at - (records_size A.situations m + certificate_size A.states m)) bytes));
      marks = map (map byte_mark) (pieces m A.states (drop (at - certificate_size A.states m) bytes));
      count = c;
    }

abbrev pub check_parts : Automaton → List ℕ → ℕ → List ℕ → List ℕ → ℕ → ℕ → ℕ → ℕ → ℕ → ℕ → ℕ → Result ℕ Refusal
check_parts A bytes at mark zeros m c S C n back cert =
    elim (leb 20 (length bytes) && (same mark file_mark && (same zeros (0 ∷ 0 ∷ []) && (leb 1 m && (leb m 1024 && leb c 14))))) [
      | false ↦ (refuses Trailer)
      | true ↦
          elim (eqb S A.situations && (eqb C A.commands && eqb n A.states)) [
            | false ↦ (refuses OtherSheet)
            | true ↦
                elim (eqb back (records_size A.situations m + certificate_size A.states m) && (eqb cert (certificate_size A.states m) && leb (records_size A.situations m + certificate_size A.states m) at)) [
                  | false ↦ (refuses Layout)
                  | true ↦ look_through A (window_at A bytes at m c)
                ]
          ]
    ]

abbrev pub check_end : Automaton → List ℕ → ℕ → List ℕ → Result ℕ Refusal
check_end A bytes at end =
    check_parts A bytes at (take 4 end) (drop 18 end) (number_of (piece 12 2 end)) (get_or end 17 0) (get_or end 14 0) (get_or end 15 0) (get_or end 16 0) (number_of (piece 4 4 end)) (number_of (piece 8 4 end))

check_is : (A : Automaton) (bytes : List ℕ) → check A bytes ≡ check_end A bytes (length bytes - 20) (drop (length bytes - 20) bytes)
unfolding check
check_is A bytes = refl

parts_pass : (A : Automaton) (bytes : List ℕ) (at m c : ℕ) → 20 ≤ length bytes → 1 ≤ m → m ≤ 1024 → c ≤ 14 → records_size A.situations m + certificate_size A.states m ≤ at
    → check_parts A bytes at file_mark (0 ∷ 0 ∷ []) m c A.situations A.commands A.states (records_size A.situations m + certificate_size A.states m) (certificate_size A.states m)
    ≡ look_through A (window_at A bytes at m c)
parts_pass A bytes at m c long one few low fits = rw (first_test, second_test, third_test, check_parts)
  where
    first_test : (leb 20 (length bytes) && (same file_mark file_mark && (same (0 ∷ 0 ∷ []) (0 ∷ 0 ∷ []) && (leb 1 m && (leb m 1024 && leb c 14))))) ≡ true
    first_test =
        and_from (leb 20 (length bytes)) (leb 1 m && (leb m 1024 && leb c 14)) (le-leb 20 (length bytes) long)
        (and_from (leb 1 m) (leb m 1024 && leb c 14) (le-leb 1 m one) (and_from (leb m 1024) (leb c 14) (le-leb m 1024 few) (le-leb c 14 low)))

    second_test : (eqb A.situations A.situations && (eqb A.commands A.commands && eqb A.states A.states)) ≡ true
    second_test =
        and_from (eqb A.situations A.situations) (eqb A.commands A.commands && eqb A.states A.states) (eq-eqb A.situations A.situations refl)
        (and_from (eqb A.commands A.commands) (eqb A.states A.states) (eq-eqb A.commands A.commands refl) (eq-eqb A.states A.states refl))

    third_test : (eqb (records_size A.situations m + certificate_size A.states m) (records_size A.situations m + certificate_size A.states m)
        && (eqb (certificate_size A.states m) (certificate_size A.states m) && leb (records_size A.situations m + certificate_size A.states m) at)) ≡ true
    third_test =
        and_from (eqb (records_size A.situations m + certificate_size A.states m) (records_size A.situations m + certificate_size A.states m))
        (eqb (certificate_size A.states m) (certificate_size A.states m) && leb (records_size A.situations m + certificate_size A.states m) at)
        (eq-eqb (records_size A.situations m + certificate_size A.states m) (records_size A.situations m + certificate_size A.states m) refl)
        (and_from (eqb (certificate_size A.states m) (certificate_size A.states m)) (leb (records_size A.situations m + certificate_size A.states m) at)
        (eq-eqb (certificate_size A.states m) (certificate_size A.states m) refl)
        (le-leb (records_size A.situations m + certificate_size A.states m) at fits))

module _ (A : Automaton) (rows : List Row) (cert before : List ℕ) (c : ℕ) (hS : A.situations ≤ 8) (hn : A.states ≤ 16) (one : 1 ≤ length rows) (few : length rows ≤ 1024) (low : c ≤ 14)
    (plain : (r : Row) → In rows r → Plain A.situations r) (hcert : length cert ≡ length rows * A.states) where
  m : ℕ
  m = length rows

  R : List ℕ
  R = joined record_bytes rows

  T : List ℕ
  T = trailer A (length rows) c

  bytes : List ℕ
  bytes = before ++ file A rows cert c

  records_long : length R ≡ records_size A.situations m
  unfolding R m
  records_long = joined_length record_bytes (1 + 2 * A.situations) rows (λ r i. record_length A.situations r (plain r i).0)

  sizes : (records_size A.situations m ≤ 1024 * 17) × (certificate_size A.states m ≤ 1024 * 16)
  unfolding m
  sizes =
      let a : 1 + 2 * A.situations ≤ 17 = omega arith in
      (mul-le-mul {n₁ = length rows} {m₁ = 1 + 2 * A.situations} {n₂ = 1024} {m₂ = 17} few a, mul-le-mul {n₁ = length rows} {m₁ = A.states} {n₂ = 1024} {m₂ = 16} few hn)

  whole_long : length bytes ≡ length before + (length R + (length cert + 20))
  unfolding bytes R file trailer
  whole_long = length-append before (R ++ (cert ++ trailer A (length rows) c)) ∙ ap (λ n. length before + n) (length-append R (cert ++ trailer A (length rows) c) ∙ ap (λ n. length R + n) (length-append cert (trailer A (length rows) c)))

  at_is : length bytes - 20 ≡ length before + (length R + length cert)
  at_is = omega (arith, whole_long)

  end_is : drop (length bytes - 20) bytes ≡ T
  unfolding bytes R T file
  end_is =
      let e : bytes ≡ (before ++ (R ++ cert)) ++ T = ap (λ l. before ++ l) (sym (append_assoc R cert T)) ∙ sym (append_assoc before (R ++ cert) T) in
      ap (drop (length bytes - 20)) e ∙ drop_at (before ++ (R ++ cert)) T (length bytes - 20) (length-append before (R ++ cert) ∙ ap (λ n. length before + n) (length-append R cert) ∙ sym at_is)

  records_at : drop (length bytes - 20 - (records_size A.situations m + certificate_size A.states m)) bytes ≡ R ++ (cert ++ T)
  unfolding bytes R T m file
  records_at = drop_at before (R ++ (cert ++ T)) (length bytes - 20 - (records_size A.situations m + certificate_size A.states m)) (omega (arith, at_is, records_long, hcert))

  pub cert_at : drop (length (before ++ file A rows cert c) - 20 - certificate_size A.states (length rows)) (before ++ file A rows cert c) ≡ cert ++ trailer A (length rows) c
  unfolding bytes R T m file
  cert_at =
      let e : bytes ≡ (before ++ R) ++ (cert ++ T) = sym (append_assoc before R (cert ++ T)) in
      ap (drop (length bytes - 20 - certificate_size A.states m)) e
      ∙ drop_at (before ++ R) (cert ++ T) (length bytes - 20 - certificate_size A.states m) (length-append before R ∙ omega (arith, at_is, hcert))

  rows_are : map (row_of A.situations) (pieces m (1 + 2 * A.situations) (R ++ (cert ++ T))) ≡ rows
  unfolding R T m
  rows_are =
      ap (map (row_of A.situations)) (pieces_joined record_bytes (1 + 2 * A.situations) rows (cert ++ T) (λ r i. record_length A.situations r (plain r i).0))
      ∙ rows_back A.situations rows plain

  abbrev pub window : Window
  window = record { rows = rows; marks = map (map byte_mark) (pieces (length rows) A.states (cert ++ trailer A (length rows) c)); count = c }

  window_is : window_at A bytes (length bytes - 20) m c ≡ window
  unfolding T m bytes
  window_is =
      ap (λ l. record { rows = map (row_of A.situations) (pieces m (1 + 2 * A.situations) l); marks = map (map byte_mark) (pieces m A.states (drop (length bytes - 20 - certificate_size A.states m) bytes)); count = c }) records_at
      ∙ ap (λ l. record { rows = l; marks = map (map byte_mark) (pieces m A.states (drop (length bytes - 20 - certificate_size A.states m) bytes)); count = c }) rows_are
      ∙ ap (λ l. record { rows = rows; marks = map (map byte_mark) (pieces m A.states l); count = c }) cert_at

  end_reads : check_end A bytes (length bytes - 20) T ≡ look_through A (window_at A bytes (length bytes - 20) m c)
  unfolding T m trailer
  end_reads =
      let D : ℕ = records_size A.situations m + certificate_size A.states m in
      let at : ℕ = length bytes - 20 in
      ap (λ n. check_parts A bytes at file_mark (0 ∷ 0 ∷ []) n c A.situations A.commands A.states (number_of (bytes_of 4 D)) (number_of (bytes_of 4 (certificate_size A.states m)))) (two_back m (omega arith))
      ∙ ap (λ n. check_parts A bytes at file_mark (0 ∷ 0 ∷ []) m c A.situations A.commands A.states n (number_of (bytes_of 4 (certificate_size A.states m)))) (four_back D (omega (arith, sizes)))
      ∙ ap (λ n. check_parts A bytes at file_mark (0 ∷ 0 ∷ []) m c A.situations A.commands A.states D n) (four_back (certificate_size A.states m) (omega (arith, sizes)))
      ∙ parts_pass A bytes at m c (omega (arith, whole_long)) one few low (omega (arith, at_is, records_long, hcert))

  pub file_reads : check A (before ++ file A rows cert c) ≡ look_through A window
  unfolding bytes check
  file_reads =
      ap (check_end A bytes (length bytes - 20)) end_is ∙ end_reads ∙ ap (look_through A) window_is
