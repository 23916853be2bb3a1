-- The bytes of a file, by their offsets.
use Rattle.std.proofs.Common.{◌≡◌, ℕ, zero, suc, ◌+◌, ◌-◌, ◌*◌, ◌/◌, ◌%◌, ◌^◌, ◌<◌, List, [], ◌++◌, length, get_or, take, drop, sym, refl, ap, ◌∙◌, append_assoc, append-nil, arith, length-append}
use Rattle.std.proofs.lemmas.List.{drop-drop, get_or-take, get_or-drop, get_or-map, get_or_append_left, get_or-append-add}
use Rattle.model.specs.Automaton.{Automaton, Row, no_row, controller}
use Rattle.model.specs.Lists.{joined, In}
use Rattle.model.specs.File.{bytes_of, record_bytes, trailer, file, pieces}
use Rattle.model.specs.FileLaws.{byte_at, trailer_byte, two, four, width, body, LaidOut, FileLaidOut}
use Rattle.model.proofs.Lists.{in_getD}
use Rattle.model.proofs.Files.{joined_length, pieces_joined, record_length}

-- one of the pieces of a list
pub piece_is : (m size : ℕ) (l : List ℕ) (s : ℕ) → s < m → get_or (pieces m size l) s [] ≡ take size (drop (s * size) l)
piece_is zero size l s h = absurd (omega arith)
piece_is (suc m) size l zero h = let z : zero * size ≡ 0 = omega arith in ap (λ n. take size (drop n l)) (sym z)
piece_is (suc m) size l (suc s) h =
    let n : size + s * size ≡ suc s * size = omega arith in
    piece_is m size (drop size l) s (omega arith) ∙ ap (take size) (drop-drop (s * size) size l ∙ ap (λ k. drop k l) n)

-- lists of one size, one behind the other: an element by the list that it is in
pub joined_at : {X : Type 0} (f : X → List ℕ) (size : ℕ) (L : List X) (rest : List ℕ) (d : X) → ((x : X) → In L x → length (f x) ≡ size)
    → (s j : ℕ) → s < length L → j < size → get_or (joined f L ++ rest) (s * size + j) 0 ≡ get_or (f (get_or L s d)) j 0
joined_at {X} f size L rest d each s j hs hj =
    let l : List ℕ = joined f L ++ rest in
    sym (get_or-drop (s * size) l j 0)
    ∙ sym (get_or-take size (drop (s * size) l) j 0 hj)
    ∙ ap (λ k. get_or k j 0) (sym (piece_is (length L) size l s hs)
    ∙ ap (λ (k : List (List ℕ)). get_or k s []) (pieces_joined f size L rest each)
    ∙ get_or-map f L s d [] hs)

-- the bytes of a number
two_of : (v : ℕ) → v < 256 ^ 2 → two (v % 256) (v / 256 % 256) ≡ v
two_of v h = omega arith

four_of : (v : ℕ) → v < 256 ^ 4 → four (v % 256) (v / 256 % 256) (v / 256 / 256 % 256) (v / 256 / 256 / 256 % 256) ≡ v
four_of v h = omega arith

module _ (A : Automaton) (rows : List Row) (certificate : List ℕ) (c : ℕ) (each : (r : Row) → In rows r → length r.nexts ≡ A.situations) (whole : length certificate ≡ length rows * A.states) where
  abbrev R : List ℕ
  R = joined record_bytes rows

  abbrev T : List ℕ
  T = trailer A (length rows) c

  abbrev bytes : List ℕ
  bytes = file A rows certificate c

  record_long : (r : Row) → In rows r → length (record_bytes r) ≡ width A
  record_long r i = record_length A.situations r (each r i)

  records_long : length R ≡ length rows * width A
  records_long = joined_length record_bytes (width A) rows record_long

  before_long : length (R ++ certificate) ≡ body A (length rows)
  before_long = omega (arith, length-append R certificate, records_long, whole)

  bytes_split : (R ++ certificate) ++ T ≡ bytes
  unfolding file
  bytes_split = append_assoc R certificate T

  bytes_long : length bytes ≡ body A (length rows) + 20
  unfolding trailer
  bytes_long = ap length (sym bytes_split) ∙ omega (arith, length-append (R ++ certificate) T, before_long)

  -- a byte of a record
  in_record : (s j : ℕ) → s < length rows → j < width A → byte_at bytes (s * width A + j) ≡ get_or (record_bytes (get_or rows s no_row)) j 0
  unfolding file
  in_record s j hs hj = joined_at record_bytes (width A) rows (certificate ++ T) no_row record_long s j hs hj

  -- a byte of a next state
  in_next : (s x i : ℕ) → s < length rows → x < A.situations → i < 2 → byte_at bytes (s * width A + suc (x * 2 + i)) ≡ get_or (bytes_of 2 ((controller rows).next s x)) i 0
  unfolding record_bytes
  in_next s x i hs hx hi =
      let N : List ℕ = (get_or rows s no_row).nexts in
      let l : length N ≡ A.situations = each (get_or rows s no_row) (in_getD rows s no_row hs) in
      in_record s (suc (x * 2 + i)) hs (omega arith)
      ∙ ap (λ (k : List ℕ). get_or k (x * 2 + i) 0) (sym (append-nil (joined (bytes_of 2) N)))
      ∙ joined_at (bytes_of 2) 2 N [] 0 (λ n _. refl) x i (omega arith) hi

  in_trailer : (i : ℕ) → trailer_byte bytes i ≡ get_or T i 0
  in_trailer i =
      let n : length bytes - 20 + i ≡ length (R ++ certificate) + i = omega (arith, bytes_long, before_long) in
      ap (byte_at bytes) n ∙ ap (λ l. byte_at l (length (R ++ certificate) + i)) (sym bytes_split) ∙ get_or-append-add (R ++ certificate) T i 0

  laid_out : LaidOut A rows certificate c bytes
  unfolding trailer record_bytes file
  laid_out =
      record {
        long = bytes_long;
        commands = λ s hs. ap (byte_at bytes) (omega arith) ∙ in_record s 0 hs (omega arith);
        nexts = λ s x hs hx small. next s x hs hx small;
        tallies = λ i hi. ap (byte_at bytes) (omega (arith, records_long)) ∙ get_or-append-add R (certificate ++ T) i 0 ∙ get_or_append_left certificate T 0 i (omega arith);
        mark_0 = in_trailer 0;
        mark_1 = in_trailer 1;
        mark_2 = in_trailer 2;
        mark_3 = in_trailer 3;
        to_records = λ fits. (λ i. four (in_trailer 4 i) (in_trailer 5 i) (in_trailer 6 i) (in_trailer 7 i)) ∙ four_of (body A (length rows)) fits;
        to_certificate = λ fits. (λ i. four (in_trailer 8 i) (in_trailer 9 i) (in_trailer 10 i) (in_trailer 11 i)) ∙ four_of (length rows * A.states) (omega arith);
        size = λ fits. (λ i. two (in_trailer 12 i) (in_trailer 13 i)) ∙ two_of (length rows) fits;
        rule_situations = in_trailer 14;
        rule_commands = in_trailer 15;
        rule_states = in_trailer 16;
        count = in_trailer 17;
        zero_18 = in_trailer 18;
        zero_19 = in_trailer 19;
      }
    where
      next : (s x : ℕ) → s < length rows → x < A.situations → (controller rows).next s x < 256 ^ 2
          → (byte_at bytes (s * width A + 1 + 2 * x) < 256) × (byte_at bytes (s * width A + 2 + 2 * x) < 256)
          × (two (byte_at bytes (s * width A + 1 + 2 * x)) (byte_at bytes (s * width A + 2 + 2 * x)) ≡ (controller rows).next s x)
      next s x hs hx small =
          let v : ℕ = (controller rows).next s x in
          let a : byte_at bytes (s * width A + 1 + 2 * x) ≡ v % 256 = ap (byte_at bytes) (omega arith) ∙ in_next s x 0 hs hx (omega arith) in
          let b : byte_at bytes (s * width A + 2 + 2 * x) ≡ v / 256 % 256 = ap (byte_at bytes) (omega arith) ∙ in_next s x 1 hs hx (omega arith) in
          (omega arith, omega arith, (λ i. two (a i) (b i)) ∙ two_of v small)

pub file_laid_out : FileLaidOut
file_laid_out = laid_out
