-- Commands, next states and marks of a window, by the bytes of its parts. Assumes nothing.
use Rattle.std.proofs.Common.{◌≡◌, ℕ, suc, ◌+◌, ◌*◌, ◌<◌, ◌≤◌, ltb, List, [], map, length, get_or, take, drop, refl, ap, ◌∙◌, mul-le-mul, arith, length-drop}
use lib.ListN.{length-map}
use Rattle.std.proofs.lemmas.List.{length-take-le, get_or-take, get_or-drop, get_or-map}
use Rattle.model.specs.Automaton.{Row, no_row}
use Rattle.model.specs.File.{number_of, byte_mark, pieces, row_of, mark_in, bad_byte, place}
use Rattle.model.proofs.Unpacking.{pieces_long}
use Rattle.model.proofs.FileLaws.Layout.{piece_is}
use Rattle.ctlfile.specs.Windows.{showing}
use Rattle.ctlfile.proofs.Numbers.{two_read}

-- a whole row of a table of m rows
pub row_inside : (m n s : ℕ) → s < m → s * n + n ≤ m * n
row_inside m n s h = omega (arith, mul-le-mul {n₁ = suc s} {m₁ = n} {n₂ = m} {m₂ = n} h (omega arith))

module _ (m S n c : ℕ) (records certificate : List ℕ) where
  abbrev one_record : ℕ → List ℕ
  one_record s = take (1 + 2 * S) (drop (s * (1 + 2 * S)) records)

  pub rows_count : length (showing m S n c records certificate).rows ≡ m
  unfolding showing
  rows_count = length-map (pieces m (1 + 2 * S) records) (row_of S) ∙ pieces_long m (1 + 2 * S) records

  row_shown : (s : ℕ) → s < m → get_or (showing m S n c records certificate).rows s no_row ≡ row_of S (one_record s)
  unfolding showing
  row_shown s hs =
      get_or-map (row_of S) (pieces m (1 + 2 * S) records) s [] no_row (omega (arith, pieces_long m (1 + 2 * S) records))
      ∙ ap (row_of S) (piece_is m (1 + 2 * S) records s hs)

  record_byte : (s j at : ℕ) → j < 1 + 2 * S → s * (1 + 2 * S) + j ≡ at → get_or (one_record s) j 0 ≡ get_or records at 0
  record_byte s j at hj e =
      get_or-take (1 + 2 * S) (drop (s * (1 + 2 * S)) records) j 0 hj
      ∙ get_or-drop (s * (1 + 2 * S)) records j 0
      ∙ ap (λ k. get_or records k 0) e

  pub command_shown : (s at : ℕ) → s < m → s * (1 + 2 * S) ≡ at → (get_or (showing m S n c records certificate).rows s no_row).command ≡ get_or records at 0
  command_shown s at hs e = ap (λ (r : Row). r.command) (row_shown s hs) ∙ record_byte s 0 at (omega arith) (omega arith)

  pub nexts_count : (s : ℕ) → s < m → length (get_or (showing m S n c records certificate).rows s no_row).nexts ≡ S
  nexts_count s hs =
      ap (λ (r : Row). length r.nexts) (row_shown s hs)
      ∙ length-map (pieces S 2 (drop 1 (one_record s))) number_of ∙ pieces_long S 2 (drop 1 (one_record s))

  pub next_shown : (s x at : ℕ) → s < m → x < S → s * (1 + 2 * S) + 1 + 2 * x ≡ at
      → get_or (get_or (showing m S n c records certificate).rows s no_row).nexts x 0 ≡ get_or records at 0 + get_or records (at + 1) 0 * 256
  next_shown s x at hs hx e =
      ap (λ (r : Row). get_or r.nexts x 0) (row_shown s hs)
      ∙ get_or-map number_of (pieces S 2 (drop 1 (one_record s))) x [] 0 (omega (arith, pieces_long S 2 (drop 1 (one_record s))))
      ∙ ap number_of (piece_is S 2 (drop 1 (one_record s)) x hx)
      ∙ two_read (drop (x * 2) (drop 1 (one_record s)))
      ∙ (λ i. half 0 at (omega arith) (omega arith) i + half 1 (at + 1) (omega arith) (omega arith) i * 256)
    where
      half : (k to : ℕ) → k < 2 → s * (1 + 2 * S) + (1 + (x * 2 + k)) ≡ to → get_or (drop (x * 2) (drop 1 (one_record s))) k 0 ≡ get_or records to 0
      half k to hk f =
          get_or-drop (x * 2) (drop 1 (one_record s)) k 0 ∙ get_or-drop 1 (one_record s) (x * 2 + k) 0 ∙ record_byte s (1 + (x * 2 + k)) to (omega arith) f

  pub mark_shown : (s q : ℕ) → length certificate ≡ m * n → s < m → q < n → mark_in (showing m S n c records certificate) s q ≡ byte_mark (get_or certificate (s * n + q) 0)
  unfolding showing
  mark_shown s q whole hs hq =
      let line : List ℕ = take n (drop (s * n) certificate) in
      let long : length line ≡ n = length-take-le n (drop (s * n) certificate) (omega (arith, length-drop (s * n) certificate, row_inside m n s hs)) in
      ap (λ l. get_or l q 0) (get_or-map (map byte_mark) (pieces m n certificate) s [] [] (omega (arith, pieces_long m n certificate)) ∙ ap (map byte_mark) (piece_is m n certificate s hs))
      ∙ get_or-map byte_mark line q 0 0 (omega arith)
      ∙ ap byte_mark (get_or-take n (drop (s * n) certificate) q 0 hq ∙ get_or-drop (s * n) certificate q 0)

  -- the test of a byte
  pub byte_test : (s q : ℕ) → bad_byte (showing m S n c records certificate) (place s 0 q 0) ≡ ltb (c + 1) (mark_in (showing m S n c records certificate) s q)
  unfolding showing
  byte_test s q = refl
