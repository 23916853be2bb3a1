-- Where the reader of a line stops is the first byte at which no correct line goes on.
use Rattle.std.proofs.Common.{◌≡◌, ℕ, suc, ◌+◌, ◌<◌, ◌≤◌, true, List, [], ◌∷◌, ◌++◌, length, take, drop, sym, refl, ap, ◌∙◌, inl, inr, ⊎_elim, append_assoc, append-nil, arith, length-append}
use Rattle.std.proofs.lemmas.Bool.{cases_order, cases_lt}
use Rattle.std.proofs.lemmas.List.{take_at, take-take, take-append-le, take-append-drop}
use Rattle.model.specs.Text.{Line, correct, line_bytes}
use Rattle.model.specs.Reading.{Part, part, wrong, first_line}
use Rattle.model.specs.ReadingLaws.{GoesOn, StopsAt}
use Rattle.model.proofs.Reading.Basics.{part_wrong, part_same}
use Rattle.model.proofs.Reading.Lines.{line_sound, line_complete, line_stops}

pub stop_sound : (bytes : List ℕ) (at : ℕ) → first_line bytes ≡ wrong at → StopsAt bytes at
stop_sound bytes at e =
    let s = line_stops bytes at e in
    let size : length s.front ≡ at = omega (arith, s.count) in
    let cut : take at bytes ≡ s.front = ap (λ z. take at z) s.split ∙ take_at s.front s.back at size in
    let v = line_sound (s.front ++ s.more) s.value s.place [] s.goes in
    let on : GoesOn (take at bytes) =
    (s.value, s.more, v.0, sym (append-nil (line_bytes s.value)) ∙ sym v.1 ∙ ap (λ z. z ++ s.more) (sym cut), s.some_more) in
    let len : length bytes ≡ length s.front + length s.back = ap length s.split ∙ length-append s.front s.back in (
      on,
      ⊎_elim
          (λ h. inl (let z : length s.back ≡ 0 = ap length h in omega arith))
          (λ h.
          let b = h.0 in
          let q = h.1 in
          let z : length s.back ≡ suc (length q) = ap length h.2 in
          let next : take (at + 1) bytes ≡ s.front ++ (b ∷ []) =
          ap (λ z. take (at + 1) z) (s.split ∙ ap (λ z. s.front ++ z) h.2 ∙ sym (append_assoc s.front (b ∷ []) q))
          ∙ take_at (s.front ++ (b ∷ [])) q (at + 1) (length-append s.front (b ∷ []) ∙ ap (λ n. n + 1) size) in
          inr (
            omega arith,
            λ g.
                let l = g.0 in
                let more = g.1 in
                let whole : line_bytes l ++ [] ≡ s.front ++ (b ∷ more) =
                append-nil (line_bytes l) ∙ g.3 ∙ ap (λ z. z ++ more) next ∙ append_assoc s.front (b ∷ []) more in
                let c = line_complete l [] g.2 in
                part_wrong (sym c.1 ∙ ap first_line whole ∙ h.3 more),
          ))
          s.halts,
    )

stops_within : (bytes : List ℕ) (at : ℕ) → StopsAt bytes at → at ≤ length bytes
stops_within bytes at s = ⊎_elim (λ h. let z : at ≡ length bytes = h in omega arith) (λ h. let z = h.0 in omega arith) s.1

stops_first : (bytes : List ℕ) (a b : ℕ) → StopsAt bytes a → StopsAt bytes b → a < b → ⊥
stops_first bytes a b s t h =
    let within = stops_within bytes b t in
    ⊎_elim
    (λ z. let y : a ≡ length bytes = z in omega arith)
    (λ z.
    let on = t.0 in
    let front = take (a + 1) bytes in
    let split : take b bytes ≡ front ++ drop (a + 1) (take b bytes) =
    sym (take-append-drop (a + 1) (take b bytes)) ∙ ap (λ y. y ++ drop (a + 1) (take b bytes)) (take-take (a + 1) b bytes (omega arith)) in
    z.1 (
      on.0,
      drop (a + 1) (take b bytes) ++ on.1,
      on.2,
      on.3 ∙ ap (λ y. y ++ on.1) split ∙ append_assoc front (drop (a + 1) (take b bytes)) on.1,
    ))
    s.1

pub stops_unique : (bytes : List ℕ) (a b : ℕ) → StopsAt bytes a → StopsAt bytes b → a ≡ b
stops_unique bytes a b s t =
    ⊎_elim (λ e. e) (λ o. ⊎_elim (λ h. absurd (stops_first bytes a b s t h)) (λ h. absurd (stops_first bytes b a t s h)) o) (cases_order a b)

-- where a correct line stands, nothing stops
pub line_no_stop : (bytes : List ℕ) (at : ℕ) (l : Line) (rest : List ℕ) → correct l ≡ true → bytes ≡ line_bytes l ++ rest → StopsAt bytes at → ⊥
line_no_stop bytes at l rest ok e s =
    let len : length bytes ≡ length (line_bytes l) + length rest = ap length e ∙ length-append (line_bytes l) rest in
    let on = s.0 in
    let m = on.1 in
    ⊎_elim
    (λ (h : at < length (line_bytes l)).
    ⊎_elim
    (λ z. let y : at ≡ length bytes = z in omega arith)
    (λ z.
    let cut : take (at + 1) bytes ≡ take (at + 1) (line_bytes l) =
    ap (λ y. take (at + 1) y) e ∙ take-append-le (at + 1) (line_bytes l) rest (omega arith) in
    z.1 (
      l,
      drop (at + 1) (line_bytes l),
      ok,
      sym (take-append-drop (at + 1) (line_bytes l)) ∙ ap (λ y. y ++ drop (at + 1) (line_bytes l)) (sym cut),
    ))
    s.1)
    (λ (h : length (line_bytes l) ≤ at).
    let tail = drop (length (line_bytes l)) (take at bytes) in
    let front : take (length (line_bytes l)) (take at bytes) ≡ line_bytes l =
    take-take (length (line_bytes l)) at bytes h ∙ ap (λ y. take (length (line_bytes l)) y) e ∙ take_at (line_bytes l) rest (length (line_bytes l)) refl in
    let split : take at bytes ≡ line_bytes l ++ tail = sym (take-append-drop (length (line_bytes l)) (take at bytes)) ∙ ap (λ y. y ++ tail) front in
    let whole : line_bytes on.0 ++ [] ≡ line_bytes l ++ (tail ++ m) =
    append-nil (line_bytes on.0) ∙ on.3 ∙ ap (λ y. y ++ m) split ∙ append_assoc (line_bytes l) tail m in
    let c = line_complete on.0 [] on.2 in
    let d = line_complete l (tail ++ m) ok in
    let same = part_same (sym c.1 ∙ ap first_line whole ∙ d.1) in
    let none : 0 ≡ length tail + length m = ap length same.behind ∙ length-append tail m in
    let some = on.4 in
    omega arith)
    (cases_lt at (length (line_bytes l)))

pub stop_complete : (bytes : List ℕ) (at : ℕ) → StopsAt bytes at → first_line bytes ≡ wrong at
stop_complete bytes at s = go (first_line bytes) refl
  where
    go : (o : Part Line) → first_line bytes ≡ o → first_line bytes ≡ wrong at
    go (part l j rest) e = let v = line_sound bytes l j rest e in absurd (line_no_stop bytes at l rest v.0 v.1 s)
    go (wrong k) e = e ∙ ap wrong (stops_unique bytes k at (stop_sound bytes k e) s)
