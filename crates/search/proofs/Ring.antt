-- What waits in a ring, after a write behind it and without its first.
use Rattle.std.proofs.Common.{◌≡◌, ℕ, zero, suc, ◌+◌, ◌-◌, ◌<◌, ◌≤◌, List, [], ◌∷◌, ◌++◌, length, get_or, take, drop, set, sym, refl, ap, ◌∙◌, append_assoc, arith, length-append, length-drop, length-set}
use Rattle.std.proofs.lemmas.List.{take_more_set, take-append-le, drop_more, drop-append-le, drop-set-add, drop-set-lt, drop_at, get_or_append_left, length-take-le}
use Rattle.search.specs.Waiting.{waiting, Fits}

module _ {T : Type 0} where
  pub length_waiting : (slots : List T) (head len : ℕ) → Fits slots head len → length (waiting slots head len) ≡ len
  unfolding waiting
  length_waiting slots head len fits =
      length-take-le len (drop head (slots ++ slots)) (simp (length-drop, length-append) (omega (arith, fits.0, fits.1)))

  pub none_waiting : (slots : List T) (head : ℕ) → waiting slots head 0 ≡ []
  unfolding waiting
  none_waiting slots head = refl

  -- the ring does not come round
  waiting_before : (slots : List T) (head len : ℕ) → head + len ≤ length slots → waiting slots head len ≡ take len (drop head slots)
  unfolding waiting
  waiting_before slots head len le =
      let h : head ≤ length slots = omega arith in
      let k : len ≤ length (drop head slots) = simp length-drop (omega arith) in
      rw (drop-append-le, take-append-le)

  -- it does
  waiting_round : (slots : List T) (head k : ℕ) → head ≤ length slots → k ≤ length slots
      → waiting slots head (length slots - head + k) ≡ drop head slots ++ take k slots
  unfolding waiting
  waiting_round slots head k h l =
      rw drop-append-le (go (drop head slots) (length slots - head) (length-drop head slots))
    where
      go : (xs : List T) (n : ℕ) → length xs ≡ n → take (n + k) (xs ++ slots) ≡ xs ++ take k slots
      go [] zero e = ap (λ m. take m slots) (omega arith)
      go [] (suc n) e = absurd (omega arith)
      go (x ∷ xs) zero e = absurd (omega arith)
      go (x ∷ xs) (suc n) e =
          let f : suc n + k ≡ suc (n + k) = omega arith in
          rw f (ap {B = List T} (λ ys. x ∷ ys) (go xs n (omega arith)))

  pub put_before : (slots : List T) (head len : ℕ) (item : T) → head + len < length slots
      → waiting (set slots (head + len) item) head (len + 1) ≡ waiting slots head len ++ (item ∷ [])
  put_before slots head len item lt =
      let k : len < length (drop head slots) = simp length-drop (omega arith) in
      waiting_before (set slots (head + len) item) head (len + 1) (simp length-set (omega arith))
      ∙ rw drop-set-add (take_more_set (drop head slots) len item k)
      ∙ ap {B = List T} (λ l. l ++ (item ∷ [])) (sym (waiting_before slots head len (omega arith)))

  pub put_round : (slots : List T) (head len : ℕ) (item : T) → head ≤ length slots → len < length slots → length slots ≤ head + len
      → waiting (set slots (len - (length slots - head)) item) head (len + 1) ≡ waiting slots head len ++ (item ∷ [])
  put_round slots head len item h l r =
      let k = len - (length slots - head) in
      let e : len ≡ length slots - head + k = omega arith in
      let f : len + 1 ≡ length slots - head + (k + 1) = omega arith in
      let g : length (set slots k item) ≡ length slots = length-set slots k item in
      ap (waiting (set slots k item) head) (f ∙ ap (λ n. n - head + (k + 1)) (sym g))
      ∙ waiting_round (set slots k item) head (k + 1) (omega arith) (omega arith)
      ∙ ap {B = List T} (λ l. l ++ take (k + 1) (set slots k item)) (drop-set-lt head slots k item (omega arith))
      ∙ ap {B = List T} (λ l. drop head slots ++ l) (take_more_set slots k item (omega arith))
      ∙ sym (append_assoc (drop head slots) (take k slots) (item ∷ []))
      ∙ ap {B = List T} (λ l. l ++ (item ∷ [])) (sym (ap (waiting slots head) e ∙ waiting_round slots head k h (omega arith)))

  -- the first that waits
  waiting_first : (slots : List T) (head len : ℕ) (d : T) → head < length slots → 0 < len
      → waiting slots head len ≡ get_or slots head d ∷ waiting slots (head + 1) (len - 1)
  unfolding waiting
  waiting_first slots head zero d h l = absurd (omega arith)
  waiting_first slots head (suc n) d h l =
      let k : head < length (slots ++ slots) = simp length-append (omega arith) in
      let e : suc n - 1 ≡ n = omega arith in
      rw (drop_more (slots ++ slots) head d k, e, get_or_append_left)

  waiting_last : (slots : List T) (len : ℕ) → len ≤ length slots → waiting slots (length slots) len ≡ waiting slots 0 len
  unfolding waiting
  waiting_last slots len l = rw (drop_at slots slots (length slots) refl, take-append-le)

  -- the others lie from the next slot on, or from the first slot on
  pub pop_before : (slots : List T) (head len : ℕ) (d : T) → head + 1 < length slots → 0 < len
      → waiting slots head len ≡ get_or slots head d ∷ waiting slots (head + 1) (len - 1)
  pop_before slots head len d h l = waiting_first slots head len d (omega arith) l

  pub pop_round : (slots : List T) (head len : ℕ) (d : T) → Fits slots head len → length slots ≤ head + 1 → 0 < len
      → waiting slots head len ≡ get_or slots head d ∷ waiting slots 0 (len - 1)
  pop_round slots head len d fits h l =
      let e : head + 1 ≡ length slots = omega (arith, fits.0, fits.1) in
      waiting_first slots head len d (omega arith) l
      ∙ ap {B = List T} (λ n. get_or slots head d ∷ waiting slots n (len - 1)) e
      ∙ ap {B = List T} (λ l. get_or slots head d ∷ l) (waiting_last slots (len - 1) (omega (arith, fits.1)))
