-- The reader of a line gives the line exactly if the bytes begin with the line's bytes, and stops exactly at the first byte at which no
-- correct line goes on.
use Rattle.std.proofs.Common.{◌≡◌, ℕ, suc, true, false, ◌&&◌, ◌||◌, eqb, leb, List, [], ◌∷◌, ◌++◌, length, sym, refl, ap, ◌∙◌, subst, ⊎_elim, append_assoc, arith}
use Rattle.std.proofs.lemmas.Bool.{eqb-true, and_parts, and_from, le-leb, leb-true, or_cases}
use Rattle.model.specs.Lists.{every, joined}
use Rattle.model.specs.Text.{Choice, Arrows, Line, n_line, s_line, r_line, t_line, correct, line_bytes, name_byte, one_digit, good_choice, digit_word, choice_word, between}
use Rattle.model.specs.Reading.{Part, part, wrong, Reader, ◌>>=◌, given, byte, digit, choice, digits, name_rest, line_end, n_words, s_words, r_words, t_words, words, letter, first_line}
use Rattle.model.proofs.Reading.Basics.{true_false, part_same, bind_part}
use Rattle.model.proofs.Reading.Readers.{Stops, Proper, given_proper, byte_yes, byte_takes, byte_proper, bind_proper}
use Rattle.model.proofs.Reading.Words.{bind_read, digit_proper, digit_sound, digit_complete, choice_proper, choice_sound, choice_complete, line_end_proper, line_end_sound}
use Rattle.model.proofs.Reading.Digits.{every_cons, every_parts, digits_proper, digits_sound, digits_complete}
use Rattle.model.proofs.Reading.Names.{name_rest_proper, name_rest_sound, name_rest_complete}

-- PROPER

n_proper : Proper n_words
n_proper =
    bind_proper _ _ (byte_proper (eqb 32) 32 refl) (λ s. bind_proper _ _ (byte_proper name_byte 48 refl) (λ b.
    bind_proper _ _ (name_rest_proper 7) (λ bs. given_proper (n_line (b ∷ bs)))))

s_proper : Proper s_words
s_proper = bind_proper _ _ digit_proper (λ n. bind_proper _ _ digit_proper (λ q. line_end_proper (s_line n q)))

r_proper : Proper r_words
r_proper = bind_proper _ _ digits_proper (λ qs. given_proper (r_line qs))

t_proper : Proper t_words
t_proper =
    bind_proper _ _ digit_proper (λ q. bind_proper _ _ choice_proper (λ u. bind_proper _ _ choice_proper (λ x.
    bind_proper _ _ digits_proper (λ ps. given_proper (t_line (record { from = q; command = u; situation = x; to = ps }))))))

words_proper : (b : ℕ) → Proper (words b)
words_proper b =
    elim (eqb b 110) as (λ v. Proper (elim v [ true ↦ n_words | false ↦ elim (eqb b 115) [ true ↦ s_words | false ↦ elim (eqb b 114) [ true ↦ r_words | false ↦ t_words ] ] ])) [
      | true ↦ n_proper
      | false ↦
          elim (eqb b 115) as (λ v. Proper (elim v [ true ↦ s_words | false ↦ elim (eqb b 114) [ true ↦ r_words | false ↦ t_words ] ])) [
            | true ↦ s_proper
            | false ↦ elim (eqb b 114) as (λ v. Proper (elim v [ true ↦ r_words | false ↦ t_words ])) [ true ↦ r_proper | false ↦ t_proper ]
          ]
    ]

abbrev pub line_reader : Reader Line
line_reader = ◌>>=◌ (byte letter) words

pub line_proper : Proper line_reader
line_proper = bind_proper _ _ (byte_proper letter 110 refl) words_proper

-- SOUND

-- the words of a line, behind its letter
record Behind (b : ℕ) (bytes : List ℕ) (l : Line) (rest : List ℕ) : Type 0 where
  fine : correct l ≡ true
  split : b ∷ bytes ≡ line_bytes l ++ rest

n_sound : (i : ℕ) (bytes : List ℕ) (l : Line) (j : ℕ) (rest : List ℕ) → n_words i bytes ≡ part l j rest → Behind 110 bytes l rest
n_sound i bytes l j rest e =
    bind_read (byte (eqb 32)) (λ s. ◌>>=◌ (byte name_byte) (λ b. ◌>>=◌ (name_rest 7) (λ bs. given (n_line (b ∷ bs))))) i bytes l j rest e (λ s j₁ m₁ e₁ d₁.
    bind_read (byte name_byte) (λ b. ◌>>=◌ (name_rest 7) (λ bs. given (n_line (b ∷ bs)))) j₁ m₁ l j rest d₁ (λ b j₂ m₂ e₂ d₂.
    bind_read (name_rest 7) (λ bs. given (n_line (b ∷ bs))) j₂ m₂ l j rest d₂ (λ bs j₃ m₃ e₃ d₃.
    let p = byte_takes (eqb 32) i bytes s j₁ m₁ e₁ in
    let q = byte_takes name_byte j₁ m₁ b j₂ m₂ e₂ in
    let r = name_rest_sound 7 j₂ m₂ bs j₃ m₃ e₃ in
    let v = part_same d₃ in
    let is-space = eqb-true 32 s p.passed in
    let shown : bytes ≡ 32 ∷ b ∷ (bs ++ (10 ∷ rest)) =
    p.split ∙ ap (λ z. z ∷ m₁) (sym is-space) ∙ ap (λ z. 32 ∷ z) q.split ∙ ap (λ z. 32 ∷ b ∷ z) (r.split ∙ ap (λ z. bs ++ (10 ∷ z)) v.behind) in
    let made : Behind 110 bytes (n_line (b ∷ bs)) rest =
    record {
      fine =
          and_from (between 1 8 (length (b ∷ bs))) (every name_byte (b ∷ bs))
          (and_from (leb 1 (length (b ∷ bs))) (leb (length (b ∷ bs)) 8) (le-leb 1 (length (b ∷ bs)) (omega arith)) (le-leb (length (b ∷ bs)) 8 (omega (arith, r.short))))
          (every_cons name_byte b bs q.passed r.good);
      split = ap (λ z. 110 ∷ z) shown ∙ ap (λ z. 110 ∷ 32 ∷ b ∷ z) (sym (append_assoc bs (10 ∷ []) rest));
    } in
    subst (λ z. Behind 110 bytes z rest) v.value made)))

s_sound : (i : ℕ) (bytes : List ℕ) (l : Line) (j : ℕ) (rest : List ℕ) → s_words i bytes ≡ part l j rest → Behind 115 bytes l rest
s_sound i bytes l j rest e =
    bind_read digit (λ n. ◌>>=◌ digit (λ q. line_end (s_line n q))) i bytes l j rest e (λ n j₁ m₁ e₁ d₁.
    bind_read digit (λ q. line_end (s_line n q)) j₁ m₁ l j rest d₁ (λ q j₂ m₂ e₂ d₂.
    let a = digit_sound i bytes n j₁ m₁ e₁ in
    let b = digit_sound j₁ m₁ q j₂ m₂ e₂ in
    let c = line_end_sound (s_line n q) j₂ m₂ l j rest d₂ in
    let made : Behind 115 bytes (s_line n q) rest =
    record {
      fine = and_from (one_digit n) (one_digit q) a.good b.good;
      split = ap (λ z. 115 ∷ z) (a.split ∙ ap (λ z. digit_word n ++ z) (b.split ∙ ap (λ z. digit_word q ++ z) c.1));
    } in
    subst (λ z. Behind 115 bytes z rest) c.0 made))

r_sound : (i : ℕ) (bytes : List ℕ) (l : Line) (j : ℕ) (rest : List ℕ) → r_words i bytes ≡ part l j rest → Behind 114 bytes l rest
r_sound i bytes l j rest e =
    bind_read digits (λ qs. given (r_line qs)) i bytes l j rest e (λ qs j₁ m₁ e₁ d₁.
    let a = digits_sound i bytes qs j₁ m₁ e₁ in
    let v = part_same d₁ in
    let made : Behind 114 bytes (r_line qs) rest =
    record {
      fine = a.good;
      split = ap (λ z. 114 ∷ z) (a.split ∙ ap (λ z. joined digit_word qs ++ (10 ∷ z)) v.behind ∙ sym (append_assoc (joined digit_word qs) (10 ∷ []) rest));
    } in
    subst (λ z. Behind 114 bytes z rest) v.value made)

-- the words of a t line, with what follows, bracketed to the right
abbrev t_bytes : ℕ → Choice → Choice → List ℕ → List ℕ → List ℕ
t_bytes q u x ps rest = digit_word q ++ (choice_word u ++ (choice_word x ++ (joined digit_word ps ++ (10 ∷ rest))))

t_regroup : (q : ℕ) (u x : Choice) (ps rest : List ℕ)
    → 116 ∷ t_bytes q u x ps rest ≡ line_bytes (t_line (record { from = q; command = u; situation = x; to = ps })) ++ rest
t_regroup q u x ps rest =
    let W = joined digit_word ps in
    ap (λ z. 116 ∷ (digit_word q ++ z))
    (ap (λ z. choice_word u ++ (choice_word x ++ z)) (sym (append_assoc W (10 ∷ []) rest))
    ∙ ap (λ z. choice_word u ++ z) (sym (append_assoc (choice_word x) (W ++ (10 ∷ [])) rest))
    ∙ sym (append_assoc (choice_word u) (choice_word x ++ (W ++ (10 ∷ []))) rest))

t_sound : (i : ℕ) (bytes : List ℕ) (l : Line) (j : ℕ) (rest : List ℕ) → t_words i bytes ≡ part l j rest → Behind 116 bytes l rest
t_sound i bytes l j rest e =
    bind_read digit (λ q. ◌>>=◌ choice (λ u. ◌>>=◌ choice (λ x. ◌>>=◌ digits (λ ps. given (t_line (record { from = q; command = u; situation = x; to = ps })))))) i bytes l j rest e (λ q j₁ m₁ e₁ d₁.
    bind_read choice (λ u. ◌>>=◌ choice (λ x. ◌>>=◌ digits (λ ps. given (t_line (record { from = q; command = u; situation = x; to = ps }))))) j₁ m₁ l j rest d₁ (λ u j₂ m₂ e₂ d₂.
    bind_read choice (λ x. ◌>>=◌ digits (λ ps. given (t_line (record { from = q; command = u; situation = x; to = ps })))) j₂ m₂ l j rest d₂ (λ x j₃ m₃ e₃ d₃.
    bind_read digits (λ ps. given (t_line (record { from = q; command = u; situation = x; to = ps }))) j₃ m₃ l j rest d₃ (λ ps j₄ m₄ e₄ d₄.
    let a = digit_sound i bytes q j₁ m₁ e₁ in
    let b = choice_sound j₁ m₁ u j₂ m₂ e₂ in
    let c = choice_sound j₂ m₂ x j₃ m₃ e₃ in
    let d = digits_sound j₃ m₃ ps j₄ m₄ e₄ in
    let v = part_same d₄ in
    let shown : bytes ≡ t_bytes q u x ps rest =
    a.split ∙ ap (λ z. digit_word q ++ z) (b.split ∙ ap (λ z. choice_word u ++ z) (c.split ∙ ap (λ z. choice_word x ++ z) (d.split ∙ ap (λ z. joined digit_word ps ++ (10 ∷ z)) v.behind))) in
    let made : Behind 116 bytes (t_line (record { from = q; command = u; situation = x; to = ps })) rest =
    record {
      fine =
          and_from (one_digit q) (good_choice u && (good_choice x && every one_digit ps)) a.good
          (and_from (good_choice u) (good_choice x && every one_digit ps) b.good (and_from (good_choice x) (every one_digit ps) c.good d.good));
      split = ap (λ z. 116 ∷ z) shown ∙ t_regroup q u x ps rest;
    } in
    subst (λ z. Behind 116 bytes z rest) v.value made))))

-- the four letters
letter_cases : {P : Type 0} (b : ℕ) → letter b ≡ true → (b ≡ 110 → P) → (b ≡ 115 → P) → (b ≡ 114 → P) → (b ≡ 116 → P) → P
letter_cases b e f g h k =
    ⊎_elim (λ t. f (eqb-true b 110 t))
    (λ t₁. ⊎_elim (λ t. g (eqb-true b 115 t))
    (λ t₂. ⊎_elim (λ t. h (eqb-true b 114 t)) (λ t. k (eqb-true b 116 t)) (or_cases (eqb b 114) (eqb b 116) t₂))
    (or_cases (eqb b 115) (eqb b 114 || eqb b 116) t₁))
    (or_cases (eqb b 110) (eqb b 115 || (eqb b 114 || eqb b 116)) e)

pub line_sound_at : (i : ℕ) (bytes : List ℕ) (l : Line) (j : ℕ) (rest : List ℕ) → line_reader i bytes ≡ part l j rest → (correct l ≡ true) × (bytes ≡ line_bytes l ++ rest)
line_sound_at i bytes l j rest e =
    bind_read (byte letter) words i bytes l j rest e (λ b j₁ m₁ e₁ d₁.
    let p = byte_takes letter i bytes b j₁ m₁ e₁ in
    let close : Behind b m₁ l rest → (correct l ≡ true) × (bytes ≡ line_bytes l ++ rest) = λ h. (h.fine, p.split ∙ h.split) in
    letter_cases b p.passed
    (λ s. close (subst (λ z. Behind z m₁ l rest) (sym s) (n_sound j₁ m₁ l j rest (subst (λ z. words z j₁ m₁ ≡ part l j rest) s d₁))))
    (λ s. close (subst (λ z. Behind z m₁ l rest) (sym s) (s_sound j₁ m₁ l j rest (subst (λ z. words z j₁ m₁ ≡ part l j rest) s d₁))))
    (λ s. close (subst (λ z. Behind z m₁ l rest) (sym s) (r_sound j₁ m₁ l j rest (subst (λ z. words z j₁ m₁ ≡ part l j rest) s d₁))))
    (λ s. close (subst (λ z. Behind z m₁ l rest) (sym s) (t_sound j₁ m₁ l j rest (subst (λ z. words z j₁ m₁ ≡ part l j rest) s d₁)))))

pub line_sound : (bytes : List ℕ) (l : Line) (j : ℕ) (rest : List ℕ) → first_line bytes ≡ part l j rest → (correct l ≡ true) × (bytes ≡ line_bytes l ++ rest)
line_sound bytes l j rest e = line_sound_at 0 bytes l j rest e

-- COMPLETE

abbrev Given : ℕ → List ℕ → Line → List ℕ → Type 0
Given i bytes l rest = (j : ℕ) × (line_reader i bytes ≡ part l j rest)

n_complete : (i : ℕ) (name rest : List ℕ) → correct (n_line name) ≡ true → Given i (line_bytes (n_line name) ++ rest) (n_line name) rest
n_complete i [] rest h = true_false h refl
n_complete i (b ∷ bs) rest h =
    let p = and_parts (between 1 8 (length (b ∷ bs))) (every name_byte (b ∷ bs)) h in
    let q = and_parts (leb 1 (length (b ∷ bs))) (leb (length (b ∷ bs)) 8) p.0 in
    let short = leb-true (length (b ∷ bs)) 8 q.1 in
    let r = every_parts name_byte b bs p.1 in
    let w = name_rest_complete bs 7 (suc (suc (suc i))) rest r.1 (omega arith) in
    let all = bs ++ (10 ∷ rest) in
    let o : Part Line = part (n_line (b ∷ bs)) w.0 rest in (
      w.0,
      ap (λ z. line_reader i (110 ∷ 32 ∷ b ∷ z)) (append_assoc bs (10 ∷ []) rest)
          ∙ bind_part (byte name_byte) (λ c. ◌>>=◌ (name_rest 7) (λ cs. given (n_line (c ∷ cs)))) (suc (suc i)) (b ∷ all) b (suc (suc (suc i))) all o (byte_yes name_byte (suc (suc i)) b all r.0)
          (bind_part (name_rest 7) (λ cs. given (n_line (b ∷ cs))) (suc (suc (suc i))) all bs w.0 rest o w.1 refl),
    )

s_complete : (i : ℕ) (n q : ℕ) (rest : List ℕ) → correct (s_line n q) ≡ true → Given i (line_bytes (s_line n q) ++ rest) (s_line n q) rest
s_complete i n q rest h =
    let p = and_parts (one_digit n) (one_digit q) h in
    let after = 10 ∷ rest in
    let a = digit_complete (suc i) n (digit_word q ++ after) p.0 in
    let b = digit_complete a.0 q after p.1 in
    let o : Part Line = part (s_line n q) (suc b.0) rest in (
      suc b.0,
      bind_part digit (λ m. ◌>>=◌ digit (λ k. line_end (s_line m k))) (suc i) (digit_word n ++ (digit_word q ++ after)) n a.0 (digit_word q ++ after) o a.1
          (bind_part digit (λ k. line_end (s_line n k)) a.0 (digit_word q ++ after) q b.0 after o b.1 refl),
    )

r_complete : (i : ℕ) (qs rest : List ℕ) → correct (r_line qs) ≡ true → Given i (line_bytes (r_line qs) ++ rest) (r_line qs) rest
r_complete i qs rest h =
    let a = digits_complete qs (suc i) rest h in
    let o : Part Line = part (r_line qs) a.0 rest in (
      a.0,
      ap (λ z. line_reader i (114 ∷ z)) (append_assoc (joined digit_word qs) (10 ∷ []) rest)
          ∙ bind_part digits (λ ks. given (r_line ks)) (suc i) (joined digit_word qs ++ (10 ∷ rest)) qs a.0 rest o a.1 refl,
    )

t_complete : (i : ℕ) (t : Arrows) (rest : List ℕ) → correct (t_line t) ≡ true → Given i (line_bytes (t_line t) ++ rest) (t_line t) rest
t_complete i t rest h =
    let q = t.from in
    let u = t.command in
    let x = t.situation in
    let ps = t.to in
    let p = and_parts (one_digit q) (good_choice u && (good_choice x && every one_digit ps)) h in
    let p₁ = and_parts (good_choice u) (good_choice x && every one_digit ps) p.1 in
    let p₂ = and_parts (good_choice x) (every one_digit ps) p₁.1 in
    let w₃ = joined digit_word ps ++ (10 ∷ rest) in
    let w₂ = choice_word x ++ w₃ in
    let w₁ = choice_word u ++ w₂ in
    let a = digit_complete (suc i) q w₁ p.0 in
    let b = choice_complete a.0 u w₂ p₁.0 in
    let c = choice_complete b.0 x w₃ p₂.0 in
    let d = digits_complete ps c.0 rest p₂.1 in
    let o : Part Line = part (t_line t) d.0 rest in (
      d.0,
      ap (λ z. line_reader i z) (sym (t_regroup q u x ps rest))
          ∙ bind_part digit (λ q'. ◌>>=◌ choice (λ u'. ◌>>=◌ choice (λ x'. ◌>>=◌ digits (λ ps'. given (t_line (record { from = q'; command = u'; situation = x'; to = ps' })))))) (suc i) (digit_word q ++ w₁) q a.0 w₁ o a.1
          (bind_part choice (λ u'. ◌>>=◌ choice (λ x'. ◌>>=◌ digits (λ ps'. given (t_line (record { from = q; command = u'; situation = x'; to = ps' }))))) a.0 w₁ u b.0 w₂ o b.1
          (bind_part choice (λ x'. ◌>>=◌ digits (λ ps'. given (t_line (record { from = q; command = u; situation = x'; to = ps' })))) b.0 w₂ x c.0 w₃ o c.1
          (bind_part digits (λ ps'. given (t_line (record { from = q; command = u; situation = x; to = ps' }))) c.0 w₃ ps d.0 rest o d.1 refl))),
    )

pub line_complete_at : (i : ℕ) (l : Line) (rest : List ℕ) → correct l ≡ true → Given i (line_bytes l ++ rest) l rest
line_complete_at i (n_line name) rest h = n_complete i name rest h
line_complete_at i (s_line n q) rest h = s_complete i n q rest h
line_complete_at i (r_line qs) rest h = r_complete i qs rest h
line_complete_at i (t_line t) rest h = t_complete i t rest h

pub line_complete : (l : Line) (rest : List ℕ) → correct l ≡ true → (j : ℕ) × (first_line (line_bytes l ++ rest) ≡ part l j rest)
line_complete l rest h = line_complete_at 0 l rest h

pub line_stops : (bytes : List ℕ) (at : ℕ) → first_line bytes ≡ wrong at → Stops line_reader 0 bytes at
line_stops bytes at e = line_proper.stops 0 bytes at e
