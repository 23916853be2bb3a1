-- The loop over digits: those read so far, and what their words are.
use Rattle.std.proofs.Common.{◌≡◌, ℕ, ◌+◌, ◌-◌, ◌*◌, ◌/◌, true, false, eqb, List, [], ◌∷◌, ◌++◌, length, take, sym, refl, ap, ◌∙◌, append_assoc, append-nil, arith, length-append}
use Rattle.std.specs.Simd.{first_chunks}
use Rattle.std.proofs.lemmas.Bool.{ne_eqb, eqb-true, eqb-false, eq-eqb, both_ways}
use Rattle.std.proofs.lemmas.List.{take_at}
use Rattle.model.specs.Lists.{every, joined}
use Rattle.model.specs.Text.{one_digit, digit_word}
use Rattle.model.specs.Reading.{part, wrong, byte, digit, digits}
use Rattle.model.proofs.Reading.Basics.{by_test, part_wrong, wrong_same}
use Rattle.model.proofs.Reading.Readers.{byte_takes, byte_yes, byte_no}
use Rattle.model.proofs.Reading.Digits.{every_cons, every_parts, digits_end, digits_other}
use Rattle.model.proofs.Lists.{joined_append}
use Rattle.model.proofs.Reading.Parts.{words_exact}
use Rattle.ruletext.proofs.Unrolled.{behind, digits_through, digits_wrong}
use Rattle.ruletext.specs.Classes.{seen}
use Rattle.ruletext.specs.Lines.{states_of}

-- from byte i on the text has these digits, and byte `at` with the rest behind them
pub record Through (i : ℕ) (text : List ℕ) (at : ℕ) (rest : List ℕ) : Type 0 where
  pub found : List ℕ
  pub good : every one_digit found ≡ true
  pub split : text ≡ joined digit_word found ++ rest
  pub count : at ≡ i + 2 * length found

every_push : (ds : List ℕ) (d : ℕ) → every one_digit ds ≡ true → one_digit d ≡ true → every one_digit (ds ++ (d ∷ [])) ≡ true
every_push [] d h k = every_cons one_digit d [] k refl
every_push (x ∷ ds) d h k = let p = every_parts one_digit x ds h in every_cons one_digit x (ds ++ (d ∷ [])) p.0 (every_push ds d p.1 k)

words_length : (ds : List ℕ) → length (joined digit_word ds) ≡ 2 * length ds
words_length [] = refl
words_length (d ∷ ds) = let ih = words_length ds in omega arith

states_from : (ds : List ℕ) → states_of (first_chunks 2 (length ds) (joined digit_word ds)) ≡ ds
states_from [] = refl
states_from (d ∷ ds) =
    let e : d + 48 - 48 ≡ d = omega arith in
    ap (λ z. z ∷ states_of (first_chunks 2 (length ds) (joined digit_word ds))) e ∙ ap (λ z. d ∷ z) (states_from ds)

states_are : (ds : List ℕ) → states_of (first_chunks 2 (length (joined digit_word ds) / 2) (joined digit_word ds)) ≡ ds
states_are ds =
    let half : length (joined digit_word ds) / 2 ≡ length ds = omega (arith, words_length ds) in
    ap (λ k. states_of (first_chunks 2 k (joined digit_word ds))) half ∙ states_from ds

module _ (i : ℕ) (text : List ℕ) (at : ℕ) (rest : List ℕ) (t : Through i text at rest) where
  pub through_more : (d next : ℕ) (behind : List ℕ) → digit at rest ≡ part d next behind → Through i text next behind
  through_more d next behind e =
      let r = (words_exact.0 at rest d next behind).0 e in
      record {
        found = t.found ++ (d ∷ []);
        good = every_push t.found d t.good r.0;
        split =
            t.split ∙ ap (λ z. joined digit_word t.found ++ z) r.1 ∙ sym (append_assoc (joined digit_word t.found) (digit_word d) behind)
            ∙ ap (λ z. z ++ behind) (sym (joined_append digit_word t.found (d ∷ [])));
        count = omega (arith, r.2, t.count, length-append t.found (d ∷ []));
      }

  -- what the reader of all digits gives, by what it gives here
  here : digits i text ≡ behind t.found (digits at rest)
  here = ap (λ z. digits i z) t.split ∙ digits_through t.found i at rest t.good t.count

  wrong_on : (k : ℕ) → digits at rest ≡ wrong k → digits i text ≡ wrong k
  wrong_on k e = here ∙ ap (λ o. behind t.found o) e

  pub through_wrong : (k : ℕ) → seen (eqb 32) rest ≡ true → digit at rest ≡ wrong k → digits i text ≡ wrong k
  through_wrong k s e = wrong_on k (cases rest s e)
    where
      cases : (w : List ℕ) → seen (eqb 32) w ≡ true → digit at w ≡ wrong k → digits at w ≡ wrong k
      cases [] s e = absurd (both_ways false refl s)
      cases (b ∷ w) s e =
          let is = eqb-true 32 b s in
          digits_wrong (b ∷ w) at k (omega arith) (ne_eqb b 10 (λ z. omega (arith, z))) e

  pub through_end : (b end : ℕ) (behind : List ℕ) → byte (eqb 10) at rest ≡ part b end behind
      → digits i text ≡ part (states_of (first_chunks 2 (length (take (length text - length rest) text) / 2) (take (length text - length rest) text))) end behind
  through_end b end more e =
      let s = byte_takes (eqb 10) at rest b end more e in
      let is = eqb-true 10 b s.passed in
      let last : rest ≡ 10 ∷ more = s.split ∙ ap (λ z. z ∷ more) (sym is) in
      let d : digits at rest ≡ part [] end more = ap (λ z. digits at z) last ∙ digits_end at more ∙ ap (λ z. part [] z more) (sym s.count) in
      let long : length text ≡ length (joined digit_word t.found) + length rest = ap length t.split ∙ length-append (joined digit_word t.found) rest in
      let front : take (length text - length rest) text ≡ joined digit_word t.found =
      ap (λ z. take (length text - length rest) z) t.split ∙ take_at (joined digit_word t.found) rest (length text - length rest) (omega arith) in
      let same : t.found ++ [] ≡ states_of (first_chunks 2 (length (take (length text - length rest) text) / 2) (take (length text - length rest) text)) =
      append-nil t.found ∙ sym (states_are t.found) ∙ ap (λ z. states_of (first_chunks 2 (length z / 2) z)) (sym front) in
      here ∙ ap (λ o. behind t.found o) d ∙ ap (λ z. part z end more) same

  pub through_unended : (k : ℕ) → seen (eqb 32) rest ≡ false → byte (eqb 10) at rest ≡ wrong k → digits i text ≡ wrong k
  through_unended k h e = wrong_on k (cases rest refl)
    where
      cases : (w : List ℕ) → rest ≡ w → digits at rest ≡ wrong k
      cases [] d = ap (λ z. digits at z) d ∙ ap wrong (wrong_same (sym (ap (λ z. byte (eqb 10) at z) d) ∙ e))
      cases (b ∷ w) d =
          by_test (eqb b 10)
          (λ q. part_wrong (sym (byte_yes (eqb 10) at b w (eq-eqb 10 b (sym (eqb-true b 10 q)))) ∙ sym (ap (λ z. byte (eqb 10) at z) d) ∙ e))
          (λ q.
          let front : eqb 32 b ≡ false = sym (ap (seen (eqb 32)) d) ∙ h in
          let space : eqb b 32 ≡ false = ne_eqb b 32 (λ z. eqb-false 32 b front (sym z)) in
          let other : eqb 10 b ≡ false = ne_eqb 10 b (λ z. eqb-false b 10 q (sym z)) in
          let place : at ≡ k = wrong_same (sym (byte_no (eqb 10) at b w other) ∙ sym (ap (λ z. byte (eqb 10) at z) d) ∙ e) in
          ap (λ z. digits at z) d ∙ digits_other at b w q space ∙ ap wrong place)
