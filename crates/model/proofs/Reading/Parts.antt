-- The readers of words and of a line, each exact, with its count of bytes.
use Rattle.std.proofs.Common.{◌≡◌, ℕ, ◌+◌, Bool, true, ◌&&◌, leb, List, [], ◌∷◌, ◌++◌, length, sym, ap, ◌∙◌, append_assoc, arith, length-append}
use Rattle.std.proofs.lemmas.Bool.{and_parts, and_from, leb-true, le-leb}
use Rattle.model.specs.Lists.{every, joined}
use Rattle.model.specs.Text.{correct, line_bytes, one_digit, good_choice, digit_word, choice_word, name_byte}
use Rattle.model.specs.Reading.{part, Reader, digit, choice, digits, name_rest}
use Rattle.model.specs.ReadingLaws.{Reads, WordsExact, LineExact}
use Rattle.model.proofs.Reading.Readers.{Proper}
use Rattle.model.proofs.Reading.Words.{digit_proper, digit_sound, digit_complete, choice_proper, choice_sound, choice_complete}
use Rattle.model.proofs.Reading.Digits.{digits_proper, digits_sound, digits_complete}
use Rattle.model.proofs.Reading.Names.{name_rest_proper, name_rest_sound, name_rest_complete}
use Rattle.model.proofs.Reading.Lines.{line_reader, line_proper, line_sound_at, line_complete_at}
use Rattle.model.proofs.Reading.Stopping.{stop_sound, stop_complete}

-- a proper reader that is sound and complete counts its bytes
exact : {X : Type 0} (f : Reader X) (good : X → Bool) (write : X → List ℕ) → Proper f
    → ((i : ℕ) (bytes : List ℕ) (x : X) (j : ℕ) (rest : List ℕ) → f i bytes ≡ part x j rest → (good x ≡ true) × (bytes ≡ write x ++ rest))
    → ((i : ℕ) (x : X) (rest : List ℕ) → good x ≡ true → (j : ℕ) × (f i (write x ++ rest) ≡ part x j rest))
    → Reads f good write
exact {X} f good write p sound complete i bytes x j rest = (to j, from)
  where
    count : (bs : List ℕ) (k : ℕ) → f i bs ≡ part x k rest → bs ≡ write x ++ rest → k ≡ i + length (write x)
    count bs k e d =
        let t = p.takes i bs x k rest e in
        let one : length bs ≡ length t.eaten + length rest = ap length t.split ∙ length-append t.eaten rest in
        let two : length bs ≡ length (write x) + length rest = ap length d ∙ length-append (write x) rest in
        omega (arith, t.count)

    to : (k : ℕ) → f i bytes ≡ part x k rest → (good x ≡ true) × (bytes ≡ write x ++ rest) × (k ≡ i + length (write x))
    to k e = let s = sound i bytes x k rest e in (s.0, s.1, count bytes k e s.1)

    from : (good x ≡ true) × (bytes ≡ write x ++ rest) × (j ≡ i + length (write x)) → f i bytes ≡ part x j rest
    from h =
        let c = complete i x rest h.0 in
        let e : f i bytes ≡ part x c.0 rest = ap (λ z. f i z) h.1 ∙ c.1 in
        e ∙ ap (λ k. part x k rest) ((to c.0 e).2 ∙ sym h.2)

pub words_exact : WordsExact
words_exact = (
  exact digit one_digit digit_word digit_proper (λ i bytes x j rest e. let r = digit_sound i bytes x j rest e in (r.good, r.split)) digit_complete,
  exact choice good_choice choice_word choice_proper (λ i bytes x j rest e. let r = choice_sound i bytes x j rest e in (r.good, r.split)) choice_complete,
  exact digits (every one_digit) (λ ds. joined digit_word ds ++ (10 ∷ [])) digits_proper
      (λ i bytes x j rest e. let r = digits_sound i bytes x j rest e in (r.good, r.split ∙ sym (append_assoc (joined digit_word x) (10 ∷ []) rest)))
      (λ i x rest h. let c = digits_complete x i rest h in (c.0, ap (λ z. digits i z) (append_assoc (joined digit_word x) (10 ∷ []) rest) ∙ c.1)),
  λ n.
      exact (name_rest n) (λ bs. leb (length bs) n && every name_byte bs) (λ bs. bs ++ (10 ∷ [])) (name_rest_proper n)
      (λ i bytes x j rest e.
      let r = name_rest_sound n i bytes x j rest e in
      (and_from (leb (length x) n) (every name_byte x) (le-leb (length x) n r.short) r.good, r.split ∙ sym (append_assoc x (10 ∷ []) rest)))
      (λ i x rest h.
      let b = and_parts (leb (length x) n) (every name_byte x) h in
      let c = name_rest_complete x n i rest b.1 (leb-true (length x) n b.0) in
      (c.0, ap (λ z. name_rest n i z) (append_assoc x (10 ∷ []) rest) ∙ c.1)),
)

pub line_exact : LineExact
line_exact =
    (exact line_reader correct line_bytes line_proper line_sound_at line_complete_at, λ bytes at. (stop_sound bytes at, stop_complete bytes at))
