-- The parts of a file put into a buffer, one behind the other. Assumes nothing.
use Rattle.std.proofs.Common.{◌≡◌, ℕ, ◌+◌, ◌-◌, ◌<◌, ◌≤◌, leb, List, ◌++◌, map, length, take, drop, Ok, Err, Result, sym, refl, ap, ◌∙◌, append_assoc, arith, length-append}
use borrow.Rule.Slice.PartMut.{put_mid, post_of}
use lib.ListN.{length-map}
use Rattle.std.proofs.lemmas.List.{take_at, drop_at, drop-drop}
use Rattle.std.proofs.lemmas.Bool.{le-leb, lt-leb, cond-true, cond-false}
use Rattle.model.specs.declared.refusal.Refusal.{Refusal}
use Rattle.model.specs.declared.refusal.Refusal.TheVariants.{ShortBuffer}
use Rattle.model.specs.Automaton.{Automaton}
use Rattle.model.specs.Lists.{joined}
use Rattle.model.specs.File.{record_bytes, tally_byte, tallies, trailer, file}
use Rattle.model.specs.Sheet.{overwritten}
use Rattle.synthesis.specs.declared.state.State.{State}
use Rattle.synthesis.specs.Answers.{row_of, position_of}
use Rattle.ctlfile.specs.declared.trailer.Trailer.{Trailer}
use Rattle.ctlfile.specs.Trailers.{trailer_bytes, trailer_for}
use Rattle.ctlfile.specs.Files.{file_of, written, left}

-- a part put behind what is there
put_behind : (a k n : ℕ) (front ys buffer : List ℕ) → length front ≡ a → a + k ≡ n → put_mid a k (front ++ drop a buffer) ys ≡ (front ++ ys) ++ drop n buffer
put_behind a k n front ys buffer l e =
    let t : take a (front ++ drop a buffer) ≡ front = take_at front (drop a buffer) a l in
    let d : drop a (front ++ drop a buffer) ≡ drop a buffer = drop_at front (drop a buffer) a l in
    let r : drop k (drop a (front ++ drop a buffer)) ≡ drop n buffer = ap {B = List ℕ} (drop k) d ∙ drop-drop k a buffer ∙ ap {B = List ℕ} (λ j. drop j buffer) e in
    (λ i. t i ++ (ys ++ r i)) ∙ sym (append_assoc front ys (drop n buffer))

-- the three parts
put_parts : (a b : ℕ) (r z e buffer : List ℕ) → length r ≡ a → length z ≡ b - a → a ≤ b
    → put_mid b (b + 20 - b) (put_mid a (b - a) (r ++ post_of 0 (a - 0) buffer) z) e ≡ (r ++ (z ++ e)) ++ drop (b + 20) buffer
put_parts a b r z e buffer lr lz h =
    let first : r ++ post_of 0 (a - 0) buffer ≡ r ++ drop a buffer = ap {B = List ℕ} (λ n. r ++ drop n buffer) (omega arith) in
    let second : put_mid a (b - a) (r ++ post_of 0 (a - 0) buffer) z ≡ (r ++ z) ++ drop b buffer = ap {B = List ℕ} (λ l. put_mid a (b - a) l z) first ∙ put_behind a (b - a) b r z buffer lr (omega arith) in
    ap {B = List ℕ} (λ l. put_mid b (b + 20 - b) l e) second
    ∙ put_behind b (b + 20 - b) (b + 20) (r ++ z) e buffer (omega (arith, length-append r z)) (omega arith)
    ∙ ap {B = List ℕ} (λ l. l ++ drop (b + 20) buffer) (append_assoc r z e)

module _ (A : Automaton) (states : List State) (c : ℕ) (t : Trailer) (told : t ≡ trailer_for A (length states) c) (body : ℕ)
    (takes : body ≡ length (joined record_bytes (map (row_of t.situations) states)) + length (joined (map tally_byte) (map (position_of t.rule_states) states))) (buffer : List ℕ) where
  abbrev F : List ℕ
  F = file_of A states c

  abbrev records : List ℕ
  records = joined record_bytes (map (row_of t.situations) states)

  abbrev certificate : List ℕ
  certificate = joined (map tally_byte) (map (position_of t.rule_states) states)

  end_long : length (trailer_bytes t) ≡ 20
  unfolding trailer_bytes
  end_long = refl

  file_is : records ++ (certificate ++ trailer_bytes t) ≡ F
  unfolding file_of file tallies trailer trailer_bytes
  file_is =
      (λ i. joined record_bytes (map (row_of (told i).situations) states) ++ (joined (map tally_byte) (map (position_of (told i).rule_states) states) ++ trailer_bytes (told i)))
      ∙ (λ i. joined record_bytes (map (row_of A.situations) states) ++ (joined (map tally_byte) (map (position_of A.states) states) ++ trailer A (sym (length-map states (row_of A.situations)) i) c))

  file_long : length F ≡ body + 20
  file_long = ap {B = ℕ} length (sym file_is) ∙ omega (arith, length-append records (certificate ++ trailer_bytes t), length-append certificate (trailer_bytes t), end_long, takes)

  pub refused_said : length buffer < body + 20 → Err ShortBuffer ≡ written F buffer
  refused_said h = sym (cond-false (leb (length F) (length buffer)) (Ok (length F)) (Err ShortBuffer) (lt-leb (length F) (length buffer) (omega (arith, file_long))))

  pub refused_left : length buffer < body + 20 → buffer ≡ left F buffer
  refused_left h = sym (cond-false (leb (length F) (length buffer)) (overwritten F buffer) buffer (lt-leb (length F) (length buffer) (omega (arith, file_long))))

  pub put_said : body + 20 ≤ length buffer → Ok (body + 20) ≡ written F buffer
  put_said h =
      ap {B = Result ℕ Refusal} Ok (sym file_long) ∙ sym (cond-true (leb (length F) (length buffer)) (Ok (length F)) (Err ShortBuffer) (le-leb (length F) (length buffer) (omega (arith, file_long))))

  pub put_left : (a : ℕ) (r z e : List ℕ) → r ≡ records → z ≡ certificate → e ≡ trailer_bytes t → length r ≡ a → a ≤ body → body + 20 ≤ length buffer
      → put_mid body (body + 20 - body) (put_mid a (body - a) (r ++ post_of 0 (a - 0) buffer) z) e ≡ left F buffer
  put_left a r z e er ez ee la h room =
      put_parts a body r z e buffer la (omega (arith, ap {B = ℕ} length er, ap {B = ℕ} length ez, takes)) h
      ∙ (λ i. (er i ++ (ez i ++ ee i)) ++ drop (body + 20) buffer)
      ∙ (λ i. file_is i ++ drop (sym file_long i) buffer)
      ∙ sym (cond-true (leb (length F) (length buffer)) (overwritten F buffer) buffer (le-leb (length F) (length buffer) (omega (arith, file_long))))
