-- The text, line by line.
use Rattle.std.proofs.Common.{◌≡◌, ℕ, zero, suc, ◌+◌, ◌<◌, ◌≤◌, not, List, [], ◌∷◌, length, Ok, sym, refl, ap, ◌∙◌, subst, add-one, arith, length-append}
use Rattle.std.specs.Borrow.{Bor}
use mathlib.Core.Option.{Option, none, some}
use Rattle.model.specs.declared.fault.LineFault.{LineFault}
use Rattle.model.specs.declared.fault.LineFault.TheVariants.{Word, Order, Range}
use Rattle.model.specs.declared.fault.ReadFault.TheVariants.{Line as OfLine}
use Rattle.model.specs.Lists.{first}
use Rattle.model.specs.Text.{Number, Line, n_line, s_line, r_line, t_line, line_bytes, numbers, inside}
use Rattle.model.specs.Reading.{Part, part, wrong, first_line, SoFar, nothing, onward, states_so_far, Reading, faulty, read_lines}
use Rattle.model.proofs.Reading.Parts.{line_exact}
use Rattle.rules.specs.declared.numbers.Numbers.{Numbers}
use Rattle.ruletext.specs.declared.so_far.Reading.{Reading as TextReading}
use Rattle.ruletext.specs.Standing.{Stands, Takes, on, step, Taken, going, stopped, take_line}

-- ONE LINE

some_bytes : (l : Line) → 0 < length (line_bytes l)
some_bytes (n_line name) = omega arith
some_bytes (s_line n q) = omega arith
some_bytes (r_line qs) = omega arith
some_bytes (t_line a) = omega arith

-- the bytes behind a line are fewer
pub line_shorter : (bytes : List ℕ) (l : Line) (j : ℕ) (rest : List ℕ) → first_line bytes ≡ part l j rest → length rest < length bytes
line_shorter bytes l j rest e =
    let t = (line_exact.0 0 bytes l j rest).0 e in
    let a = ap length t.1 in
    let b = length-append (line_bytes l) rest in
    let c = some_bytes l in
    omega arith

pub taken_on : (S C line : ℕ) (m : SoFar) (bytes : List ℕ) (l : Line) (j : ℕ) (rest : List ℕ) → first_line bytes ≡ part l j rest
    → (next : SoFar) → step S C line m l ≡ on next → take_line S C line m bytes ≡ going next rest
taken_on S C line m bytes l j rest e next d = cc

-- ALL LINES

module _ (S C turns line : ℕ) (m : SoFar) (b : ℕ) (bs : List ℕ) where
  abbrev after : Taken → Reading
  after (going next rest) = read_lines S C turns (suc line) next rest
  after (stopped f) = faulty (OfLine f)

  by_line : read_lines S C (suc turns) line m (b ∷ bs) ≡ after (take_line S C line m (b ∷ bs))
  by_line = words (first_line (b ∷ bs)) refl
    where
      range : (l : Line) (j : ℕ) (rest : List ℕ) → first_line (b ∷ bs) ≡ part l j rest → (next : SoFar) → onward m l ≡ some next
          → (o : Option Number) → first (λ k. not (inside k)) (numbers S C (states_so_far next) l) ≡ o
          → read_lines S C (suc turns) line m (b ∷ bs) ≡ after (take_line S C line m (b ∷ bs))
      range l j rest e next d none h =
          let x : read_lines S C (suc turns) line m (b ∷ bs) ≡ read_lines S C turns (suc line) next rest = cc in
          let y : take_line S C line m (b ∷ bs) ≡ going next rest = cc in
          x ∙ ap after (sym y)
      range l j rest e next d (some k) h =
          let x : read_lines S C (suc turns) line m (b ∷ bs) ≡ faulty (OfLine (Range line k.at)) = cc in
          let y : take_line S C line m (b ∷ bs) ≡ stopped (Range line k.at) = cc in
          x ∙ ap after (sym y)

      order : (l : Line) (j : ℕ) (rest : List ℕ) → first_line (b ∷ bs) ≡ part l j rest → (o : Option SoFar) → onward m l ≡ o
          → read_lines S C (suc turns) line m (b ∷ bs) ≡ after (take_line S C line m (b ∷ bs))
      order l j rest e none d =
          let x : read_lines S C (suc turns) line m (b ∷ bs) ≡ faulty (OfLine (Order line)) = cc in
          let y : take_line S C line m (b ∷ bs) ≡ stopped (Order line) = cc in
          x ∙ ap after (sym y)
      order l j rest e (some next) d = range l j rest e next d (first (λ k. not (inside k)) (numbers S C (states_so_far next) l)) refl

      words : (o : Part Line) → first_line (b ∷ bs) ≡ o → read_lines S C (suc turns) line m (b ∷ bs) ≡ after (take_line S C line m (b ∷ bs))
      words (part l j rest) e = order l j rest e (onward m l) refl
      words (wrong at) e =
          let x : read_lines S C (suc turns) line m (b ∷ bs) ≡ faulty (OfLine (Word (record { line = line; byte = at }))) = cc in
          let y : take_line S C line m (b ∷ bs) ≡ stopped (Word (record { line = line; byte = at })) = cc in
          x ∙ ap after (sym y)

  line_going : (next : SoFar) (rest : List ℕ) → take_line S C line m (b ∷ bs) ≡ going next rest
      → read_lines S C (suc turns) line m (b ∷ bs) ≡ read_lines S C turns (suc line) next rest
  line_going next rest e = by_line ∙ ap after e

  line_stopped : (f : LineFault) → take_line S C line m (b ∷ bs) ≡ stopped f → read_lines S C (suc turns) line m (b ∷ bs) ≡ faulty (OfLine f)
  line_stopped f e = by_line ∙ ap after e

-- between two lines: what is left to read, from how far the lines have come
pub record Lining (given : Numbers) (text : List ℕ) (now : TextReading) (rest : List ℕ) : Type 0 where
  pub same : now.numbers ≡ given
  pub come : SoFar
  pub turns : ℕ
  pub enough : length rest ≤ turns
  pub place : read_lines given.situations given.commands (length text) 1 nothing text ≡ read_lines given.situations given.commands turns now.line come rest
  pub stands : Stands now come
  pub short : now.line + length rest ≤ 1 + length text

module _ (given : Numbers) (text : List ℕ) (now : TextReading) (rest : List ℕ) (t : Lining given text now rest) where
  more : (S C : ℕ) (r : List ℕ) (n : ℕ) → rest ≡ r → t.turns ≡ n → 0 < length rest → (taken : Taken) → take_line S C now.line t.come rest ≡ taken
      → (k : ℕ) × (suc k ≡ t.turns) × (b : ℕ) × (bs : List ℕ) × (rest ≡ b ∷ bs)
  more S C [] n e f h taken d = let z = ap length e in absurd (omega arith)
  more S C (b ∷ bs) zero e f h taken d = let z = t.enough in absurd (omega arith)
  more S C (b ∷ bs) (suc k) e f h taken d = (k, sym f, b, bs, e)

  abbrev S : ℕ
  S = given.situations

  abbrev C : ℕ
  C = given.commands

  at_given : (taken : Taken) → take_line now.numbers.situations now.numbers.commands now.line t.come rest ≡ taken → take_line S C now.line t.come rest ≡ taken
  at_given taken e = subst (λ z. take_line z.situations z.commands now.line t.come rest ≡ taken) t.same e

  pub lining_stopped : (f : LineFault) → 0 < length rest → take_line now.numbers.situations now.numbers.commands now.line t.come rest ≡ stopped f
      → read_lines S C (length text) 1 nothing text ≡ faulty (OfLine f)
  lining_stopped f h e =
      let s = more S C rest t.turns refl refl h (stopped f) (at_given (stopped f) e) in
      let k = s.0 in
      let b = s.2 in
      let bs = s.3 in
      t.place ∙ ap (λ n. read_lines S C n now.line t.come rest) (sym s.1) ∙ ap (λ z. read_lines S C (suc k) now.line t.come z) s.4
      ∙ line_stopped S C k now.line t.come b bs f (subst (λ z. take_line S C now.line t.come z ≡ stopped f) s.4 (at_given (stopped f) e))

  pub lining_more : (after : TextReading) (behind : Bor (List ℕ)) → 0 < length rest → Takes now t.come rest after (Ok behind) → Lining given text after behind.now
  lining_more after behind h taken =
      let m = taken.3.0 in
      let next = taken.1 in
      let shorter = taken.2 in
      let e = at_given (going m behind.now) taken.3.1 in
      let s = more S C rest t.turns refl refl h (going m behind.now) e in
      let k = s.0 in
      let b = s.2 in
      let bs = s.3 in
      let a = t.short in
      let n = t.enough in
      record {
        same = taken.0 ∙ t.same;
        come = m;
        turns = k;
        enough = omega (arith, s.1);
        place =
            t.place ∙ ap (λ n. read_lines S C n now.line t.come rest) (sym s.1) ∙ ap (λ z. read_lines S C (suc k) now.line t.come z) s.4
            ∙ line_going S C k now.line t.come b bs m behind.now (subst (λ z. take_line S C now.line t.come z ≡ going m behind.now) s.4 e)
            ∙ ap (λ n. read_lines S C k n m behind.now) (sym (next ∙ add-one now.line));
        stands = taken.3.2;
        short = omega arith;
      }
