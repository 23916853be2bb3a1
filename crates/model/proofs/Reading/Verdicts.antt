-- Reading: what it answers is what the answer says, and each answer that says so is given.
use Rattle.std.proofs.Common.{◌≡◌, ℕ, zero, suc, ◌+◌, ◌<◌, ◌≤◌, true, false, leb, ◌⊎◌, List, [], ◌∷◌, ◌++◌, length, sym, refl, ap, ◌∙◌, subst, inl, inr, ⊎_elim, append_assoc, append-nil, arith, length-append}
use mathlib.Core.Option.{Option, none, some}
use Rattle.std.proofs.lemmas.Bool.{and_parts, and_from, leb-true, le-leb}
use Rattle.model.specs.Lists.{first, In, joined}
use Rattle.model.specs.Text.{Line, n_line, s_line, r_line, t_line, correct, line_bytes, TextRule, lines, text, meaning, all_reached, between, numbers_in_range, Number, numbers}
use Rattle.model.specs.declared.fault.LineFault.TheVariants.{Word, Order, Range}
use Rattle.model.specs.declared.fault.ReadFault.{ReadFault}
use Rattle.model.specs.declared.fault.ReadFault.TheVariants.{Numbers, Length, Line as OfLine, Unreached}
use Rattle.model.specs.Reading.{bad_word, bad_order, bad_range, Part, part, wrong, first_line, SoFar, nothing, named, sized, full, onward, states_so_far, Reading, reads, faulty, at_end, read_lines, read}
use Rattle.model.specs.ReadingLaws.{Ranged, AllReached, NumbersGood, LengthGood, StopsAt, Behind, NextLine, InOrder, FirstOutside, Says, ReadingSays, ReadingExact, FaultsExact, ReadingDecided}
use Rattle.model.proofs.Reading.Basics.{by_test, true_false}
use Rattle.model.proofs.Reading.Ranges.{none_some, some_same, AllInside, outside, first_none, none_first, first_some, some_first}
use Rattle.model.proofs.Lists.{in_left, joined_append}
use Rattle.model.proofs.Reading.Orders.{lines_so_far, after, after_inv, after_split, after_push, after_lines, onward_numbers, kept_numbers, Fine, fine_push, after_rule, in_order, completed, missing, completed_lines, completed_fine}
use Rattle.model.proofs.Reading.Lines.{line_sound, line_complete}
use Rattle.model.proofs.Reading.Stopping.{stop_sound, stop_complete}
use Rattle.model.proofs.Reading.Reached.{all_reached_exact}
use Rattle.model.proofs.Reading.Ranged.{to_plain, from_plain}

-- a line has a first byte
line_cons : (l : Line) → (b : ℕ) × (bs : List ℕ) × (line_bytes l ≡ b ∷ bs)
line_cons (n_line name) = (110, 32 ∷ name ++ (10 ∷ []), refl)
line_cons (s_line n q) = (115, _, refl)
line_cons (r_line qs) = (114, joined Rattle.model.specs.Text.digit_word qs ++ (10 ∷ []), refl)
line_cons (t_line a) = (116, _, refl)

-- NUMBERS AND LENGTH

between_true : (low high n : ℕ) → between low high n ≡ true → (low ≤ n) × (n ≤ high)
between_true low high n e = let p = and_parts (leb low n) (leb n high) e in (leb-true low n p.0, leb-true n high p.1)

true_between : (low high n : ℕ) → low ≤ n → n ≤ high → between low high n ≡ true
true_between low high n h k = and_from (leb low n) (leb n high) (le-leb low n h) (le-leb n high k)

numbers_true : (S C : ℕ) → numbers_in_range S C ≡ true → NumbersGood S C
numbers_true S C e =
    let p = and_parts (between 1 8 S) (between 1 8 C) e in
    let a = between_true 1 8 S p.0 in
    let b = between_true 1 8 C p.1 in
    (a.0, a.1, b.0, b.1)

true_numbers : (S C : ℕ) → NumbersGood S C → numbers_in_range S C ≡ true
true_numbers S C h = and_from (between 1 8 S) (between 1 8 C) (true_between 1 8 S h.0 h.1) (true_between 1 8 C h.2 h.3)

read_numbers : (S C : ℕ) (bytes : List ℕ) → numbers_in_range S C ≡ false → read S C bytes ≡ faulty Numbers
read_numbers S C bytes e = rw (e, read)

read_length : (S C : ℕ) (bytes : List ℕ) → numbers_in_range S C ≡ true → between 1 4096 (length bytes) ≡ false → read S C bytes ≡ faulty Length
read_length S C bytes e d = let a : read S C bytes ≡ elim (between 1 4096 (length bytes)) [ false ↦ faulty Length | true ↦ read_lines S C (length bytes) 1 nothing bytes ] = rw (e, read) in a ∙ rw d

read_goes : (S C : ℕ) (bytes : List ℕ) → numbers_in_range S C ≡ true → between 1 4096 (length bytes) ≡ true → read S C bytes ≡ read_lines S C (length bytes) 1 nothing bytes
read_goes S C bytes e d = let a : read S C bytes ≡ elim (between 1 4096 (length bytes)) [ false ↦ faulty Length | true ↦ read_lines S C (length bytes) 1 nothing bytes ] = rw (e, read) in a ∙ rw d

module _ (S C : ℕ) where
  -- ONE LINE

  module _ (turns line : ℕ) (f : SoFar) (b : ℕ) (bs : List ℕ) where
    word_fault : (at : ℕ) → first_line (b ∷ bs) ≡ wrong at → read_lines S C (suc turns) line f (b ∷ bs) ≡ faulty (bad_word line at)
    word_fault at e = rw (e, read_lines)

    order_fault : (l : Line) (j : ℕ) (rest : List ℕ) → first_line (b ∷ bs) ≡ part l j rest → onward f l ≡ none
        → read_lines S C (suc turns) line f (b ∷ bs) ≡ faulty (bad_order line)
    order_fault l j rest e d = rw (e, read_lines) (rw d)

    range_fault : (l : Line) (j : ℕ) (rest : List ℕ) (g : SoFar) (k : Number) → first_line (b ∷ bs) ≡ part l j rest → onward f l ≡ some g
        → first outside (numbers S C (states_so_far g) l) ≡ some k → read_lines S C (suc turns) line f (b ∷ bs) ≡ faulty (bad_range line k.at)
    range_fault l j rest g k e d h = rw (e, read_lines) (rw d (rw h))

    next_line : (l : Line) (j : ℕ) (rest : List ℕ) (g : SoFar) → first_line (b ∷ bs) ≡ part l j rest → onward f l ≡ some g
        → first outside (numbers S C (states_so_far g) l) ≡ none → read_lines S C (suc turns) line f (b ∷ bs) ≡ read_lines S C turns (suc line) g rest
    next_line l j rest g e d h = rw (e, read_lines) (rw d (rw h))

  -- WHAT IT ANSWERS IS SO

  module _ (bytes : List ℕ) where
    abbrev Verdict : Reading → Type 0
    Verdict v = ReadingSays S C bytes v

    -- how far the reader has come: the lines before, and the bytes that are left
    record Place (line : ℕ) (f : SoFar) (rest : List ℕ) : Type 0 where
      before : List Line
      split : bytes ≡ joined line_bytes before ++ rest
      order : after nothing before ≡ some f
      fine : Fine S C before f
      count : line ≡ length before + 1

    place_lines : (line : ℕ) (f : SoFar) (rest : List ℕ) (p : Place line f rest) → lines_so_far f ≡ p.before
    place_lines line f rest p = after_lines p.before nothing f p.order

    behind : (line : ℕ) (f : SoFar) (rest : List ℕ) (p : Place line f rest) (Rest : List Line → List ℕ → Type 0) → Rest p.before rest → Behind S C bytes line Rest
    behind line f rest p Rest h =
        let is = place_lines line f rest p in (
          p.before,
          rest,
          p.split,
          p.count,
          (completed f, missing f, completed_lines f ∙ ap (λ z. z ++ missing f) is, to_plain S C (completed f) (completed_fine S C f (subst (λ z. Fine S C z f) (sym is) p.fine))),
          h,
        )

    place_next : (line : ℕ) (f : SoFar) (rest : List ℕ) (p : Place line f rest) (l : Line) (more : List ℕ) (g : SoFar)
        → correct l ≡ true → rest ≡ line_bytes l ++ more → onward f l ≡ some g → AllInside (numbers S C (states_so_far g) l) → Place (suc line) g more
    place_next line f rest p l more g c e d h =
        record {
          before = p.before ++ (l ∷ []);
          split =
              p.split ∙ ap (λ z. joined line_bytes p.before ++ z) e ∙ sym (append_assoc (joined line_bytes p.before) (line_bytes l) more)
              ∙ ap (λ z. z ++ more) (ap (λ z. joined line_bytes p.before ++ z) (sym (append-nil (line_bytes l))) ∙ sym (joined_append line_bytes p.before (l ∷ [])));
          order = after_push p.before l nothing f g p.order d;
          fine = fine_push S C p.before f l g p.order d p.fine c h;
          count = omega (arith, p.count, length-append p.before (l ∷ []));
        }

    module _ (good : NumbersGood S C) (size : LengthGood bytes) where
      short_of : (line : ℕ) (f : SoFar) (p : Place line f []) → length (lines_so_far f) < 3 → Says S C bytes (bad_order line)
      short_of line f p h = (
        good,
        size,
        behind line f [] p (λ before rest. ((l : Line) × NextLine rest l × (InOrder before l → ⊥)) ⊎ ((rest ≡ []) × (length before < 3)))
            (inr (refl, omega (arith, h, ap length (place_lines line f [] p)))),
      )

      ended : (line : ℕ) (f : SoFar) → Place line f [] → Verdict (at_end S C line f)
      ended line nothing p = short_of line nothing p (omega arith)
      ended line (named name) p = short_of line (named name) p (omega arith)
      ended line (sized name n q) p = short_of line (sized name n q) p (omega arith)
      ended line (full r) p =
          let is : lines r ≡ p.before = place_lines line (full r) [] p in
          let whole : bytes ≡ text r = p.split ∙ append-nil (joined line_bytes p.before) ∙ ap (λ z. joined line_bytes z) (sym is) in
          let range : Rattle.model.specs.ReadingLaws.InRange S C r = subst (λ z. Fine S C z (full r)) (sym is) p.fine in
          let exact = all_reached_exact S C r (to_plain S C r range).starts in
          by_test (all_reached S C r)
          (λ t. let e : at_end S C line (full r) ≡ reads r = rw (t, at_end) in subst (λ z. Verdict z) (sym e) (good, size, whole, to_plain S C r range, exact.0 t))
          (λ t.
          let e : at_end S C line (full r) ≡ faulty (Unreached line) = rw (t, at_end) in
          subst (λ z. Verdict z) (sym e)
          (good, size, (r, whole, p.count ∙ ap (λ z. length z + 1) (sym is), to_plain S C r range, λ h. true_false (exact.1 h) t)))

      module _ (turns line : ℕ) (f : SoFar) (b : ℕ) (bs : List ℕ) (p : Place line f (b ∷ bs))
          (more-lines : (g : SoFar) (rest : List ℕ) → length rest ≤ turns → Place (suc line) g rest → Verdict (read_lines S C turns (suc line) g rest))
          (room : suc (length bs) ≤ suc turns) where
        ranges : (l : Line) (j : ℕ) (rest : List ℕ) (g : SoFar) → first_line (b ∷ bs) ≡ part l j rest → onward f l ≡ some g
            → (o : Option Number) → first outside (numbers S C (states_so_far g) l) ≡ o → Verdict (read_lines S C (suc turns) line f (b ∷ bs))
        ranges l j rest g e d none c =
            let v = line_sound (b ∷ bs) l j rest e in
            let long : suc (length bs) ≡ length (line_bytes l) + length rest = ap length v.1 ∙ length-append (line_bytes l) rest in
            let start = line_cons l in
            let some_bytes : length (line_bytes l) ≡ suc (length start.1) = ap length start.2 in
            subst (λ z. Verdict z) (sym (next_line turns line f b bs l j rest g e d c))
            (more-lines g rest (omega arith) (place_next line f (b ∷ bs) p l rest g v.0 v.1 d (first_none (numbers S C (states_so_far g) l) c)))
        ranges l j rest g e d (some k) c =
            let v = line_sound (b ∷ bs) l j rest e in
            let o = first_some (numbers S C (states_so_far g) l) k c in
            let order = after_push p.before l nothing f g p.order d in
            let shown : lines (completed g) ≡ p.before ++ (l ∷ missing g) =
            completed_lines g ∙ ap (λ z. z ++ missing g) (after_lines (p.before ++ (l ∷ [])) nothing g order) ∙ append_assoc p.before (l ∷ []) (missing g) in
            let then = in_order p.before f (completed g) l (missing g) p.order shown in
            let same-g : then.0 ≡ g = some_same (sym then.1 ∙ d) in
            let alike : numbers S C (completed g).states l ≡ numbers S C (states_so_far g) l =
            onward_numbers S C f l g d (missing g) (full (completed g)) (subst (λ z. after z (missing g) ≡ some (full (completed g))) same-g then.2) in
            subst (λ z. Verdict z) (sym (range_fault turns line f b bs l j rest g k e d c)) (
              good,
              size,
              behind line f (b ∷ bs) p (λ before rest. (l : Line) × NextLine rest l × FirstOutside S C before l k.at)
                  (l, (v.0, (rest, v.1)), (completed g, missing g, shown, (o.good, k, o.others, alike ∙ o.split, o.before, o.out, refl))),
            )

        orders : (l : Line) (j : ℕ) (rest : List ℕ) → first_line (b ∷ bs) ≡ part l j rest → (o : Option SoFar) → onward f l ≡ o
            → Verdict (read_lines S C (suc turns) line f (b ∷ bs))
        orders l j rest e none d =
            let v = line_sound (b ∷ bs) l j rest e in
            subst (λ z. Verdict z) (sym (order_fault turns line f b bs l j rest e d)) (
              good,
              size,
              behind line f (b ∷ bs) p (λ before rest. ((l : Line) × NextLine rest l × (InOrder before l → ⊥)) ⊎ ((rest ≡ []) × (length before < 3)))
                  (inl (l, (v.0, (rest, v.1)), λ i. none_some (sym d ∙ (in_order p.before f i.0 l i.1 p.order i.2).1))),
            )
        orders l j rest e (some g) d = ranges l j rest g e d (first outside (numbers S C (states_so_far g) l)) refl

        words : (o : Part Line) → first_line (b ∷ bs) ≡ o → Verdict (read_lines S C (suc turns) line f (b ∷ bs))
        words (wrong at) e =
            subst (λ z. Verdict z) (sym (word_fault turns line f b bs at e))
            (good, size, behind line f (b ∷ bs) p (λ before rest. (0 < length rest) × StopsAt rest at) (omega arith, stop_sound (b ∷ bs) at e))
        words (part l j rest) e = orders l j rest e (onward f l) refl

      sound : (turns line : ℕ) (f : SoFar) (rest : List ℕ) → length rest ≤ turns → Place line f rest → Verdict (read_lines S C turns line f rest)
      sound zero line f [] h p = ended line f p
      sound (suc turns) line f [] h p = ended line f p
      sound zero line f (b ∷ bs) h p = let k : ⊥ = omega arith in absurd k
      sound (suc turns) line f (b ∷ bs) h p = words turns line f b bs p (λ g rest k q. sound turns (suc line) g rest k q) h (first_line (b ∷ bs)) refl

    pub verdict : Verdict (read S C bytes)
    verdict =
        by_test (numbers_in_range S C)
        (λ t. by_test (between 1 4096 (length bytes))
        (λ k. subst (λ z. Verdict z) (sym (read_goes S C bytes t k))
        (sound (numbers_true S C t) (between_true 1 4096 (length bytes) k) (length bytes) 1 nothing bytes (omega arith)
        (record { before = []; split = refl; order = refl; fine = λ l h. absurd h; count = refl })))
        (λ k. subst (λ z. Verdict z) (sym (read_length S C bytes t k))
        (numbers_true S C t, λ h. true_false (true_between 1 4096 (length bytes) h.0 h.1) k)))
        (λ t. subst (λ z. Verdict z) (sym (read_numbers S C bytes t)) (λ h. true_false (true_numbers S C h) t))

  -- EACH THAT IS SO IS ANSWERED

  -- through lines that are in order and in range
  run : (ls : List Line) (f g : SoFar) (rest : List ℕ) (turns line : ℕ) → after f ls ≡ some g → Fine S C ls g → length (joined line_bytes ls ++ rest) ≤ turns
      → (t : ℕ) × (length rest ≤ t) × (read_lines S C turns line f (joined line_bytes ls ++ rest) ≡ read_lines S C t (line + length ls) g rest)
  run [] f g rest turns line e h room =
      let n : line ≡ line + length {A = Line} [] = omega arith in
      (turns, room, ap (λ z. read_lines S C turns line z rest) (some_same e) ∙ ap (λ z. read_lines S C turns z g rest) n)
  run (l ∷ ls) f g rest zero line e h room =
      let start = line_cons l in
      let size : length (line_bytes l) ≡ suc (length start.1) = ap length start.2 in
      let all = length-append (line_bytes l ++ joined line_bytes ls) rest in
      let two = length-append (line_bytes l) (joined line_bytes ls) in
      let k : ⊥ = omega arith in
      absurd k
  run (l ∷ ls) f g rest (suc turns) line e h room =
      let i = after_inv f l ls g e in
      let mid = joined line_bytes ls ++ rest in
      let here = h l (inl refl) in
      let start = line_cons l in
      let size : length (line_bytes l) ≡ suc (length start.1) = ap length start.2 in
      let regroup : joined line_bytes (l ∷ ls) ++ rest ≡ line_bytes l ++ mid = append_assoc (line_bytes l) (joined line_bytes ls) rest in
      let long : length (joined line_bytes (l ∷ ls) ++ rest) ≡ length (line_bytes l) + length mid = ap length regroup ∙ length-append (line_bytes l) mid in
      let shown : line_bytes l ++ mid ≡ start.0 ∷ (start.1 ++ mid) = ap (λ z. z ++ mid) start.2 in
      let c = line_complete l mid here.0 in
      let alike = onward_numbers S C f l i.0 i.1 ls g i.2 in
      let inside : AllInside (numbers S C (states_so_far i.0) l) = subst (λ z. AllInside z) alike here.1 in
      let ih = run ls i.0 g rest turns (suc line) i.2 (λ m k. h m (inr k)) (omega arith) in
      let count : suc line + length ls ≡ line + length (l ∷ ls) = omega arith in (
        ih.0,
        ih.1,
        ap (λ z. read_lines S C (suc turns) line f z) (regroup ∙ shown)
            ∙ next_line turns line f start.0 (start.1 ++ mid) l c.0 mid i.0 (ap first_line (sym shown) ∙ c.1) i.1 (none_first (numbers S C (states_so_far i.0) l) inside)
            ∙ ih.2 ∙ ap (λ z. read_lines S C ih.0 z g rest) count,
      )

  -- where a line stands next
  next_bytes : (rest : List ℕ) (l : Line) (more : List ℕ) → rest ≡ line_bytes l ++ more → (b : ℕ) × (bs : List ℕ) × (rest ≡ b ∷ bs)
  next_bytes rest l more e = let start = line_cons l in (start.0, start.1 ++ more, e ∙ ap (λ z. z ++ more) start.2)

  some_turns : {P : Type 0} (t n : ℕ) → suc n ≤ t → ((k : ℕ) → t ≡ suc k → P) → P
  some_turns zero n h f = let k : ⊥ = omega arith in absurd k
  some_turns (suc t) n h f = f t refl

  module _ (bytes : List ℕ) (good : NumbersGood S C) (size : LengthGood bytes) where
    goes : read S C bytes ≡ read_lines S C (length bytes) 1 nothing bytes
    goes = read_goes S C bytes (true_numbers S C good) (true_between 1 4096 (length bytes) size.0 size.1)

    -- the lines before are read, and reading goes on behind them
    record Arrived (line : ℕ) (before : List Line) (rest : List ℕ) : Type 0 where
      so_far : SoFar
      order : after nothing before ≡ some so_far
      turns : ℕ
      room : length rest ≤ turns
      reading : read S C bytes ≡ read_lines S C turns line so_far rest

    arrive : (line : ℕ) (before : List Line) (rest : List ℕ) (r : TextRule) (more : List Line)
        → bytes ≡ joined line_bytes before ++ rest → line ≡ length before + 1 → lines r ≡ before ++ more → Ranged S C r → Arrived line before rest
    arrive line before rest r more e n d h =
        let s = after_split before more nothing (full r) (ap (λ z. after nothing z) (sym d) ∙ after_rule r) in
        let fine : Fine S C before s.0 =
        λ l i.
        let there : In (lines r) l = subst (λ z. In z l) (sym d) (in_left before more l i) in
        let old = from_plain S C r good h l there in
        (old.0, subst (λ z. AllInside z) (kept_numbers S C before nothing s.0 s.1 more (full r) s.2 l i) old.1) in
        let all : length bytes ≡ length (joined line_bytes before ++ rest) = ap length e in
        let w = run before nothing s.0 rest (length bytes) 1 s.1 fine (omega arith) in
        let count : 1 + length before ≡ line = omega arith in
        record {
          so_far = s.0;
          order = s.1;
          turns = w.0;
          room = w.1;
          reading = goes ∙ ap (λ z. read_lines S C (length bytes) 1 nothing z) e ∙ w.2 ∙ ap (λ z. read_lines S C w.0 z s.0 rest) count;
        }

    -- the line that stands next
    record Next (a : SoFar) (turns line : ℕ) (rest : List ℕ) (l : Line) (more : List ℕ) : Type 0 where
      b : ℕ
      bs : List ℕ
      t : ℕ
      place : ℕ
      same : read_lines S C turns line a rest ≡ read_lines S C (suc t) line a (b ∷ bs)
      first : first_line (b ∷ bs) ≡ part l place more

    next : (a : SoFar) (turns line : ℕ) (rest : List ℕ) (l : Line) (more : List ℕ) → length rest ≤ turns → correct l ≡ true → rest ≡ line_bytes l ++ more
        → Next a turns line rest l more
    next a turns line rest l more room ok e =
        let n = next_bytes rest l more e in
        let c = line_complete l more ok in
        let len : length rest ≡ suc (length n.1) = ap length n.2 in
        some_turns turns (length n.1) (omega arith) (λ t is.
        record {
          b = n.0;
          bs = n.1;
          t = t;
          place = c.0;
          same = ap (λ z. read_lines S C z line a rest) is ∙ ap (λ z. read_lines S C (suc t) line a z) n.2;
          first = ap first_line (sym n.2 ∙ e) ∙ c.1;
        })

    word_is : (line at : ℕ) → Behind S C bytes line (λ before rest. (0 < length rest) × StopsAt rest at) → read S C bytes ≡ faulty (bad_word line at)
    word_is line at h =
        let a = arrive line h.0 h.1 h.4.0 h.4.1 h.2 h.3 h.4.2 h.4.3 in
        a.reading ∙ stuck h.1 a.turns a.so_far a.room h.5.0 h.5.1
      where
        stuck : (rest : List ℕ) (t : ℕ) (f : SoFar) → length rest ≤ t → 0 < length rest → StopsAt rest at → read_lines S C t line f rest ≡ faulty (bad_word line at)
        stuck [] t f k z s = let v : ⊥ = omega arith in absurd v
        stuck (b ∷ bs) zero f k z s = let v : ⊥ = omega arith in absurd v
        stuck (b ∷ bs) (suc t) f k z s = word_fault t line f b bs at (stop_complete (b ∷ bs) at s)

    -- lines are missing at the end
    missing_is : (f : SoFar) (before : List Line) (t line : ℕ) → after nothing before ≡ some f → length before < 3 → read_lines S C t line f [] ≡ faulty (bad_order line)
    missing_is nothing before t line e h = at_last t
      where
        at_last : (t : ℕ) → read_lines S C t line nothing [] ≡ faulty (bad_order line)
        at_last t = refl
    missing_is (named name) before t line e h = refl
    missing_is (sized name n q) before t line e h = refl
    missing_is (full r) before t line e h =
        let is : length (lines r) ≡ length before = ap length (after_lines before nothing (full r) e) in
        let v : ⊥ = omega arith in
        absurd v

    order_is : (line : ℕ) → Behind S C bytes line (λ before rest. ((l : Line) × NextLine rest l × (InOrder before l → ⊥)) ⊎ ((rest ≡ []) × (length before < 3)))
        → read S C bytes ≡ faulty (bad_order line)
    order_is line h =
        let before = h.0 in
        let a = arrive line before h.1 h.4.0 h.4.1 h.2 h.3 h.4.2 h.4.3 in
        let f = a.so_far in
        ⊎_elim
        (λ w.
        let l = w.0 in
        let n = next f a.turns line h.1 l w.1.1.0 a.room w.1.0 w.1.1.1 in
        let out : (o : Option SoFar) → onward f l ≡ o → onward f l ≡ none =
        elim [
          | none ↦ λ d. d
          | some g ↦ λ d.
              absurd (w.2 (
                completed g,
                missing g,
                completed_lines g ∙ ap (λ z. z ++ missing g) (after_lines (before ++ (l ∷ [])) nothing g (after_push before l nothing f g a.order d)) ∙ append_assoc before (l ∷ []) (missing g),
              ))
        ] in
        a.reading ∙ n.same ∙ order_fault n.t line f n.b n.bs l n.place w.1.1.0 n.first (out (onward f l) refl))
        (λ w. a.reading ∙ ap (λ z. read_lines S C a.turns line f z) w.0 ∙ missing_is f before a.turns line a.order w.1)
        h.5

    range_is : (line at : ℕ) → Behind S C bytes line (λ before rest. (l : Line) × NextLine rest l × FirstOutside S C before l at) → read S C bytes ≡ faulty (bad_range line at)
    range_is line at h =
        let before = h.0 in
        let a = arrive line before h.1 h.4.0 h.4.1 h.2 h.3 h.4.2 h.4.3 in
        let f = a.so_far in
        let w = h.5 in
        let l = w.0 in
        let o = w.2 in
        let q = o.3 in
        let k = q.1 in
        let n = next f a.turns line h.1 l w.1.1.0 a.room w.1.0 w.1.1.1 in
        let i = in_order before f o.0 l o.1 a.order o.2 in
        let alike : numbers S C o.0.states l ≡ numbers S C (states_so_far i.0) l = onward_numbers S C f l i.0 i.1 o.1 (full o.0) i.2 in
        let out : first outside (numbers S C (states_so_far i.0) l) ≡ some k = ap (λ z. first outside z) (sym alike ∙ q.3) ∙ some_first q.0 k q.2 q.4 q.5 in
        a.reading ∙ n.same ∙ range_fault n.t line f n.b n.bs l n.place w.1.1.0 i.0 k n.first i.1 out ∙ ap (λ z. faulty (bad_range line z)) q.6

    -- all lines of a rule in range
    ends : (r : TextRule) → bytes ≡ text r → Ranged S C r → (t : ℕ) × (read S C bytes ≡ at_end S C (length (lines r) + 1) (full r))
    ends r e h =
        let a = arrive (length (lines r) + 1) (lines r) [] r [] (e ∙ sym (append-nil (text r))) refl (sym (append-nil (lines r))) h in
        let is : a.so_far ≡ full r = some_same (sym a.order ∙ after_rule r) in
        (a.turns, a.reading ∙ ap (λ z. read_lines S C a.turns (length (lines r) + 1) z []) is)

    unreached_is : (r : TextRule) → bytes ≡ text r → Ranged S C r → (AllReached (meaning S C r) → ⊥) → read S C bytes ≡ faulty (Unreached (length (lines r) + 1))
    unreached_is r e h k =
        let exact = all_reached_exact S C r h.starts in
        by_test (all_reached S C r) (λ t. absurd (k (exact.0 t))) (λ t. (ends r e h).1 ∙ rw (t, at_end))

    reads_is : (r : TextRule) → bytes ≡ text r → Ranged S C r → AllReached (meaning S C r) → read S C bytes ≡ reads r
    reads_is r e h k = let t = (all_reached_exact S C r h.starts).1 k in (ends r e h).1 ∙ rw (t, at_end)

  said : (bytes : List ℕ) (f : ReadFault) → Says S C bytes f → read S C bytes ≡ faulty f
  said bytes Numbers h = by_test (numbers_in_range S C) (λ t. absurd (h (numbers_true S C t))) (λ t. read_numbers S C bytes t)
  said bytes Length h =
      by_test (between 1 4096 (length bytes)) (λ t. absurd (h.1 (between_true 1 4096 (length bytes) t))) (λ t. read_length S C bytes (true_numbers S C h.0) t)
  said bytes (OfLine (Word w)) h = word_is bytes h.0 h.1 w.line w.byte h.2
  said bytes (OfLine (Order line)) h = order_is bytes h.0 h.1 line h.2
  said bytes (OfLine (Range line at)) h = range_is bytes h.0 h.1 line at h.2
  said bytes (Unreached line) h = let w = h.2 in unreached_is bytes h.0 h.1 w.0 w.1 w.3 w.4 ∙ ap (λ z. faulty (Unreached z)) (sym w.2)

pub reading_exact : ReadingExact
reading_exact S C bytes r = ((λ e. subst (λ z. Verdict S C bytes z) e (verdict S C bytes)), (λ h. reads_is S C bytes h.0 h.1 r h.2 h.3 h.4))

pub faults_exact : FaultsExact
faults_exact S C bytes f = ((λ e. subst (λ z. Verdict S C bytes z) e (verdict S C bytes)), (λ h. said S C bytes f h))

pub reading_decided : ReadingDecided
reading_decided S C bytes = (read S C bytes, verdict S C bytes, only)
  where
    only : (w : Reading) → ReadingSays S C bytes w → w ≡ read S C bytes
    only (reads r) h = sym ((reading_exact S C bytes r).1 h)
    only (faulty f) h = sym ((faults_exact S C bytes f).1 h)
