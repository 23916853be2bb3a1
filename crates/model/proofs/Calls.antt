-- Each call has exactly the outcome that its sentence gives.
use Rattle.std.proofs.Common.{◌≡◌, ℕ, ◌+◌, ◌<◌, ◌≤◌, Bool, true, false, not, ◌&&◌, eqb, ltb, leb, ◌⊎◌, ◌↔◌, List, [], ◌∷◌, ◌++◌, length, Decides, sym, refl, ap, ◌∙◌, subst, inl, inr, arith}
use mathlib.Core.Option.{Option, none, some}
use Rattle.std.specs.List.{filter}
use Rattle.std.proofs.lemmas.Bool.{cases_Bool, cases_lt, and_parts, and_from, eqb-true, eq-eqb, leb-true, leb-false, le-leb, lt-leb, ltb-true, ltb-false, lt-ltb, le-ltb, not_from_true, not_from_false, both_ways}
use Rattle.std.proofs.lemmas.Bool.Decides.{nat_tests, Decides-and, Decides-eqb}
use Rattle.model.specs.declared.refusal.Refusal.{Refusal}
use Rattle.model.specs.declared.refusal.Refusal.TheVariants.{OutOfRange, HouseRule, UnlikeRule, NameTaken, NoRoom, NoSuchName, OverLimit, NoSituation, ShortBuffer}
use Rattle.model.specs.Lists.{any, In}
use Rattle.model.specs.Automaton.{Automaton}
use Rattle.model.specs.Text.{Named, ReadRule, blank, filled, between, numbers_in_range}
use Rattle.model.specs.Positions.{same, Solution, found, none_found, too_crowded}
use Rattle.model.specs.Positions as Positions
use Rattle.model.specs.Sheet.{Sheet, Stored, look, looked, rules, with_added, with_limit, with_stored, Call, add, withdraw, limit, solve, frame, write, check, done, command, wrote, refused, Outcome, answers, small, same_name, add_to, withdraw_from, limit_on, solve_with, moved, current_command, frame_with, write_with, file_of, overwritten, on_good_sheet, respond}
use Rattle.model.specs.SheetLaws.{SameLetter, SameName, NamesExact, InRange, FitsSheet, LookExact, Like, HasName, HasRoom, Others, end, drops, keeps, Does, add_blank, add_unlike, add_taken, add_full, adds, withdraw_unknown, withdraws, limit_over, limits, finds, finds_none, crowds, frame_none, frame_large, moves, write_none, write_short, writes, checks, CallsExact}
use Rattle.model.proofs.Lists.{decides_any}

-- a test that decides what fails is false
fails : {P : Type 0} (b : Bool) → Decides b P → (P → ⊥) → b ≡ false
fails {P} b d n = go (cases_Bool b)
  where
    go : (b ≡ true) ⊎ (b ≡ false) → b ≡ false
    go (inl t) = absurd (n (d.0 t))
    go (inr f) = f

denies : {P : Type 0} (b : Bool) → Decides b P → b ≡ false → P → ⊥
denies b d f p = both_ways b f (d.1 p)

-- NAMES

letter_exact : (a b : ℕ) → Decides (eqb (small a) (small b)) (SameLetter a b)
letter_exact a b = (forth, back)
  where
    Capital : ℕ → Type 0
    Capital n = ((65 ≤ n) × (n ≤ 90) × (small n ≡ n + 32)) ⊎ (((n < 65) ⊎ (90 < n)) × (small n ≡ n))

    capital : (n : ℕ) → Capital n
    capital n = go (cases_lt n 65) (cases_lt 90 n)
      where
        go : (n < 65) ⊎ (65 ≤ n) → (90 < n) ⊎ (n ≤ 90) → Capital n
        go (inl l) h = inr (inl l, grind (arith, nat_tests))
        go (inr l) (inl h) = inr (inr h, grind (arith, nat_tests))
        go (inr l) (inr h) = inl (l, h, grind (arith, nat_tests))

    forth : eqb (small a) (small b) ≡ true → SameLetter a b
    forth e = go (eqb-true (small a) (small b) e) (capital a) (capital b)
      where
        go : small a ≡ small b → Capital a → Capital b → SameLetter a b
        go e (inl (l, h, f)) (inl (m, k, g)) = inl (omega arith)
        go e (inl (l, h, f)) (inr (o, g)) = inr (inl (l, h, omega arith))
        go e (inr (o, f)) (inl (m, k, g)) = inr (inr (m, k, omega arith))
        go e (inr (o, f)) (inr (p, g)) = inl (omega arith)

    back : SameLetter a b → eqb (small a) (small b) ≡ true
    back (inl e) = eq-eqb (small a) (small b) (ap small e)
    back (inr (inl (l, h, e))) = eq-eqb (small a) (small b) (go (capital a) (capital b))
      where
        go : Capital a → Capital b → small a ≡ small b
        go (inl (l, h, f)) (inl (m, k, g)) = absurd (omega arith)
        go (inl (l, h, f)) (inr (o, g)) = omega arith
        go (inr (inl o, f)) c = absurd (omega arith)
        go (inr (inr o, f)) c = absurd (omega arith)
    back (inr (inr (l, h, e))) = eq-eqb (small a) (small b) (go (capital a) (capital b))
      where
        go : Capital a → Capital b → small a ≡ small b
        go (inl (l, h, f)) (inl (m, k, g)) = absurd (omega arith)
        go (inr (o, f)) (inl (m, k, g)) = omega arith
        go c (inr (inl o, f)) = absurd (omega arith)
        go c (inr (inr o, f)) = absurd (omega arith)

pub names_exact : NamesExact
names_exact [] [] = (λ e. tt, λ h. refl)
names_exact [] (b ∷ bs) = (λ e. (let z : ◌≡◌ {A = ℕ} 0 1 = cc in absurd (omega arith)), λ h. absurd h)
names_exact (a ∷ more) [] = (λ e. (let z : ◌≡◌ {A = ℕ} 0 1 = cc in absurd (omega arith)), λ h. absurd h)
names_exact (a ∷ more) (b ∷ bs) = go (cases_Bool (eqb (small a) (small b))) (names_exact more bs)
  where
    go : (eqb (small a) (small b) ≡ true) ⊎ (eqb (small a) (small b) ≡ false) → (same_name more bs ≡ true) ↔ SameName more bs → (same_name (a ∷ more) (b ∷ bs) ≡ true) ↔ (SameLetter a b × SameName more bs)
    go (inl t) (f, g) = let e : same_name (a ∷ more) (b ∷ bs) ≡ same_name more bs = rw (t, same) in (λ k. ((letter_exact a b).0 t, f (sym e ∙ k)), λ h. e ∙ g h.1)
    go (inr n) (f, g) = let e : same_name (a ∷ more) (b ∷ bs) ≡ false = rw (n, same) in (λ k. absurd (both_ways (same_name (a ∷ more) (b ∷ bs)) e k), λ h. absurd (both_ways (eqb (small a) (small b)) n ((letter_exact a b).1 h.0)))

abbrev pub others : List ℕ → Named → Bool
others name a = not (same_name name a.name)

pub others_kept : (name : List ℕ) (L : List Named) → Others name L (filter (others name) L)
others_kept name [] = end
others_kept name (a ∷ L) = go (cases_Bool (same_name name a.name)) (others_kept name L)
  where
    go : (same_name name a.name ≡ true) ⊎ (same_name name a.name ≡ false) → Others name L (filter (others name) L) → Others name (a ∷ L) (filter (others name) (a ∷ L))
    go (inl t) h = rw (not_from_true (same_name name a.name) t) (drops a ((names_exact name a.name).0 t) h)
    go (inr n) h = rw (not_from_false (same_name name a.name) n) (keeps a (λ s. both_ways (same_name name a.name) n ((names_exact name a.name).1 s)) h)

others_only : (name : List ℕ) {L M : List Named} → Others name L M → filter (others name) L ≡ M
others_only name end = refl
others_only name (drops a s h) = rw (not_from_true (same_name name a.name) ((names_exact name a.name).1 s)) (others_only name h)
others_only name (keeps {L} {M} a n h) =
    rw (not_from_false (same_name name a.name) (fails (same_name name a.name) (names_exact name a.name) n)) (ap {B = List Named} (λ l. a ∷ l) (others_only name h))

-- what is left has other names, and whatever has another name is left
pub others_in : (name : List ℕ) {L M : List Named} → Others name L M → (a : Named) → In M a → In L a × (SameName name a.name → ⊥)
others_in name end a i = absurd i
others_in name (drops b s h) a i = let (j, n) = others_in name h a i in (inr j, n)
others_in name (keeps b m h) a (inl e) = (inl e, subst (λ (c : Named). SameName name c.name → ⊥) (sym e) m)
others_in name (keeps b m h) a (inr i) = let (j, n) = others_in name h a i in (inr j, n)

pub in_others : (name : List ℕ) {L M : List Named} → Others name L M → (a : Named) → In L a → (SameName name a.name → ⊥) → In M a
in_others name end a i n = absurd i
in_others name (drops b s h) a (inl e) n = absurd (n (subst (λ (c : Named). SameName name c.name) (sym e) s))
in_others name (drops b s h) a (inr i) n = in_others name h a i n
in_others name (keeps b m h) a (inl e) n = inl e
in_others name (keeps b m h) a (inr i) n = inr (in_others name h a i n)

-- LOOK

module _ (house : Automaton) (S C capacity : ℕ) where
  ranges : Decides (numbers_in_range S C && between 1 1024 capacity) (InRange S C capacity)
  ranges = (forth, λ h. and_from (numbers_in_range S C) (between 1 1024 capacity) (and_from (between 1 8 S) (between 1 8 C) (both 1 8 S h.0 h.1) (both 1 8 C h.2 h.3)) (both 1 1024 capacity h.4 h.5))
    where
      both : (low high n : ℕ) → low ≤ n → n ≤ high → between low high n ≡ true
      both low high n h k = and_from (leb low n) (leb n high) (le-leb low n h) (le-leb n high k)

      ends : (low high n : ℕ) → between low high n ≡ true → (low ≤ n) × (n ≤ high)
      ends low high n e = let (a, b) = and_parts (leb low n) (leb n high) e in (leb-true low n a, leb-true n high b)

      forth : (numbers_in_range S C && between 1 1024 capacity) ≡ true → InRange S C capacity
      forth e =
          let (a, b) = and_parts (numbers_in_range S C) (between 1 1024 capacity) e in
          let (c, d) = and_parts (between 1 8 S) (between 1 8 C) a in
          let (s1, s2) = ends 1 8 S c in
          let (c1, c2) = ends 1 8 C d in
          let (k1, k2) = ends 1 1024 capacity b in
          (s1, s2, c1, c2, k1, k2)

  fits : Decides (leb house.states 12 && (eqb house.situations S && eqb house.commands C)) (FitsSheet house S C)
  fits = (
    (λ e.
        let (a, b) = and_parts (leb house.states 12) (eqb house.situations S && eqb house.commands C) e in
        let (c, d) = and_parts (eqb house.situations S) (eqb house.commands C) b in
        (leb-true house.states 12 a, eqb-true house.situations S c, eqb-true house.commands C d)),
    λ h. and_from (leb house.states 12) (eqb house.situations S && eqb house.commands C) (le-leb house.states 12 h.0)
        (and_from (eqb house.situations S) (eqb house.commands C) (eq-eqb house.situations S h.1) (eq-eqb house.commands C h.2)),
  )

  -- which of the three it is
  abbrev First : Bool
  First = numbers_in_range S C && between 1 1024 capacity

  abbrev Second : Bool
  Second = leb house.states 12 && (eqb house.situations S && eqb house.commands C)

  data Looked : Type 0 where
    out : look house S C capacity ≡ some OutOfRange → (InRange S C capacity → ⊥) → Looked
    unlike : look house S C capacity ≡ some HouseRule → InRange S C capacity → (FitsSheet house S C → ⊥) → Looked
    good : look house S C capacity ≡ none → InRange S C capacity → FitsSheet house S C → Looked

  looks : Looked
  unfolding look
  looks = go (cases_Bool First) (cases_Bool Second)
    where
      go : (First ≡ true) ⊎ (First ≡ false) → (Second ≡ true) ⊎ (Second ≡ false) → Looked
      go (inr n) b = out (rw (n, look)) (denies First ranges n)
      go (inl t) (inr n) = unlike (rw (t, n, look)) (ranges.0 t) (denies Second fits n)
      go (inl t) (inl u) = good (rw (t, u, look)) (ranges.0 t) (fits.0 u)

pub look_exact : LookExact
look_exact house S C capacity = go (looks house S C capacity)
  where
    go : Looked house S C capacity
        → ((look house S C capacity ≡ none) ↔ (InRange S C capacity × FitsSheet house S C))
        × ((look house S C capacity ≡ some OutOfRange) ↔ (InRange S C capacity → ⊥))
        × ((look house S C capacity ≡ some HouseRule) ↔ (InRange S C capacity × (FitsSheet house S C → ⊥)))
    go (out e n) = (
      (λ f. (let z : ◌≡◌ {A = ℕ} 0 1 = cc in absurd (omega arith)), λ h. absurd (n h.0)),
      (λ f. n, λ h. e),
      (λ f. (let z : ◌≡◌ {A = ℕ} 0 1 = cc in absurd (omega arith)), λ h. absurd (n h.0)),
    )
    go (unlike e r n) = (
      (λ f. (let z : ◌≡◌ {A = ℕ} 0 1 = cc in absurd (omega arith)), λ h. absurd (n h.1)),
      (λ f. (let z : ◌≡◌ {A = ℕ} 0 1 = cc in absurd (omega arith)), λ h. absurd (h r)),
      (λ f. (r, n), λ h. e),
    )
    go (good e r y) = (
      (λ f. (r, y), λ h. e),
      (λ f. (let z : ◌≡◌ {A = ℕ} 0 1 = cc in absurd (omega arith)), λ h. absurd (h r)),
      (λ f. (let z : ◌≡◌ {A = ℕ} 0 1 = cc in absurd (omega arith)), λ h. absurd (h.1 y)),
    )

-- CALLS

module _ (s : Sheet) where
  abbrev like_test : Named → Bool
  like_test r = eqb r.rule.situations s.situations && eqb r.rule.commands s.commands

  abbrev name_test : List ℕ → Bool
  name_test name = any (λ (a : Named). same_name name a.name) s.added

  abbrev room_test : Named → Bool
  room_test r = ltb (length s.added) 4 && leb ((rules s).states + r.rule.states) 16

  like_decides : (r : Named) → Decides (like_test r) (Like s r)
  like_decides r = Decides-and (eqb r.rule.situations s.situations) (eqb r.rule.commands s.commands) (Decides-eqb r.rule.situations s.situations) (Decides-eqb r.rule.commands s.commands)

  name_decides : (name : List ℕ) → Decides (name_test name) (HasName s name)
  name_decides name = decides_any (λ (a : Named). same_name name a.name) (λ (a : Named). SameName name a.name) (λ a. names_exact name a.name) s.added

  room_decides : (r : Named) → Decides (room_test r) (HasRoom s r)
  room_decides r = (
    (λ e. let (a, b) = and_parts (ltb (length s.added) 4) (leb ((rules s).states + r.rule.states) 16) e in (ltb-true (length s.added) 4 a, leb-true ((rules s).states + r.rule.states) 16 b)),
    λ h. and_from (ltb (length s.added) 4) (leb ((rules s).states + r.rule.states) 16) (lt-ltb (length s.added) 4 h.0) (le-leb ((rules s).states + r.rule.states) 16 h.1),
  )

  -- add, withdraw, limit
  added_is : (r : Named) → like_test r ≡ true → name_test r.name ≡ false → room_test r ≡ true → add_to s (filled r) ≡ answers (with_added s (s.added ++ (r ∷ []))) done
  added_is r t y z = rw (t, y, z, add_to)

  unlike_is : (r : Named) → like_test r ≡ false → add_to s (filled r) ≡ answers s (refused UnlikeRule)
  unlike_is r n = rw (n, add_to)

  taken_is : (r : Named) → like_test r ≡ true → name_test r.name ≡ true → add_to s (filled r) ≡ answers s (refused NameTaken)
  taken_is r t y = rw (t, y, add_to)

  full_is : (r : Named) → like_test r ≡ true → name_test r.name ≡ false → room_test r ≡ false → add_to s (filled r) ≡ answers s (refused NoRoom)
  full_is r t y n = rw (t, y, n, add_to)

  add_does : (rule : ReadRule) → Does s (add rule) (add_to s rule)
  add_does blank = add_blank
  add_does (filled r) = go (cases_Bool (like_test r)) (cases_Bool (name_test r.name)) (cases_Bool (room_test r))
    where
      go : (like_test r ≡ true) ⊎ (like_test r ≡ false) → (name_test r.name ≡ true) ⊎ (name_test r.name ≡ false) → (room_test r ≡ true) ⊎ (room_test r ≡ false) → Does s (add (filled r)) (add_to s (filled r))
      go (inr n) b c = subst (Does s (add (filled r))) (sym (unlike_is r n)) (add_unlike r (denies (like_test r) (like_decides r) n))
      go (inl t) (inl y) c = subst (Does s (add (filled r))) (sym (taken_is r t y)) (add_taken r ((like_decides r).0 t) ((name_decides r.name).0 y))
      go (inl t) (inr y) (inr n) = subst (Does s (add (filled r))) (sym (full_is r t y n)) (add_full r ((like_decides r).0 t) (denies (name_test r.name) (name_decides r.name) y) (denies (room_test r) (room_decides r) n))
      go (inl t) (inr y) (inl z) = subst (Does s (add (filled r))) (sym (added_is r t y z)) (adds r ((like_decides r).0 t) (denies (name_test r.name) (name_decides r.name) y) ((room_decides r).0 z))

  withdrawn_is : (name : List ℕ) → name_test name ≡ true → withdraw_from s name ≡ answers (with_added s (filter (others name) s.added)) done
  withdrawn_is name t = rw (t, withdraw_from)

  unknown_is : (name : List ℕ) → name_test name ≡ false → withdraw_from s name ≡ answers s (refused NoSuchName)
  unknown_is name n = rw (n, withdraw_from)

  withdraw_does : (name : List ℕ) → Does s (withdraw name) (withdraw_from s name)
  withdraw_does name = go (cases_Bool (name_test name))
    where
      go : (name_test name ≡ true) ⊎ (name_test name ≡ false) → Does s (withdraw name) (withdraw_from s name)
      go (inl t) = subst (Does s (withdraw name)) (sym (withdrawn_is name t)) (withdraws name (filter (others name) s.added) ((name_decides name).0 t) (others_kept name s.added))
      go (inr n) = subst (Does s (withdraw name)) (sym (unknown_is name n)) (withdraw_unknown name (denies (name_test name) (name_decides name) n))

  limited_is : (n : ℕ) → leb n 14 ≡ true → limit_on s n ≡ answers (with_limit s n) done
  limited_is n t = rw (t, limit_on)

  over_is : (n : ℕ) → leb n 14 ≡ false → limit_on s n ≡ answers s (refused OverLimit)
  over_is n f = rw (f, limit_on)

  limit_does : (n : ℕ) → Does s (limit n) (limit_on s n)
  limit_does n = go (cases_Bool (leb n 14))
    where
      go : (leb n 14 ≡ true) ⊎ (leb n 14 ≡ false) → Does s (limit n) (limit_on s n)
      go (inl t) = subst (Does s (limit n)) (sym (limited_is n t)) (limits n (leb-true n 14 t))
      go (inr f) = subst (Does s (limit n)) (sym (over_is n f)) (limit_over n (leb-false n 14 f))

  -- solve
  solve_does : (x : Solution) → Positions.solve (rules s) s.capacity s.limit ≡ x → Does s solve (solve_with s x)
  solve_does (found f) e = finds f e
  solve_does none_found e = finds_none e
  solve_does too_crowded e = crowds e

  -- frame
  frame_moved : (x : ℕ) (k : Stored) → ltb x s.situations ≡ true → frame_with s x (some k) ≡ answers (with_stored s (some (moved k x))) (command (current_command (moved k x)))
  frame_moved x k t = rw (t, frame_with)

  frame_beyond : (x : ℕ) (k : Stored) → ltb x s.situations ≡ false → frame_with s x (some k) ≡ answers s (refused NoSituation)
  frame_beyond x k n = rw (n, frame_with)

  frame_does : (x : ℕ) (o : Option Stored) → s.stored ≡ o → Does s (frame x) (frame_with s x o)
  frame_does x none e = frame_none x e
  frame_does x (some k) e = go (cases_Bool (ltb x s.situations))
    where
      go : (ltb x s.situations ≡ true) ⊎ (ltb x s.situations ≡ false) → Does s (frame x) (frame_with s x (some k))
      go (inl t) = subst (Does s (frame x)) (sym (frame_moved x k t)) (moves x k e (ltb-true x s.situations t))
      go (inr n) = subst (Does s (frame x)) (sym (frame_beyond x k n)) (frame_large x k e (ltb-false x s.situations n))

  -- write
  abbrev fit_test : List ℕ → Stored → Bool
  fit_test buffer k = leb (length (file_of s k.found)) (length buffer)

  written_is : (buffer : List ℕ) (k : Stored) → fit_test buffer k ≡ true → write_with s buffer (some k) ≡ answers s (wrote (length (file_of s k.found)) (overwritten (file_of s k.found) buffer))
  written_is buffer k t = rw (t, write_with)

  short_is : (buffer : List ℕ) (k : Stored) → fit_test buffer k ≡ false → write_with s buffer (some k) ≡ answers s (refused ShortBuffer)
  short_is buffer k n = rw (n, write_with)

  write_does : (buffer : List ℕ) (o : Option Stored) → s.stored ≡ o → Does s (write buffer) (write_with s buffer o)
  write_does buffer none e = write_none buffer e
  write_does buffer (some k) e = go (cases_Bool (fit_test buffer k))
    where
      go : (fit_test buffer k ≡ true) ⊎ (fit_test buffer k ≡ false) → Does s (write buffer) (write_with s buffer (some k))
      go (inl t) = subst (Does s (write buffer)) (sym (written_is buffer k t)) (writes buffer k e (leb-true (length (file_of s k.found)) (length buffer) t))
      go (inr n) = subst (Does s (write buffer)) (sym (short_is buffer k n)) (write_short buffer k e (leb-false (length (file_of s k.found)) (length buffer) n))

  -- every call
  good_does : (call : Call) → Does s call (on_good_sheet s call)
  good_does (add rule) = add_does rule
  good_does (withdraw name) = withdraw_does name
  good_does (limit n) = limit_does n
  good_does solve = solve_does (Positions.solve (rules s) s.capacity s.limit) refl
  good_does (frame x) = frame_does x s.stored refl
  good_does (write buffer) = write_does buffer s.stored refl
  good_does (check bytes) = checks bytes

  -- and no other
  does_only : {call : Call} {o : Outcome} → Does s call o → on_good_sheet s call ≡ o
  does_only add_blank = refl
  does_only (add_unlike r n) = unlike_is r (fails (like_test r) (like_decides r) n)
  does_only (add_taken r l h) = taken_is r ((like_decides r).1 l) ((name_decides r.name).1 h)
  does_only (add_full r l n m) = full_is r ((like_decides r).1 l) (fails (name_test r.name) (name_decides r.name) n) (fails (room_test r) (room_decides r) m)
  does_only (adds r l n h) = added_is r ((like_decides r).1 l) (fails (name_test r.name) (name_decides r.name) n) ((room_decides r).1 h)
  does_only (withdraw_unknown name n) = unknown_is name (fails (name_test name) (name_decides name) n)
  does_only (withdraws name rest h o) = withdrawn_is name ((name_decides name).1 h) ∙ ap (λ l. answers (with_added s l) done) (others_only name o)
  does_only (limit_over n h) = over_is n (lt-leb n 14 h)
  does_only (limits n h) = limited_is n (le-leb n 14 h)
  does_only (finds f e) = ap (solve_with s) e
  does_only (finds_none e) = ap (solve_with s) e
  does_only (crowds e) = ap (solve_with s) e
  does_only (frame_none x e) = ap (frame_with s x) e
  does_only (frame_large x k e h) = ap (frame_with s x) e ∙ frame_beyond x k (le-ltb x s.situations h)
  does_only (moves x k e h) = ap (frame_with s x) e ∙ frame_moved x k (lt-ltb x s.situations h)
  does_only (write_none buffer e) = ap (write_with s buffer) e
  does_only (write_short buffer k e h) = ap (write_with s buffer) e ∙ short_is buffer k (lt-leb (length (file_of s k.found)) (length buffer) h)
  does_only (writes buffer k e h) = ap (write_with s buffer) e ∙ written_is buffer k (le-leb (length (file_of s k.found)) (length buffer) h)
  does_only (checks bytes) = refl

  pub respond_is : (call : Call) → looked s ≡ none → respond s call ≡ on_good_sheet s call
  unfolding respond
  respond_is call e = rw (e, respond)

  pub refused_is : (call : Call) (r : Refusal) → looked s ≡ some r → respond s call ≡ answers s (refused r)
  unfolding respond
  refused_is call r e = rw (e, respond)

  pub does : looked s ≡ none → (call : Call) → Does s call (respond s call)
  does e call = subst (Does s call) (sym (respond_is call e)) (good_does call)

pub calls_exact : CallsExact
calls_exact s call = ((λ e o. ((λ k. subst (Does s call) k (does s e call)), λ d. respond_is s call e ∙ does_only s d)), λ r e. refused_is s call r e)
