-- The flags that pruning leaves are the model's safe part. Assumes nothing.
use Rattle.std.proofs.Common.{◌≡◌, ℕ, zero, suc, ◌+◌, ◌<◌, ◌≤◌, Bool, true, false, ◌&&◌, ltb, List, [], ◌++◌, length, get_or, take, Some, None, Option, sym, refl, ap, ◌∙◌, subst, inl, inr, true≢false, zero-le, arith}
use mathlib.Core.Bool.{false≢true}
use mathlib.Core.Option.{some}
use Rattle.std.proofs.lemmas.List.{length-map, length-take-le, get_or_append_left}
use Rattle.synthesis.specs.declared.position.Position.{Position as Stored}
use Rattle.std.specs.List.{range_with_len}
use Rattle.std.proofs.lemmas.Bool.{lt-ltb, ltb-true, and_parts, and_from, cases_Bool}
use Rattle.model.specs.Automaton.{Automaton}
use Rattle.model.specs.Lists.{In}
use Rattle.model.specs.Positions.{Position, step, fits, reach, member, holds, safe_part, lowest, command_at}
use Rattle.model.proofs.Lists.{in_getD}
use Rattle.model.proofs.Runs.{step_length}
use Rattle.model.proofs.Reaching.{reach_exact, reach_fits, pruned_keeps, part_in, part_kept}
use Rattle.synthesis.proofs.Deciding.{same_bool, fits_complete, member_sound, member_complete, holds_sound, holds_complete}
use Rattle.synthesis.specs.Tables.{view}
use Rattle.synthesis.specs.Surveys.{shown, Leads, Stepping, Reached}
use Rattle.synthesis.specs.Safety.{link, flag, into, Holding, Closed, Safest}
use Rattle.synthesis.proofs.Lowest.{into_some}
use Rattle.synthesis.proofs.Pruned.{flag_inside}

-- a step that is in the list has a link to it
pub link_of : (c : ℕ) (L : List Position) (Q : Position) (o : Option ℕ) → fits c Q ≡ true → Leads c L Q o → (l : ℕ) × (o ≡ Some l) × (l < length L) × (get_or L l [] ≡ Q)
link_of c L Q None e h = absurd (true≢false (sym e ∙ h))
link_of c L Q (Some l) e h = (l, refl, h.1, h.2)

-- a link leads to the step
pub link_to : (c : ℕ) (L : List Position) (Q : Position) (o : Option ℕ) (l : ℕ) → Leads c L Q o → o ≡ Some l → get_or L l [] ≡ Q
link_to c L Q o l h e = (subst (λ v. Leads c L Q v) e h).2

-- Reach(c) is not over c
pub listed_fits : (A : Automaton) (c room : ℕ) (L : List Position) → reach A c room ≡ some L → (Q : Position) → In L Q → length Q ≡ A.states → fits c Q ≡ true
listed_fits A c room L e Q i w =
    let r = (((reach_exact A c room).0 L e).2 Q).0 i in
    fits_complete c Q (λ q h. reach_fits A c {P = Q} r q (subst (λ n. q < n) w h))

module _ (A : Automaton) (c : ℕ) (L : List Position) (links : List (List (Option ℕ))) (table : Stepping A c L links)
    (low : (u x h : ℕ) → In L (step A u x (get_or L h [])) → fits c (step A u x (get_or L h [])) ≡ true) where
  -- into a set R within the list, by the table and by the model
  module _ (R : List Position) (within : (Q : Position) → In R Q → In L Q) (flags : List Bool) (long : length flags ≡ length L)
      (is : (h : ℕ) → h < length L → flag flags h ≡ member R (get_or L h [])) where
    pub holding_holds : (h u : ℕ) → h < length L → u < A.commands → Holding A.situations links (flag flags) h u → holds A R (get_or L h []) u ≡ true
    holding_holds h u hl hu k =
        holds_complete A R (get_or L h []) u
        (λ x hx.
        let p = into_some (flag flags) (link links h u x) (k x hx) in
        let lt : p.0 < length L = let i = flag_inside flags p.0 p.2 in omega (arith, i, long) in
        let q = link_to c L (step A u x (get_or L h [])) (link links h u x) p.0 (table h u x hl hu hx) p.1 in
        subst (λ v. In R v) q (member_sound R (get_or L p.0 []) (sym (is p.0 lt) ∙ p.2)))

    pub holds_holding : (h u : ℕ) → h < length L → u < A.commands → holds A R (get_or L h []) u ≡ true → Holding A.situations links (flag flags) h u
    holds_holding h u hl hu k x hx =
        let i = holds_sound A R (get_or L h []) u k x hx in
        let Q = step A u x (get_or L h []) in
        let q = link_of c L Q (link links h u x) (low u x h (within Q i)) (table h u x hl hu hx) in
        ap (into (flag flags)) q.1 ∙ is q.0 q.2 ∙ ap {B = Bool} (member R) q.3 ∙ member_complete R Q i

    lowest_is : (f : ℕ → Bool) (a n u : ℕ) → a ≤ u → u < a + n → f u ≡ true → ((v : ℕ) → a ≤ v → v < u → f v ≡ false) → lowest f (range_with_len a n) ≡ u
    lowest_is f a zero u h k t r = absurd (omega arith)
    lowest_is f a (suc n) u h k t r = go (f a) refl (lowest_is f (a + 1) n u)
      where
        go : (b : Bool) → f a ≡ b
            → (a + 1 ≤ u → u < a + 1 + n → f u ≡ true → ((v : ℕ) → a + 1 ≤ v → v < u → f v ≡ false) → lowest f (range_with_len (a + 1) n) ≡ u)
            → elim b as (λ v. ℕ) [ true ↦ a | false ↦ lowest f (range_with_len (a + 1) n) ] ≡ u
        go true e i = omega (arith, λ (p : a < u). true≢false (sym e ∙ r a (omega arith) p))
        go false e i =
            let ne : a ≡ u → ⊥ = λ p. false≢true (sym e ∙ ap f p ∙ t) in
            i (omega (arith, ne)) (omega arith) t (λ v l m. r v (omega arith) m)

    -- the lowest command that holds is the model's
    pub choice_is : (h u : ℕ) → h < length L → u < A.commands → Holding A.situations links (flag flags) h u
        → ((v : ℕ) → v < u → Holding A.situations links (flag flags) h v → ⊥) → command_at A R (get_or L h []) ≡ u
    unfolding command_at
    choice_is h u hl hu k least =
        lowest_is (holds A R (get_or L h [])) 0 A.commands u zero-le (omega arith) (holding_holds h u hl hu k)
        (λ v _ lt. elim (cases_Bool (holds A R (get_or L h []) v)) [
          | inl e ↦ absurd (least v lt (holds_holding h v hl (omega arith) e))
          | inr e ↦ e
        ])

  -- pruning
  abbrev Flagged : List Bool → Position → Type 0
  Flagged flags P = (k : ℕ) × (flag flags k ≡ true) × (get_or L k [] ≡ P)

  abbrev safe_at : ℕ → Bool
  safe_at k = ltb k (length L) && member (safe_part A L) (get_or L k [])

  pub safe_within : (Q : Position) → In (safe_part A L) Q → In L Q
  safe_within Q i = part_in A L Q i

  -- what is flagged is safe
  flagged_safe : (flags : List Bool) → length flags ≡ length L → Closed A.commands A.situations (length flags) links (flag flags) → (P : Position) → Flagged flags P → In (safe_part A L) P
  unfolding safe_part
  flagged_safe flags long closed P f =
      pruned_keeps A (Flagged flags)
      (λ Q s.
      let b = (closed s.0 s.1).1 in
      let hl : s.0 < length L = let i = flag_inside flags s.0 s.1 in omega (arith, i, long) in (
        b.0,
        b.1,
        (λ x hx.
            let p = into_some (flag flags) (link links s.0 b.0 x) (b.2 x hx) in
            (p.0, p.2, link_to c L (step A b.0 x (get_or L s.0 [])) (link links s.0 b.0 x) p.0 (table s.0 b.0 x hl b.1 hx) p.1 ∙ ap {B = Position} (step A b.0 x) s.2)),
      ))
      (length L) L
      (λ Q s. subst (λ v. In L v) s.2 (in_getD L s.0 [] (let i = flag_inside flags s.0 s.1 in omega (arith, i, long))))
      P f

  -- the safe part is a safe set of the table
  safe_closed : (n : ℕ) → n ≡ length L → Closed A.commands A.situations n links safe_at
  safe_closed n en h th =
      let R = safe_part A L in
      let b = and_parts (ltb h (length L)) (member R (get_or L h [])) th in
      let hl = ltb-true h (length L) b.0 in
      let i = member_sound R (get_or L h []) b.1 in
      let k = part_kept A L (get_or L h []) i in (
        omega (arith, hl),
        (
          k.0,
          k.1,
          (λ x hx.
              let Q = step A k.0 x (get_or L h []) in
              let j = k.2 x hx in
              let q = link_of c L Q (link links h k.0 x) (low k.0 x h (safe_within Q j)) (table h k.0 x hl k.1 hx) in
              ap (into safe_at) q.1
              ∙ and_from (ltb q.0 (length L)) (member R (get_or L q.0 [])) (lt-ltb q.0 (length L) q.2) (ap {B = Bool} (member R) q.3 ∙ member_complete R Q j)),
        ),
      )

  pub flags_safe : (flags : List Bool) → length flags ≡ length L → Safest A.commands A.situations links flags
      → (h : ℕ) → h < length L → flag flags h ≡ member (safe_part A L) (get_or L h [])
  flags_safe flags long s h hl =
      same_bool (flag flags h) (member (safe_part A L) (get_or L h []))
      (λ f. member_complete (safe_part A L) (get_or L h []) (flagged_safe flags long s.closed (get_or L h []) (h, f, refl)))
      (λ m. s.widest safe_at (safe_closed (length flags) long) h (and_from (ltb h (length L)) (member (safe_part A L) (get_or L h [])) (lt-ltb h (length L) hl) m))

-- reach, then prune
pub survey_flags : (A : Automaton) (c room n : ℕ) (slots : List Stored) (links : List (List (Option ℕ))) (flags more : List Bool) → n ≤ length slots
    → Reached A c room (Some n) slots links → length flags ≡ n → Safest A.commands A.situations links flags
    → (h : ℕ) → h < n → flag (flags ++ more) h ≡ member (safe_part A (shown A n slots)) (get_or (shown A n slots) h [])
survey_flags A c room n slots links flags more hn r long s h lt =
    let L = shown A n slots in
    let e : length L ≡ n = length-map (take n slots) (view A.states) ∙ length-take-le n slots hn in
    get_or_append_left flags more false h (omega (arith, long))
    ∙ flags_safe A c L links r.2 (λ u x k i. listed_fits A c room L r.1 (step A u x (get_or L k [])) i (step_length A u x (get_or L k []))) flags (omega (arith, e, long)) s h (omega (arith, e))
