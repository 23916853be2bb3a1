-- The start and the step are what their sentences say, and tallies are the counts of paths along any turns.
use Rattle.std.proofs.Common.{◌≡◌, ℕ, zero, suc, ◌+◌, ◌-◌, ◌<◌, ◌≤◌, ◌⊎◌, List, [], ◌∷◌, ◌++◌, length, sym, refl, ◌∙◌, subst, inl, inr, append_assoc, append-nil, arith}
use lib.ListN.{get_or-eq_default}
use Rattle.std.proofs.lemmas.Bool.{cases_lt}
use Rattle.std.proofs.lemmas.List.{ext_get_or}
use Rattle.model.specs.Lists.{In}
use Rattle.model.specs.Automaton.{Automaton, weight, Starts}
use Rattle.model.specs.Positions.{Position, mark, start_position, step}
use Rattle.model.specs.PositionLaws.{Tally, IsStart, IsStep, StepsExact, Turn, position_from, PathAlong, begin, onward, TalliesExact}
use Rattle.model.proofs.Runs.{start_length, start_has, start_from, step_length, step_carries, step_from}

-- THE START AND THE STEP

module _ (A : Automaton) where
  start_is : IsStart A (start_position A)
  start_is =
      record {
        long = start_length A;
        starts = λ q b. omega (arith, start_has A q b);
        others = λ q t h e. record { inside = h; starts = start_from A q h (omega arith) };
      }

  start_only : (P : Position) → IsStart A P → P ≡ start_position A
  start_only P i = ext_get_or 0 P (start_position A) (i.long ∙ sym (start_length A)) (λ q h. same_mark q (omega (arith, i.long)))
    where
      same_mark : (q : ℕ) → q < A.states → mark P q ≡ mark (start_position A) q
      same_mark q h = go (mark P q) (mark (start_position A) q) refl refl
        where
          both : Starts A q → mark P q ≡ mark (start_position A) q
          both b = omega (arith, i.starts q b, start_has A q b)

          go : (m n : ℕ) → mark P q ≡ m → mark (start_position A) q ≡ n → mark P q ≡ mark (start_position A) q
          go zero zero e f = omega arith
          go (suc m) n e f = both (i.others q m h (omega arith))
          go zero (suc n) e f = both (record { inside = h; starts = start_from A q h (omega arith) })

  module _ (u x : ℕ) (P : Position) (known : x < A.situations) where
    step_is : IsStep A u x P (step A u x P)
    step_is =
        record {
          long = step_length A u x P;
          carries = λ q p t hq e f. (let k : mark P q + weight A p ≤ mark (step A u x P) p = step_carries A u x P p q hq f.inside (omega arith) f.follows in
              (mark (step A u x P) p - 1, omega arith, omega arith));
          sources = λ p t' hp e. (let (q, hq, pos, f, k) = step_from A u x P p hp (omega arith) in
              (q, mark P q - 1, hq, omega (arith, pos), record { known = known; inside = hp; follows = f }, omega (arith, pos, k)));
        }

    -- whatever has the law of a step has no lower mark than another that has it
    not_below : (P' P'' : Position) → IsStep A u x P P' → IsStep A u x P P'' → (p : ℕ) → p < A.states → mark P' p ≤ mark P'' p
    not_below P' P'' i j p h = go (mark P' p) refl
      where
        go : (m : ℕ) → mark P' p ≡ m → mark P' p ≤ mark P'' p
        go zero e = omega arith
        go (suc t') e =
            let (q, t, hq, m, f, s) = i.sources p t' h (omega arith) in
            let (t'', m'', l) = j.carries q p t hq m f in
            omega arith

    step_only : (P' : Position) → IsStep A u x P P' → P' ≡ step A u x P
    step_only P' i =
        ext_get_or 0 P' (step A u x P) (i.long ∙ sym (step_length A u x P))
        (λ p h. (let hp : p < A.states = omega (arith, i.long) in omega (arith, not_below P' (step A u x P) i step_is p hp, not_below (step A u x P) P' step_is i p hp)))

pub steps_exact : StepsExact
steps_exact A = ((start_is A, start_only A), λ u x P known. (step_is A u x P known, step_only A u x P known))

-- ALONG TURNS

module _ (A : Automaton) where
  abbrev turned : Turn → Position → Position
  turned w P = step A w.command w.situation P

  position_push : (P : Position) (turns : List Turn) (w : Turn) → position_from A P (turns ++ (w ∷ [])) ≡ turned w (position_from A P turns)
  position_push P [] w = refl
  position_push P (v ∷ turns) w = position_push (turned v P) turns w

  along_inside : {turns : List Turn} {q t : ℕ} → PathAlong A turns q t → q < A.states
  along_inside (begin b) = b.inside
  along_inside (onward w p r f) = f.inside

  -- a path's count stands in the position, or a larger one
  along_mark : {turns : List Turn} {q t : ℕ} → PathAlong A turns q t → t + 1 ≤ mark (position_from A (start_position A) turns) q
  along_mark (begin {q} b) = omega (arith, start_has A q b)
  along_mark (onward {turns} {q} {t} w p r f) =
      let P : Position = position_from A (start_position A) turns in
      let h : t + 1 ≤ mark P q = along_mark r in
      let k : mark P q + weight A p ≤ mark (turned w P) p = step_carries A w.command w.situation P p q (along_inside r) f.inside (omega arith) f.follows in
      subst (λ Q. t + weight A p + 1 ≤ mark Q p) (sym (position_push (start_position A) turns w)) (omega arith)

  present_inside : (P : Position) (q t : ℕ) → length P ≡ A.states → Tally P q t → q < A.states
  present_inside P q t e m = go (cases_lt q (length P))
    where
      go : (q < length P) ⊎ (length P ≤ q) → q < A.states
      go (inl l) = omega arith
      go (inr l) = absurd (omega (arith, get_or-eq_default P 0 l))

  -- each tally of a position comes along a path, if those of an earlier one did
  mark_along : (done turns : List Turn) (P : Position) → length P ≡ A.states → ((q t : ℕ) → Tally P q t → PathAlong A done q t)
      → ((w : Turn) → In turns w → w.situation < A.situations) → (q t : ℕ) → Tally (position_from A P turns) q t → PathAlong A (done ++ turns) q t
  mark_along done [] P long came known q t m = subst (λ l. PathAlong A l q t) (sym (append-nil done)) (came q t m)
  mark_along done (w ∷ turns) P long came known q t m =
      subst (λ l. PathAlong A l q t) (append_assoc done (w ∷ []) turns)
      (mark_along (done ++ (w ∷ [])) turns (turned w P) (step_length A w.command w.situation P) (λ p n k. on p n k) (λ v i. known v (inr i)) q t m)
    where
      on : (p n : ℕ) → Tally (turned w P) p n → PathAlong A (done ++ (w ∷ [])) p n
      on p n k =
          let hp : p < A.states = present_inside (turned w P) p n (step_length A w.command w.situation P) k in
          let (q, hq, pos, f, e) = step_from A w.command w.situation P p hp (omega arith) in
          subst (λ i. PathAlong A (done ++ (w ∷ [])) p i) (omega (arith, pos, e, k))
          (onward w p (came q (mark P q - 1) (omega (arith, pos))) (record { known = known w (inl refl); inside = hp; follows = f }))

  begins : (q t : ℕ) → Tally (start_position A) q t → PathAlong A [] q t
  begins q t m =
      let h : q < A.states = present_inside (start_position A) q t (start_length A) m in
      let b : Starts A q = record { inside = h; starts = start_from A q h (omega arith) } in
      subst (λ n. PathAlong A [] q n) (omega (arith, m, start_has A q b)) (begin b)

pub tallies_exact : TalliesExact
tallies_exact A turns known = (mark_along A [] turns (start_position A) (start_length A) (begins A) known, λ q t r. along_mark A r)
