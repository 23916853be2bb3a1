-- The laws of the start position and of a step, and positions along the runs of a controller.
use Rattle.std.proofs.Common.{◌≡◌, ℕ, zero, suc, ◌+◌, ◌-◌, ◌<◌, ◌≤◌, max, true, cond, ◌⊎◌, length, refl, ap, ◌∙◌, subst, inl, inr, arith}
use lib.ListN.{get_or-eq_default}
use Rattle.std.proofs.lemmas.List.FromFn.{get_or-map-range_with_len, length-map-range_with_len}
use Rattle.std.proofs.lemmas.Bool.{cases_lt}
use Rattle.std.proofs.lemmas.Bool.Decides.{nat_tests}
use Rattle.model.specs.Automaton.{Automaton, Controller, weight, Starts, WellFormed, Path, begin, onward, AtMost}
use Rattle.model.specs.Positions.{Position, mark, largest, first_mark, start_position, handed, step, Fits, Reach, at_start, by_step, Safe}
use Rattle.model.proofs.Theory.{Run, from_start, then, RunsTo}
use Rattle.model.proofs.Theory.{RunsTally, RunsSafe}

largest_upper : (f : ℕ → ℕ) (n i : ℕ) → i < n → f i ≤ largest f n
largest_upper f zero i h = absurd (omega arith)
largest_upper f (suc n) i h = go (largest_upper f n i)
  where
    go : (i < n → f i ≤ largest f n) → f i ≤ max (f n) (largest f n)
    go below = grind arith

largest_attained : (f : ℕ → ℕ) (n : ℕ) → 0 < largest f n → (i : ℕ) × (i < n) × (f i ≡ largest f n)
largest_attained f zero h = absurd (omega arith)
largest_attained f (suc n) h = go (cases_lt (f n) (largest f n)) (largest_attained f n)
  where
    go : (f n < largest f n) ⊎ (largest f n ≤ f n) → (0 < largest f n → (i : ℕ) × (i < n) × (f i ≡ largest f n)) → (i : ℕ) × (i < suc n) × (f i ≡ max (f n) (largest f n))
    go (inl l) below = let r : (i : ℕ) × (i < n) × (f i ≡ largest f n) = below (omega arith) in (r.0, omega (arith, r.1), omega (arith, r.2))
    go (inr l) below = (n, omega arith, omega arith)

module _ (A : Automaton) where
  pub start_length : length (start_position A) ≡ A.states
  unfolding start_position
  start_length = length-map-range_with_len (first_mark A) 0 A.states

  mark_start : (q : ℕ) → q < A.states → mark (start_position A) q ≡ first_mark A q
  unfolding start_position
  mark_start q h = get_or-map-range_with_len (first_mark A) 0 A.states q q 0 h (omega arith)

  -- a start state is at the start, and whatever is at the start is a start state
  pub start_has : (q : ℕ) → Starts A q → mark (start_position A) q ≡ 1 + weight A q
  start_has q b = mark_start q b.inside ∙ ap (λ t. cond t (1 + weight A q) 0) b.starts

  pub start_from : (q : ℕ) → q < A.states → 0 < mark (start_position A) q → A.start q ≡ true
  start_from q h pos = let m : mark (start_position A) q ≡ first_mark A q = mark_start q h in grind (arith, nat_tests)

  module _ (u x : ℕ) (P : Position) where
    pub step_length : length (step A u x P) ≡ A.states
    unfolding step
    step_length = length-map-range_with_len (λ p. largest (handed A u x P p) A.states) 0 A.states

    pub mark_step : (p : ℕ) → p < A.states → mark (step A u x P) p ≡ largest (handed A u x P p) A.states
    unfolding step
    mark_step p h = get_or-map-range_with_len (λ p. largest (handed A u x P p) A.states) 0 A.states p p 0 h (omega arith)

    handed_is : (p q : ℕ) → 0 < mark P q → A.follows q u x p ≡ true → handed A u x P p q ≡ mark P q + weight A p
    handed_is p q pos f = grind (arith, nat_tests)

    handed_from : (p q : ℕ) → 0 < handed A u x P p q → (0 < mark P q) × (A.follows q u x p ≡ true)
    handed_from p q pos = grind (arith, nat_tests)

    -- a step carries each tally on, and each tally after a step was carried on
    pub step_carries : (p q : ℕ) → q < A.states → p < A.states → 0 < mark P q → A.follows q u x p ≡ true → mark P q + weight A p ≤ mark (step A u x P) p
    step_carries p q hq hp pos f = omega (arith, mark_step p hp, handed_is p q pos f, largest_upper (handed A u x P p) A.states q hq)

    pub step_from : (p : ℕ) → p < A.states → 0 < mark (step A u x P) p
        → (q : ℕ) × (q < A.states) × (0 < mark P q) × (A.follows q u x p ≡ true) × (mark (step A u x P) p ≡ mark P q + weight A p)
    step_from p hp pos =
        let m : mark (step A u x P) p ≡ largest (handed A u x P p) A.states = mark_step p hp in
        let r : (q : ℕ) × (q < A.states) × (handed A u x P p q ≡ largest (handed A u x P p) A.states) = largest_attained (handed A u x P p) A.states (omega arith) in
        let b : (0 < mark P r.0) × (A.follows r.0 u x p ≡ true) = handed_from p r.0 (omega (arith, r.2)) in
        (r.0, r.1, b.0, b.1, omega (arith, m, r.2, handed_is p r.0 b.0 b.1))

  module _ (K : Controller) where
    run_length : {s : ℕ} {P : Position} → Run A K s P → length P ≡ A.states
    run_length from_start = start_length
    run_length (then {s} {P} x r h) = step_length (K.command s) x P

    present_inside : {s : ℕ} {P : Position} → Run A K s P → (q : ℕ) → 0 < mark P q → q < A.states
    present_inside {s} {P} r q pos = go (cases_lt q (length P))
      where
        go : (q < length P) ⊎ (length P ≤ q) → q < A.states
        go (inl l) = omega (arith, run_length r)
        go (inr l) = absurd (omega (arith, get_or-eq_default P 0 l))

    -- each tally of a run is the count of a path
    run_path : {s : ℕ} {P : Position} → Run A K s P → (q t : ℕ) → q < A.states → mark P q ≡ t + 1 → Path A K s q t
    run_path from_start q t h e =
        let b : Starts A q = record { inside = h; starts = start_from q h (omega arith) } in
        subst (λ n. Path A K 0 q n) (omega (arith, e, start_has q b)) (begin b)
    run_path (then {s} {P} x r hx) p t h e =
        let f : (q : ℕ) × (q < A.states) × (0 < mark P q) × (A.follows q (K.command s) x p ≡ true) × (mark (step A (K.command s) x P) p ≡ mark P q + weight A p) = step_from (K.command s) x P p h (omega arith) in
        let w : Path A K s f.0 (mark P f.0 - 1) = run_path r f.0 (mark P f.0 - 1) f.1 (omega (arith, f.2)) in
        subst (λ n. Path A K (K.next s x) p n) (omega (arith, e, f.2, f.4)) (onward x p w (record { known = hx; inside = h; follows = f.3 }))

    -- each path's count stands in a run
    path_run : {s q t : ℕ} → Path A K s q t → (P : Position) × Run A K s P × (t + 1 ≤ mark P q)
    path_run (begin {q} b) = (start_position A, from_start, omega (arith, start_has q b))
    path_run (onward {s} {q} {t} x p w f) =
        let r : (P : Position) × Run A K s P × (t + 1 ≤ mark P q) = path_run w in
        let pos : 0 < mark r.0 q = omega (arith, r.2) in (
          step A (K.command s) x r.0,
          then x r.1 f.known,
          omega (arith, r.2, step_carries (K.command s) x r.0 p q (present_inside r.1 q pos) f.inside pos f.follows),
        )

    module _ (wf : WellFormed A K) where
      run_inside : {s : ℕ} {P : Position} → Run A K s P → s < K.size
      run_inside from_start = wf.some_state
      run_inside (then {s} x r h) = wf.nexts s x (run_inside r) h

      module _ (c : ℕ) (most : AtMost A K c) where
        run_fits : {s : ℕ} {P : Position} → Run A K s P → Fits A c P
        run_fits {s} {P} r q h = go (mark P q) refl
          where
            go : (m : ℕ) → mark P q ≡ m → mark P q ≤ c + 1
            go zero e = omega arith
            go (suc t) e = omega (arith, e, most s q t (run_path r q t h (omega arith)))

        run_reach : {s : ℕ} {P : Position} → Run A K s P → Reach A c P
        run_reach from_start = at_start (run_fits from_start)
        run_reach (then {s} x r h) = by_step (K.command s) x (run_reach r) (wf.commands s (run_inside r)) h (run_fits (then x r h))

        runs_keep : Safe A c (RunsTo A K)
        runs_keep P (s, r) = (K.command s, wf.commands s (run_inside r), λ x h. (run_fits (then x r h), (K.next s x, then x r h)))

pub runs_tally : RunsTally
runs_tally A K = (λ s q t P r e. run_path A K r q t (present_inside A K r q (omega arith)) e, λ s q t w. path_run A K w)

pub runs_safe : RunsSafe
runs_safe A K c wf most = (run_fits A K wf c most from_start, (0, from_start), runs_keep A K wf c most, λ P r. run_reach A K wf c most r.1)
