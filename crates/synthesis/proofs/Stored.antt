-- The states that are stored are those of the controller found, and automata that agree have the same answer. Assumes nothing.
use Rattle.std.proofs.Common.{◌≡◌, ℕ, zero, suc, ◌+◌, ◌<◌, ◌≤◌, Bool, List, [], ◌∷◌, map, length, get_or, take, None, Option, Ok, Err, Result, sym, refl, ap, ◌∙◌, arith}
use Rattle.std.specs.Option.{unwrap_or}
use Rattle.std.specs.List.{range_with_len}
use Rattle.std.proofs.lemmas.List.{length-map, length-take-le, get_or-take, take-map}
use Rattle.model.specs.Automaton.{Automaton, Row}
use Rattle.model.specs.Positions.{Position, safe_part, command_at, states_met, row_at, found_in}
use Rattle.synthesis.specs.declared.position.Position.{Position as Slot}
use Rattle.synthesis.specs.declared.state.State.{State}
use Rattle.synthesis.specs.declared.solved.Found.{Found as Size}
use Rattle.synthesis.specs.declared.solved.Unsolved.{Unsolved}
use Rattle.synthesis.specs.declared.solved.Unsolved.TheVariants.{NoneFound, Crowded}
use Rattle.synthesis.specs.Tables.{Agrees}
use Rattle.synthesis.specs.Surveys.{shown}
use Rattle.synthesis.specs.Control.{standing, Controlled}
use Rattle.synthesis.specs.Answers.{row_of, position_of, StandsAt, Stores, Answered}
use Rattle.synthesis.proofs.Agreeing.{solves_alike}
use Rattle.synthesis.proofs.Making.{map-map}

map_pointwise : {X Y Z : Type 0} (f : X → Z) (g : Y → Z) (xs : List X) (ys : List Y) (a : X) (b : Y) → length xs ≡ length ys
    → ((k : ℕ) → k < length xs → f (get_or xs k a) ≡ g (get_or ys k b)) → map f xs ≡ map g ys
map_pointwise f g [] [] a b e h = refl
map_pointwise f g [] (y ∷ ys) a b e h = absurd (omega arith)
map_pointwise f g (x ∷ xs) [] a b e h = absurd (omega arith)
map_pointwise {Z} f g (x ∷ xs) (y ∷ ys) a b e h =
    ap {B = List Z} (λ v. v ∷ map f xs) (h 0 (omega arith)) ∙ ap {B = List Z} (λ l. g y ∷ l) (map_pointwise f g xs ys a b (omega arith) (λ k l. h (suc k) (omega arith)))

take_counting : (k a n : ℕ) → k ≤ n → take k (range_with_len a n) ≡ range_with_len a k
take_counting zero a n h = refl
take_counting (suc k) a zero h = absurd (omega arith)
take_counting (suc k) a (suc n) h = ap {B = List ℕ} (λ l. a ∷ l) (take_counting k (a + 1) n (omega arith))

abbrev nowhere : State
nowhere = record { command = 0; nexts = []; position = record { marks = [] } }

module _ (A : Automaton) (c len : ℕ) (slots : List Slot) (safe : List Bool) (n : ℕ) (places : List ℕ) (nexts : List (List (Option ℕ))) (few : A.situations ≤ 8)
    (controlled : Controlled A slots len safe n places nexts) (long : len ≤ length places) (states : List State) (roomy : len ≤ length states)
    (stands : (s : ℕ) (d : State) → s < n → StandsAt A len slots places nexts s (get_or states s d)) where
  abbrev R : List Position
  R = safe_part A (shown A len slots)

  abbrev at : ℕ → Position
  at h = get_or (shown A len slots) h []

  count_places : length (take n places) ≡ n
  count_places = let f = controlled.few in length-take-le n places (omega (arith, f))

  count_states : length (take n states) ≡ n
  count_states = let f = controlled.few in length-take-le n states (omega (arith, f))

  -- the stored row is the model's
  row_stored : (s : ℕ) → s < n → row_of A.situations (get_or states s nowhere) ≡ row_at A R (standing A len slots (take n places)) (at (get_or places s 0))
  unfolding row_at
  row_stored s h =
      let state = get_or states s nowhere in
      let t = stands s nowhere h in
      let f = λ (x : ℕ). unwrap_or (get_or (get_or nexts s []) x None) 0 in
      let nexts-same : take A.situations state.nexts ≡ map f (range_with_len 0 A.situations) =
      ap {B = List ℕ} (take A.situations) t.nexts_are ∙ take-map f A.situations (range_with_len 0 8) ∙ ap {B = List ℕ} (map f) (take_counting A.situations 0 8 few) in
      ap {B = Row} (λ u. record { command = u; nexts = take A.situations state.nexts }) t.command
      ∙ ap {B = Row} (λ l. record { command = command_at A R (at (get_or places s 0)); nexts = l }) (nexts-same ∙ sym (controlled.rows s h))

  pub stores : (size : Size) → size.count ≡ c → size.states ≡ n → Stores A (found_in A c R) size states
  unfolding found_in
  stores size ec es =
      let met = states_met A R in
      let held = standing A len slots (take n places) in
      let em : met ≡ held = controlled.met in
      let rows_same : map (row_of A.situations) (take n states) ≡ map (row_at A R met) met =
      map_pointwise (row_of A.situations) (λ h. row_at A R held (at h)) (take n states) (take n places) nowhere 0 (count_states ∙ sym count_places)
      (λ k l.
      let lk : k < n = omega (arith, l, count_states) in
      ap {B = Row} (row_of A.situations) (get_or-take n states k nowhere lk) ∙ row_stored k lk ∙ ap {B = Row} (λ h. row_at A R held (at h)) (sym (get_or-take n places k 0 lk)))
      ∙ sym (map-map at (row_at A R held) (take n places))
      ∙ ap {B = List Row} (λ v. map (row_at A R v) v) (sym em) in
      let positions-same : map (position_of A.states) (take n states) ≡ met =
      map_pointwise (position_of A.states) at (take n states) (take n places) nowhere 0 (count_states ∙ sym count_places)
      (λ k l.
      let lk : k < n = omega (arith, l, count_states) in
      ap {B = Position} (position_of A.states) (get_or-take n states k nowhere lk) ∙ (stands k nowhere lk).position ∙ ap {B = Position} at (sym (get_or-take n places k 0 lk)))
      ∙ sym em in
      record {
        count = ec;
        length_is = sym (ap {B = ℕ} length rows_same) ∙ length-map (take n states) (row_of A.situations) ∙ count_states ∙ sym es;
        within = let f = controlled.few in omega (arith, f, roomy, es);
        rows = ap {B = List Row} (λ k. map (row_of A.situations) (take k states)) es ∙ rows_same;
        positions = ap {B = List Position} (λ k. map (position_of A.states) (take k states)) es ∙ positions-same;
      }

-- what is answered of a table is answered of the rules that it agrees with
pub answered_alike : (A B : Automaton) → Agrees A B → 0 < B.commands → (capacity limit : ℕ) (r : Result Size Unsolved) (states : List State) → Answered A capacity limit r states → Answered B capacity limit r states
answered_alike A B g some capacity limit (Err Crowded) states h = sym (solves_alike A B g some capacity limit) ∙ h
answered_alike A B g some capacity limit (Err NoneFound) states h = sym (solves_alike A B g some capacity limit) ∙ h
answered_alike A B g some capacity limit (Ok size) states h =
    let f = h.0 in (
      f,
      sym (solves_alike A B g some capacity limit) ∙ h.1,
      record {
        count = h.2.count;
        length_is = h.2.length_is;
        within = h.2.within;
        rows = ap {B = List Row} (λ S. map (row_of S) (take size.states states)) (sym g.situations) ∙ h.2.rows;
        positions = ap {B = List Position} (λ n. map (position_of n) (take size.states states)) (sym g.states) ∙ h.2.positions;
      },
    )
