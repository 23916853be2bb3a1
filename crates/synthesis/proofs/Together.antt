-- From the table of links to the model's controller. Assumes nothing.
use Rattle.std.proofs.Common.{◌≡◌, ℕ, ◌<◌, ◌≤◌, Bool, true, false, eqb, List, [], ◌++◌, map, length, get_or, take, Some, Option, sym, ap, ◌∙◌, subst, arith}
use mathlib.Core.Option.{Option as MaybeList, none, some}
use Rattle.std.specs.List.{AllByRecursion as All}
use Rattle.std.proofs.lemmas.List.{length-map, length-take-le, get_or-take, take-append-le, get_or_append_left}
use Rattle.std.proofs.ByRecursion.{All-get_or}
use Rattle.model.specs.Automaton.{Automaton, Row}
use Rattle.model.specs.Lists.{In, Distinct}
use Rattle.model.specs.Search.{reached_from}
use Rattle.model.specs.Positions.{Position, same, step, steps, fits, start_position, member, safe_part, command_at, states_met, row_at, found_in}
use Rattle.model.proofs.Runs.{step_length}
use Rattle.model.proofs.Reaching.{reach_exact, part_kept}
use Rattle.model.proofs.Finding.{found_formed}
use Rattle.search.specs.Meeting.{successors as neighbours, Linked, Found}
use Rattle.synthesis.proofs.Carried.{carried, search_carried, search_good, GoodFound}
use Rattle.synthesis.specs.declared.position.Position.{Position as Stored}
use Rattle.synthesis.specs.Tables.{view}
use Rattle.synthesis.specs.Surveys.{shown, Surveyed}
use Rattle.synthesis.specs.Safety.{flag, trues, lowest_kept}
use Rattle.synthesis.specs.Control.{onward, Controlled}
use Rattle.synthesis.proofs.Deciding.{member_sound}
use Rattle.synthesis.proofs.Flags.{listed_fits, safe_within}
use Rattle.synthesis.proofs.Pruned.{flag_inside}
use Rattle.synthesis.proofs.Controls.{tests, leads, stays, pick_at, row_is}
use Rattle.synthesis.proofs.Whole.{safe_count, start_first, trues_short}

module _ (A : Automaton) (c room len : ℕ) (slots : List Stored) (links : List (List (Option ℕ))) (safe : List Bool)
    (hl : len ≤ length slots) (hs : A.situations ≤ 8) (s : Surveyed A c room (Some len) slots links safe)
    (hf : len ≤ length safe) (some-len : 0 < len) (begins : flag safe 0 ≡ true) where
  abbrev L : List Position
  L = shown A len slots

  abbrev flags : List Bool
  flags = take len safe

  abbrev R : List Position
  R = safe_part A L

  long_L : length L ≡ len
  long_L = length-map (take len slots) (view A.states) ∙ length-take-le len slots hl

  long : length flags ≡ length L
  long = length-take-le len safe hf ∙ sym long_L

  low : (u x h : ℕ) → In L (step A u x (get_or L h [])) → fits c (step A u x (get_or L h [])) ≡ true
  low u x h i = listed_fits A c room L s.0.1 (step A u x (get_or L h [])) i (step_length A u x (get_or L h []))

  is : (h : ℕ) → h < length L → flag flags h ≡ member R (get_or L h [])
  is h lt = get_or-take len safe h false (omega (arith, long_L)) ∙ s.1 h (omega (arith, long_L))

  within : (Q : Position) → In R Q → In L Q
  within Q i = safe_within A c L links s.0.2 low Q i

  apart : Distinct L
  apart = ((reach_exact A c room).0 L s.0.1).0

  begins_here : flag flags 0 ≡ true
  begins_here = get_or-take len safe 0 false some-len ∙ begins

  abbrev go : ℕ → ℕ → Option ℕ
  go = onward A.commands A.situations links flags

  starts : get_or L 0 [] ≡ start_position A
  starts = start_first A c room L s.0.1 (omega (arith, long_L))

  room_is : length R ≡ trues flags
  room_is = safe_count A L flags long is

  carried_over : (o : MaybeList (List ℕ)) → reached_from eqb (neighbours 8 go) (trues flags) 0 ≡ o
      → reached_from same (λ P. steps A P (command_at A R P)) (length R) (start_position A) ≡ carried (λ h. get_or L h []) o
  carried_over o e =
      ap {B = MaybeList (List Position)} (λ v. reached_from same (λ P. steps A P (command_at A R P)) (length R) v) (sym starts)
      ∙ search_carried eqb (neighbours 8 go) same (λ P. steps A P (command_at A R P)) (λ h. get_or L h []) (λ h. flag flags h ≡ true)
      (tests A c L links s.0.2 low R within flags long is (part_kept A L) apart hs)
      (leads A c L links s.0.2 low R within flags long is (part_kept A L) apart hs)
      (stays A c L links s.0.2 low R within flags long is (part_kept A L) apart hs)
      (length R) 0 begins_here
      ∙ ap {B = MaybeList (List Position)} (λ n. carried (λ h. get_or L h []) (reached_from eqb (neighbours 8 go) n 0)) room_is
      ∙ ap {B = MaybeList (List Position)} (carried (λ h. get_or L h [])) e

  good_found : GoodFound eqb (neighbours 8 go) same (λ P. steps A P (command_at A R P)) (λ h. get_or L h []) (λ h. flag flags h ≡ true)
      (tests A c L links s.0.2 low R within flags long is (part_kept A L) apart hs)
      (leads A c L links s.0.2 low R within flags long is (part_kept A L) apart hs)
      (stays A c L links s.0.2 low R within flags long is (part_kept A L) apart hs)
      (reached_from eqb (neighbours 8 go) (trues flags) 0)
  good_found = search_good eqb (neighbours 8 go) same (λ P. steps A P (command_at A R P)) (λ h. get_or L h []) (λ h. flag flags h ≡ true)
      (tests A c L links s.0.2 low R within flags long is (part_kept A L) apart hs)
      (leads A c L links s.0.2 low R within flags long is (part_kept A L) apart hs)
      (stays A c L links s.0.2 low R within flags long is (part_kept A L) apart hs)
      (trues flags) 0 begins_here

  safe_start : In R (start_position A)
  safe_start = member_sound R (start_position A) (ap {B = Bool} (member R) (sym starts) ∙ sym (is 0 (omega (arith, long_L))) ∙ begins_here)

  -- there is room for all states
  pub never_crowded : reached_from eqb (neighbours 8 go) (trues flags) 0 ≡ none → ⊥
  unfolding states_met found_in
  never_crowded e =
      let met = states_met A R in
      let z : met ≡ [] = ap {B = List Position} (λ o. elim o as (λ v. List Position) [ none ↦ [] | some met ↦ met ]) (carried_over none e) in
      let f : 0 < length (map (row_at A R met) met) = (found_formed A c L ((reach_exact A c room).0 L s.0.1).2 safe_start).some_state in
      omega (arith, f, length-map met (row_at A R met), ap {B = ℕ} length z)

  pub controlled : (n : ℕ) (part more : List ℕ) (nexts : List (List (Option ℕ))) → length part ≡ trues flags → Found (Some n) part (reached_from eqb (neighbours 8 go) (trues flags) 0)
      → Linked eqb 8 go (take n part) nexts n → Controlled A slots len safe n (part ++ more) nexts
  unfolding states_met
  controlled n part more nexts lp e links-are =
      let T = take n part in
      let hn : n ≤ length part = e.1 in
      let eT : take n (part ++ more) ≡ T = take-append-le n part more hn in
      let lT : length T ≡ n = length-take-le n part hn in
      let good : All (λ h. flag flags h ≡ true) T = subst
      (λ o. GoodFound eqb (neighbours 8 go) same (λ P. steps A P (command_at A R P)) (λ h. get_or L h []) (λ h. flag flags h ≡ true)
      (tests A c L links s.0.2 low R within flags long is (part_kept A L) apart hs)
      (leads A c L links s.0.2 low R within flags long is (part_kept A L) apart hs)
      (stays A c L links s.0.2 low R within flags long is (part_kept A L) apart hs) o) e.2 good_found in
      let linked : Linked eqb 8 go T nexts (length T) = subst (λ v. Linked eqb 8 go T nexts v) (sym lT) links-are in
      let place_of : (k : ℕ) → k < n → get_or (part ++ more) k 0 ≡ get_or T k 0 = λ k l. get_or_append_left part more 0 k (omega (arith, l, hn)) ∙ sym (get_or-take n part k 0 l) in
      let flagged : (k : ℕ) → k < n → flag flags (get_or T k 0) ≡ true = λ k l. All-get_or (λ h. flag flags h ≡ true) T k 0 (omega (arith, l, lT)) good in
      record {
        some_state = e.0;
        few = omega (arith, hn, lp, trues_short flags, long, long_L);
        met =
            ap {B = List Position} (λ o. elim o as (λ v. List Position) [ none ↦ [] | some met ↦ met ]) (carried_over (some T) e.2)
            ∙ ap {B = List Position} (map (λ h. get_or L h [])) (sym eT);
        rows = λ k l.
            ap {B = List ℕ} (λ t. (row_at A R (map (λ h. get_or L h []) t) (get_or L (get_or (part ++ more) k 0) [])).nexts) eT
            ∙ ap {B = List ℕ} (λ v. (row_at A R (map (λ h. get_or L h []) T) (get_or L v [])).nexts) (place_of k l)
            ∙ ap {B = List ℕ} (λ (r : Row). r.nexts)
            (row_is A c L links s.0.2 low R within flags long is (part_kept A L) apart hs T nexts k good (omega (arith, l, lT)) linked (flagged k l));
        inside = λ k l.
            let f = flagged k l in
            let i = flag_inside flags (get_or T k 0) f in
            let lt : get_or T k 0 < len = omega (arith, i, long, long_L) in
            (subst (λ v. v < len) (sym (place_of k l)) lt, ap {B = Bool} (flag safe) (place_of k l) ∙ sym (get_or-take len safe (get_or T k 0) false lt) ∙ f);
      }

-- the command at a safe place
pub command_told : (A : Automaton) (c room len : ℕ) (slots : List Stored) (links : List (List (Option ℕ))) (safe : List Bool) → len ≤ length slots → A.situations ≤ 8
    → Surveyed A c room (Some len) slots links safe → len ≤ length safe → (h : ℕ) → h < len → flag safe h ≡ true
    → (o : Option ℕ) → o ≡ lowest_kept A.commands A.situations links (take len safe) h → o ≡ Some (command_at A (safe_part A (shown A len slots)) (get_or (shown A len slots) h []))
command_told A c room len slots links safe hl hs s hf h lt f o e =
    let L = shown A len slots in
    let flags = take len safe in
    let long_L : length L ≡ len = length-map (take len slots) (view A.states) ∙ length-take-le len slots hl in
    let long : length flags ≡ length L = length-take-le len safe hf ∙ sym long_L in
    let low : (u x h : ℕ) → In L (step A u x (get_or L h [])) → fits c (step A u x (get_or L h [])) ≡ true = λ u x h i. listed_fits A c room L s.0.1 (step A u x (get_or L h [])) i (step_length A u x (get_or L h [])) in
    let is : (h : ℕ) → h < length L → flag flags h ≡ member (safe_part A L) (get_or L h []) = λ h l. get_or-take len safe h false (omega (arith, long_L)) ∙ s.1 h (omega (arith, long_L)) in
    let p = pick_at A c L links s.0.2 low (safe_part A L) (safe_within A c L links s.0.2 low) flags long is (part_kept A L) ((reach_exact A c room).0 L s.0.1).0 hs h (get_or-take len safe h false lt ∙ f) in
    e ∙ p.is_lowest ∙ ap (λ u. Some u) (sym p.is_model)
