-- The controller found in a safe part that holds the start: its positions are its certificate.
use Rattle.std.proofs.Common.{◌≡◌, ℕ, zero, suc, ◌+◌, ◌<◌, ◌≤◌, Bool, true, false, ◌⊎◌, ◌↔◌, List, [], ◌∷◌, ◌++◌, map, length, get_or, take, drop, sym, refl, ap, ◌∙◌, subst, inl, inr, arith, length-append, length-take-le, get_or-take}
use mathlib.Core.Option.{Option, none, some}
use lib.ListN.{length-map, get_or-append}
use lib.Seq.{split_at, get_or-append_seam}
use Rattle.std.specs.List.{range_with_len}
use Rattle.std.proofs.lemmas.Bool.{cases_Bool, cases_eq, both_ways}
use Rattle.std.proofs.lemmas.List.{get_or-map}
use Rattle.std.proofs.lemmas.List.FromFn.{get_or-map-range_with_len, length-map-range_with_len}
use Rattle.model.specs.Automaton.{Automaton, weight, Controller, WellFormed, Path, begin, onward, AtMost, Row, no_row, controller}
use Rattle.model.specs.Search.{place, reached_from}
use Rattle.model.specs.Lists.{In}
use Rattle.model.specs.Positions.{LooksBefore, NumberedAsMet, Position, mark, start_position, step, same, Reach, steps, holds, safe_part, lowest, command_at, states_met, row_at, found_in, InSafe, Described}
use Rattle.model.specs.SearchLaws.{Leads, here, further, MetBehind}
use Rattle.model.specs.CountLaws.{Valid}
use Rattle.model.proofs.Lists.{map_in, in_counting, counting_in, decides_same, in_getD, pigeons, place_in, in_index, one_place}
use Rattle.model.proofs.Searches.{Listed, Result, searched}
use Rattle.model.proofs.Reaching.{in_steps, steps_in, decides_holds, part_in, part_kept, part_fits, part_safe, part_largest, reach_length}
use Rattle.model.proofs.Runs.{start_has, step_carries}

lowest_passes : (f : ℕ → Bool) (us : List ℕ) (u : ℕ) → In us u → f u ≡ true → In us (lowest f us) × (f (lowest f us) ≡ true)
lowest_passes f [] u i e = absurd i
lowest_passes f (v ∷ us) u i e = go (cases_Bool (f v)) i (lowest_passes f us u)
  where
    go : (f v ≡ true) ⊎ (f v ≡ false) → (u ≡ v) ⊎ In us u → (In us u → f u ≡ true → In us (lowest f us) × (f (lowest f us) ≡ true)) → In (v ∷ us) (lowest f (v ∷ us)) × (f (lowest f (v ∷ us)) ≡ true)
    go (inl t) j below = rw (t, lowest) (inl refl, t)
    go (inr n) (inl s) below = absurd (both_ways (f v) n (sym (ap f s) ∙ e))
    go (inr n) (inr j) below = let (a, b) = below j e in rw (n, lowest) (inr a, b)

-- no lower one passes
lowest_least : (f : ℕ → Bool) (a n v : ℕ) → a ≤ v → v < lowest f (range_with_len a n) → f v ≡ false
lowest_least f a zero v h l = absurd (omega arith)
lowest_least f a (suc n) v h l = go (cases_Bool (f a)) (cases_eq v a) (lowest_least f (a + 1) n v)
  where
    go : (f a ≡ true) ⊎ (f a ≡ false) → (v ≡ a) ⊎ (v ≡ a → ⊥) → (a + 1 ≤ v → v < lowest f (range_with_len (a + 1) n) → f v ≡ false) → f v ≡ false
    go (inl t) s below = absurd (let e : lowest f (range_with_len a (suc n)) ≡ a = rw (t, lowest) in omega arith)
    go (inr m) (inl s) below = ap f s ∙ m
    go (inr m) (inr s) below = let e : lowest f (range_with_len a (suc n)) ≡ lowest f (range_with_len (a + 1) n) = rw (m, lowest) in below (omega arith) (omega arith)

module _ (A : Automaton) (c : ℕ) (L : List Position) (lists : (P : Position) → In L P ↔ Reach A c P) (starts : In (safe_part A L) (start_position A)) where
  R : List Position
  R = safe_part A L

  chosen : Position → ℕ
  chosen P = command_at A R P

  chosen_good : (P : Position) → In R P → (chosen P < A.commands) × ((x : ℕ) → x < A.situations → In R (step A (chosen P) x P))
  unfolding R chosen command_at found_in row_at steps
  chosen_good P i =
      let (u, h, k) = part_kept A L P i in
      let (a, b) = lowest_passes (holds A R P) (range_with_len 0 A.commands) u (in_counting 0 A.commands u (omega arith) (omega arith)) ((decides_holds A R P u).1 k) in
      let r : (0 ≤ command_at A R P) × (command_at A R P < 0 + A.commands) = counting_in 0 A.commands (command_at A R P) a in
      (omega (arith, r.1), (decides_holds A R P (command_at A R P)).0 b)

  nexts : Position → List Position
  nexts P = steps A P (chosen P)

  leads_safe : {P : Position} → Leads nexts (start_position A) P → In R P
  unfolding R nexts found_in row_at steps
  leads_safe here = starts
  leads_safe (further {y = P} Q l i) =
      let (x, h, e) = steps_in A P Q (chosen P) i in
      subst (λ S. In R S) (sym e) ((chosen_good P (leads_safe l)).1 x h)

  met : List Position
  met = states_met A R

  Met : List Position → Type 0
  Met l = Listed same decides_same nexts (length R) (start_position A) l

  met_listed : Met met
  unfolding met nexts chosen Met states_met found_in row_at steps
  met_listed = go (reached_from same nexts (length R) (start_position A)) refl (searched same decides_same nexts (length R) (start_position A))
    where
      go : (o : Option (List Position)) → reached_from same nexts (length R) (start_position A) ≡ o → Result same decides_same nexts (length R) (start_position A) o → Met (states_met A R)
      go none e (M, d, h, m) = absurd (let l : length M ≤ length R = pigeons M R d (λ P i. leads_safe (h P i)) in omega (arith, l, m))
      go (some M) e r = let f : states_met A R ≡ M = rw (e, states_met) in subst Met (sym f) r

  K : Controller
  K = controller (found_in A c R).rows

  module _ (s : ℕ) (hs : s < length met) where
    abbrev at : Position
    at = get_or met s []

    at_met : In met at
    at_met = in_getD met s [] hs

    at_safe : In R at
    unfolding Met found_in row_at steps
    at_safe = leads_safe (met_listed.has at at_met)

    row_is : get_or (map (row_at A R met) met) s no_row ≡ row_at A R met at
    row_is = get_or-map (row_at A R met) met s [] no_row hs

    command_is : K.command s ≡ chosen at
    unfolding K met chosen found_in states_met command_at row_at steps
    command_is = ap (λ (r : Row). r.command) row_is

    next_is : (x : ℕ) → x < A.situations → K.next s x ≡ place same met (step A (chosen at) x at)
    unfolding K met chosen found_in row_at steps
    next_is x hx =
        ap (λ (r : Row). get_or r.nexts x 0) row_is
        ∙ get_or-map (place same met) (steps A at (chosen at)) x [] 0 (omega (arith, length-map-range_with_len (λ x. step A (chosen at) x at) 0 A.situations))
        ∙ ap (place same met) (get_or-map-range_with_len (λ x. step A (chosen at) x at) 0 A.situations x x [] hx (omega arith))

    -- the next state has the next position
    next_at : (x : ℕ) → x < A.situations → (K.next s x < length met) × (get_or met (K.next s x) [] ≡ step A (K.command s) x at)
    unfolding Met nexts found_in row_at steps
    next_at x hx =
        let i : In met (step A (chosen at) x at) = met_listed.all (step A (chosen at) x at) (further {y = at} (step A (chosen at) x at) (met_listed.has at at_met) (in_steps A at (chosen at) x hx)) in
        let (a, b) = place_in same decides_same met (step A (chosen at) x at) [] i in
        (subst (λ n. n < length met) (sym (next_is x hx)) a, subst (λ n. get_or met n [] ≡ step A (K.command s) x at) (sym (next_is x hx)) (b ∙ ap (λ u. step A u x at) (sym command_is)))

  first_at : (0 < length met) × (get_or met 0 [] ≡ start_position A)
  unfolding Met found_in row_at steps
  first_at = front met met_listed
    where
      front : (M : List Position) → Met M → (0 < length M) × (get_or M 0 [] ≡ start_position A)
      front [] l = absurd (l.all (start_position A) here)
      front (P ∷ M) l = go (l.ordered [] P M refl)
        where
          go : (◌≡◌ {A = List Position} [] [] × (P ≡ start_position A)) ⊎ MetBehind nexts [] P → (0 < length (P ∷ M)) × (P ≡ start_position A)
          go (inl (e, f)) = (omega arith, f)
          go (inr (earlier, z, later, left, right, e, f, g, h)) = absurd (omega (arith, ap length e, length-append earlier (z ∷ later)))

  size_is : K.size ≡ length met
  unfolding K met found_in states_met row_at steps
  size_is = length-map met (row_at A R met)

  pub found_formed : WellFormed A (controller (found_in A c (safe_part A L)).rows)
  unfolding R K found_in row_at steps
  found_formed =
      record {
        some_state = omega (arith, size_is, first_at.0);
        commands = λ s h. (let hs : s < length met = omega (arith, size_is) in omega (arith, command_is s hs, (chosen_good (at s hs) (at_safe s hs)).0));
        nexts = λ s x h hx. (let hs : s < length met = omega (arith, size_is) in omega (arith, size_is, (next_at s hs x hx).0));
      }

  record Held (s q t : ℕ) : Type 0 where
    state : s < length met
    rule : q < A.states
    tally : t + 1 ≤ mark (get_or met s []) q

  held : {s q t : ℕ} → Path A K s q t → Held s q t
  held (begin {q} b) = record { state = first_at.0; rule = b.inside; tally = rw first_at.1 (omega (arith, start_has A q b)) }
  held (onward {s} {q} {t} x p w f) =
      let h : Held s q t = held w in
      let P : Position = get_or met s [] in
      let (a, b) = next_at s h.state x f.known in
      record {
        state = a;
        rule = f.inside;
        tally = subst (λ Q. t + weight A p + 1 ≤ mark Q p) (sym b)
            (omega (arith, h.tally, step_carries A (K.command s) x P p q h.rule f.inside (omega (arith, h.tally)) f.follows));
      }

  pub found_within : AtMost A (controller (found_in A c (safe_part A L)).rows) c
  unfolding R K found_in row_at steps
  found_within s q t w =
      let h : Held s q t = held w in
      omega (arith, h.tally, part_fits A c L lists (get_or met s []) (at_safe s h.state) q h.rule)

  pub found_valid : Valid A (controller (found_in A c (safe_part A L)).rows) c (λ s q. mark (get_or (found_in A c (safe_part A L)).positions s []) q)
  unfolding R K met found_in row_at steps
  found_valid =
      record {
        within = λ s q h hq. (let hs : s < length met = omega (arith, size_is) in part_fits A c L lists (get_or met s []) (at_safe s hs) q hq);
        begins = λ q b. subst (λ P. 1 + weight A q ≤ mark P q) (sym first_at.1) (omega (arith, start_has A q b));
        carries = λ s q x p h hq pos f. (let hs : s < length met = omega (arith, size_is) in
            let (a, b) = next_at s hs x f.known in
            subst (λ P. mark (get_or met s []) q + weight A p ≤ mark P p) (sym b) (step_carries A (K.command s) x (get_or met s []) p q hq f.inside pos f.follows));
      }

  pub found_few : length (found_in A c (safe_part A L)).rows ≤ length L
  unfolding R K met Met found_in row_at steps
  found_few =
      let l : length met ≤ length L = pigeons met L met_listed.once (λ P i. part_in A L P (leads_safe (met_listed.has P i))) in
      omega (arith, size_is)

  pub found_shape : (length (found_in A c (safe_part A L)).positions ≡ length (found_in A c (safe_part A L)).rows) × ((P : Position) → In (found_in A c (safe_part A L)).positions P → length P ≡ A.states)
  unfolding R K met Met found_in states_met row_at steps
  found_shape = (sym size_is, λ P i. reach_length A c ((lists P).0 (part_in A L P (leads_safe (met_listed.has P i)))))

  pub found_nexts : (r : Row) → In (found_in A c (safe_part A L)).rows r → length r.nexts ≡ A.situations
  unfolding R K met found_in row_at steps
  found_nexts r i =
      let (P, j, e) = map_in (row_at A R met) met r i in
      ap (λ (r : Row). length r.nexts) e
      ∙ length-map (steps A P (command_at A R P)) (place same met)
      ∙ length-map-range_with_len (λ x. step A (command_at A R P) x P) 0 A.situations

  in_safe : (P : Position) → In R P → InSafe A c P
  unfolding R found_in row_at steps
  in_safe P i = (safe_part A L, part_safe A c L lists, λ Q j. (lists Q).0 (part_in A L Q j), i)

  safe_in : (P : Position) → InSafe A c P → In R P
  unfolding R found_in row_at steps
  safe_in P (S, safe, within, i) = part_largest A c L lists (In S) safe within P i

  -- a next state has a lower number than j, if its position stands before place j
  lower : (j s x : ℕ) → j ≤ length met → s < length met → x < A.situations → In (take j met) (step A (chosen (get_or met s [])) x (get_or met s [])) → K.next s x < j
  unfolding Met found_in row_at steps
  lower j s x hj hs hx i =
      let P : Position = step A (chosen (get_or met s [])) x (get_or met s []) in
      let (a, b) = next_at s hs x hx in
      let (k, hk, e) = in_index (take j met) P [] i in
      let long : length (take j met) ≡ j = length-take-le j met hj in
      let f : get_or (take j met) k [] ≡ get_or met k [] = get_or-take j met k [] (omega arith) in
      let g : K.next s x ≡ k = one_place met (K.next s x) k [] met_listed.once a (omega arith) (b ∙ ap (λ u. step A u x (get_or met s [])) (command_is s hs) ∙ sym e ∙ f) in
      omega arith

  numbered : NumberedAsMet A.situations K
  unfolding Met nexts found_in row_at steps
  numbered j pos h = go (met_listed.ordered (take j met) (get_or met j []) (drop (suc j) met) (split_at met j [] hj))
    where
      hj : j < length met
      hj = omega (arith, size_is)

      long : length (take j met) ≡ j
      long = length-take-le j met (omega (arith, size_is))

      first_met : MetBehind nexts (take j met) (get_or met j []) → (s : ℕ) × (x : ℕ) × (s < j) × (x < A.situations) × (K.next s x ≡ j)
          × ((s' x' : ℕ) → x' < A.situations → LooksBefore s' x' s x → K.next s' x' < j)
      first_met (earlier, z, later, left, right, e, f, g, h) = (s, x, hs, hx, is, λ s' x' hx' b. before s' x' hx' b)
        where
          s : ℕ
          s = length earlier

          x : ℕ
          x = length left

          hs : s < j
          hs = omega (arith, ap length e, length-append earlier (z ∷ later), long)

          hx : x < A.situations
          hx = omega (arith, ap length f, length-append left (get_or met j [] ∷ right), length-map-range_with_len (λ x. step A (chosen z) x z) 0 A.situations)

          -- place i of those before j
          at_place : (i : ℕ) → i < j → get_or met i [] ≡ get_or (earlier ++ (z ∷ later)) i []
          at_place i hi =
              sym (get_or-take j met i [] hi) ∙ ap (λ l. get_or l i []) e

          at_s : get_or met s [] ≡ z
          at_s = at_place s hs ∙ get_or-append_seam earlier z later []

          step_at : (i : ℕ) → i < A.situations → step A (chosen z) i z ≡ get_or (nexts z) i []
          step_at i hi = sym (get_or-map-range_with_len (λ x. step A (chosen z) x z) 0 A.situations i i [] hi (omega arith))

          is : K.next s x ≡ j
          is =
              let hs' : s < length met = omega (arith, hs, hj) in
              let (a, b) = next_at s hs' x hx in
              one_place met (K.next s x) j [] met_listed.once a hj
              (b ∙ ap (λ u. step A u x (get_or met s [])) (command_is s hs') ∙ ap (λ P. step A (chosen P) x P) at_s ∙ step_at x hx ∙ ap (λ l. get_or l x []) f ∙ get_or-append_seam left (get_or met j []) right [])

          before : (s' x' : ℕ) → x' < A.situations → LooksBefore s' x' s x → K.next s' x' < j
          before s' x' hx' (inl l) =
              let e' : get_or met s' [] ≡ get_or earlier s' [] = at_place s' (omega (arith, l, hs)) ∙ get_or-append earlier (z ∷ later) [] s' l in
              let i : In earlier (get_or met s' []) = subst (λ P. In earlier P) (sym e') (in_getD earlier s' [] l) in
              lower j s' x' (omega (arith, hj)) (omega (arith, l, hs, hj)) hx' (h (get_or met s' []) _ i (in_steps A (get_or met s' []) (chosen (get_or met s' [])) x' hx'))
          before s' x' hx' (inr (l, m)) =
              let hs' : s' < length met = omega (arith, l, hs, hj) in
              let here : get_or met s' [] ≡ z = ap (λ n. get_or met n []) l ∙ at_s in
              let w : step A (chosen (get_or met s' [])) x' (get_or met s' []) ≡ get_or left x' [] =
              ap (λ P. step A (chosen P) x' P) here ∙ step_at x' hx' ∙ ap (λ l. get_or l x' []) f ∙ get_or-append left (get_or met j [] ∷ right) [] x' m in
              lower j s' x' (omega (arith, hj)) hs' hx' (subst (λ P. In (take j met) P) (sym w) (g (get_or left x' []) (in_getD left x' [] m)))

      go : ((take j met ≡ []) × (get_or met j [] ≡ start_position A)) ⊎ MetBehind nexts (take j met) (get_or met j []) → (s : ℕ) × (x : ℕ) × (s < j) × (x < A.situations) × (K.next s x ≡ j)
          × ((s' x' : ℕ) → x' < A.situations → LooksBefore s' x' s x → K.next s' x' < j)
      go (inl (e, f)) = absurd (omega (arith, ap length e, long))
      go (inr m) = first_met m

  pub found_described : Described A c (controller (found_in A c (safe_part A L)).rows) (found_in A c (safe_part A L)).positions
  unfolding R K met Met nexts chosen found_in row_at steps command_at
  found_described =
      record {
        long = sym size_is;
        once = met_listed.once;
        first = first_at.1;
        safe = λ P i. in_safe P (leads_safe (met_listed.has P i));
        stays = λ s h x hx. (let hs : s < length met = omega (arith, size_is) in
            subst (λ u. InSafe A c (step A u x (get_or met s []))) (sym (command_is s hs)) (in_safe (step A (chosen (at s hs)) x (at s hs)) ((chosen_good (at s hs) (at_safe s hs)).1 x hx)));
        lowest_stays = λ s u h l st. (let hs : s < length met = omega (arith, size_is) in
            let low : u < command_at A R (at s hs) = omega (arith, command_is s hs) in
            both_ways (holds A R (at s hs) u) (lowest_least (holds A R (at s hs)) 0 A.commands u (omega arith) low)
            ((decides_holds A R (at s hs) u).1 (λ x hx. safe_in (step A u x (at s hs)) (st x hx))));
        nexts = λ s x h hx. (let hs : s < length met = omega (arith, size_is) in (next_at s hs x hx).1);
        numbered = numbered;
      }
