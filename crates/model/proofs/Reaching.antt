-- Reach(c) is listed, and the safe part of it is the largest safe set.
use Rattle.std.proofs.Common.{◌≡◌, ℕ, zero, suc, ◌+◌, ◌<◌, ◌≤◌, true, false, eqb, leb, ◌⊎◌, ◌↔◌, List, [], ◌∷◌, length, Decides, sym, ap, ◌∙◌, subst, inl, inr, arith, length-append}
use mathlib.Core.Option.{Option, none, some}
use Rattle.std.specs.List.{range_with_len, filter}
use Rattle.std.proofs.lemmas.Bool.{cases_Bool, both_ways, leb-true, le-leb, eqb-true, eqb-false}
use Rattle.std.proofs.lemmas.Bool.Decides.{Decides-like}
use Rattle.model.specs.Automaton.{Automaton}
use Rattle.model.specs.Search.{reached_from}
use Rattle.model.specs.Lists.{joined, In, Distinct}
use Rattle.model.specs.Positions.{successors, Position, mark, start_position, step, Fits, fits, same, Reach, at_start, by_step, MoreThan, Safe, steps, reach, member, holds, kept, pruned, safe_part}
use Rattle.model.specs.SearchLaws.{InMeetingOrder, Leads, here, further, ReachExact, SafePartLargest}
use Rattle.model.proofs.Lists.{in_map, map_in, in_joined, joined_in, in_counting, counting_in, in_kept_by, kept_by_in, kept_by_turn, decides_any, decides_every, decides_same, in_getD}
use Rattle.model.proofs.Searches.{decides_met, Result, searched}
use Rattle.model.proofs.Runs.{start_length, step_length}

-- tests

pub decides_member : (L : List Position) (P : Position) → Decides (member L P) (In L P)
unfolding member
decides_member L P = decides_met same decides_same L P

in_mark : (P : Position) (m : ℕ) → In P m → (q : ℕ) × (q < length P) × (mark P q ≡ m)
in_mark [] m i = absurd i
in_mark (a ∷ P) m (inl e) = (0, omega arith, sym e)
in_mark (a ∷ P) m (inr i) = let (q, h, e) = in_mark P m i in (suc q, omega arith, e)

pub decides_fits : (A : Automaton) (c : ℕ) (P : Position) → length P ≡ A.states → Decides (fits c P) (Fits A c P)
unfolding fits
decides_fits A c P l =
    Decides-like (fits c P) (λ all q h. all (mark P q) (in_getD P q 0 (omega arith)))
    (λ f m i. (let (q, h, e) = in_mark P m i in let k : mark P q ≤ c + 1 = f q (omega arith) in omega arith))
    (decides_every (λ m. leb m (c + 1)) (λ m. m ≤ c + 1) (λ m. (leb-true m (c + 1), le-leb m (c + 1))) P)

module _ (A : Automaton) where
  pub in_steps : (P : Position) (u x : ℕ) → x < A.situations → In (steps A P u) (step A u x P)
  unfolding steps
  in_steps P u x h = in_map (λ x. step A u x P) (range_with_len 0 A.situations) x (in_counting 0 A.situations x (omega arith) (omega arith))

  pub steps_in : (P Q : Position) (u : ℕ) → In (steps A P u) Q → (x : ℕ) × (x < A.situations) × (Q ≡ step A u x P)
  unfolding steps
  steps_in P Q u i =
      let (x, j, e) = map_in (λ x. step A u x P) (range_with_len 0 A.situations) Q i in
      let r : (0 ≤ x) × (x < 0 + A.situations) = counting_in 0 A.situations x j in
      (x, omega (arith, r.1), e)

  pub decides_holds : (L : List Position) (P : Position) (u : ℕ) → Decides (holds A L P u) ((x : ℕ) → x < A.situations → In L (step A u x P))
  unfolding holds
  decides_holds L P u =
      Decides-like (holds A L P u) (λ all x h. all (step A u x P) (in_steps P u x h))
      (λ all Q i. (let (x, h, e) = steps_in P Q u i in subst (λ R. In L R) (sym e) (all x h)))
      (decides_every (member L) (In L) (decides_member L) (steps A P u))

  pub decides_kept : (L : List Position) (P : Position) → Decides (kept A L P) ((u : ℕ) × (u < A.commands) × ((x : ℕ) → x < A.situations → In L (step A u x P)))
  unfolding kept
  decides_kept L P =
      Decides-like (kept A L P)
      (λ r. (let (u, i, h) = r in let k : (0 ≤ u) × (u < 0 + A.commands) = counting_in 0 A.commands u i in (u, omega (arith, k.1), h)))
      (λ r. (let (u, l, h) = r in (u, in_counting 0 A.commands u (omega arith) (omega arith), h)))
      (decides_any (holds A L P) (λ u. (x : ℕ) → x < A.situations → In L (step A u x P)) (decides_holds L P) (range_with_len 0 A.commands))

-- Reach(c)

module _ (A : Automaton) (c : ℕ) where
  pub reach_length : {P : Position} → Reach A c P → length P ≡ A.states
  reach_length (at_start f) = start_length A
  reach_length (by_step {P} u x r hu hx f) = step_length A u x P

  pub reach_fits : {P : Position} → Reach A c P → Fits A c P
  reach_fits (at_start f) = f
  reach_fits (by_step u x r hu hx f) = f

  in_nexts : (P : Position) (u x : ℕ) → u < A.commands → x < A.situations → Fits A c (step A u x P) → In ((successors A c) P) (step A u x P)
  unfolding successors
  in_nexts P u x hu hx f =
      in_kept_by (fits c) (joined (steps A P) (range_with_len 0 A.commands)) (step A u x P)
      (in_joined (steps A P) (range_with_len 0 A.commands) u (step A u x P) (in_counting 0 A.commands u (omega arith) (omega arith)) (in_steps A P u x hx))
      ((decides_fits A c (step A u x P) (step_length A u x P)).1 f)

  nexts_in : (P Q : Position) → In ((successors A c) P) Q → (u : ℕ) × (x : ℕ) × (u < A.commands) × (x < A.situations) × (Q ≡ step A u x P) × Fits A c (step A u x P)
  unfolding successors
  nexts_in P Q i =
      let (j, f) = kept_by_in (fits c) (joined (steps A P) (range_with_len 0 A.commands)) Q i in
      let (u, k, s) = joined_in (steps A P) (range_with_len 0 A.commands) Q j in
      let (x, hx, e) = steps_in A P Q u s in
      let r : (0 ≤ u) × (u < 0 + A.commands) = counting_in 0 A.commands u k in
      (u, x, omega (arith, r.1), hx, e, (decides_fits A c (step A u x P) (step_length A u x P)).0 (ap (fits c) (sym e) ∙ f))

  module _ (fit : Fits A c (start_position A)) where
    leads_reach : {P : Position} → Leads (successors A c) (start_position A) P → Reach A c P
    leads_reach here = at_start fit
    leads_reach (further {y = P} Q l i) =
        let (u, x, hu, hx, e, f) = nexts_in P Q i in
        subst (λ R. Reach A c R) (sym e) (by_step u x (leads_reach l) hu hx f)

    reach_leads : {P : Position} → Reach A c P → Leads (successors A c) (start_position A) P
    reach_leads (at_start f) = here
    reach_leads (by_step {P} u x r hu hx f) = further {y = P} (step A u x P) (reach_leads r) (in_nexts P u x hu hx f)

  reach_starts : {P : Position} → Reach A c P → Fits A c (start_position A)
  reach_starts (at_start f) = f
  reach_starts (by_step u x r hu hx f) = reach_starts r

  abbrev pub Reached : ℕ → Option (List Position) → Type 0
  Reached capacity none = MoreThan A c capacity
  Reached capacity (some L) = Distinct L × (length L ≤ capacity) × ((P : Position) → In L P ↔ Reach A c P) × InMeetingOrder (successors A c) (start_position A) L

  pub reached : (capacity : ℕ) → Reached capacity (reach A c capacity)
  unfolding reach reached_from
  reached capacity = go (cases_Bool (fits c (start_position A)))
    where
      shut : Decides (fits c (start_position A)) (Fits A c (start_position A))
      shut = decides_fits A c (start_position A) (start_length A)

      carry : Fits A c (start_position A) → (o : Option (List Position)) → Result same decides_same (successors A c) capacity (start_position A) o → Reached capacity o
      carry fit none (L, d, h, m) = (L, d, λ P i. leads_reach fit (h P i), m)
      carry fit (some L) r = (r.once, r.few, λ P. (λ i. leads_reach fit (r.has P i), λ h. r.all P (reach_leads fit h)), r.ordered)

      go : (fits c (start_position A) ≡ true) ⊎ (fits c (start_position A) ≡ false) → Reached capacity (reach A c capacity)
      go (inl t) =
          let e : reach A c capacity ≡ reached_from same (successors A c) capacity (start_position A) = rw (t, reach) in
          subst (Reached capacity) (sym e) (carry (shut.0 t) (reached_from same (successors A c) capacity (start_position A)) (searched same decides_same (successors A c) capacity (start_position A)))
      go (inr n) =
          let e : reach A c capacity ≡ some [] = rw (n, reach) in
          subst (Reached capacity) (sym e) (tt, omega arith, (λ P. (λ i. absurd i, λ r. absurd (both_ways (fits c (start_position A)) n (shut.1 (reach_starts r))))), λ before y behind e. absurd (omega (arith, ap length e, length-append before (y ∷ behind))))

pub reach_exact : ReachExact
reach_exact A c capacity =
    (λ L e. subst (Reached A c capacity) e (reached A c capacity), λ e. subst (Reached A c capacity) e (reached A c capacity))

-- the safe part

module _ (A : Automaton) where
  abbrev left : List Position → List Position
  left L = filter (kept A L) L

  pruned_stop : (rounds : ℕ) (L : List Position) → eqb (length (left L)) (length L) ≡ true → pruned A (suc rounds) L ≡ L
  pruned_stop rounds L t = rw (t, pruned)

  pruned_on : (rounds : ℕ) (L : List Position) → eqb (length (left L)) (length L) ≡ false → pruned A (suc rounds) L ≡ pruned A rounds (left L)
  pruned_on rounds L n = rw (n, pruned)

  pub pruned_in : (rounds : ℕ) (L : List Position) (P : Position) → In (pruned A rounds L) P → In L P
  pruned_in zero L P i = i
  pruned_in (suc rounds) L P i = go (cases_Bool (eqb (length (left L)) (length L))) (pruned_in rounds (left L) P)
    where
      go : (eqb (length (left L)) (length L) ≡ true) ⊎ (eqb (length (left L)) (length L) ≡ false) → (In (pruned A rounds (left L)) P → In (left L) P) → In L P
      go (inl t) below = subst (λ l. In l P) (pruned_stop rounds L t) i
      go (inr n) below = (kept_by_in (kept A L) L P (below (subst (λ l. In l P) (pruned_on rounds L n) i))).0

  pub pruned_kept : (rounds : ℕ) (L : List Position) → length L ≤ rounds → (P : Position) → In (pruned A rounds L) P → kept A (pruned A rounds L) P ≡ true
  pruned_kept zero [] h P i = absurd i
  pruned_kept zero (Q ∷ L) h P i = absurd (omega arith)
  pruned_kept (suc rounds) L h P i = go (cases_Bool (eqb (length (left L)) (length L))) (pruned_kept rounds (left L))
    where
      all : eqb (length (left L)) (length L) ≡ true → (left L ≡ L) ⊎ (length (left L) < length L) → left L ≡ L
      all t (inl e) = e
      all t (inr l) = absurd (omega (arith, eqb-true (length (left L)) (length L) t))

      less : eqb (length (left L)) (length L) ≡ false → (left L ≡ L) ⊎ (length (left L) < length L) → length (left L) < length L
      less n (inl e) = absurd (eqb-false (length (left L)) (length L) n (ap length e))
      less n (inr l) = l

      go : (eqb (length (left L)) (length L) ≡ true) ⊎ (eqb (length (left L)) (length L) ≡ false)
          → (length (left L) ≤ rounds → (P : Position) → In (pruned A rounds (left L)) P → kept A (pruned A rounds (left L)) P ≡ true)
          → kept A (pruned A (suc rounds) L) P ≡ true
      go (inl t) below =
          let e : pruned A (suc rounds) L ≡ L = pruned_stop rounds L t in
          let f : left L ≡ L = all t (kept_by_turn (kept A L) L) in
          subst (λ l. kept A l P ≡ true) (sym e) (kept_by_in (kept A L) L P (subst (λ l. In l P) (e ∙ sym f) i)).1
      go (inr n) below =
          let e : pruned A (suc rounds) L ≡ pruned A rounds (left L) = pruned_on rounds L n in
          let l : length (left L) < length L = less n (kept_by_turn (kept A L) L) in
          subst (λ l. kept A l P ≡ true) (sym e) (below (omega arith) P (subst (λ l. In l P) e i))

  -- a set each of whose positions has a command that stays in it is never touched
  module _ (S : Position → Type 0) (safe : (P : Position) → S P → (u : ℕ) × (u < A.commands) × ((x : ℕ) → x < A.situations → S (step A u x P))) where
    pub pruned_keeps : (rounds : ℕ) (L : List Position) → ((P : Position) → S P → In L P) → (P : Position) → S P → In (pruned A rounds L) P
    pruned_keeps zero L within P m = within P m
    pruned_keeps (suc rounds) L within P m = go (cases_Bool (eqb (length (left L)) (length L))) (pruned_keeps rounds (left L))
      where
        stays : (Q : Position) → S Q → In (left L) Q
        stays Q n =
            let (u, h, k) = safe Q n in
            in_kept_by (kept A L) L Q (within Q n) ((decides_kept A L Q).1 (u, h, λ x hx. within (step A u x Q) (k x hx)))

        go : (eqb (length (left L)) (length L) ≡ true) ⊎ (eqb (length (left L)) (length L) ≡ false)
            → (((P : Position) → S P → In (left L) P) → (P : Position) → S P → In (pruned A rounds (left L)) P) → In (pruned A (suc rounds) L) P
        go (inl t) below = subst (λ l. In l P) (sym (pruned_stop rounds L t)) (within P m)
        go (inr n) below = subst (λ l. In l P) (sym (pruned_on rounds L n)) (below stays P m)

  pub part_in : (L : List Position) (P : Position) → In (safe_part A L) P → In L P
  unfolding safe_part
  part_in L P i = pruned_in (length L) L P i

  pub part_kept : (L : List Position) (P : Position) → In (safe_part A L) P → (u : ℕ) × (u < A.commands) × ((x : ℕ) → x < A.situations → In (safe_part A L) (step A u x P))
  unfolding safe_part
  part_kept L P i = (decides_kept A (safe_part A L) P).0 (pruned_kept (length L) L (omega arith) P i)

module _ (A : Automaton) (c : ℕ) (L : List Position) (lists : (P : Position) → In L P ↔ Reach A c P) where
  pub part_fits : (P : Position) → In (safe_part A L) P → Fits A c P
  part_fits P i = reach_fits A c ((lists P).0 (part_in A L P i))

  pub part_safe : Safe A c (In (safe_part A L))
  part_safe P i = let (u, h, k) = part_kept A L P i in (u, h, λ x hx. (part_fits (step A u x P) (k x hx), k x hx))

  pub part_largest : (S : Position → Type 0) → Safe A c S → ((P : Position) → S P → Reach A c P) → (P : Position) → S P → In (safe_part A L) P
  unfolding safe_part
  part_largest S safe within P m =
      pruned_keeps A S (λ Q n. (let (u, h, k) = safe Q n in (u, h, λ x hx. (k x hx).1))) (length L) L (λ Q n. (lists Q).1 (within Q n)) P m

pub safe_part_largest : SafePartLargest
safe_part_largest A c capacity L e =
    let (d, few, lists, ordered) = (reach_exact A c capacity).0 L e in
    (part_safe A c L lists, λ S safe within P i. part_largest A c L lists (In S) safe within P i)
