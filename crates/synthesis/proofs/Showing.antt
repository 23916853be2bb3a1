-- What a search among stored positions finds is the model's. Assumes nothing.
use Rattle.std.proofs.Common.{◌≡◌, ℕ, zero, suc, ◌+◌, ◌-◌, ◌*◌, ◌/◌, ◌%◌, ◌<◌, ◌≤◌, Bool, true, false, cond, ◌&&◌, eqb, ltb, List, [], ◌∷◌, ◌++◌, map, length, get_or, take, replicate, IfSome, Some, None, Option, sym, refl, ap, ◌∙◌, subst, inl, inr, arith}
use lib.Arith.{digits_div, digits_mod}
use Rattle.std.specs.List.{range_with_len, filter, AllByRecursion as All}
use Rattle.std.proofs.lemmas.List.{take_at, length-take-le, map-append, length-map, get_or-map}
use Rattle.std.proofs.ByRecursion.{All-append, All-get_or}
use Rattle.std.proofs.lemmas.Bool.{lt-ltb, le-ltb, cases_lt}
use Rattle.model.specs.Automaton.{Automaton}
use Rattle.model.specs.Lists.{joined}
use Rattle.model.specs.Search.{place, reached_from}
use mathlib.Core.Option.{Option as MaybeList, some}
use Rattle.synthesis.proofs.Carried.{found_back, none_back}
use Rattle.model.specs.Positions.{same, step, steps, fits, start_position, successors, reach}
use Rattle.model.proofs.Runs.{step_length, start_length}
use Rattle.synthesis.proofs.Deciding.{same_refl, same_sound}
use Rattle.synthesis.specs.declared.position.Position.{Position}
use Rattle.synthesis.specs.Tables.{view, stored, stepped}
use Rattle.search.specs.Meeting.{present, successors as neighbours, Link, Linked, Found}
use Rattle.synthesis.specs.Surveys.{candidate, shown, Leads, Stepping, Reached}
use Rattle.synthesis.proofs.Making.{joined_like}

-- THE SAME TEST

pub same_padded : (a b z : List ℕ) → length a ≡ length b → same (a ++ z) (b ++ z) ≡ same a b
same_padded [] [] z h = same_refl z
same_padded [] (y ∷ b) z h = absurd (omega arith)
same_padded (x ∷ a) [] z h = absurd (omega arith)
same_padded (x ∷ a) (y ∷ b) z h = ap {B = Bool} (λ t. elim (eqb x y) as (λ v. Bool) [ true ↦ t | false ↦ false ]) (same_padded a b z (omega arith))

pub stored_same : (n : ℕ) (a b : List ℕ) → length a ≡ n → length b ≡ n → same (stored a).marks (stored b).marks ≡ same a b
stored_same n a b ea eb =
    ap {B = Bool} (λ k. same (a ++ replicate (16 - length a) 0) (b ++ replicate (16 - k) 0)) (eb ∙ sym ea) ∙ same_padded a b (replicate (16 - length a) 0) (ea ∙ sym eb)

pub view_stored : (n : ℕ) (P : List ℕ) → length P ≡ n → view n (stored P) ≡ P
view_stored n P e = take_at P (replicate (16 - length P) 0) n e

-- THE SAME NEIGHBOURS

present_append : {X : Type 0} (os ps : List (Option X)) → present (os ++ ps) ≡ present os ++ present ps
present_append [] ps = refl
present_append (None ∷ os) ps = present_append os ps
present_append {X} (Some x ∷ os) ps = ap {B = List X} (λ l. x ∷ l) (present_append os ps)

present_joined : {X : Type 0} (f : ℕ → List (Option X)) (us : List ℕ) → present (joined f us) ≡ joined (λ u. present (f u)) us
present_joined f [] = refl
present_joined {X} f (u ∷ us) = present_append (f u) (joined f us) ∙ ap {B = List X} (λ l. present (f u) ++ l) (present_joined f us)

pub present_cut : {X : Type 0} (f : ℕ → Option X) (S a n : ℕ) → S ≤ a + n → present (map (λ x. cond (ltb x S) (f x) None) (range_with_len a n)) ≡ present (map f (range_with_len a (S - a)))
present_cut {X} f S a zero h = let e : 0 ≡ S - a = omega arith in ap {B = List X} (λ k. present (map f (range_with_len a k))) e
present_cut {X} f S a (suc n) h = elim (cases_lt a S) [
  | inl l ↦
      (let e : S - a ≡ suc (S - (a + 1)) = omega arith in
      let r = present_cut f S (a + 1) n (omega arith) in
      ap {B = List X} (λ b. present (cond b (f a) None ∷ map (λ x. cond (ltb x S) (f x) None) (range_with_len (a + 1) n))) (lt-ltb a S l)
      ∙ head (f a) (map (λ x. cond (ltb x S) (f x) None) (range_with_len (a + 1) n)) (map f (range_with_len (a + 1) (S - (a + 1)))) r
      ∙ ap {B = List X} (λ k. present (map f (range_with_len a k))) (sym e))
  | inr l ↦
      (let r = present_cut f S (a + 1) n (omega arith) in
      let e : S - (a + 1) ≡ 0 = omega arith in
      let z : S - a ≡ 0 = omega arith in
      ap {B = List X} (λ b. present (cond b (f a) None ∷ map (λ x. cond (ltb x S) (f x) None) (range_with_len (a + 1) n))) (le-ltb a S l)
      ∙ r ∙ ap {B = List X} (λ k. present (map f (range_with_len (a + 1) k))) e ∙ ap {B = List X} (λ k. present (map f (range_with_len a k))) (sym z))
]
  where
    head : (o : Option X) (os ps : List (Option X)) → present os ≡ present ps → present (o ∷ os) ≡ present (o ∷ ps)
    head None os ps e = e
    head (Some x) os ps e = ap {B = List X} (λ l. x ∷ l) e

joined_cut : {X : Type 0} (f : ℕ → List X) (S a n : ℕ) → S ≤ a + n → joined (λ u. cond (ltb u S) (f u) []) (range_with_len a n) ≡ joined f (range_with_len a (S - a))
joined_cut {X} f S a zero h = let e : 0 ≡ S - a = omega arith in ap {B = List X} (λ k. joined f (range_with_len a k)) e
joined_cut {X} f S a (suc n) h = elim (cases_lt a S) [
  | inl l ↦
      (let e : S - a ≡ suc (S - (a + 1)) = omega arith in
      let r = joined_cut f S (a + 1) n (omega arith) in
      ap {B = List X} (λ b. cond b (f a) [] ++ joined (λ u. cond (ltb u S) (f u) []) (range_with_len (a + 1) n)) (lt-ltb a S l)
      ∙ ap {B = List X} (λ k. f a ++ k) r
      ∙ ap {B = List X} (λ k. joined f (range_with_len a k)) (sym e))
  | inr l ↦
      (let r = joined_cut f S (a + 1) n (omega arith) in
      let e : S - (a + 1) ≡ 0 = omega arith in
      let z : S - a ≡ 0 = omega arith in
      ap {B = List X} (λ b. cond b (f a) [] ++ joined (λ u. cond (ltb u S) (f u) []) (range_with_len (a + 1) n)) (le-ltb a S l)
      ∙ r ∙ ap {B = List X} (λ k. joined f (range_with_len (a + 1) k)) e ∙ ap {B = List X} (λ k. joined f (range_with_len a k)) (sym z))
]

kept_append : {X : Type 0} (p : X → Bool) (xs ys : List X) → filter p (xs ++ ys) ≡ filter p xs ++ filter p ys
kept_append p [] ys = refl
kept_append {X} p (x ∷ xs) ys = go (p x) (kept_append p xs ys)
  where
    go : (b : Bool) → filter p (xs ++ ys) ≡ filter p xs ++ filter p ys → cond b (x ∷ filter p (xs ++ ys)) (filter p (xs ++ ys)) ≡ cond b (x ∷ filter p xs) (filter p xs) ++ filter p ys
    go true r = ap {B = List X} (λ l. x ∷ l) r
    go false r = r

-- 64 places are 8 rows of 8
rows : {X : Type 0} (f : ℕ → ℕ → X) → map (λ i. f (i / 8) (i % 8)) (range_with_len 0 64) ≡ joined (λ u. map (f u) (range_with_len 0 8)) (range_with_len 0 8)
rows f = refl

module _ (A : Automaton) (c : ℕ) (P : List ℕ) where
  steps_stored : (u : ℕ) (xs : List ℕ) → present (map (λ x. stepped A c u x P) xs) ≡ map stored (filter (fits c) (map (λ x. step A u x P) xs))
  unfolding stepped
  steps_stored u [] = refl
  steps_stored u (x ∷ xs) = go (fits c (step A u x P)) (steps_stored u xs)
    where
      go : (b : Bool) → present (map (λ x. stepped A c u x P) xs) ≡ map stored (filter (fits c) (map (λ x. step A u x P) xs))
          → present (cond b (Some (stored (step A u x P))) None ∷ map (λ x. stepped A c u x P) xs)
          ≡ map stored (cond b (step A u x P ∷ filter (fits c) (map (λ x. step A u x P) xs)) (filter (fits c) (map (λ x. step A u x P) xs)))
      go true r = ap {B = List Position} (λ l. stored (step A u x P) ∷ l) r
      go false r = r

  abbrev nothing : ℕ → Option Position
  nothing x = None

  nones : (xs : List ℕ) → present (map nothing xs) ≡ []
  nones [] = refl
  nones (x ∷ xs) = nones xs

  row_stored : A.situations ≤ 8 → (u : ℕ) → present (map (candidate A c P u) (range_with_len 0 8)) ≡ cond (ltb u A.commands) (map stored (filter (fits c) (steps A P u))) []
  unfolding steps
  row_stored h u = go (ltb u A.commands)
    where
      less : A.situations - 0 ≡ A.situations
      less = omega arith

      go : (b : Bool) → present (map (λ x. cond (b && ltb x A.situations) (stepped A c u x P) None) (range_with_len 0 8))
          ≡ cond b (map stored (filter (fits c) (map (λ x. step A u x P) (range_with_len 0 A.situations)))) []
      go true = present_cut (λ x. stepped A c u x P) A.situations 0 8 (omega arith) ∙ steps_stored u (range_with_len 0 (A.situations - 0)) ∙ ap {B = List Position} (λ k. map stored (filter (fits c) (map (λ x. step A u x P) (range_with_len 0 k)))) less
      go false = nones (range_with_len 0 8)

  all_stored : (us : List ℕ) → joined (λ u. map stored (filter (fits c) (steps A P u))) us ≡ map stored (filter (fits c) (joined (steps A P) us))
  all_stored [] = refl
  all_stored (u ∷ us) =
      ap {B = List Position} (λ l. map stored (filter (fits c) (steps A P u)) ++ l) (all_stored us)
      ∙ sym (map-append stored (filter (fits c) (steps A P u)) (filter (fits c) (joined (steps A P) us)))
      ∙ ap {B = List Position} (map stored) (sym (kept_append (fits c) (steps A P u) (joined (steps A P) us)))

  -- the neighbours in the code are those of the model, stored
  pub neighbours_stored : A.commands ≤ 8 → A.situations ≤ 8
      → present (map (λ i. candidate A c P (i / 8) (i % 8)) (range_with_len 0 64)) ≡ map stored (filter (fits c) (joined (steps A P) (range_with_len 0 A.commands)))
  neighbours_stored hc hs =
      let less : A.commands - 0 ≡ A.commands = omega arith in
      let F = λ (u : ℕ). map stored (filter (fits c) (steps A P u)) in
      ap {B = List Position} present (rows (candidate A c P))
      ∙ present_joined (λ u. map (candidate A c P u) (range_with_len 0 8)) (range_with_len 0 8)
      ∙ joined_like (λ u. present (map (candidate A c P u) (range_with_len 0 8))) (λ u. cond (ltb u A.commands) (F u) []) (range_with_len 0 8) (λ u _. row_stored hs u)
      ∙ joined_cut F A.commands 0 8 (omega arith)
      ∙ ap {B = List Position} (λ k. joined F (range_with_len 0 k)) less
      ∙ all_stored (range_with_len 0 A.commands)

  -- each has a mark for each state
  abbrev pub Whole : List ℕ → Type 0
  Whole Q = length Q ≡ A.states

  row_whole : (u : ℕ) (xs : List ℕ) → All Whole (map (λ x. step A u x P) xs)
  row_whole u [] = tt
  row_whole u (x ∷ xs) = (step_length A u x P, row_whole u xs)

  joined_whole : (us : List ℕ) → All Whole (joined (steps A P) us)
  unfolding steps
  joined_whole [] = tt
  joined_whole (u ∷ us) = All-append Whole (steps A P u) (joined (steps A P) us) (row_whole u (range_with_len 0 A.situations)) (joined_whole us)

  kept_whole : (Qs : List (List ℕ)) → All Whole Qs → All Whole (filter (fits c) Qs)
  kept_whole [] h = tt
  kept_whole (Q ∷ Qs) h = go (fits c Q) (kept_whole Qs h.1)
    where
      go : (b : Bool) → All Whole (filter (fits c) Qs) → All Whole (cond b (Q ∷ filter (fits c) Qs) (filter (fits c) Qs))
      go true r = (h.0, r)
      go false r = r

  pub neighbours_whole : All Whole (filter (fits c) (joined (steps A P) (range_with_len 0 A.commands)))
  neighbours_whole = kept_whole (joined (steps A P) (range_with_len 0 A.commands)) (joined_whole (range_with_len 0 A.commands))

-- THE TABLE OF STEPS

-- what stands at the place is the same
place_same : {X : Type 0} (alike : X → X → Bool) (xs : List X) (y d : X) → place alike xs y < length xs → alike y (get_or xs (place alike xs y) d) ≡ true
place_same alike [] y d h = absurd (omega arith)
place_same {X} alike (x ∷ xs) y d h = go (alike y x) refl h (place_same alike xs y d)
  where
    go : (b : Bool) → alike y x ≡ b → elim b as (λ v. ℕ) [ true ↦ 0 | false ↦ suc (place alike xs y) ] < suc (length xs)
        → (place alike xs y < length xs → alike y (get_or xs (place alike xs y) d) ≡ true)
        → alike y (get_or (x ∷ xs) (elim b as (λ v. ℕ) [ true ↦ 0 | false ↦ suc (place alike xs y) ]) d) ≡ true
    go true e h r = e
    go false e h r = r (omega arith)

abbrev pub alike : Position → Position → Bool
alike a b = same a.marks b.marks

module _ (A : Automaton) (c : ℕ) (L : List (List ℕ)) (whole : All (λ (Q : List ℕ). length Q ≡ A.states) L) where
  -- a link in the code, read in the model
  link_leads : (Q : List ℕ) (l : Option ℕ) → length Q ≡ A.states → Link alike (map stored L) (cond (fits c Q) (Some (stored Q)) None) l → Leads c L Q l
  link_leads Q l w h = go (fits c Q) refl h
    where
      go : (b : Bool) → fits c Q ≡ b → Link alike (map stored L) (cond b (Some (stored Q)) None) l → Leads c L Q l
      go false e k = subst (λ v. Leads c L Q v) (sym k) e
      go true e k =
          let n = length-map L stored in
          let at = place alike (map stored L) (stored Q) in
          let lt : at < length L = let j = k.1 in omega (arith, n, j) in
          let q : alike (stored Q) (stored (get_or L at [])) ≡ true =
          ap {B = Bool} (λ v. alike (stored Q) v) (sym (get_or-map stored L at [] (stored []) lt)) ∙ place_same alike (map stored L) (stored Q) (stored []) k.1 in
          let wl : length (get_or L at []) ≡ A.states = All-get_or (λ (Q : List ℕ). length Q ≡ A.states) L at [] lt whole in
          subst (λ v. Leads c L Q v) (sym k.0) (e, lt, sym (same_sound Q (get_or L at []) (sym (stored_same A.states Q (get_or L at []) w wl) ∙ q)))

  pub stepping : (links : List (List (Option ℕ))) → Linked alike 64 (λ P i. candidate A c (view A.states P) (i / 8) (i % 8)) (map stored L) links (length L)
      → A.situations ≤ 8 → A.commands ≤ 8 → Stepping A c L links
  unfolding stepped
  stepping links linked hs hc h u x hl hu hx =
      let j = u * 8 + x in
      let small : j < 64 = omega arith in
      let x8 : x < 8 = omega arith in
      let P = get_or L h [] in
      let wp : length P ≡ A.states = All-get_or (λ (Q : List ℕ). length Q ≡ A.states) L h [] hl whole in
      let k = linked h (stored []) hl j small in
      let at = λ (M : Position) (i : ℕ). candidate A c (view A.states M) (i / 8) (i % 8) in
      let here : get_or (map stored L) h (stored []) ≡ stored P = get_or-map stored L h [] (stored []) hl in
      let o : at (get_or (map stored L) h (stored [])) j ≡ cond (fits c (step A u x P)) (Some (stored (step A u x P))) None =
      ap {B = Option Position} (λ M. at M j) here
      ∙ ap {B = Option Position} (λ v. candidate A c v (j / 8) (j % 8)) (view_stored A.states P wp)
      ∙ ap {B = Option Position} (λ v. candidate A c P v (j % 8)) (digits_div u x8)
      ∙ ap {B = Option Position} (λ v. candidate A c P u v) (digits_mod u x8)
      ∙ ap {B = Option Position} (λ b. cond (b && ltb x A.situations) (stepped A c u x P) None) (lt-ltb u A.commands hu)
      ∙ ap {B = Option Position} (λ b. cond b (stepped A c u x P) None) (lt-ltb x A.situations hx) in
      link_leads (step A u x P) (get_or (get_or links h []) j None) (step_length A u x P) (subst (λ v. Link alike (map stored L) v (get_or (get_or links h []) j None)) o k)

-- what is stored shows again
pub shown_again : (n : ℕ) (L : List (List ℕ)) → All (λ (Q : List ℕ). length Q ≡ n) L → map (view n) (map stored L) ≡ L
shown_again n [] h = refl
shown_again n (P ∷ L) h = ap {B = List (List ℕ)} (λ v. v ∷ map (view n) (map stored L)) (view_stored n P h.0) ∙ ap {B = List (List ℕ)} (λ l. P ∷ l) (shown_again n L h.1)

-- THE SEARCH

module _ (A : Automaton) (c : ℕ) (hc : A.commands ≤ 8) (hs : A.situations ≤ 8) where
  abbrev pub at_place : Position → ℕ → Option Position
  at_place P i = candidate A c (view A.states P) (i / 8) (i % 8)

  leads_alike : (P : List ℕ) → length P ≡ A.states → neighbours 64 at_place (stored P) ≡ map stored (successors A c P)
  unfolding successors
  leads_alike P w = ap {B = List Position} (λ v. present (map (λ i. candidate A c v (i / 8) (i % 8)) (range_with_len 0 64))) (view_stored A.states P w) ∙ neighbours_stored A c P hc hs

  stays_whole : (P : List ℕ) → length P ≡ A.states → All (λ (Q : List ℕ). length Q ≡ A.states) (successors A c P)
  unfolding successors
  stays_whole P w = neighbours_whole A c P

  within_c : (room : ℕ) → fits c (start_position A) ≡ true → reach A c room ≡ reached_from same (successors A c) room (start_position A)
  unfolding reach
  within_c room e =
      ap {B = MaybeList (List (List ℕ))} (λ b. elim b as (λ v. MaybeList (List (List ℕ))) [ true ↦ reached_from same (successors A c) room (start_position A) | false ↦ some [] ]) e

  pub explored_reached : (o : Option ℕ) (slots : List Position) (links : List (List (Option ℕ))) → fits c (start_position A) ≡ true
      → Found o slots (reached_from alike (neighbours 64 at_place) (length slots) (stored (start_position A)))
      → IfSome o (λ n. Linked alike 64 at_place (take n slots) links n)
      → Reached A c (length slots) o slots links
  explored_reached None slots links e h linked =
      within_c (length slots) e
      ∙ none_back same (successors A c) alike (neighbours 64 at_place) stored (λ (Q : List ℕ). length Q ≡ A.states) (stored_same A.states) leads_alike stays_whole (length slots) (start_position A) (start_length A) h
  explored_reached (Some n) slots links e h linked =
      let b = found_back same (successors A c) alike (neighbours 64 at_place) stored (λ (Q : List ℕ). length Q ≡ A.states) (stored_same A.states) leads_alike stays_whole (length slots) (start_position A) (start_length A) (take n slots) h.2 in
      let L = b.0 in
      let eT : take n slots ≡ map stored L = b.2 in
      let eL : shown A n slots ≡ L = ap {B = List (List ℕ)} (map (view A.states)) eT ∙ shown_again A.states L b.3 in
      let k : length L ≡ n = sym (length-map L stored) ∙ ap {B = ℕ} length (sym eT) ∙ length-take-le n slots h.1 in
      let on : Linked alike 64 at_place (map stored L) links (length L) = subst (λ v. Linked alike 64 at_place (map stored L) links v) (sym k) (subst (λ v. Linked alike 64 at_place v links n) eT linked) in (
        h.1,
        within_c (length slots) e ∙ b.1 ∙ ap {B = MaybeList (List (List ℕ))} some (sym eL),
        subst (λ v. Stepping A c v links) (sym eL) (stepping A c L b.3 links on hs hc),
      )

pub over_at_start : (A : Automaton) (c room : ℕ) → fits c (start_position A) ≡ false → reach A c room ≡ some []
unfolding reach
over_at_start A c room e =
    ap {B = MaybeList (List (List ℕ))} (λ b. elim b as (λ v. MaybeList (List (List ℕ))) [ true ↦ reached_from same (successors A c) room (start_position A) | false ↦ some [] ]) e
