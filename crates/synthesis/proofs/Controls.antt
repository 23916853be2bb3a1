-- The states found in the table are the model's, and so are the rows. Assumes nothing.
use Rattle.std.proofs.Common.{◌≡◌, ℕ, suc, ◌-◌, ◌<◌, ◌≤◌, Bool, true, false, cond, ◌&&◌, eqb, ltb, List, [], ◌∷◌, map, length, get_or, Some, None, Option, sym, refl, ap, ◌∙◌, subst, inl, inr, arith}
use mathlib.Core.Option.{Option as MaybeList, some}
use Rattle.std.specs.Option.{unwrap_or}
use Rattle.std.specs.List.{range_with_len, AllByRecursion as All}
use Rattle.std.proofs.lemmas.Bool.{lt-ltb, eq-eqb, eqb-true}
use Rattle.model.specs.Automaton.{Automaton, Row}
use Rattle.model.specs.Lists.{In, Distinct}
use Rattle.model.specs.Search.{place, reached_from}
use Rattle.model.specs.Positions.{Position, same, step, steps, fits, member, command_at, row_at}
use Rattle.model.proofs.Lists.{counting_in, one_place}
use Rattle.synthesis.proofs.Deciding.{same_bool, same_refl, same_sound, member_sound, holds_complete}
use Rattle.search.specs.Meeting.{present, successors as neighbours, Link, Linked}
use Rattle.synthesis.proofs.Carried.{carried, search_carried}
use Rattle.synthesis.specs.Surveys.{Stepping}
use Rattle.synthesis.specs.Safety.{link, flag, Holding, lowest_kept}
use Rattle.synthesis.specs.Control.{led, onward, next_states}
use Rattle.synthesis.proofs.Showing.{present_cut}
use Rattle.synthesis.proofs.Pruned.{flag_inside}
use Rattle.synthesis.proofs.Flags.{link_to, holds_holding, choice_is}
use Rattle.synthesis.proofs.Lowest.{Lowest, into_some, kept}
use Rattle.synthesis.proofs.Making.{map-map, map_like}

present_all : {X : Type 0} (o : ℕ → Option X) (f : ℕ → X) (xs : List ℕ) → ((x : ℕ) → In xs x → o x ≡ Some (f x)) → present (map o xs) ≡ map f xs
present_all o f [] h = refl
present_all {X} o f (x ∷ xs) h = ap {B = List X} (λ v. present (v ∷ map o xs)) (h x (inl refl)) ∙ ap {B = List X} (λ l. f x ∷ l) (present_all o f xs (λ y i. h y (inr i)))

all_map_in : {X Y : Type 0} (P : Y → Type 0) (f : X → Y) (xs : List X) → ((x : X) → In xs x → P (f x)) → All P (map f xs)
all_map_in P f [] h = tt
all_map_in P f (x ∷ xs) h = (h x (inl refl), all_map_in P f xs (λ y i. h y (inr i)))

module _ (A : Automaton) (c : ℕ) (L : List Position) (links : List (List (Option ℕ))) (table : Stepping A c L links)
    (low : (u x h : ℕ) → In L (step A u x (get_or L h [])) → fits c (step A u x (get_or L h [])) ≡ true)
    (R : List Position) (within : (Q : Position) → In R Q → In L Q) (flags : List Bool) (long : length flags ≡ length L)
    (is : (h : ℕ) → h < length L → flag flags h ≡ member R (get_or L h []))
    (safe : (P : Position) → In R P → (u : ℕ) × (u < A.commands) × ((x : ℕ) → x < A.situations → In R (step A u x P)))
    (apart : Distinct L) (hs : A.situations ≤ 8) where
  abbrev pub at : ℕ → Position
  at h = get_or L h []

  abbrev pub Good : ℕ → Type 0
  Good h = flag flags h ≡ true

  inside : (h : ℕ) → Good h → h < length L
  inside h g = let i = flag_inside flags h g in omega (arith, i, long)

  abbrev pub go_on : ℕ → ℕ → Option ℕ
  go_on = onward A.commands A.situations links flags

  -- the command that is lowest-kept
  pub record Pick (h : ℕ) : Type 0 where
    pub command : ℕ
    pub is_lowest : lowest_kept A.commands A.situations links flags h ≡ Some command
    pub known : command < A.commands
    pub holding : Holding A.situations links (flag flags) h command
    pub is_model : command_at A R (at h) ≡ command

  pub pick_at : (h : ℕ) → Good h → Pick h
  pick_at h g = go (lowest_kept A.commands A.situations links flags h) refl (kept A.situations links flags h A.commands)
    where
      go : (o : Option ℕ) → lowest_kept A.commands A.situations links flags h ≡ o → Lowest A.situations links flags h A.commands o → Pick h
      go None e t =
          let hl = inside h g in
          let s = safe (at h) (member_sound R (at h) (sym (is h hl) ∙ g)) in
          absurd (t s.0 s.1 (holds_holding A c L links table low R within flags long is h s.0 hl s.1 (holds_complete A R (at h) s.0 s.2)))
      go (Some u) e t =
          record { command = u; is_lowest = e; known = t.0; holding = t.1; is_model = choice_is A c L links table low R within flags long is h u (inside h g) t.0 t.1 t.2 }

  -- where that command leads
  to : (h : ℕ) → Good h → ℕ → ℕ
  to h g x = unwrap_or (link links h (pick_at h g).command x) 0

  -- there is a link there, to a flagged place
  to_is : (h x : ℕ) (g : Good h) → x < A.situations → (link links h (pick_at h g).command x ≡ Some (to h g x)) × Good (to h g x)
  unfolding to
  to_is h x g hx =
      let p = pick_at h g in
      let q = into_some (flag flags) (link links h p.command x) (p.holding x hx) in
      let e : q.0 ≡ unwrap_or (link links h p.command x) 0 = sym (ap {B = ℕ} (λ o. unwrap_or o 0) q.1) in
      (q.1 ∙ ap (λ l. Some l) e, subst (λ l. flag flags l ≡ true) e q.2)

  below : (x : ℕ) → In (range_with_len 0 A.situations) x → x < A.situations
  below x i = let b = counting_in 0 A.situations x i in omega (arith, b.1)

  -- the places that the lowest-kept command leads to
  around_at : (h : ℕ) (g : Good h) → neighbours 8 go_on h ≡ map (to h g) (range_with_len 0 A.situations)
  around_at h g =
      let p = pick_at h g in
      let u = p.command in
      let S = A.situations in
      let hn : ltb h (length flags) ≡ true = lt-ltb h (length flags) (flag_inside flags h g) in
      let less : S - 0 ≡ S = omega arith in
      ap {B = List ℕ} (λ b. present (map (λ x. cond (b && ltb x S) (led (λ u. link links h u x) (lowest_kept A.commands S links flags h)) None) (range_with_len 0 8))) hn
      ∙ ap {B = List ℕ} (λ o. present (map (λ x. cond (ltb x S) (led (λ u. link links h u x) o) None) (range_with_len 0 8))) p.is_lowest
      ∙ present_cut (λ x. link links h u x) S 0 8 (omega arith)
      ∙ ap {B = List ℕ} (λ k. present (map (λ x. link links h u x) (range_with_len 0 k))) less
      ∙ present_all (λ x. link links h u x) (to h g) (range_with_len 0 S) (λ x i. (to_is h x g (below x i)).0)

  step_at : (h x : ℕ) (g : Good h) → x < A.situations → at (to h g x) ≡ step A (pick_at h g).command x (at h)
  step_at h x g hx =
      let p = pick_at h g in
      link_to c L (step A p.command x (at h)) (link links h p.command x) (to h g x) (table h p.command x (inside h g) p.known hx) (to_is h x g hx).0

  pub tests : (a b : ℕ) → Good a → Good b → same (at a) (at b) ≡ eqb a b
  tests a b ga gb =
      same_bool (same (at a) (at b)) (eqb a b)
      (λ e. eq-eqb a b (one_place L a b [] apart (inside a ga) (inside b gb) (same_sound (at a) (at b) e)))
      (λ e. ap {B = Bool} (λ v. same (at a) (at v)) (sym (eqb-true a b e)) ∙ same_refl (at a))

  pub leads : (h : ℕ) → Good h → steps A (at h) (command_at A R (at h)) ≡ map at (neighbours 8 go_on h)
  unfolding steps
  leads h g =
      let p = pick_at h g in
      let u = p.command in
      ap {B = List Position} (λ v. map (λ x. step A v x (at h)) (range_with_len 0 A.situations)) p.is_model
      ∙ map_like (λ x. step A u x (at h)) (λ x. at (to h g x)) (range_with_len 0 A.situations) (λ x i. sym (step_at h x g (below x i)))
      ∙ sym (map-map (to h g) at (range_with_len 0 A.situations))
      ∙ ap {B = List Position} (map at) (sym (around_at h g))

  pub stays : (h : ℕ) → Good h → All Good (neighbours 8 go_on h)
  stays h g = subst (λ l. All Good l) (sym (around_at h g)) (all_map_in Good (to h g) (range_with_len 0 A.situations) (λ x i. (to_is h x g (below x i)).1))

  -- the states are the model's
  pub states_are : (T : List ℕ) (start : Position) → Good 0 → at 0 ≡ start → reached_from eqb (neighbours 8 go_on) (length R) 0 ≡ some T
      → reached_from same (λ P. steps A P (command_at A R P)) (length R) start ≡ some (map at T)
  states_are T start g e h =
      ap {B = MaybeList (List Position)} (λ v. reached_from same (λ P. steps A P (command_at A R P)) (length R) v) (sym e)
      ∙ search_carried eqb (neighbours 8 go_on) same (λ P. steps A P (command_at A R P)) at Good tests leads stays (length R) 0 g
      ∙ ap {B = MaybeList (List Position)} (carried at) h

  -- places of good nodes
  place_carried : (T : List ℕ) (y : ℕ) → Good y → All Good T → place same (map at T) (at y) ≡ place eqb T y
  place_carried [] y g h = refl
  place_carried (x ∷ T) y g h =
      ap {B = ℕ} (λ b. elim b as (λ v. ℕ) [ true ↦ 0 | false ↦ suc (place same (map at T) (at y)) ]) (tests y x g h.0)
      ∙ ap {B = ℕ} (λ n. elim (eqb y x) as (λ v. ℕ) [ true ↦ 0 | false ↦ suc n ]) (place_carried T y g h.1)

  -- the row of the state at s
  pub row_is : (T : List ℕ) (nexts : List (List (Option ℕ))) (s : ℕ) → All Good T → s < length T → Linked eqb 8 go_on T nexts (length T) → (g : Good (get_or T s 0))
      → row_at A R (map at T) (at (get_or T s 0)) ≡ record { command = (pick_at (get_or T s 0) g).command; nexts = next_states nexts s A.situations }
  unfolding row_at steps
  row_is T nexts s good lt linked g =
      let h = get_or T s 0 in
      let p = pick_at h g in
      let u = p.command in
      let S = A.situations in
      let xs = range_with_len 0 S in
      let next = λ (x : ℕ). unwrap_or (get_or (get_or nexts s []) x None) 0 in
      let each : (x : ℕ) → In xs x → place same (map at T) (step A u x (at h)) ≡ next x =
      λ x i.
      let hx = below x i in
      let x8 : x < 8 = omega arith in
      let l = to h g x in
      let k = linked s 0 lt x x8 in
      let o : go_on h x ≡ Some l =
      ap {B = Option ℕ} (λ b. cond (b && ltb x S) (led (λ u. link links h u x) (lowest_kept A.commands S links flags h)) None) (lt-ltb h (length flags) (flag_inside flags h g))
      ∙ ap {B = Option ℕ} (λ b. cond b (led (λ u. link links h u x) (lowest_kept A.commands S links flags h)) None) (lt-ltb x S hx)
      ∙ ap {B = Option ℕ} (led (λ u. link links h u x)) p.is_lowest
      ∙ (to_is h x g hx).0 in
      let m = subst (λ v. Link eqb T v (get_or (get_or nexts s []) x None)) o k in
      ap {B = ℕ} (place same (map at T)) (sym (step_at h x g hx)) ∙ place_carried T l (to_is h x g hx).1 good ∙ sym (ap {B = ℕ} (λ o. unwrap_or o 0) m.0) in
      ap {B = Row} (λ v. record { command = v; nexts = map (place same (map at T)) (map (λ x. step A v x (at h)) xs) }) p.is_model
      ∙ ap {B = Row} (λ l. record { command = u; nexts = l }) (map-map (λ x. step A u x (at h)) (place same (map at T)) xs ∙ map_like (λ x. place same (map at T) (step A u x (at h))) next xs each)
