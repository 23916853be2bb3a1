-- Automata that answer alike below their numbers have the same solution. Assumes nothing.
use Rattle.std.proofs.Common.{◌≡◌, ℕ, zero, suc, ◌+◌, ◌<◌, ◌≤◌, max, Bool, true, false, cond, ◌&&◌, eqb, ltb, List, [], ◌∷◌, map, length, refl, ap, ◌∙◌, inl, inr, arith}
use mathlib.Core.Path.{fun_ext}
use mathlib.Core.Option.{Option, none, some}
use Rattle.std.specs.List.{range_with_len, filter}
use Rattle.model.specs.Automaton.{Automaton, weight, Row}
use Rattle.model.specs.Lists.{every, any, joined, In}
use Rattle.model.specs.Search.{place, reached_from}
use Rattle.model.specs.Positions.{Position, mark, largest, first_mark, start_position, handed, step, fits, same, steps, successors, reach, member, holds, kept, pruned, safe_part, lowest, command_at, states_met, row_at, Found, found_in, Solution, found, too_crowded, try_from, solve}
use Rattle.model.proofs.Lists.{counting_in}
use Rattle.synthesis.specs.Tables.{Agrees, SolvesAlike}
use Rattle.synthesis.proofs.Making.{map_like, joined_like, any_like}

lowest_like : (f g : ℕ → Bool) (xs : List ℕ) → ((x : ℕ) → In xs x → f x ≡ g x) → lowest f xs ≡ lowest g xs
lowest_like f g [] h = refl
lowest_like f g (x ∷ xs) h =
    ap {B = ℕ} (λ b. elim b as (λ v. ℕ) [ true ↦ x | false ↦ lowest f xs ]) (h x (inl refl))
    ∙ ap {B = ℕ} (λ t. elim (g x) as (λ v. ℕ) [ true ↦ x | false ↦ t ]) (lowest_like f g xs (λ y i. h y (inr i)))

lowest_below : (f : ℕ → Bool) (a n k : ℕ) → a + n ≤ k → 0 < k → lowest f (range_with_len a n) < k
lowest_below f a zero k h p = p
lowest_below f a (suc n) k h p = go (f a) (lowest_below f (a + 1) n k (omega arith) p)
  where
    go : (b : Bool) → lowest f (range_with_len (a + 1) n) < k → elim b as (λ v. ℕ) [ true ↦ a | false ↦ lowest f (range_with_len (a + 1) n) ] < k
    go true r = omega arith
    go false r = r

largest_like : (f g : ℕ → ℕ) (n : ℕ) → ((q : ℕ) → q < n → f q ≡ g q) → largest f n ≡ largest g n
largest_like f g zero h = refl
largest_like f g (suc n) h = ap {B = ℕ} (λ v. max v (largest f n)) (h n (omega arith)) ∙ ap {B = ℕ} (λ v. max (g n) v) (largest_like f g n (λ q l. h q (omega arith)))

below : (n x : ℕ) → In (range_with_len 0 n) x → x < n
below n x i = let b = counting_in 0 n x i in omega (arith, b.1)

module _ (A B : Automaton) (g : Agrees A B) (some-command : 0 < B.commands) where
  weight_same : (q : ℕ) → q < B.states → weight A q ≡ weight B q
  weight_same q h = ap {B = ℕ} (λ b. cond b 1 0) (g.reject q h)

  start_same : start_position A ≡ start_position B
  unfolding start_position
  start_same =
      ap {B = Position} (λ n. map (first_mark A) (range_with_len 0 n)) g.states
      ∙ map_like (first_mark A) (first_mark B) (range_with_len 0 B.states)
      (λ q i. ap {B = ℕ} (λ b. cond b (1 + weight A q) 0) (g.start q (below B.states q i)) ∙ ap {B = ℕ} (λ k. cond (B.start q) (1 + k) 0) (weight_same q (below B.states q i)))

  handed_same : (u x : ℕ) (P : Position) (p q : ℕ) → u < B.commands → x < B.situations → p < B.states → q < B.states → handed A u x P p q ≡ handed B u x P p q
  handed_same u x P p q hu hx hp hq =
      ap {B = ℕ} (λ b. cond (ltb 0 (mark P q) && b) (mark P q + weight A p) 0) (g.follows q u x p hq hu hx hp) ∙ ap {B = ℕ} (λ k. cond (ltb 0 (mark P q) && B.follows q u x p) (mark P q + k) 0) (weight_same p hp)

  step_same : (u x : ℕ) (P : Position) → u < B.commands → x < B.situations → step A u x P ≡ step B u x P
  unfolding step
  step_same u x P hu hx =
      ap {B = Position} (λ n. map (λ p. largest (handed A u x P p) n) (range_with_len 0 n)) g.states
      ∙ map_like (λ p. largest (handed A u x P p) B.states) (λ p. largest (handed B u x P p) B.states) (range_with_len 0 B.states)
      (λ p i. largest_like (handed A u x P p) (handed B u x P p) B.states (λ q h. handed_same u x P p q hu hx (below B.states p i) h))

  steps_same : (P : Position) (u : ℕ) → u < B.commands → steps A P u ≡ steps B P u
  unfolding steps
  steps_same P u hu =
      ap {B = List Position} (λ n. map (λ x. step A u x P) (range_with_len 0 n)) g.situations
      ∙ map_like (λ x. step A u x P) (λ x. step B u x P) (range_with_len 0 B.situations) (λ x i. step_same u x P hu (below B.situations x i))

  successors_same : (c : ℕ) (P : Position) → successors A c P ≡ successors B c P
  unfolding successors
  successors_same c P =
      ap {B = List Position} (filter (fits c))
      (ap {B = List Position} (λ n. joined (steps A P) (range_with_len 0 n)) g.commands
      ∙ joined_like (steps A P) (steps B P) (range_with_len 0 B.commands) (λ u i. steps_same P u (below B.commands u i)))

  reach_same : (c room : ℕ) → reach A c room ≡ reach B c room
  unfolding reach
  reach_same c room =
      let e : successors A c ≡ successors B c = fun_ext (successors_same c) in
      ap {B = Option (List Position)} (λ s. elim (fits c s) as (λ v. Option (List Position)) [ true ↦ reached_from same (successors A c) room s | false ↦ some [] ]) start_same
      ∙ ap {B = Option (List Position)} (λ f. elim (fits c (start_position B)) as (λ v. Option (List Position)) [ true ↦ reached_from same f room (start_position B) | false ↦ some [] ]) e

  holds_same : (L : List Position) (P : Position) (u : ℕ) → u < B.commands → holds A L P u ≡ holds B L P u
  unfolding holds
  holds_same L P u hu = ap {B = Bool} (every (member L)) (steps_same P u hu)

  kept_same : (L : List Position) (P : Position) → kept A L P ≡ kept B L P
  unfolding kept
  kept_same L P =
      ap {B = Bool} (λ n. any (holds A L P) (range_with_len 0 n)) g.commands
      ∙ any_like (holds A L P) (holds B L P) (range_with_len 0 B.commands) (λ u i. holds_same L P u (below B.commands u i))

  pruned_same : (n : ℕ) (L : List Position) → pruned A n L ≡ pruned B n L
  pruned_same zero L = refl
  pruned_same (suc n) L =
      let e : kept A L ≡ kept B L = fun_ext (kept_same L) in
      ap {B = List Position} (λ f. elim (eqb (length (filter f L)) (length L)) as (λ v. List Position) [ true ↦ L | false ↦ pruned A n (filter f L) ]) e
      ∙ ap {B = List Position} (λ r. elim (eqb (length (filter (kept B L) L)) (length L)) as (λ v. List Position) [ true ↦ L | false ↦ r ]) (pruned_same n (filter (kept B L) L))

  safe_same : (L : List Position) → safe_part A L ≡ safe_part B L
  unfolding safe_part
  safe_same L = pruned_same (length L) L

  command_same : (R : List Position) (P : Position) → command_at A R P ≡ command_at B R P
  unfolding command_at
  command_same R P =
      ap {B = ℕ} (λ n. lowest (holds A R P) (range_with_len 0 n)) g.commands
      ∙ lowest_like (holds A R P) (holds B R P) (range_with_len 0 B.commands) (λ u i. holds_same R P u (below B.commands u i))

  command_below : (R : List Position) (P : Position) → command_at B R P < B.commands
  unfolding command_at
  command_below R P = lowest_below (holds B R P) 0 B.commands B.commands (omega arith) some-command

  chosen_same : (R : List Position) (P : Position) → steps A P (command_at A R P) ≡ steps B P (command_at B R P)
  chosen_same R P = ap {B = List Position} (steps A P) (command_same R P) ∙ steps_same P (command_at B R P) (command_below R P)

  met_same : (R : List Position) → states_met A R ≡ states_met B R
  unfolding states_met
  met_same R =
      let next = λ (P : Position). steps A P (command_at A R P) in
      let next' = λ (P : Position). steps B P (command_at B R P) in
      let e : next ≡ next' = fun_ext (chosen_same R) in
      ap {B = List Position} (λ s. elim (reached_from same next (length R) s) as (λ v. List Position) [ none ↦ [] | some met ↦ met ]) start_same
      ∙ ap {B = List Position} (λ f. elim (reached_from same f (length R) (start_position B)) as (λ v. List Position) [ none ↦ [] | some met ↦ met ]) e

  row_same : (R met : List Position) (P : Position) → row_at A R met P ≡ row_at B R met P
  unfolding row_at
  row_same R met P =
      ap {B = Row} (λ l. record { command = command_at A R P; nexts = map (place same met) l }) (chosen_same R P)
      ∙ ap {B = Row} (λ u. record { command = u; nexts = map (place same met) (steps B P (command_at B R P)) }) (command_same R P)

  found_same : (c : ℕ) (R : List Position) → found_in A c R ≡ found_in B c R
  unfolding found_in
  found_same c R =
      let e : row_at A R (states_met B R) ≡ row_at B R (states_met B R) = fun_ext (row_same R (states_met B R)) in
      ap {B = Found} (λ met. record { count = c; rows = map (row_at A R met) met; positions = met }) (met_same R)
      ∙ ap {B = Found} (λ f. record { count = c; rows = map f (states_met B R); positions = states_met B R }) e

  try_same : (room turns c : ℕ) → try_from A room turns c ≡ try_from B room turns c
  try_same room zero c = refl
  try_same room (suc turns) c =
      ap {B = Solution} (λ o. elim o as (λ v. Solution) [ none ↦ too_crowded | some L ↦ elim (member (safe_part A L) (start_position A)) as (λ v. Solution) [ true ↦ found (found_in A c (safe_part A L)) | false ↦ try_from A room turns (suc c) ] ]) (reach_same c room)
      ∙ go (reach B c room) (try_same room turns (suc c))
    where
      go : (o : Option (List Position)) → try_from A room turns (suc c) ≡ try_from B room turns (suc c)
          → elim o as (λ v. Solution) [ none ↦ too_crowded | some L ↦ elim (member (safe_part A L) (start_position A)) as (λ v. Solution) [ true ↦ found (found_in A c (safe_part A L)) | false ↦ try_from A room turns (suc c) ] ]
          ≡ elim o as (λ v. Solution) [ none ↦ too_crowded | some L ↦ elim (member (safe_part B L) (start_position B)) as (λ v. Solution) [ true ↦ found (found_in B c (safe_part B L)) | false ↦ try_from B room turns (suc c) ] ]
      go none t = refl
      go (some L) t =
          ap {B = Solution} (λ R. elim (member R (start_position A)) as (λ v. Solution) [ true ↦ found (found_in A c R) | false ↦ try_from A room turns (suc c) ]) (safe_same L)
          ∙ ap {B = Solution} (λ s. elim (member (safe_part B L) s) as (λ v. Solution) [ true ↦ found (found_in A c (safe_part B L)) | false ↦ try_from A room turns (suc c) ]) start_same
          ∙ ap {B = Solution} (λ f. elim (member (safe_part B L) (start_position B)) as (λ v. Solution) [ true ↦ found f | false ↦ try_from A room turns (suc c) ]) (found_same c (safe_part B L))
          ∙ ap {B = Solution} (λ r. elim (member (safe_part B L) (start_position B)) as (λ v. Solution) [ true ↦ found (found_in B c (safe_part B L)) | false ↦ r ]) t

pub solves_alike : SolvesAlike
unfolding solve
solves_alike A B g h room limit = try_same A B g h room (suc limit) 0
