-- Solve, over one automaton: the count found is the least of any controller; none is found, or the search is crowded, only where that is so.
use Rattle.std.proofs.Common.{◌≡◌, ℕ, zero, suc, ◌+◌, ◌<◌, ◌≤◌, true, false, ◌⊎◌, ◌↔◌, List, [], length, get_or, sym, refl, subst, inl, inr, arith}
use mathlib.Core.Option.{Option, none, some}
use Rattle.std.proofs.lemmas.Bool.{cases_Bool, cases_lt, cases_eq, both_ways}
use Rattle.model.specs.Automaton.{Automaton, Row, Controller, WellFormed, Path, AtMost, Exceeds, HasCount, controller}
use Rattle.model.specs.Lists.{In}
use Rattle.model.specs.Positions.{Position, mark, start_position, Fits, Reach, MoreThan, Safe, reach, member, safe_part, Found, found_in, Described, Solution, found, none_found, too_crowded, try_from, solve}
use Rattle.model.specs.History.{NoneWithin}
use Rattle.model.specs.CountLaws.{Valid}
use Rattle.model.proofs.Theory.{RunsTo}
use Rattle.model.proofs.Lists.{pigeons}
use Rattle.model.proofs.Reaching.{decides_member, Reached, reached, part_largest}
use Rattle.model.proofs.Finding.{found_formed, found_within, found_valid, found_few, found_shape, found_nexts, found_described}
use Rattle.model.proofs.Tallies.{count_decided}
use Rattle.model.proofs.Runs.{runs_safe}

module _ (A : Automaton) (capacity : ℕ) where
  -- c is neither crowded nor enough for any controller
  abbrev pub Fails : ℕ → Type 0
  Fails c = (MoreThan A c capacity → ⊥) × NoneWithin A c

  abbrev pub Below : ℕ → Type 0
  Below c = (n : ℕ) → n < c → Fails n

  pub record Best (f : Found) (limit : ℕ) : Type 0 where
    pub formed : WellFormed A (controller f.rows)
    pub exact : HasCount A (controller f.rows) f.count
    pub least : (K : Controller) (n : ℕ) → WellFormed A K → AtMost A K n → f.count ≤ n
    pub limited : f.count ≤ limit
    pub roomy : (n : ℕ) → n ≤ f.count → MoreThan A n capacity → ⊥
    pub described : Described A f.count (controller f.rows) f.positions
    pub few : length f.rows ≤ capacity
    pub valid : Valid A (controller f.rows) f.count (λ s q. mark (get_or f.positions s []) q)
    pub shape : (length f.positions ≡ length f.rows) × ((P : Position) → In f.positions P → length P ≡ A.states)
    pub nexts : (r : Row) → In f.rows r → length r.nexts ≡ A.situations

  abbrev pub Solved : ℕ → Solution → Type 0
  Solved limit (found f) = Best f limit
  Solved limit none_found = Below (suc limit)
  Solved limit too_crowded = (c : ℕ) × (c ≤ limit) × MoreThan A c capacity × Below c

  module _ (c : ℕ) (L : List Position) (few : length L ≤ capacity) (lists : (P : Position) → In L P ↔ Reach A c P) where
    uncrowded : MoreThan A c capacity → ⊥
    uncrowded (M, d, h, m) = let l : length M ≤ length L = pigeons M L d (λ P i. (lists P).1 (h P i)) in omega (arith, l, m)

    none_here : member (safe_part A L) (start_position A) ≡ false → NoneWithin A c
    none_here n K wf = go (count_decided A K c wf)
      where
        go : AtMost A K c ⊎ Exceeds A K c → Exceeds A K c
        go (inr e) = e
        go (inl most) =
            let r : Fits A c (start_position A) × RunsTo A K (start_position A) × Safe A c (RunsTo A K) × ((P : Position) → RunsTo A K P → Reach A c P) = runs_safe A K c wf most in
            absurd (both_ways (member (safe_part A L) (start_position A)) n
            ((decides_member (safe_part A L) (start_position A)).1 (part_largest A c L lists (RunsTo A K) r.2 r.3 (start_position A) r.1)))

    best_here : Below c → member (safe_part A L) (start_position A) ≡ true → Best (found_in A c (safe_part A L)) c
    unfolding found_in
    best_here below t =
        record {
          formed = formed;
          exact = record { most = within; attained = met c refl };
          least = λ K n wf most. least K n wf most (cases_lt n c);
          limited = omega arith;
          roomy = λ n h. roomy n (cases_eq n c) h;
          described = found_described A c L lists starts;
          few = omega (arith, few, found_few A c L lists starts);
          valid = found_valid A c L lists starts;
          shape = found_shape A c L lists starts;
          nexts = found_nexts A c L lists starts;
        }
      where
        starts : In (safe_part A L) (start_position A)
        starts = (decides_member (safe_part A L) (start_position A)).0 t

        formed : WellFormed A (controller (found_in A c (safe_part A L)).rows)
        formed = found_formed A c L lists starts

        within : AtMost A (controller (found_in A c (safe_part A L)).rows) c
        within = found_within A c L lists starts

        roomy : (n : ℕ) → (n ≡ c) ⊎ (n ≡ c → ⊥) → n ≤ c → MoreThan A n capacity → ⊥
        roomy n (inl e) h m = uncrowded (subst (λ k. MoreThan A k capacity) e m)
        roomy n (inr ne) h m = (below n (omega arith)).0 m

        least : (K : Controller) (n : ℕ) → WellFormed A K → AtMost A K n → (n < c) ⊎ (c ≤ n) → c ≤ n
        least K n wf most (inl l) = let (s, q, t, w, over) = (below n l).1 K wf in absurd (omega (arith, over, most s q t w))
        least K n wf most (inr g) = g

        met : (k : ℕ) → c ≡ k → (c ≡ 0) ⊎ ((s : ℕ) × (q : ℕ) × Path A (controller (found_in A c (safe_part A L)).rows) s q c)
        met zero e = inl e
        met (suc k) e =
            let (s, q, t, w, over) = (below k (omega arith)).1 (controller (found_in A c (safe_part A L)).rows) formed in
            inr (s, q, subst (λ n. Path A (controller (found_in A c (safe_part A L)).rows) s q n) (omega (arith, e, over, within s q t w)) w)

  below_more : (c : ℕ) → Below c → Fails c → Below (suc c)
  below_more c below fails n h = go (cases_eq n c)
    where
      go : (n ≡ c) ⊎ (n ≡ c → ⊥) → Fails n
      go (inl e) = subst Fails (sym e) fails
      go (inr ne) = below n (omega arith)

  tried : (limit turns c : ℕ) → turns + c ≡ suc limit → Below c → Solved limit (try_from A capacity turns c)
  tried limit zero c e below = λ n h. below n (omega arith)
  tried limit (suc turns) c e below = go (reach A c capacity) refl (reached A c capacity) (tried limit turns (suc c) (omega arith))
    where
      on : (L : List Position) → reach A c capacity ≡ some L → Reached A c capacity (some L) → (Below (suc c) → Solved limit (try_from A capacity turns (suc c)))
          → (member (safe_part A L) (start_position A) ≡ true) ⊎ (member (safe_part A L) (start_position A) ≡ false) → Solved limit (try_from A capacity (suc turns) c)
      on L r (d, few, lists, ordered) later (inl t) =
          let f : try_from A capacity (suc turns) c ≡ found (found_in A c (safe_part A L)) = rw (r, t, try_from) in
          let b : Best (found_in A c (safe_part A L)) c = best_here c L few lists below t in
          subst (Solved limit) (sym f) (record { formed = b.formed; exact = b.exact; least = b.least; limited = omega arith; roomy = b.roomy; described = b.described; few = b.few; valid = b.valid; shape = b.shape; nexts = b.nexts })
      on L r (d, few, lists, ordered) later (inr n) =
          let f : try_from A capacity (suc turns) c ≡ try_from A capacity turns (suc c) = rw (r, n, try_from) in
          subst (Solved limit) (sym f) (later (below_more c below (uncrowded c L few lists, none_here c L few lists n)))

      go : (o : Option (List Position)) → reach A c capacity ≡ o → Reached A c capacity o → (Below (suc c) → Solved limit (try_from A capacity turns (suc c))) → Solved limit (try_from A capacity (suc turns) c)
      go none r m later =
          let f : try_from A capacity (suc turns) c ≡ too_crowded = rw (r, try_from) in
          subst (Solved limit) (sym f) (c, omega arith, m, below)
      go (some L) r m later = on L r m later (cases_Bool (member (safe_part A L) (start_position A)))

  pub solved : (limit : ℕ) → Solved limit (solve A capacity limit)
  unfolding solve reach
  solved limit = tried limit (suc limit) 0 (omega arith) (λ n h. absurd (omega arith))
