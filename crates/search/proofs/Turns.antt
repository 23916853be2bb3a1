-- The model's search, turn by turn, as the code takes its turns.
use Rattle.std.proofs.Common.{◌≡◌, ℕ, zero, suc, ◌+◌, ◌-◌, ◌<◌, ◌≤◌, Bool, true, false, leb, List, [], ◌∷◌, ◌++◌, length, get_or, drop, Option, sym, refl, ap, ◌∙◌, subst, arith, length-append, length-drop}
use mathlib.Core.Option.{none, some}
use Rattle.std.proofs.lemmas.List.{drop-append-le, drop_at, drop_more}
use Rattle.std.proofs.lemmas.Bool.{le-leb, lt-leb}
use Rattle.model.specs.Search.{fresh, explore, reached_from}
use Rattle.search.specs.Meeting.{successors, with_successors}
use Rattle.search.proofs.Links.{LinkedBy}
use Rattle.search.proofs.OneByOne.{met_behind}

module _ {X : Type 0} (same : X → X → Bool) (degree : ℕ) (successor : X → ℕ → Option X) where
  pub longer : (m n : List X) (x : X) → n ≡ with_successors same degree successor m x → length m ≤ length n
  longer m n x e = omega (arith, ap length (e ∙ met_behind same degree successor m x), length-append m (fresh same m (successors degree successor x)))

  module _ (room : ℕ) (first : X) where
    -- so many turns are over, and the model's search goes on to its answer from here
    pub record Turning (met waiting : List X) (links : ℕ → List (Option ℕ)) (row : ℕ) : Type 0 where
      pub some_met : 0 < length met
      pub few : length met ≤ room
      pub searched : explore same (successors degree successor) room (room - row) met waiting ≡ reached_from same (successors degree successor) room first
      pub waits : waiting ≡ drop row met
      pub linked : LinkedBy same degree successor met links row

    pub turning_first : 0 < room → (links : ℕ → List (Option ℕ)) → Turning (first ∷ []) (first ∷ []) links 0
    unfolding reached_from
    turning_first h links =
        record { some_met = omega arith; few = omega arith; searched = begun; waits = refl; linked = λ k d lk. absurd (omega arith) }
      where
        begun : explore same (successors degree successor) room (room - 0) (first ∷ []) (first ∷ []) ≡ reached_from same (successors degree successor) room first
        begun =
            let t = le-leb 1 room (omega arith) in
            let z : room - 0 ≡ room = omega arith in
            rw (z, t, reached_from)

    -- the turn of x, which was the first of those that wait: it stands behind the nodes whose turn is over, and what it meets waits behind the others
    pub record Turn (met : List X) (row : ℕ) (x : X) (rest : List X) : Type 0 where
      pub early : row < length met
      pub here : (d : X) → get_or met row d ≡ x
      pub few : length rest + row + 1 ≡ length met
      pub more : (n new : List X) (links : ℕ → List (Option ℕ)) → n ≡ with_successors same degree successor met x → length n ≤ room → new ≡ drop (length met) n
          → LinkedBy same degree successor n links (row + 1) → Turning n (rest ++ new) links (row + 1)
      pub over : room < length (with_successors same degree successor met x) → reached_from same (successors degree successor) room first ≡ none

    pub turn : (met waiting : List X) (links : ℕ → List (Option ℕ)) (row : ℕ) (x : X) (rest : List X) → Turning met waiting links row → waiting ≡ x ∷ rest → Turn met row x rest
    turn met waiting links row x rest s popped =
        record {
          early = early;
          here = λ d. (let e = standing d in cc);
          few = omega (arith, ap length still, length-drop (row + 1) met, early);
          more = more;
          over = over;
        }
      where
        early : row < length met
        early = omega (arith, ap length (sym popped ∙ s.waits), length-drop row met)

        standing : (d : X) → x ∷ rest ≡ get_or met row d ∷ drop (row + 1) met
        standing d = sym popped ∙ s.waits ∙ drop_more met row d early

        still : rest ≡ drop (row + 1) met
        still = let e = standing x in cc

        turns : room - row ≡ suc (room - (row + 1))
        turns = omega (arith, early, s.few)

        more : (n new : List X) (links' : ℕ → List (Option ℕ)) → n ≡ with_successors same degree successor met x → length n ≤ room → new ≡ drop (length met) n
            → LinkedBy same degree successor n links' (row + 1) → Turning n (rest ++ new) links' (row + 1)
        more n new links' en le ew linked =
            let behind = fresh same met (successors degree successor x) in
            let e : n ≡ met ++ behind = en ∙ met_behind same degree successor met x in
            let f : new ≡ behind = ew ∙ ap (drop (length met)) e ∙ drop_at met behind (length met) refl in
            let t : leb (length (met ++ behind)) room ≡ true = le-leb (length (met ++ behind)) room (subst (λ v. length v ≤ room) e le) in
            let over : explore same (successors degree successor) room (room - row) met waiting ≡ explore same (successors degree successor) room (room - (row + 1)) n (rest ++ new) =
            rw (turns, popped, e, f, t, explore) in
            record {
              some_met = omega (arith, s.some_met, longer met n x en);
              few = le;
              searched = sym over ∙ s.searched;
              waits =
                  ap (λ l. l ++ new) still ∙ ap (λ l. drop (row + 1) met ++ l) f ∙ sym (drop-append-le (row + 1) met behind (omega (arith, early)))
                  ∙ ap (drop (row + 1)) (sym e);
              linked = linked;
            }

        over : room < length (with_successors same degree successor met x) → reached_from same (successors degree successor) room first ≡ none
        over many =
            let behind = fresh same met (successors degree successor x) in
            let t : leb (length (met ++ behind)) room ≡ false = lt-leb (length (met ++ behind)) room (subst (λ v. room < length v) (met_behind same degree successor met x) many) in
            sym s.searched ∙ rw (turns, popped, t, explore)

    -- no node waits for its turn
    pub turning_last : (met waiting : List X) (links : ℕ → List (Option ℕ)) (row : ℕ) → Turning met waiting links row → waiting ≡ []
        → (reached_from same (successors degree successor) room first ≡ some met) × LinkedBy same degree successor met links (length met)
    turning_last met waiting links row s none-waits = (
      sym s.searched ∙ rw none-waits (ended (room - row)),
      λ k d lk. s.linked k d (omega (arith, ap length (sym none-waits ∙ s.waits), length-drop row met)),
    )
      where
        ended : (turns : ℕ) → explore same (successors degree successor) room turns met [] ≡ some met
        ended zero = refl
        ended (suc turns) = refl
