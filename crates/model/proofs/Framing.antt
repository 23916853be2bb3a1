-- No path along the frames since a solve counts above what it gave.
use Rattle.std.proofs.Common.{◌≡◌, ℕ, ◌+◌, ◌≤◌, ◌⊎◌, List, [], ◌∷◌, ◌++◌, length, sym, refl, ap, subst, inl, inr, append_assoc, arith}
use mathlib.Core.Option.{Option, none, some}
use Rattle.model.specs.Automaton.{Automaton, weight, Follows, Controller, Path, controller}
use Rattle.model.specs.Lists.{In}
use Rattle.model.specs.declared.refusal.Refusal.TheVariants.{NoneFound, Crowded}
use Rattle.model.specs.Positions.{Found, found, none_found, too_crowded, Solution}
use Rattle.model.specs.Positions as Positions
use Rattle.model.specs.Sheet.{Sheet, Stored, opened, rules, with_stored, Call, solve, frame, count, command, refused, Outcome, answers, row_in, solve_with, respond, answer, after, run, replies}
use Rattle.model.specs.SheetLaws.{stored_controller, in_next, Does, add_blank, add_unlike, add_taken, add_full, adds, withdraw_unknown, withdraws, limit_over, limits, finds, finds_none, crowds, frame_none, frame_large, moves, write_none, write_short, writes, checks}
use Rattle.model.specs.History.{AfterCalls, Frame, frame_of, frames, last_given, Along, FramesWithin, FramesStay}
use Rattle.model.specs.History as History
use Rattle.model.specs.Automaton as Automata
use Rattle.model.proofs.Solving.{Solved, solved}
use Rattle.model.proofs.Calls.{does}
use Rattle.model.proofs.Sheets.{Sound, opened_sound, run_sound, after_sound}
use Rattle.model.proofs.Histories.{agrees, solve_answer}

module _ (f : Found) where
  K : Controller
  K = controller f.rows

  -- each frame gave the command of the state that it moved to, from state i on
  Consist : ℕ → List Frame → Type 0
  Consist i [] = Unit {0}
  Consist i (g ∷ fs) = (g.gave ≡ K.command (K.next i g.situation)) × Consist (K.next i g.situation) fs

  ends : ℕ → List Frame → ℕ
  ends i [] = i
  ends i (g ∷ fs) = ends (K.next i g.situation) fs

  ends_push : (i : ℕ) (fs : List Frame) (g : Frame) → ends i (fs ++ (g ∷ [])) ≡ K.next (ends i fs) g.situation
  unfolding ends
  ends_push i [] g = refl
  ends_push i (k ∷ fs) g = ends_push (K.next i k.situation) fs g

  last_is : (i u : ℕ) (fs gs : List Frame) → u ≡ K.command i → Consist i (fs ++ gs) → last_given u fs ≡ K.command (ends i fs)
  unfolding ends Consist
  last_is i u [] gs e c = e
  last_is i u (g ∷ fs) gs e (a, c) = last_is (K.next i g.situation) g.gave fs gs a c

  along_path : (A : Automaton) (u : ℕ) → u ≡ K.command 0 → {fs : List Frame} {q t : ℕ} → Along A u fs q t → (gs : List Frame) → Consist 0 (fs ++ gs) → Path A K (ends 0 fs) q t
  unfolding ends
  along_path A u e (History.begin b) gs c = Automata.begin b
  along_path A u e (History.onward {fs} {q} {t} g p w k) gs c =
      let c' : Consist 0 (fs ++ (g ∷ gs)) = subst (Consist 0) (append_assoc fs (g ∷ []) gs) c in
      let v : Path A K (ends 0 fs) q t = along_path A u e w (g ∷ gs) c' in
      subst (λ i. Path A K i p (t + weight A p)) (sym (ends_push 0 fs g))
      (Automata.onward g.situation p v (subst (λ n. Follows A q n g.situation p) (last_is 0 u fs (g ∷ gs) e c') k))

  -- the sheet has no controller, or f in the state i
  Holds : Sheet → ℕ → Type 0
  Holds s i = (s.stored ≡ none) ⊎ (s.stored ≡ some (record { found = f; current = i }))

  -- a call that gives no count gives no frame and keeps or drops the controller; or it is an accepted frame, and moves it
  Turn : Call → Outcome → ℕ → Type 0
  Turn call o i =
      ((frame_of call o.answer ≡ []) × Holds o.sheet i)
      ⊎ ((x : ℕ) × (frame_of call o.answer ≡ record { situation = x; gave = K.command (K.next i x) } ∷ []) × Holds o.sheet (K.next i x))

  turn : (s : Sheet) (i : ℕ) → Holds s i → {call : Call} {o : Outcome} → Does s call o → ((c m u : ℕ) → o.answer ≡ count c m u → ⊥) → Turn call o i
  unfolding Holds Turn K
  turn s i at add_blank never = inl (refl, at)
  turn s i at (add_unlike r n) never = inl (refl, at)
  turn s i at (add_taken r l t) never = inl (refl, at)
  turn s i at (add_full r l n m) never = inl (refl, at)
  turn s i at (adds r l n room) never = inl (refl, inl refl)
  turn s i at (withdraw_unknown name n) never = inl (refl, at)
  turn s i at (withdraws name rest t o) never = inl (refl, inl refl)
  turn s i at (limit_over n l) never = inl (refl, at)
  turn s i at (limits n l) never = inl (refl, inl refl)
  turn s i at (finds g e) never = absurd (never g.count (length g.rows) ((controller g.rows).command 0) refl)
  turn s i at (finds_none e) never = inl (refl, inl refl)
  turn s i at (crowds e) never = inl (refl, inl refl)
  turn s i at (frame_none x e) never = inl (refl, at)
  turn s i at (frame_large x k e l) never = inl (refl, at)
  turn s i at (moves x k e l) never = go at
    where
      go : (s.stored ≡ none) ⊎ (s.stored ≡ some (record { found = f; current = i })) → Turn (frame x) (answers (with_stored s (some (in_next k x))) (command ((stored_controller k).command (in_next k x).current))) i
      go (inl g) = let z : ◌≡◌ {A = ℕ} 0 1 = cc in absurd (omega arith)
      go (inr g) =
          let h : k ≡ record { found = f; current = i } = cc in
          inr (
            x,
            ap (λ (j : Stored). record { situation = x; gave = (stored_controller j).command (in_next j x).current } ∷ []) h,
            inr (ap {B = Option Stored} (λ (j : Stored). some (in_next j x)) h),
          )
  turn s i at (write_none buffer e) never = inl (refl, at)
  turn s i at (write_short buffer k e l) never = inl (refl, at)
  turn s i at (writes buffer k e l) never = inl (refl, at)
  turn s i at (checks bytes) never = inl (refl, at)

  consists : (later : List Call) (s : Sheet) (i : ℕ) → Sound s → Holds s i → ((c m u : ℕ) → In (replies s later) (count c m u) → ⊥) → Consist i (frames later (replies s later))
  unfolding Consist Turn
  consists [] s i h at never = tt
  consists (call ∷ later) s i h at never =
      go (turn s i at (does s h.looked call) (λ c m u e. never c m u (inl (sym e)))) (λ j a. consists later (after s call) j (after_sound s h call) a (λ c m u k. never c m u (inr k)))
    where
      go : Turn call (respond s call) i → ((j : ℕ) → Holds (after s call) j → Consist j (frames later (replies (after s call) later)))
          → Consist i (frame_of call (answer s call) ++ frames later (replies (after s call) later))
      go (inl (e, a)) below = subst (λ l. Consist i (l ++ frames later (replies (after s call) later))) (sym e) (below i a)
      go (inr (x, e, a)) below = subst (λ l. Consist i (l ++ frames later (replies (after s call) later))) (sym e) (refl, below (K.next i x) a)

pub frames_within : (s : Sheet) → Sound s → (later : List Call) → FramesWithin s later
unfolding K Holds
frames_within s h later c m u e never fs gs split A i q t w = go (Positions.solve (rules s) s.capacity s.limit) refl (solved (rules s) s.capacity s.limit)
  where
    go : (x : Solution) → Positions.solve (rules s) s.capacity s.limit ≡ x → Solved (rules s) s.capacity s.limit x → t ≤ c
    go (found f) k b =
        let r : respond s solve ≡ solve_with s (found f) = solve_answer s h (found f) k in
        let a : answer s solve ≡ count f.count (length f.rows) (row_in f 0).command = ap (λ (o : Outcome). o.answer) r in
        let ec : f.count ≡ c = cc in
        let eu : u ≡ (row_in f 0).command = cc in
        let at : Holds f (after s solve) 0 = inr (ap (λ (o : Outcome). o.sheet.stored) r) in
        let all : Consist f 0 (fs ++ gs) = subst (Consist f 0) split (consists f later (after s solve) 0 (after_sound s h solve) at never) in
        let v : Path A (controller f.rows) (ends f 0 fs) q t = along_path f A u eu w gs all in
        omega (arith, ec, (agrees s h (controller f.rows) f.count).0.1 b.exact.most A i (ends f 0 fs) q t v)
    go none_found k b =
        let a : answer s solve ≡ refused NoneFound = ap (λ (o : Outcome). o.answer) (solve_answer s h none_found k) in
        let z : ◌≡◌ {A = ℕ} 0 1 = cc in absurd (omega arith)
    go too_crowded k b =
        let a : answer s solve ≡ refused Crowded = ap (λ (o : Outcome). o.answer) (solve_answer s h too_crowded k) in
        let z : ◌≡◌ {A = ℕ} 0 1 = cc in absurd (omega arith)

pub frames_stand : AfterCalls FramesStay
frames_stand house S C capacity e calls later =
    frames_within (run (opened house S C capacity) calls) (run_sound (opened house S C capacity) (opened_sound house S C capacity e) calls) later
