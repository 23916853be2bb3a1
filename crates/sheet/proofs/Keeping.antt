-- The controller that is kept, and solve and frame on it. Assumes nothing.
use Rattle.std.proofs.Common.{◌≡◌, ℕ, ◌-◌, ◌<◌, true, false, ltb, List, map, get_or, take, Some, vec_items, Option as Optional, sym, ap, ◌∙◌, subst, arith}
use mathlib.Core.Option.{some}
use Rattle.std.proofs.lemmas.Bool.{lt-ltb}
use Rattle.model.specs.declared.refusal.Refusal.TheVariants.{NoSituation}
use Rattle.model.specs.Automaton.{Automaton, Row, no_row}
use Rattle.model.specs.Rules.{together}
use Rattle.model.specs.Positions.{Found, Solution}
use Rattle.model.specs.Positions as Positions
use Rattle.model.specs.Sheet.{Sheet, Stored as Holding, rules, row_in, with_stored, solve_with, solve_on, frame_with, frame_on, moved, Outcome, answers, command, refused}
use Rattle.synthesis.specs.declared.state.State.{State}
use Rattle.synthesis.specs.declared.solved.Found.{Found as Size}
use Rattle.synthesis.specs.Tables.{automaton, Agrees}
use Rattle.synthesis.specs.Answers.{Stores, row_of, position_of}
use Rattle.synthesis.proofs.Gathered.{numbers_stay}
use Rattle.synthesis.proofs.Agreeing.{solves_alike}
use Rattle.sheet.specs.declared.page.Page.{Page}
use Rattle.sheet.specs.declared.stored.Stored.{Stored}
use Rattle.sheet.specs.Added.{meaning}
use Rattle.sheet.specs.Shows.{Shows, Keeps}
use Rattle.sheet.proofs.Paging.{rules_agree, all_alike}

-- what is stored depends on the numbers of situations and states alone
pub stores_alike : (A B : Automaton) (f : Found) (size : Size) (states : List State) → Agrees A B → Stores A f size states → Stores B f size states
stores_alike A B f size states g st =
    record {
      count = st.count;
      length_is = st.length_is;
      within = st.within;
      rows = ap {B = List Row} (λ n. map (row_of n) (take size.states states)) (sym g.situations) ∙ st.rows;
      positions = ap {B = List (List ℕ)} (λ n. map (position_of n) (take size.states states)) (sym g.states) ∙ st.positions;
    }

module _ (p : Page) (s : Sheet) (shows : Shows p s) where
  abbrev all : Automaton
  all = together (automaton p.table.arrows) (map meaning (vec_items p.added))

  numbers : (all.situations ≡ p.table.arrows.numbers.situations) × (all.commands ≡ p.table.arrows.numbers.commands)
  numbers = numbers_stay (automaton p.table.arrows) (map meaning (vec_items p.added)) (all_alike (automaton p.table.arrows) (vec_items p.added) p.alike)

  -- the rules have the situations of the page
  pub rules_situations : (rules s).situations ≡ p.table.arrows.numbers.situations
  rules_situations = sym (rules_agree p s shows).situations ∙ numbers.0

  -- solve comes to the same for the rules of the page
  pub solved_as : (x : Solution) → Positions.solve all p.capacity p.limit ≡ x → solve_on s ≡ solve_with s x
  solved_as x e =
      let g = rules_agree p s shows in
      let n = numbers.1 in
      let some-command : 0 < (rules s).commands = omega (arith, n, g.commands, p.table.some_commands) in
      let same : Positions.solve (rules s) s.capacity s.limit ≡ Positions.solve all p.capacity p.limit =
      ap {B = Solution} (λ c. Positions.solve (rules s) c s.limit) shows.capacity ∙ ap {B = Solution} (Positions.solve (rules s) p.capacity) shows.limit ∙ sym (solves_alike all (rules s) g some-command p.capacity p.limit) in
      ap {B = Outcome} (solve_with s) (same ∙ e)

  -- a frame of the controller that is kept
  pub framed_as : (k : Stored) (x next given : ℕ) → p.stored ≡ Some k → x < p.table.arrows.numbers.situations
      → ((S : ℕ) → x < S → next ≡ get_or (get_or (map (row_of S) (take (k.found.states - 0) (vec_items p.workspace.states))) k.current no_row).nexts x 0)
      → ((S : ℕ) → given ≡ (get_or (map (row_of S) (take (k.found.states - 0) (vec_items p.workspace.states))) next no_row).command)
      → (f : Found) × (frame_on s x ≡ answers (with_stored s (some (record { found = f; current = next }))) (command given)) × Stores (rules s) f k.found (vec_items p.workspace.states)
  framed_as k x next given e l en eg =
      let F : Optional Stored → Type 0 = λ o. Keeps s o (vec_items p.workspace.states) in
      let (f, is, st) = subst F e shows.stored in
      let states = vec_items p.workspace.states in
      let S = (rules s).situations in
      let holds : Holding = record { found = f; current = k.current } in
      let rows : map (row_of S) (take (k.found.states - 0) states) ≡ f.rows = ap {B = List Row} (λ n. map (row_of S) (take n states)) (let z : k.found.states - 0 ≡ k.found.states = omega arith in z) ∙ st.rows in
      let inside : x < S = let r = rules_situations in omega (arith, r, l) in
      let to : next ≡ get_or (row_in f k.current).nexts x 0 = en S inside ∙ ap {B = ℕ} (λ r. get_or (get_or r k.current no_row).nexts x 0) rows in
      let gives : given ≡ (row_in f next).command = eg S ∙ ap {B = ℕ} (λ r. (get_or r next no_row).command) rows in
      let known : ltb x s.situations ≡ true = lt-ltb x s.situations (let e = shows.situations in omega (arith, e, l)) in
      let leads : frame_on s x ≡ answers (with_stored s (some (moved holds x))) (command (row_in f (get_or (row_in f k.current).nexts x 0)).command) =
      ap {B = Outcome} (frame_with s x) is
      ∙ ap {B = Outcome} (λ b. elim b [ false ↦ answers s (refused NoSituation) | true ↦ answers (with_stored s (some (moved holds x))) (command (row_in f (get_or (row_in f k.current).nexts x 0)).command) ]) known in
      (f, leads ∙ ap {B = Outcome} (λ n. answers (with_stored s (some (record { found = f; current = n }))) (command (row_in f n).command)) (sym to) ∙ ap {B = Outcome} (λ u. answers (with_stored s (some (record { found = f; current = next }))) (command u)) (sym gives), st)
