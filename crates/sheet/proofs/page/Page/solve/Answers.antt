use Rattle.std.proofs.Common.{Ok, Err, Result, ◌≡◌, ℕ, ◌-◌, List, map, length, get_or, take, vec_items, sym, refl, ap, ◌∙◌, subst, arith, rules as the_rules}
use mathlib.Core.Option.{none, some}
use Rattle.model.specs.Automaton.{Automaton, no_row}
use Rattle.model.specs.Rules.{together}
use Rattle.model.specs.Positions.{Found, Solution, found, none_found, too_crowded}
use Rattle.model.specs.Positions as Positions
use Rattle.model.specs.Sheet.{Sheet, rules, solve_on, Outcome, answers, refused, with_stored, count, row_in}
use Rattle.ruletext.specs.declared.rule.ReadRule.{ReadRule}
use Rattle.synthesis.specs.declared.state.State.{State}
use Rattle.synthesis.specs.Tables.{automaton}
use Rattle.model.specs.declared.refusal.Refusal.{Refusal}
use Rattle.std.specs.Result.{IsErr, IsErrAnd}
use Rattle.synthesis.specs.declared.solved.Found.{Found as Size}
use Rattle.synthesis.specs.declared.solved.Unsolved.{Unsolved}
use Rattle.synthesis.specs.declared.solved.Unsolved.TheVariants.{NoneFound, Crowded}
use Rattle.synthesis.specs.Refused.{refused_by}
use Rattle.synthesis.specs.Answers.{Stores, Answered, row_of}
use Rattle.sheet.specs.declared.page.Page.{Page}
use Rattle.sheet.specs.declared.stored.Solution.{Solution as Told}
use Rattle.sheet.specs.Shows.{Shows, solution}
use Rattle.sheet.specs.Added.{meaning}
use Rattle.sheet.proofs.Paging.{outcome, rules_agree}
use Rattle.sheet.proofs.Keeping.{stores_alike, solved_as}
use Rattle.sheet.proofs.page.Page.solve.Goals as goal

-- what is answered, is answered by an equal result
answered_as : (A : Automaton) (capacity limit : ℕ) (r x : Result Size Unsolved) (states : List State) → Answered A capacity limit r states → r ≡ x → Answered A capacity limit x states
answered_as A capacity limit r x states a e = subst (λ (y : Result Size Unsolved). Answered A capacity limit y states) e a

-- a solve that finds nothing leaves no controller, and is refused for that reason
unsolved_as : (p : Page) (s : Sheet) (shows : Shows p s) (e : Unsolved) (states : List State) → Answered (together (automaton p.table.arrows) (map meaning (vec_items p.added))) p.capacity p.limit (Err e) states
    → solve_on s ≡ answers (with_stored s none) (refused (refused_by e))
unsolved_as p s shows NoneFound states a = solved_as p s shows none_found a
unsolved_as p s shows Crowded states a = solved_as p s shows too_crowded a

refusal_is : (s : Sheet) (e : Unsolved) (r : Result Told Refusal) → IsErr r × IsErrAnd r (λ x. x ≡ refused_by e) → answers (with_stored s none) (solution r) ≡ answers (with_stored s none) (refused (refused_by e))
refusal_is s e (Ok v) h = absurd h.1
refusal_is s e (Err x) h = ap {B = Outcome} (λ x. answers (with_stored s none) (refused x)) h.1

pub returns : goal.returns
returns c s shows =
    let p = c.args.self.now in
    let H = automaton p.table.arrows in
    let v = c.as_slice.ensures.value in
    let size = c.in_ok-found.found in
    let states = vec_items c.solve.new.workspace.states in
    let (f, e, st) = answered_as (together H (map meaning c.as_slice.result.now)) p.capacity p.limit c.solve.result (Ok size) states c.solve.ensures (search the_rules) in
    let e' = subst (λ (w : List ReadRule). Positions.solve (together H (map meaning w)) p.capacity p.limit ≡ found f) v e in
    let st' = stores_alike _ (rules s) f size states (rules_agree p s shows) (subst (λ (w : List ReadRule). Stores (together H (map meaning w)) f size states) v st) in
    let S = (rules s).situations in
    let gives : c.command_at.result ≡ (row_in f 0).command =
    c.command_at.ensures S ∙ ap {B = ℕ} (λ (w : List State). (get_or (map (row_of S) (take (size.states - 0) w)) 0 no_row).command) c.as_slice-2.ensures.value
    ∙ ap {B = ℕ} (λ n. (get_or (map (row_of S) (take n states)) 0 no_row).command) (let z : size.states - 0 ≡ size.states = omega arith in z)
    ∙ ap {B = ℕ} (λ r. (get_or r 0 no_row).command) st'.rows in
    let is = solved_as p s shows (found f) e'
    ∙ ap {B = Outcome} (λ n. answers (with_stored s (some (record { found = f; current = 0 }))) (count n (length f.rows) (row_in f 0).command)) (sym st'.count)
    ∙ ap {B = Outcome} (λ n. answers (with_stored s (some (record { found = f; current = 0 }))) (count size.count n (row_in f 0).command)) st'.length_is
    ∙ ap {B = Outcome} (λ u. answers (with_stored s (some (record { found = f; current = 0 }))) (count size.count size.states u)) (sym gives) in
    outcome _ _ _ _ is
    (record {
      house = shows.house;
      situations = shows.situations;
      commands = shows.commands;
      capacity = shows.capacity;
      added = shows.added;
      limit = shows.limit;
      stored = (f, refl, st');
    })

pub returns-in_err-found : goal.returns-in_err-found
returns-in_err-found c s shows =
    let p = c.args.self.now in
    let H = automaton p.table.arrows in
    let states = vec_items c.solve.new.workspace.states in
    let e = c.in_err-found.field-0.0 in
    let told = answered_as (together H (map meaning c.as_slice.result.now)) p.capacity p.limit c.solve.result (Err e) states c.solve.ensures (search the_rules) in
    let a = subst (λ (w : List ReadRule). Answered (together H (map meaning w)) p.capacity p.limit (Err e) states) c.as_slice.ensures.value told in
    outcome _ _ _ _ (unsolved_as p s shows e states a ∙ sym (refusal_is s e c.from_residual.result c.from_residual.ensures))
    (record { house = shows.house; situations = shows.situations; commands = shows.commands; capacity = shows.capacity; added = shows.added; limit = shows.limit; stored = refl })
