-- Solve gives the least count, and no path along frames passes it, whatever was called before and after.
use Rattle.std.proofs.Common.{◌≡◌, ℕ, ◌<◌, ◌↔◌, map, length, sym, refl, ap, ◌∙◌, subst, arith}
use Rattle.model.specs.Automaton.{Controller, AtMost, Exceeds, HasCount, CountAtMost, CountAbove, CountIs, NoRejectingCycle, controller}
use Rattle.model.specs.Positions.{found, none_found, too_crowded, Solution}
use Rattle.model.specs.Positions as Positions
use Rattle.model.specs.Sheet.{Sheet, opened, rule_list, rules, solve, Outcome, row_in, solve_with, respond, run}
use Rattle.model.specs.History.{NoneOnSheet, OverCapacity, SolveSays, least, none_there, too_many, SolveLeast, AfterCalls}
use Rattle.model.specs.History as History
use Rattle.model.proofs.Paths.{bounded_is_finite}
use Rattle.model.proofs.Solving.{Below, Solved, solved}
use Rattle.model.proofs.Sides.{together_agrees}
use Rattle.model.proofs.Calls.{respond_is}
use Rattle.model.proofs.Sheets.{of_rule, Sound, opened_sound, run_sound, for_sheet, for_rules}

module _ (s : Sheet) (h : Sound s) where
  pub agrees : (K : Controller) (c : ℕ)
      → (CountAtMost (rule_list s) K c ↔ AtMost (rules s) K c) × (CountAbove (rule_list s) K c ↔ Exceeds (rules s) K c) × (CountIs (rule_list s) K c ↔ HasCount (rules s) K c)
  agrees K c = together_agrees s.situations s.commands s.house (map of_rule s.added) h.alike K c

  pub no_cycle : (K : Controller) (c : ℕ) → CountAtMost (rule_list s) K c → NoRejectingCycle (rule_list s) K
  no_cycle K c most A i = (bounded_is_finite A K c (most A i)).0

  pub solve_answer : (x : Solution) → Positions.solve (rules s) s.capacity s.limit ≡ x → respond s solve ≡ solve_with s x
  solve_answer x e = respond_is s solve h.looked ∙ ap (solve_with s) e

  none_on : (c : ℕ) → History.NoneWithin (rules s) c → NoneOnSheet s c
  none_on c over K w = (agrees K c).1.1 (over K (for_rules s h K w))

  below_on : (c : ℕ) → Below (rules s) s.capacity c → (n : ℕ) → n < c → (OverCapacity s n → ⊥) × NoneOnSheet s n
  below_on c below n l = ((below n l).0, none_on n (below n l).1)

  pub solve_least : SolveLeast s
  solve_least = go (Positions.solve (rules s) s.capacity s.limit) refl (solved (rules s) s.capacity s.limit)
    where
      said : (x : Solution) → Positions.solve (rules s) s.capacity s.limit ≡ x → SolveSays s (solve_with s x).answer → SolveLeast s
      said x e w = subst (λ (o : Outcome). SolveSays s o.answer) (sym (solve_answer x e)) w

      go : (x : Solution) → Positions.solve (rules s) s.capacity s.limit ≡ x → Solved (rules s) s.capacity s.limit x → SolveLeast s
      go (found f) e b =
          let K : Controller = controller f.rows in
          let over : CountIs (rule_list s) K f.count = (agrees K f.count).2.1 b.exact in
          said (found f) e (least f.count (length f.rows) (row_in f 0).command record {
            limited = b.limited;
            roomy = λ n l m. b.roomy n l m;
            stored = record { found = f; current = 0 };
            is_stored = ap (λ (o : Outcome). o.sheet.stored) (solve_answer (found f) e);
            formed = for_sheet s h K b.formed;
            size = refl;
            start = refl;
            own = over;
            acyclic = no_cycle K f.count over.most;
            least = λ K n w most. b.least K n (for_rules s h K w) ((agrees K n).0.0 most);
          })
      go none_found e below =
          said none_found e (none_there record {
            roomy = λ n l. (below n (omega arith)).0;
            above = none_on s.limit (below s.limit (omega arith)).1;
          })
      go too_crowded e (c, l, m, below) = said too_crowded e (too_many record { at = c; limited = l; crowded = m; before = below_on c below })

pub solve_least_stands : AfterCalls SolveLeast
solve_least_stands house S C capacity e calls =
    solve_least (run (opened house S C capacity) calls) (run_sound (opened house S C capacity) (opened_sound house S C capacity e) calls)
