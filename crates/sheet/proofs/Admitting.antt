-- When a rule may be added. Assumes nothing.
use Rattle.std.proofs.Common.{◌≡◌, ℕ, ◌+◌, ◌<◌, ◌≤◌, true, ◌&&◌, eqb, List, [], ◌∷◌, ◌++◌, length, Ok, Err, vec_items, refl, ap, arith}
use Rattle.model.specs.declared.refusal.Refusal.{Refusal}
use Rattle.model.specs.declared.refusal.Refusal.TheVariants.{UnlikeRule}
use Rattle.model.specs.Automaton.{Automaton}
use Rattle.model.specs.Text.{Named, ReadRule as Rule, blank, filled}
use Rattle.model.specs.Sheet.{Sheet, with_added, add_to, Outcome, answers, done, refused}
use Rattle.ruletext.specs.declared.rule.ReadRule.{ReadRule}
use Rattle.synthesis.specs.Tables.{automaton}
use Rattle.sheet.specs.declared.page.Page.{Page}
use Rattle.sheet.specs.Shows.{Shows}
use Rattle.sheet.specs.Added.{states_of, admission}
use Rattle.sheet.proofs.Paging.{rules_agree, same_any, same_length}

module _ (H : Automaton) (kept : List ReadRule) where
  -- what an admission says
  pub record Admitted (v : Rule) : Type 0 where
    pub named : Named
    pub is : v ≡ filled named
    pub for_sheet : (eqb named.rule.situations H.situations && eqb named.rule.commands H.commands) ≡ true
    pub place : length kept < 4
    pub few : states_of H kept + named.rule.states ≤ 16

  pub admitted : (v : Rule) → Ok tt ≡ admission H kept v → Admitted v
  unfolding admission
  admitted blank e = absurd (let z : ◌≡◌ {A = ℕ} 0 1 = cc in omega arith)
  admitted (filled n) e =
      record { named = n; is = refl; for_sheet = grind (arith, e); place = grind (arith, e); few = grind (arith, e) }

-- AS THE SHEET HAS IT

module _ (p : Page) (s : Sheet) (shows : Shows p s) where
  abbrev kept : List ReadRule
  kept = vec_items p.added

  abbrev A : Automaton
  A = automaton p.table.arrows

  -- a refusal is the sheet's
  pub refuses_add : (v : Rule) (r : Refusal) → Err r ≡ admission A kept v → add_to s v ≡ answers s (refused r)
  unfolding admission
  refuses_add blank r e = let h : UnlikeRule ≡ r = cc in ap {B = Outcome} (λ x. answers s (refused x)) h
  refuses_add (filled n) r e =
      grind (arith, same_any n.name kept s.added shows.added, same_length kept s.added shows.added, (rules_agree p s shows).states, shows.situations, shows.commands, e)

  -- and so is an admission
  pub accepts_add : (n : Named) → Ok tt ≡ admission A kept (filled n) → add_to s (filled n) ≡ answers (with_added s (s.added ++ (n ∷ []))) done
  unfolding admission
  accepts_add n e =
      grind (arith, same_any n.name kept s.added shows.added, same_length kept s.added shows.added, (rules_agree p s shows).states, shows.situations, shows.commands, e)
