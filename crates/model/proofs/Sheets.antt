-- What every sheet has after any calls: a look that refuses nothing, rules for its situations and commands, at most 16 states.
use Rattle.std.proofs.Common.{◌≡◌, ℕ, ◌+◌, ◌≤◌, ◌⊎◌, List, [], ◌∷◌, ◌++◌, map, sym, refl, ap, subst, subst₂, inl, inr, arith}
use mathlib.Core.Option.{Option, none, some}
use Rattle.model.specs.Lists.{In}
use Rattle.model.specs.Automaton.{Automaton, Controller, WellFormedFor, WellFormed}
use Rattle.model.specs.RuleLaws.{total_states}
use Rattle.model.specs.CountLaws.{RulesFor}
use Rattle.model.specs.Text.{Named}
use Rattle.model.specs.Sheet.{Sheet, Stored, look, looked, opened, rule_list, rules, with_added, with_limit, with_stored, Call, Outcome, after, run}
use Rattle.model.specs.SheetLaws.{InRange, HasRoom, Others, end, drops, keeps, Does, add_blank, add_unlike, add_taken, add_full, adds, withdraw_unknown, withdraws, limit_over, limits, finds, finds_none, crowds, frame_none, frame_large, moves, write_none, write_short, writes, checks}
use Rattle.model.specs.History.{ForSheet, RulesFit, AfterCalls}
use Rattle.model.proofs.Lists.{in_append, in_map, map_in}
use Rattle.model.proofs.Parts.{together_states}
use Rattle.model.proofs.Sides.{together_alike}
use Rattle.model.proofs.Calls.{others_in, look_exact, does}

abbrev pub of_rule : Named → Automaton
of_rule a = a.rule

states_push : (rest : List Automaton) (A : Automaton) → total_states (rest ++ (A ∷ [])) ≡ total_states rest + A.states
states_push [] A = omega arith
states_push (B ∷ rest) A = omega (arith, states_push rest A)

states_others : (name : List ℕ) {L M : List Named} → Others name L M → total_states (map of_rule M) ≤ total_states (map of_rule L)
states_others name end = omega arith
states_others name (drops a s h) = omega (arith, states_others name h)
states_others name (keeps a n h) = omega (arith, states_others name h)

map_push : (L : List Named) (a : Named) → map of_rule (L ++ (a ∷ [])) ≡ map of_rule L ++ (a.rule ∷ [])
map_push [] a = refl
map_push (b ∷ L) a = ap {B = List Automaton} (λ l. b.rule ∷ l) (map_push L a)

pub record Sound (s : Sheet) : Type 0 where
  pub looked : looked s ≡ none
  pub alike : RulesFor s.situations s.commands (rule_list s)
  pub small : (rules s).states ≤ 16
  pub limited : s.limit ≤ 14
  pub roomy : s.capacity ≤ 1024
  pub ranges : InRange s.situations s.commands s.capacity

pub opened_sound : (house : Automaton) (S C capacity : ℕ) → look house S C capacity ≡ none → Sound (opened house S C capacity)
opened_sound house S C capacity e =
    let (r, f) = (look_exact house S C capacity).0.0 e in
    record { looked = e; alike = λ A i. one f A i; small = omega (arith, f.0); limited = omega arith; roomy = r.5; ranges = r }
  where
    one : (house.states ≤ 12) × (house.situations ≡ S) × (house.commands ≡ C) → (A : Automaton) → (A ≡ house) ⊎ ⊥ → (A.situations ≡ S) × (A.commands ≡ C)
    one (a, b, c) A (inl f) = subst (λ B. (B.situations ≡ S) × (B.commands ≡ C)) (sym f) (b, c)
    one f A (inr z) = absurd z

module _ (s : Sheet) (h : Sound s) where
  abbrev Alike : Automaton → Type 0
  Alike A = (A.situations ≡ s.situations) × (A.commands ≡ s.commands)

  -- other rules, alike and with few enough states
  rules_sound : (L : List Named) → ((a : Named) → In L a → Alike a.rule) → s.house.states + total_states (map of_rule L) ≤ 16 → Sound (with_added s L)
  rules_sound L alike few =
      record {
        looked = h.looked;
        alike = λ A i. each A i;
        small = omega (arith, few, together_states s.house (map of_rule L));
        limited = h.limited;
        roomy = h.roomy;
        ranges = h.ranges;
      }
    where
      each : (A : Automaton) → (A ≡ s.house) ⊎ In (map of_rule L) A → Alike A
      each A (inl e) = h.alike A (inl e)
      each A (inr i) = let (a, j, e) = map_in of_rule L A i in subst Alike (sym e) (alike a j)

  stood : (a : Named) → In s.added a → Alike a.rule
  stood a i = h.alike a.rule (inr (in_map of_rule s.added a i))

  states_now : s.house.states + total_states (map of_rule s.added) ≡ (rules s).states
  states_now = sym (together_states s.house (map of_rule s.added))

  stored_sound : (k : Option Stored) → Sound (with_stored s k)
  stored_sound k = record { looked = h.looked; alike = h.alike; small = h.small; limited = h.limited; roomy = h.roomy; ranges = h.ranges }

  limit_sound : (n : ℕ) → n ≤ 14 → Sound (with_limit s n)
  limit_sound n l = record { looked = h.looked; alike = h.alike; small = h.small; limited = l; roomy = h.roomy; ranges = h.ranges }

  push_sound : (r : Named) → Alike r.rule → HasRoom s r → Sound (with_added s (s.added ++ (r ∷ [])))
  push_sound r like room =
      rules_sound (s.added ++ (r ∷ [])) (λ a i. last a (in_append s.added (r ∷ []) a i))
      (omega (arith, room.1, states_now, ap total_states (map_push s.added r), states_push (map of_rule s.added) r.rule))
    where
      last : (a : Named) → In s.added a ⊎ In (r ∷ []) a → Alike a.rule
      last a (inl i) = stood a i
      last a (inr (inl e)) = subst (λ (b : Named). Alike b.rule) (sym e) like
      last a (inr (inr z)) = absurd z

  does_sound : {call : Call} {o : Outcome} → Does s call o → Sound o.sheet
  does_sound add_blank = h
  does_sound (add_unlike r n) = h
  does_sound (add_taken r l t) = h
  does_sound (add_full r l n m) = h
  does_sound (adds r l n room) = push_sound r l room
  does_sound (withdraw_unknown name n) = h
  does_sound (withdraws name rest t o) =
      rules_sound rest (λ a i. stood a (others_in name o a i).0) (omega (arith, h.small, states_now, states_others name o))
  does_sound (limit_over n l) = h
  does_sound (limits n l) = limit_sound n l
  does_sound (finds f e) = stored_sound (some (record { found = f; current = 0 }))
  does_sound (finds_none e) = stored_sound none
  does_sound (crowds e) = stored_sound none
  does_sound (frame_none x e) = h
  does_sound (frame_large x k e l) = h
  does_sound (moves x k e l) = stored_sound _
  does_sound (write_none buffer e) = h
  does_sound (write_short buffer k e l) = h
  does_sound (writes buffer k e l) = h
  does_sound (checks bytes) = h

  pub after_sound : (call : Call) → Sound (after s call)
  after_sound call = does_sound (does s h.looked call)

pub run_sound : (s : Sheet) → Sound s → (calls : List Call) → Sound (run s calls)
run_sound s h [] = h
run_sound s h (call ∷ calls) = run_sound (after s call) (after_sound s h call) calls

pub rules_fit : AfterCalls RulesFit
rules_fit house S C capacity e calls =
    let h : Sound (run (opened house S C capacity) calls) = run_sound (opened house S C capacity) (opened_sound house S C capacity e) calls in
    (h.alike, h.small)

module _ (s : Sheet) (h : Sound s) (K : Controller) where
  pub for_is : ((rules s).situations ≡ s.situations) × ((rules s).commands ≡ s.commands)
  for_is = together_alike s.situations s.commands s.house (map of_rule s.added) h.alike

  pub for_sheet : WellFormed (rules s) K → ForSheet s K
  for_sheet w = subst₂ (λ S C. WellFormedFor S C K) for_is.0 for_is.1 w

  pub for_rules : ForSheet s K → WellFormed (rules s) K
  for_rules w = subst₂ (λ S C. WellFormedFor S C K) (sym for_is.0) (sym for_is.1) w
