-- What a page that stands for a sheet has in common with it. Assumes nothing.
use Rattle.std.proofs.Common.{◌≡◌, ℕ, Bool, true, false, not, List, [], ◌∷◌, ◌++◌, map, length, vec_items, sym, refl, ap, subst, arith}
use Rattle.std.specs.List.{filter, AllByRecursion as All}
use Rattle.model.specs.declared.refusal.Refusal.TheVariants.{NoSuchName}
use Rattle.model.specs.Automaton.{Automaton}
use Rattle.model.specs.Lists.{any, every}
use Rattle.model.specs.Rules.{beside, together}
use Rattle.model.specs.Text.{Named, filled, rule_meaning}
use Rattle.model.specs.Sheet.{Sheet, same_name, rules, with_added, withdraw_from, Outcome, Answer, answers, done, refused}
use Rattle.ruletext.specs.declared.rule.ReadRule.{ReadRule}
use Rattle.ruletext.specs.View.{view, name_of}
use Rattle.synthesis.specs.Tables.{automaton, Agrees, Alike}
use Rattle.synthesis.proofs.Gathered.{beside_agrees}
use Rattle.sheet.specs.Added.{meaning, has_that_name, is_for}
use Rattle.sheet.specs.declared.page.Page.{Page}
use Rattle.sheet.specs.Shows.{Shows}

-- RULES THAT ARE KEPT AS THOSE OF THE DEFINITIONS

abbrev pub Same : List ReadRule → List Named → Type 0
Same kept named = map view kept ≡ map filled named

same_head : (r : ReadRule) (kept : List ReadRule) (n : Named) (named : List Named) → Same (r ∷ kept) (n ∷ named) → view r ≡ filled n
same_head r kept n named e = cc

same_tail : (r : ReadRule) (kept : List ReadRule) (n : Named) (named : List Named) → Same (r ∷ kept) (n ∷ named) → Same kept named
same_tail r kept n named e = cc

apart_left : (n : Named) (named : List Named) → Same [] (n ∷ named) → ⊥
apart_left n named e = let z : ◌≡◌ {A = ℕ} 0 1 = cc in omega arith

apart_right : (r : ReadRule) (kept : List ReadRule) → Same (r ∷ kept) [] → ⊥
apart_right r kept e = let z : ◌≡◌ {A = ℕ} 0 1 = cc in omega arith

pub same_length : (kept : List ReadRule) (named : List Named) → Same kept named → length kept ≡ length named
same_length [] [] e = refl
same_length [] (n ∷ named) e = absurd (apart_left n named e)
same_length (r ∷ kept) [] e = absurd (apart_right r kept e)
same_length (r ∷ kept) (n ∷ named) e = let h = same_length kept named (same_tail r kept n named e) in omega (arith, h)

pub same_meanings : (kept : List ReadRule) (named : List Named) → Same kept named → map meaning kept ≡ map (λ (a : Named). a.rule) named
same_meanings [] [] e = refl
same_meanings [] (n ∷ named) e = absurd (apart_left n named e)
same_meanings (r ∷ kept) [] e = absurd (apart_right r kept e)
same_meanings (r ∷ kept) (n ∷ named) e =
    let h = same_meanings kept named (same_tail r kept n named e) in
    let g : meaning r ≡ n.rule = ap {B = Automaton} rule_meaning (same_head r kept n named e) in
    cc

same_test : (name : List ℕ) (r : ReadRule) (n : Named) → view r ≡ filled n → has_that_name name r ≡ same_name name n.name
same_test name r n e = ap {B = Bool} (λ v. same_name name (name_of v)) e

pub same_any : (name : List ℕ) (kept : List ReadRule) (named : List Named) → Same kept named → any (has_that_name name) kept ≡ any (λ (a : Named). same_name name a.name) named
same_any name [] [] e = refl
same_any name [] (n ∷ named) e = absurd (apart_left n named e)
same_any name (r ∷ kept) [] e = absurd (apart_right r kept e)
same_any name (r ∷ kept) (n ∷ named) e =
    grind (arith, same_any name kept named (same_tail r kept n named e), same_test name r n (same_head r kept n named e))

pub same_kept : (name : List ℕ) (kept : List ReadRule) (named : List Named) → Same kept named
    → Same (filter (λ r. not (has_that_name name r)) kept) (filter (λ (a : Named). not (same_name name a.name)) named)
same_kept name [] [] e = refl
same_kept name [] (n ∷ named) e = absurd (apart_left n named e)
same_kept name (r ∷ kept) [] e = absurd (apart_right r kept e)
same_kept name (r ∷ kept) (n ∷ named) e =
    let head = same_head r kept n named e in
    grind (arith, same_kept name kept named (same_tail r kept n named e), same_test name r n head, head)

pub same_push : (kept : List ReadRule) (named : List Named) (r : ReadRule) (n : Named) → Same kept named → view r ≡ filled n → Same (kept ++ (r ∷ [])) (named ++ (n ∷ []))
same_push [] [] r n e h = cc
same_push [] (m ∷ named) r n e h = absurd (apart_left m named e)
same_push (q ∷ kept) [] r n e h = absurd (apart_right q kept e)
same_push (q ∷ kept) (m ∷ named) r n e h =
    let below = same_push kept named r n (same_tail q kept m named e) h in
    let head = same_head q kept m named e in
    cc

-- SIDE BY SIDE

pub together_agrees : (A B : Automaton) (rules : List Automaton) → Agrees A B → Agrees (together A rules) (together B rules)
together_agrees A B [] g = g
together_agrees A B (M ∷ rules) g = together_agrees (beside A M) (beside B M) rules (beside_agrees A B M g)

-- the rules that are kept are alike
pub all_alike : (H : Automaton) (kept : List ReadRule) → every (is_for H) kept ≡ true → All (Alike H) (map meaning kept)
all_alike H [] e = tt
all_alike H (r ∷ kept) e = grind (arith, all_alike H kept, e)

-- A PAGE AND ITS SHEET

module _ (p : Page) (s : Sheet) (shows : Shows p s) where
  H : Automaton
  H = automaton p.table.arrows

  pub rules_agree : Agrees (together (automaton p.table.arrows) (map meaning (vec_items p.added))) (rules s)
  rules_agree =
      subst (λ Ms. Agrees (together (automaton p.table.arrows) (map meaning (vec_items p.added))) (together s.house Ms)) (same_meanings (vec_items p.added) s.added shows.added)
      (together_agrees (automaton p.table.arrows) s.house (map meaning (vec_items p.added)) shows.house)

-- an outcome that leaves what the page then stands for
pub outcome : (o : Outcome) (after : Sheet) (a : Answer) (p : Page) → o ≡ answers after a → Shows p after → (a ≡ o.answer) × Shows p o.sheet
outcome o after a p e sh = (sym (ap {B = Answer} (λ (o : Outcome). o.answer) e), subst (λ (o : Outcome). Shows p o.sheet) (sym e) sh)

-- withdraw, by whether the name is there
pub withdraw_unknown : (s : Sheet) (name : List ℕ) → any (λ (a : Named). same_name name a.name) s.added ≡ false → withdraw_from s name ≡ answers s (refused NoSuchName)
withdraw_unknown s name e = grind (arith, e)

pub withdraw_known : (s : Sheet) (name : List ℕ) → any (λ (a : Named). same_name name a.name) s.added ≡ true
    → withdraw_from s name ≡ answers (with_added s (filter (λ (a : Named). not (same_name name a.name)) s.added)) done
withdraw_known s name e = grind (arith, e)
