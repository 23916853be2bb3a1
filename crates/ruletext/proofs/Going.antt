-- One more line: the tables then, and the rule that the lines state so far.
use Rattle.std.proofs.Common.{◌≡◌, ℕ, ◌<◌, ◌≤◌, Bool, true, false, eqb, ltb, not, ◌||◌, List, [], ◌∷◌, ◌++◌, None, sym, refl, ap, ◌∙◌, subst, ⊎_elim, inl, inr, arith}
use mathlib.Core.Option.{some}
use Rattle.std.proofs.lemmas.Bool.{eqb-true, ltb-true, ltb-false, both_ways}
use Rattle.model.specs.Lists.{any, first, In}
use Rattle.model.specs.Text.{Arrows, Line, n_line, t_line, TextRule, among, has_arrow, numbers, inside, state_numbers}
use Rattle.model.specs.Reading.{SoFar, onward, states_so_far, with_arrows}
use Rattle.model.specs.ReadingLaws.{Correct, Below}
use Rattle.model.proofs.Lists.{in_append}
use Rattle.model.proofs.Reading.Basics.{by_test}
use Rattle.ruletext.specs.Ranges.{first_outside}
use Rattle.ruletext.specs.Tables.{ArrowTable, has_state, Adds}
use Rattle.ruletext.specs.declared.table.StateSet.{StateSet}
use Rattle.ruletext.specs.Standing.{Clear, Drafted, on, step}
use Rattle.ruletext.proofs.Holding.{spot_none, states_below, arrows_below}

module _ (S C line : ℕ) (m next : SoFar) (l : Line) (e : onward m l ≡ some next) where
  pub step_on : first_outside (numbers S C (states_so_far next) l) ≡ None → step S C line m l ≡ on next
  step_on h = let d = spot_none (first (λ k. not (inside k)) (numbers S C (states_so_far next) l)) h in cc

-- THE RULE SO FAR

among_in : (qs : List ℕ) (q : ℕ) → among qs q ≡ true → In qs q
among_in [] q e = absurd (both_ways false refl e)
among_in (p ∷ qs) q e = by_test (eqb q p) (λ t. inl (eqb-true q p t)) (λ t. inr (among_in qs q (let f : among (p ∷ qs) q ≡ among qs q = cc in sym f ∙ e)))

pub any_push : {X : Type 0} (f : X → Bool) (xs : List X) (a : X) → any f (xs ++ (a ∷ [])) ≡ (any f xs || f a)
any_push f [] a = by_test (f a) (λ t. cc) (λ t. cc)
any_push f (x ∷ xs) a = let ih = any_push f xs a in by_test (f x) (λ t. cc) (λ t. cc)

-- behind an r line
pub rejecting_drafted : (S C : ℕ) (name : List ℕ) (n q : ℕ) (rejecting rejecting' : StateSet) (arrows : ArrowTable) (qs : List ℕ)
    → Clear rejecting arrows → Correct (n_line name) → 1 ≤ n → n ≤ 8 → q < n → first_outside (state_numbers n 2 qs) ≡ None
    → ((k : ℕ) → k < 8 → has_state rejecting' k ≡ among qs k) → ((k : ℕ) → 8 ≤ k → has_state rejecting' k ≡ false)
    → Drafted S C name n q rejecting' arrows (record { name = name; states = n; start = q; rejecting = qs; arrows = [] })
rejecting_drafted S C name n q rejecting rejecting' arrows qs clear good low high start ok marks none =
    record {
      names = refl;
      counts = refl;
      starts = refl;
      rejects = λ k.
          by_test (ltb k 8) (λ t. marks k (ltb-true k 8 t))
          (λ t.
          let past = ltb-false k 8 t in
          none k past ∙ sym (by_test (among qs k) (λ e. let h = states_below n 2 qs ok k (among_in qs k e) in absurd (omega arith)) (λ e. e)));
      leads = λ q u x p hq hu hx hp. clear.1 q u x p;
      ranged =
          record {
            named = good;
            counted = (low, high);
            starts = start;
            rejects = states_below n 2 qs ok;
            leads = λ a i. absurd i;
          };
    }

-- behind a t line
pub arrows_drafted : (S C : ℕ) (name : List ℕ) (n q : ℕ) (rejecting rejecting' : StateSet) (arrows arrows' : ArrowTable) (r : TextRule) (a : Arrows)
    → Drafted S C name n q rejecting arrows r → first_outside (numbers S C n (t_line a)) ≡ None
    → Adds arrows arrows' (λ q u x p. has_arrow S C q u x p a) → rejecting' ≡ rejecting
    → Drafted S C name n q rejecting' arrows' (with_arrows r a)
arrows_drafted S C name n q rejecting rejecting' arrows arrows' r a d ok adds same =
    let w = d.ranged in
    let l = arrows_below S C n a ok in
    record {
      names = d.names;
      counts = d.counts;
      starts = d.starts;
      rejects = λ k. ap (λ z. has_state z k) same ∙ d.rejects k;
      leads = λ q u x p hq hu hx hp.
          adds q u x p hq hu hx hp ∙ ap (λ z. z || has_arrow S C q u x p a) (d.leads q u x p hq hu hx hp)
          ∙ sym (any_push (has_arrow S C q u x p) r.arrows a);
      ranged =
          record {
            named = w.named;
            counted = w.counted;
            starts = w.starts;
            rejects = w.rejects;
            leads = λ b i.
                ⊎_elim (λ j. w.leads b j)
                (λ j. ⊎_elim
                (λ e.
                let c = d.counts in
                subst (λ z. (z.from < r.states) × Below C z.command × Below S z.situation × ((p : ℕ) → In z.to p → p < r.states)) (sym e)
                (omega (arith, l.from), l.command, l.situation, λ p k. let h = l.to p k in omega arith))
                (λ e. absurd e) j)
                (in_append r.arrows (a ∷ []) b i);
          };
    }
