-- The tables of a drafted rule state the rule that the lines mean.
use Rattle.std.proofs.Common.{◌≡◌, ℕ, ◌<◌, ◌≤◌, Bool, true, false, ◌&&◌, eqb, ltb, List, Decides, sym, ap, ◌∙◌, subst, arith}
use mathlib.Core.Path.{fun_ext}
use Rattle.std.proofs.lemmas.Bool.{and_parts, and_from, lt-ltb, ltb-true, both_ways}
use Rattle.model.specs.Automaton.{Automaton}
use Rattle.model.specs.Lists.{any}
use Rattle.model.specs.Text.{Choice, one, each, TextRule, has_arrow, meaning, all_reached, filled, named_rule}
use Rattle.model.specs.Reading.{at_end, full, reads, faulty}
use Rattle.model.specs.declared.fault.ReadFault.TheVariants.{Unreached}
use Rattle.model.specs.ReadingLaws.{Below, Chosen, NumbersGood, AllReached}
use Rattle.model.proofs.Reading.Basics.{by_test}
use Rattle.model.proofs.Reading.Meanings.{meaning_exact}
use Rattle.model.proofs.Reading.Reached.{all_reached_exact}
use Rattle.ruletext.specs.Tables.{ArrowTable, arrow, has_state, automaton, Within}
use Rattle.ruletext.specs.declared.table.StateSet.{StateSet}
use Rattle.ruletext.specs.Standing.{Drafted}

chosen_below : (n : ℕ) (c : Choice) (i : ℕ) → Below n c → Chosen n c i → i < n
chosen_below n (one d) i h e = omega arith
chosen_below n each i h e = e

module _ (S C : ℕ) (good : NumbersGood S C) (name : List ℕ) (n q : ℕ) (rejecting : StateSet) (arrows : ArrowTable) (r : TextRule) (d : Drafted S C name n q rejecting arrows r) where
  small : n ≤ 8
  small = let k = d.ranged.counted in let c = d.counts in omega (arith, k.1)

  -- an arrow of the lines lies within the numbers
  arrow_within : (p u x s : ℕ) → any (has_arrow S C p u x s) r.arrows ≡ true → (p < n) × (u < C) × (x < S) × (s < n)
  arrow_within p u x s e =
      let m = ((meaning_exact S C r).5 p u x s).0 e in
      let a = m.0 in
      let l = d.ranged.leads a m.1 in
      let c = d.counts in
      let t = l.3 s m.5 in
      (omega (arith, l.0, m.2), chosen_below C a.command u l.1 m.3, chosen_below S a.situation x l.2 m.4, omega arith)

  pub within : Within S C n arrows
  within p u x s hp hu hx hs e = arrow_within p u x s (sym (d.leads p u x s hp hu hx hs) ∙ e)

  pub rejects_below : (p : ℕ) → has_state rejecting p ≡ true → p < n
  rejects_below p e =
      let i = ((meaning_exact S C r).4 p).0 (sym (d.rejects p) ∙ e) in
      let k = d.ranged.rejects p i in
      let c = d.counts in
      omega arith

  -- also outside the numbers
  same_follows : (p u x s : ℕ) → (automaton S C n q rejecting arrows).follows p u x s ≡ any (has_arrow S C p u x s) r.arrows
  same_follows p u x s =
      by_test (ltb p 8 && (ltb u 8 && (ltb x 8 && ltb s 8)))
      (λ t.
      let a = and_parts (ltb p 8) (ltb u 8 && (ltb x 8 && ltb s 8)) t in
      let b = and_parts (ltb u 8) (ltb x 8 && ltb s 8) a.1 in
      let c = and_parts (ltb x 8) (ltb s 8) b.1 in
      ap (λ z. z && arrow arrows p u x s) t
      ∙ d.leads p u x s (ltb-true p 8 a.0) (ltb-true u 8 b.0) (ltb-true x 8 c.0) (ltb-true s 8 c.1))
      (λ t.
      ap (λ z. z && arrow arrows p u x s) t
      ∙ by_test (any (has_arrow S C p u x s) r.arrows)
      (λ e.
      let w = arrow_within p u x s e in
      let k = small in
      let all : (ltb p 8 && (ltb u 8 && (ltb x 8 && ltb s 8))) ≡ true =
      and_from (ltb p 8) (ltb u 8 && (ltb x 8 && ltb s 8)) (lt-ltb p 8 (omega (arith, w.0)))
      (and_from (ltb u 8) (ltb x 8 && ltb s 8) (lt-ltb u 8 (omega (arith, w.1, good.3)))
      (and_from (ltb x 8) (ltb s 8) (lt-ltb x 8 (omega (arith, w.2, good.1))) (lt-ltb s 8 (omega (arith, w.3))))) in
      absurd (both_ways (ltb p 8 && (ltb u 8 && (ltb x 8 && ltb s 8))) t all))
      (λ e. sym e))

  made : ℕ → (ℕ → Bool) → (ℕ → Bool) → (ℕ → ℕ → ℕ → ℕ → Bool) → Automaton
  made states start reject follows = record { situations = S; commands = C; states = states; start = start; reject = reject; follows = follows }

  same_rule : automaton S C n q rejecting arrows ≡ meaning S C r
  unfolding made
  same_rule =
      let A = automaton S C n q rejecting arrows in
      let M = meaning S C r in
      let one_by_one : made A.states A.start A.reject A.follows ≡ made M.states M.start M.reject M.follows =
      ap (λ z. made z A.start A.reject A.follows) (sym d.counts)
      ∙ ap (λ z. made M.states (λ p. eqb p z) A.reject A.follows) (sym d.starts)
      ∙ ap (λ z. made M.states M.start z A.follows) (fun_ext d.rejects)
      ∙ ap (λ z. made M.states M.start M.reject z) (fun_ext (λ p. fun_ext (λ u. fun_ext (λ x. fun_ext (λ s. same_follows p u x s))))) in
      one_by_one

  -- what the search of the code tells
  reached_same : (b : Bool) → Decides b (AllReached (automaton S C n q rejecting arrows)) → all_reached S C r ≡ b
  reached_same b e =
      let start : r.start < r.states = d.ranged.starts in
      let x = all_reached_exact S C r start in
      by_test b
      (λ t. x.1 (subst (λ z. AllReached z) same_rule (e.0 t)) ∙ sym t)
      (λ t. by_test (all_reached S C r) (λ h. absurd (both_ways b t (e.1 (subst (λ z. AllReached z) (sym same_rule) (x.0 h))))) (λ h. h ∙ sym t))

  module _ (b : Bool) (e : Decides b (AllReached (automaton S C n q rejecting arrows))) (line : ℕ) where
    pub end_unreached : b ≡ false → at_end S C line (full r) ≡ faulty (Unreached line)
    end_unreached t = let h : all_reached S C r ≡ false = reached_same b e ∙ t in cc

    pub end_reached : b ≡ true → at_end S C line (full r) ≡ reads r
    end_reached t = let h : all_reached S C r ≡ true = reached_same b e ∙ t in cc

  pub same_named : (copy : List ℕ) → copy ≡ name
      → filled (record { name = copy; rule = automaton S C n q rejecting arrows }) ≡ filled (named_rule S C r)
  same_named copy e = ap (λ z. filled (record { name = z; rule = automaton S C n q rejecting arrows })) (e ∙ sym d.names) ∙ ap (λ z. filled (record { name = r.name; rule = z })) same_rule
