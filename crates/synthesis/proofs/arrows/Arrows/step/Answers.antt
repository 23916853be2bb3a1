use Rattle.std.proofs.Common.{◌≡◌, ℕ, ◌+◌, ◌<◌, ◌≤◌, Some, ap, ◌∙◌, subst, arith, below_more}
use Rattle.model.specs.Positions.{largest, handed, step}
use Rattle.synthesis.specs.Tables.{automaton, view}
use Rattle.synthesis.proofs.Marks.{filled_more, filled_all, all_fit, one_over, stepped_some, stepped_none}
use Rattle.synthesis.proofs.arrows.Arrows.step.Goals as goal

pub loop-follower-preserved : goal.loop-follower-preserved
loop-follower-preserved c =
    let f = λ (p : ℕ). largest (handed (automaton c.args.self.now) c.args.command c.args.situation (view c.args.self.now.states c.args.position.now) p) c.args.self.now.states in (
      filled_more 16 f c.loop-follower.marks c.loop-follower.follower c.handed-mark.result (omega arith) c.loop-follower.invariant.0 c.handed-mark.ensures,
      below_more (λ k. f k ≤ c.args.c + 1) c.loop-follower.follower c.loop-follower.invariant.1 (omega (arith, c.handed-mark.ensures)),
    )

pub returns-then-mark-c : goal.returns-then-mark-c
unfolding step
returns-then-mark-c c =
    let f = λ (p : ℕ). largest (handed (automaton c.args.self.now) c.args.command c.args.situation (view c.args.self.now.states c.args.position.now) p) c.args.self.now.states in
    stepped_none (automaton c.args.self.now) c.args.c c.args.command c.args.situation (view c.args.self.now.states c.args.position.now)
    (one_over c.args.c c.args.self.now.states c.loop-follower.follower f (omega arith) (omega (arith, c.handed-mark.ensures)))

pub returns : goal.returns
unfolding step
returns c =
    let f = λ (p : ℕ). largest (handed (automaton c.args.self.now) c.args.command c.args.situation (view c.args.self.now.states c.args.position.now) p) c.args.self.now.states in
    let e : c.loop-follower.follower ≡ c.args.self.now.states = omega arith in
    ap (λ P. Some P) (filled_all f c.loop-follower.marks c.loop-follower.follower c.args.self.now.states e c.loop-follower.invariant.0)
    ∙ stepped_some (automaton c.args.self.now) c.args.c c.args.command c.args.situation (view c.args.self.now.states c.args.position.now)
    (all_fit c.args.c c.args.self.now.states f (subst (λ n. (k : ℕ) → k < n → f k ≤ c.args.c + 1) e c.loop-follower.invariant.1))
