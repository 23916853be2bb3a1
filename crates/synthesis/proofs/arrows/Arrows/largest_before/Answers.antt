use Rattle.std.proofs.Common.{◌≡◌, ℕ, cond, ◌&&◌, ltb, get_or, sym, ap, ◌∙◌, arith, get_or-take}
use Rattle.std.proofs.lemmas.Bool.{lt-ltb, le-ltb}
use Rattle.model.specs.Positions.{largest}
use Rattle.synthesis.specs.Tables.{automaton, view, mark_before}
use Rattle.synthesis.proofs.Marks.{largest_of}
use Rattle.synthesis.proofs.arrows.Arrows.largest_before.Goals as goal

pub returns : goal.returns
returns c =
    let A = automaton c.args.self.now in
    let n = c.args.self.now.states in
    let marks = c.args.position.now.marks in
    let F = λ (q : ℕ). A.follows q c.args.command c.args.situation c.args.follower in
    let f = λ (q : ℕ). cond (ltb q n && F q) (get_or marks q 0) 0 in
    let e : c.loop-state.state ≡ 16 = omega arith in
    c.loop-state.invariant
    ∙ ap {B = ℕ} (largest f) e
    ∙ largest_of f (mark_before A c.args.command c.args.situation (view n c.args.position.now) c.args.follower) n 16 c.args.self.now.few_states
    (λ q l. ap {B = ℕ} (λ b. cond (b && F q) (get_or marks q 0) 0) (lt-ltb q n l) ∙ ap {B = ℕ} (λ m. cond (F q) m 0) (sym (get_or-take n marks q 0 l)))
    (λ q l. ap {B = ℕ} (λ b. cond (b && F q) (get_or marks q 0) 0) (le-ltb q n l))
