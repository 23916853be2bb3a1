use Rattle.std.proofs.Common.{◌≡◌, ℕ, ◌<◌, Bool, true, false, List, is_some, Some, None, Option, sym, ◌∙◌, true≢false, MatchOption}
use mathlib.Core.Bool.{false≢true}
use Rattle.synthesis.specs.Safety.{flag, Holding, Keeping}
use Rattle.synthesis.proofs.graphs.Chosen.stays.Goals as goal

module _ (C S : ℕ) (links : List (List (Option ℕ))) (t : ℕ → Bool) (h : ℕ) where
  abbrev Told : Option ℕ → Type 0
  Told o =
      MatchOption o ((u : ℕ) → u < C → Holding S links t h u → ⊥) (λ u. (u < C) × Holding S links t h u × ((v : ℕ) → v < u → Holding S links t h v → ⊥))

  some_keeps : (o : Option ℕ) → Told o → is_some o ≡ true → Keeping C S links t h
  some_keeps None k e = absurd (false≢true e)
  some_keeps (Some u) k e = (u, k.0, k.1)

  none_keeps : (o : Option ℕ) → Told o → is_some o ≡ false → Keeping C S links t h → ⊥
  none_keeps None k e g = k g.0 g.1 g.2
  none_keeps (Some u) k e g = true≢false e

pub returns-else-not-self-place : goal.returns-else-not-self-place
returns-else-not-self-place c =
    let g = c.args.self.now in
    let C = g.numbers.commands in
    let S = g.numbers.situations in
    let links = g.links.now in
    let t = flag g.safe.now in
    let o = c.lowest_command.result in
    let told : Told C S links t c.args.place o = c.lowest_command.ensures.lowest in
    record {
      kept = λ e _. some_keeps C S links t c.args.place o told (sym c.is_some.ensures ∙ e);
      lost = λ e. (c.if-not-self-place.false, none_keeps C S links t c.args.place o told (sym c.is_some.ensures ∙ e));
    }
