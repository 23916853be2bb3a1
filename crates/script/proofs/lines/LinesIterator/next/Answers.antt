use Rattle.std.proofs.Common.{rules, ◌≡◌, ◌+◌, ◌≤◌, ◌<◌, ◌⊎◌, ℕ, refl, arith, min}
use Rattle.script.proofs.lines.LinesIterator.next.Goals as goal

-- behind the end of a line stands the next line, or nothing
behind : (end len next : ℕ) (P : Type 0) → end ≤ len → (end < len → P) → next ≡ min len (end + 1) → (P × (next ≡ end + 1)) ⊎ ((end ≡ len) × (next ≡ end))
behind end len next P a p e = grind (arith, p)

pub returns-clause-steps : goal.returns-clause-steps
returns-clause-steps c = (
  refl,
  record {
    end = c.first_from-end.result;
    onward = search rules;
    text = refl;
    inside = λ k a b. let h = c.first_from-end.ensures.before k a b in λ e. grind arith;
    ended = behind _ _ _ _ c.first_from-end.ensures.within (λ l. search rules) c.min-self.ensures;
  },
)
