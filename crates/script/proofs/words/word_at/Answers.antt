use Rattle.std.proofs.Common.{rules, ◌≡◌, true, false, not, Bool, sym}
use Rattle.script.proofs.words.word_at.Goals as goal

from_not : (b : Bool) → false ≡ not b → b ≡ true
from_not true h = search rules
from_not false h = search rules

pub returns-then-start-line : goal.returns-then-start-line
returns-then-start-line c k a b = from_not _ (c.first_from-start.ensures.before k a (search rules))

pub returns : goal.returns
returns c = record {
  onward = search rules;
  some = search rules;
  within = search rules;
  before = λ k a b. from_not _ (c.first_from-start.ensures.before k a b);
  inside = λ k a b. sym (c.first_from-end.ensures.before k a b);
  whole = search rules;
}
