use Rattle.std.proofs.Common.{◌≡◌, refl, rules}
use Rattle.sheet.proofs.Listed.{kept_is}
use Rattle.sheet.specs.contracts.page.adding.fn.remove_named.retain as closure
use Rattle.sheet.proofs.page.adding.remove_named.Goals as goal

pub returns-clause-items : goal.returns-clause-items
returns-clause-items c = kept_is _ _ (λ f. let l = closure.captures f in l.name ≡ c.args.name) (λ f x b g i k. search rules) _ _ _ refl c.retain.ensures.filtered
