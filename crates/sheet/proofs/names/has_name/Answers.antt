use Rattle.std.proofs.Common.{rules, ◌∙◌}
use Rattle.std.proofs.lemmas.Iterator.{YieldsList-from_slice}
use Rattle.std.proofs.lemmas.Iterator.Search.{any_from_yields_List}
use Rattle.sheet.specs.Added.{has_that_name}
use Rattle.sheet.proofs.Listed.{any_is}
use Rattle.sheet.proofs.names.has_name.Goals as goal

pub returns : goal.returns
returns c =
    let f = has_that_name c.args.name.now in
    any_from_yields_List f _ _ _ c.any.ensures.ran (YieldsList-from_slice c.args.rules.now cc) (λ x b q k. search rules) ∙ any_is f c.args.rules.now
