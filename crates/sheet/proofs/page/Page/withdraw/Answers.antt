use Rattle.std.proofs.Common.{Bool, List, map, vec_items, sym, refl, ap, ◌∙◌}
use Rattle.model.specs.Lists.{any}
use Rattle.model.specs.Text.{ReadRule as Rule}
use Rattle.ruletext.specs.View.{view}
use Rattle.sheet.specs.Added.{has_that_name}
use Rattle.sheet.proofs.Paging.{same_any, same_kept, outcome, withdraw_unknown, withdraw_known}
use Rattle.sheet.proofs.page.Page.withdraw.Goals as goal

pub returns-then-not-has_name : goal.returns-then-not-has_name
returns-then-not-has_name c s shows =
    let name = c.args.name.now in
    let kept = vec_items c.args.self.now.added in
    let e = sym (same_any name kept s.added shows.added) ∙ ap {B = Bool} (any (has_that_name name)) (sym c.deref.ensures.value) ∙ sym c.has_name.ensures ∙ c.if-not-has_name.true in
    outcome _ s _ _ (withdraw_unknown s name e) shows

pub returns : goal.returns
returns c s shows =
    let name = c.args.name.now in
    let kept = vec_items c.args.self.now.added in
    let e = sym (same_any name kept s.added shows.added) ∙ ap {B = Bool} (any (has_that_name name)) (sym c.deref.ensures.value) ∙ sym c.has_name.ensures ∙ c.if-not-has_name.false in
    outcome _ _ _ _ (withdraw_known s name e)
    (record {
      house = shows.house;
      situations = shows.situations;
      commands = shows.commands;
      capacity = shows.capacity;
      added = ap {B = List Rule} (map view) c.remove_named.ensures.items ∙ same_kept name kept s.added shows.added;
      limit = shows.limit;
      stored = refl;
    })
