use Rattle.std.proofs.Common.{◌≡◌, List, map, vec_items, Result, sym, refl, ap, ◌∙◌}
use Rattle.std.proofs.lemmas.Result.{err_from_is_err_and}
use Rattle.model.specs.Text.{ReadRule as Rule}
use Rattle.ruletext.specs.View.{view}
use Rattle.synthesis.specs.Tables.{automaton}
use Rattle.model.specs.declared.refusal.Refusal.{Refusal}
use Rattle.model.specs.Sheet.{Answer, refused, Outcome, add_to}
use Rattle.sheet.specs.Added.{admission}
use Rattle.sheet.specs.Shows.{settled}
use Rattle.sheet.proofs.Paging.{same_push, outcome}
use Rattle.sheet.proofs.Admitting.{admitted, refuses_add, accepts_add}
use Rattle.sheet.proofs.page.Page.add.Goals as goal

pub returns-in_err-admits : goal.returns-in_err-admits
returns-in_err-admits c s shows =
    let p = err_from_is_err_and c.from_residual.result c.from_residual.ensures.1 in
    let is = refuses_add c.args.self.now s shows (view c.args.rule) c.in_err-admits.field-0.0 (sym c.in_err-admits.was ∙ c.admits.ensures) in
    let same : settled c.from_residual.result ≡ refused c.in_err-admits.field-0.0 = ap {B = Answer} settled p.1 ∙ ap {B = Answer} refused p.2 in
    let (said, shown) = outcome _ _ _ c.args.self.now is shows in
    (same ∙ said, shown)

pub returns : goal.returns
returns c s shows =
    let p = c.args.self.now in
    let a = admitted (automaton p.table.arrows) (vec_items p.added) (view c.args.rule) (sym c.in_ok-admits.was ∙ c.admits.ensures) in
    let is = ap {B = Outcome} (add_to s) a.is ∙ accepts_add p s shows a.named (sym c.in_ok-admits.was ∙ c.admits.ensures ∙ ap {B = Result (Unit {0}) Refusal} (admission (automaton p.table.arrows) (vec_items p.added)) a.is) in
    outcome _ _ _ _ is
    (record {
      house = shows.house;
      situations = shows.situations;
      commands = shows.commands;
      capacity = shows.capacity;
      added = ap {B = List Rule} (map view) c.push_reserved.ensures.items ∙ same_push (vec_items p.added) s.added c.args.rule a.named shows.added a.is;
      limit = shows.limit;
      stored = refl;
    })
