use Rattle.std.proofs.Common.{◌≡◌, Bool, length, get_or, refl, ap, ◌∙◌, sym, arith, rules, tests}
use Rattle.std.specs.List.{list_all, range_with_len}
use Rattle.std.proofs.lemmas.Iterator.{YieldsList-from_range}
use Rattle.std.proofs.lemmas.Iterator.Search.{all_from_yields_List}
use Rattle.model.specs.Automaton.{no_row}
use Rattle.model.specs.File.{good_row}
use Rattle.ctlfile.specs.Windows.{shown}
use Rattle.ctlfile.proofs.Showing.{rows_count}
use Rattle.ctlfile.proofs.Testing.{every_numbered}
use Rattle.ctlfile.proofs.window.Window.has_good_records.Goals as goal

pub returns : goal.returns
returns g c =
    let w = c.args.self.now in
    let A = g.R.Rule.meaning c.args.rule.now in
    let rows = (shown w).rows in
    let long : length rows ≡ w.states = rows_count w.states w.situations w.rule_states w.count w.records.now w.certificate.now in
    all_from_yields_List (λ k. good_row A w.states (get_or rows k no_row)) _ _ _ c.all.ensures.ran (YieldsList-from_range 0 w.states w.states refl (omega arith)) (λ x b q k. search (rules, tests))
    ∙ ap {B = Bool} (λ m. list_all (λ k. good_row A m (get_or rows k no_row)) (range_with_len 0 w.states)) (sym long)
    ∙ every_numbered (good_row A (length rows)) rows no_row w.states long
