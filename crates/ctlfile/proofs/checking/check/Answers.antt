use Rattle.std.proofs.Common.{◌≡◌, ℕ, Ok, Result, sym, ap, ◌∙◌}
use Rattle.model.specs.declared.refusal.Refusal.{Refusal}
use Rattle.model.specs.File.{look_through}
use Rattle.model.specs.File as File
use Rattle.ctlfile.specs.Windows.{shown}
use Rattle.ctlfile.proofs.Broken.{not_records, broken, whole, count_shown}
use Rattle.ctlfile.proofs.checking.check.Goals as goal

pub returns-then-not-has_good_records : goal.returns-then-not-has_good_records
returns-then-not-has_good_records g c =
    let A = g.R.Rule.meaning c.args.rule.now in
    let w = c.window_on-window.result in
    let through : File.check A c.args.file.now ≡ look_through A (shown w) = c.in_ok-trailer.ensures.through ∙ ap {B = Result ℕ Refusal} (look_through A) (sym c.window_on-window.ensures.shows) in
    sym (through ∙ not_records A (shown w) (sym c.has_good_records.ensures ∙ c.if-not-has_good_records.true))

pub returns-in-Some : goal.returns-in-Some
returns-in-Some g c =
    let A = g.R.Rule.meaning c.args.rule.now in
    let w = c.window_on-window.result in
    let through : File.check A c.args.file.now ≡ look_through A (shown w) = c.in_ok-trailer.ensures.through ∙ ap {B = Result ℕ Refusal} (look_through A) (sym c.window_on-window.ensures.shows) in
    sym (through ∙ broken A (shown w) c.in-Some.place (sym c.has_good_records.ensures ∙ c.if-not-has_good_records.false) c.in-Some.ensures)

pub returns-in-None : goal.returns-in-None
returns-in-None g c =
    let A = g.R.Rule.meaning c.args.rule.now in
    let w = c.window_on-window.result in
    let through : File.check A c.args.file.now ≡ look_through A (shown w) = c.in_ok-trailer.ensures.through ∙ ap {B = Result ℕ Refusal} (look_through A) (sym c.window_on-window.ensures.shows) in
    sym (through ∙ whole A (shown w) (sym c.has_good_records.ensures ∙ c.if-not-has_good_records.false) c.in-None.ensures ∙ ap {B = Result ℕ Refusal} Ok (count_shown w))
