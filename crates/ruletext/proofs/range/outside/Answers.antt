use Rattle.std.proofs.Common.{sym, ◌∙◌}
use Rattle.ruletext.proofs.Stepping.{outside_none, outside_some}
use Rattle.ruletext.proofs.range.outside.Goals as goal

pub returns-in_err-word : goal.returns-in_err-word
returns-in_err-word c =
    c.from_residual.ensures ∙ sym (outside_none c.args.states c.args.at c.args.words.now (sym c.first_too_large.ensures ∙ c.in_err-word.was))

pub returns : goal.returns
returns c = sym (outside_some c.args.states c.args.at c.in_ok-word.word c.args.words.now (sym c.first_too_large.ensures ∙ c.in_ok-word.was))
