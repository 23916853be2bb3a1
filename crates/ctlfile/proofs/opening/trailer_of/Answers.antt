use Rattle.std.proofs.Common.{length, sym, ◌∙◌, arith}
use Rattle.ctlfile.proofs.Ends.{too_short, unmarked, refused_range, refused_sheet, refused_layout, opens}
use Rattle.ctlfile.proofs.opening.trailer_of.Goals as goal

pub returns-then-file-lt20 : goal.returns-then-file-lt20
returns-then-file-lt20 g c = too_short (g.R.Rule.meaning c.args.rule.now) c.args.file.now (omega arith)

pub returns-then-not-is_marked : goal.returns-then-not-is_marked
returns-then-not-is_marked g c =
    unmarked (g.R.Rule.meaning c.args.rule.now) c.args.file.now c.split_at.result.1.now c.split_at.ensures.back (sym c.is_marked.ensures ∙ c.if-not-is_marked.true)

pub returns-then-not-is_in_range : goal.returns-then-not-is_in_range
returns-then-not-is_in_range g c =
    refused_range (g.R.Rule.meaning c.args.rule.now) c.args.file.now c.split_at.result.1.now c.read-trailer.result (length c.split_at.result.0.now) (omega arith)
    c.split_at.ensures.front_len c.split_at.ensures.back c.read-trailer.ensures (sym c.is_marked.ensures ∙ c.if-not-is_marked.false)
    (sym c.is_in_range.ensures ∙ c.if-not-is_in_range.true)

pub returns-then-not-is_for : goal.returns-then-not-is_for
returns-then-not-is_for g c =
    refused_sheet (g.R.Rule.meaning c.args.rule.now) c.args.file.now c.split_at.result.1.now c.read-trailer.result (length c.split_at.result.0.now) (omega arith)
    c.split_at.ensures.front_len c.split_at.ensures.back c.read-trailer.ensures (sym c.is_marked.ensures ∙ c.if-not-is_marked.false)
    (sym c.is_in_range.ensures ∙ c.if-not-is_in_range.false) (sym c.is_for.ensures ∙ c.if-not-is_for.true)

pub returns-then-not-is_laid_out : goal.returns-then-not-is_laid_out
returns-then-not-is_laid_out g c =
    refused_layout (g.R.Rule.meaning c.args.rule.now) c.args.file.now c.split_at.result.1.now c.read-trailer.result (length c.split_at.result.0.now) (omega arith)
    c.split_at.ensures.front_len c.split_at.ensures.back c.read-trailer.ensures (sym c.is_marked.ensures ∙ c.if-not-is_marked.false)
    (sym c.is_in_range.ensures ∙ c.if-not-is_in_range.false) (sym c.is_for.ensures ∙ c.if-not-is_for.false) (sym c.is_laid_out.ensures ∙ c.if-not-is_laid_out.true)

pub returns : goal.returns
returns g c =
    opens (g.R.Rule.meaning c.args.rule.now) c.args.file.now c.split_at.result.1.now c.read-trailer.result (length c.split_at.result.0.now) (omega arith)
    c.split_at.ensures.front_len c.split_at.ensures.back c.read-trailer.ensures (sym c.is_marked.ensures ∙ c.if-not-is_marked.false)
    (sym c.is_in_range.ensures ∙ c.if-not-is_in_range.false) (sym c.is_for.ensures ∙ c.if-not-is_for.false) (sym c.is_laid_out.ensures ∙ c.if-not-is_laid_out.false)
