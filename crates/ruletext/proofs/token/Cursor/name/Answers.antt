use Rattle.std.proofs.Common.{ap, ◌∙◌}
use Rattle.std.proofs.lemmas.Result.{err_from_is_err_and}
use Rattle.ruletext.proofs.Naming.{named, name_read, name_good}
use Rattle.ruletext.proofs.token.Cursor.name.Goals as goal
use Rattle.std.proofs.Common.{take}

pub returns-in_err-byte-2 : goal.returns-in_err-byte-2
returns-in_err-byte-2 c =
    let before = c.args.self.now in
    let there = c.byte.new.self in
    let behind = c.skip.new.self in
    let n = c.name_length-length.result in
    let first = c.in_ok-byte.ensures in
    let last = c.in_err-byte-2.ensures in
    let p = err_from_is_err_and c.from_residual-in_err-byte-2.result c.from_residual-in_err-byte-2.ensures.1 in
    rw (p.1, p.2) (
      last.0 ∙ c.skip.ensures.line ∙ first.0,
      name_read before.at before.rest.now c.in_ok-byte.field-0 there.at there.rest.now first.1 n c.name_length-length.ensures c.if-length-eq0.false behind.at behind.rest.now c.skip.ensures.at c.skip.ensures.rest
          ∙ ap (named (take n there.rest.now)) last.1,
    )

pub returns : goal.returns
returns c =
    let before = c.args.self.now in
    let there = c.byte.new.self in
    let behind = c.skip.new.self in
    let n = c.name_length-length.result in
    let first = c.in_ok-byte.ensures in
    let last = c.in_ok-byte-2.ensures in (
      last.0 ∙ c.skip.ensures.line ∙ first.0,
      (
        name_read before.at before.rest.now c.in_ok-byte.field-0 there.at there.rest.now first.1 n c.name_length-length.ensures c.if-length-eq0.false behind.at behind.rest.now c.skip.ensures.at c.skip.ensures.rest
            ∙ ap (named (take n there.rest.now)) last.1,
        name_good there.rest.now n c.name_length-length.ensures c.if-length-eq0.false,
      ),
    )
