use Rattle.std.proofs.Common.{sym, ◌∙◌}
use Rattle.script.specs.Grammar.{writes_free, writes_reply, writes_pair}
use Rattle.script.proofs.parse.Parser.+rule.Goals as goal

pub returns-in_ok-free_numbers-in-Free-clause-writes : goal.returns-in_ok-free_numbers-in-Free-clause-writes
returns-in_ok-free_numbers-in-Free-clause-writes t c =
    let word = rw c.in-Free.is at c.in_ok-keyword.ensures.word in
    writes_free word (rw (sym c.keyword.ensures.same) c.in_ok-free_numbers-in-Free.ensures.numbers)

pub returns-in_ok-reply_numbers-in-Reply-clause-writes : goal.returns-in_ok-reply_numbers-in-Reply-clause-writes
returns-in_ok-reply_numbers-in-Reply-clause-writes t c =
    let word = rw c.in-Reply.is at c.in_ok-keyword.ensures.word in
    writes_reply word (rw (sym c.keyword.ensures.same) c.in_ok-reply_numbers-in-Reply.ensures.numbers)

pub returns-in_ok-pair-in-Pair-clause-writes : goal.returns-in_ok-pair-in-Pair-clause-writes
returns-in_ok-pair-in-Pair-clause-writes t c =
    let word = rw c.in-Pair.is at c.in_ok-keyword.ensures.word in
    let first = rw c.keyword.ensures.same at c.in_ok-first-in-Pair.ensures.writes in
    let second = rw (c.rule.ensures.same ∙ c.keyword.ensures.same) at c.in_ok-second-in-Pair.ensures.writes in
    rw c.in_ok-pair-in-Pair.ensures.meaning (writes_pair word first second)
