use Rattle.std.proofs.Common.{◌+◌, ap, arith}
use Rattle.ruletext.specs.Lines.{line_of}
use Rattle.ruletext.proofs.Lining.{line_shorter, taken_on}
use Rattle.ruletext.proofs.so_far.Reading.take.Goals as goal

pub overflow_add-self : goal.overflow_add-self
overflow_add-self c =
    let s = line_shorter c.args.text.now (line_of c.in_ok-words.words) c.in_ok-words.ensures.0 c.in_ok-words.rest.now c.in_ok-words.ensures.1 in
    let kept = (c.in_ok-add.ensures c.requires.stands.0 c.requires.stands.1).1 in
    omega arith

pub returns : goal.returns
returns c =
    let before = c.args.self.now in
    let text = c.args.text.now in
    let rest = c.in_ok-words.rest.now in
    let read = c.in_ok-words.ensures.1 in
    λ m standing.
    let s = c.in_ok-add.ensures m standing in
    let taken = taken_on before.numbers.situations before.numbers.commands before.line m text (line_of c.in_ok-words.words) c.in_ok-words.ensures.0 rest read s.2.0 s.2.1 in (
      s.0,
      ap (λ k. k + 1) s.1,
      line_shorter text (line_of c.in_ok-words.words) c.in_ok-words.ensures.0 rest read,
      (s.2.0, taken, s.2.2),
    )
