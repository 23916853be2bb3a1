use Rattle.model.specs.Sheet.{opened}
use Rattle.model.proofs.Law.{history_law}
use Rattle.sheet.proofs.replay.replay.Goals as goal

pub returns-clause-replayed : goal.returns-clause-replayed
returns-clause-replayed g c =
    let H = g.R.Rule.meaning c.args.house in
    let (said, held, stands) = c.calls.ensures.ran.does (opened H c.args.situations c.args.commands c.args.capacity) c.open-sheet.ensures.opened in
    record { answered = said; written = held; lawful = λ e earlier later split. history_law H c.args.situations c.args.commands c.args.capacity e earlier }
