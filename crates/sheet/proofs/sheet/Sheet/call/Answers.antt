use Rattle.sheet.proofs.Responding.{called_add}
use Rattle.sheet.proofs.sheet.Sheet.call.Goals as goal

pub returns-in-Add : goal.returns-in-Add
returns-in-Add g c =
    called_add {R = g.row.R.Denot} c.args.self.now c.add_text.new.self c.args.request.now c.in-Add.text c.in-Add.situations c.in-Add.commands c.args.buffer.now c.add_text.result c.in-Add.is
    c.add_text.ensures
