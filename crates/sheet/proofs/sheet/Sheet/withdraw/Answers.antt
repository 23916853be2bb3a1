use Rattle.std.proofs.Common.{refl}
use Rattle.sheet.proofs.Responding.{refuses, responds}
use Rattle.sheet.proofs.sheet.Sheet.withdraw.Goals as goal

pub returns-in-Ok : goal.returns-in-Ok
returns-in-Ok g c = responds {R = g.row.R.Denot} c.args.self.now _ _ _ _ _ c.in-Ok.is refl refl c.withdraw.ensures

pub returns-in-Err : goal.returns-in-Err
returns-in-Err g c = refuses {R = g.row.R.Denot} c.args.self.now _ _ _ c.in-Err.is refl refl
