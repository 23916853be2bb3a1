use Rattle.std.proofs.Common.{refl}
use Rattle.sheet.proofs.Responding.{refuses, responds}
use Rattle.sheet.proofs.sheet.Sheet.write.Goals as goal

pub returns-in-Ok-clause-said : goal.returns-in-Ok-clause-said
returns-in-Ok-clause-said g c = responds {R = g.row.R.Denot} c.args.self.now _ _ _ _ _ c.in-Ok.is c.in-Ok.is refl c.write.ensures.said

pub returns-in-Err-clause-said : goal.returns-in-Err-clause-said
returns-in-Err-clause-said g c = refuses {R = g.row.R.Denot} c.args.self.now _ _ _ c.in-Err.is c.in-Err.is refl
