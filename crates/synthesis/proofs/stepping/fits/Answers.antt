use Rattle.synthesis.specs.Tables.{view}
use Rattle.synthesis.proofs.Deciding.{fits_listed}
use Rattle.synthesis.proofs.stepping.fits.Goals as goal

pub returns : goal.returns
returns c = fits_listed c.args.c (view c.args.states c.args.position.now) c.all_within.result c.all_within.ensures
