use Rattle.ctlfile.proofs.Broken.{broken_byte, broken_start, broken_arrow}
use Rattle.ctlfile.proofs.certificate.Candidate.first_bad_place.Goals as goal

pub returns-in-Some : goal.returns-in-Some
returns-in-Some g c = let d = c.args.self.now in broken_byte (g.R.Rule.meaning d.rule.now) d.window d.fits c.in-Some.place c.in-Some.ensures

pub returns-in-Some-first_bad_start : goal.returns-in-Some-first_bad_start
returns-in-Some-first_bad_start g c =
    let d = c.args.self.now in broken_start (g.R.Rule.meaning d.rule.now) d.window d.fits c.in-Some-first_bad_start.place c.in_default.ensures c.in-Some-first_bad_start.ensures

pub returns : goal.returns
returns g c =
    let d = c.args.self.now in broken_arrow (g.R.Rule.meaning d.rule.now) d.window d.fits c.first_bad_arrow.result c.in_default.ensures c.in_default-first_bad_start.ensures c.first_bad_arrow.ensures
