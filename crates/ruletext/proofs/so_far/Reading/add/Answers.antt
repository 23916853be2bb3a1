use Rattle.std.proofs.Common.{subst}
use Rattle.ruletext.specs.Standing.{StandsAt}
use Rattle.ruletext.proofs.so_far.Reading.add.Goals as goal

pub returns-in-Full : goal.returns-in-Full
returns-in-Full c = λ m standing. c.add_arrows.ensures m (subst (λ z. StandsAt z c.args.self.now m) c.in-Full.is standing) c.in-Full.is
