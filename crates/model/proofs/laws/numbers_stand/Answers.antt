use Rattle.model.proofs.Reading.Numbers.{numbers_stand}
use Rattle.model.proofs.laws.numbers_stand.Goals as goal

pub returns : goal.returns
returns c = numbers_stand
