use Rattle.model.proofs.Framing.{frames_stand}
use Rattle.model.proofs.laws.frames_stand.Goals as goal

pub returns : goal.returns
returns c = frames_stand
