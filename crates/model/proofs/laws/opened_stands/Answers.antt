use Rattle.std.proofs.Common.{refl}
use Rattle.model.proofs.laws.opened_stands.Goals as goal

pub returns : goal.returns
returns c house situations commands capacity =
    record { house_rule = refl; situation_number = refl; command_number = refl; room = refl; no_rule = refl; limit_14 = refl; no_controller = refl }
