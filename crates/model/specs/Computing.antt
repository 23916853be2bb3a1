-- One name that opens every definition which does not compute by itself: `unfolding computing` under a signature.
use Rattle.model.specs.Search
use Rattle.model.specs.Text
use Rattle.model.specs.Positions
use Rattle.model.specs.File
use Rattle.model.specs.Sheet

unfoldable pub computing : Unit {0}
unfolding Positions.start_position Positions.step Search.reached_from Text.neighbours Text.reached Text.all_reached Positions.fits Positions.steps Positions.successors Positions.reach Positions.member Positions.holds Positions.kept Positions.safe_part Positions.command_at Positions.states_met Positions.row_at Positions.found_in Positions.solve File.record_bytes File.trailer File.file File.tallies File.first_broken File.look_through File.check Sheet.look Sheet.respond
computing = tt
