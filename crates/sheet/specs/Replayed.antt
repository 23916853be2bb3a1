-- What a replay gives: the history law.
use Rattle.std.specs.Prelude.{◌≡◌, ℕ, List, ◌++◌}
use Rattle.std.proofs.Math.Option.{none}
use Rattle.model.specs.Automaton.{Automaton}
use Rattle.model.specs.Sheet.{look, opened, Call, replies}
use Rattle.model.specs.History.{Lawful}
use Rattle.sheet.specs.declared.request.Request.{Request}
use Rattle.sheet.specs.declared.request.Answer.{Answer}
use Rattle.sheet.specs.Requests.{calls_of, all_said, all_held}

-- Requests on a newly opened sheet, with the answers and what the output holds then. Each answer is the one laid down for its call in turn,
-- and so is each buffer. And, unless the look refuses, after any number of the calls it holds of the rules then on the sheet that:
--   check accepts some file of a controller with the number c exactly if its count is at most c, and what it accepts has no reachable cycle
--   through a rejecting state; the count that solve gives is its controller's own and the least of all finite controllers, none means that
--   every finite controller's count is above the limit, and crowded comes only at a tried c whose Reach(c) exceeds the capacity; along the
--   frames accepted since the last solve that gave a count, no path of any rule of that solve counts above it; and the rest of the law
pub record Replayed (house : Automaton) (situations commands capacity : ℕ) (requests : List Request) (output : List ℕ) (answers : List Answer) (left : List ℕ) : Type 0 where
  pub answered : answers ≡ all_said requests (replies (opened house situations commands capacity) (calls_of requests output))
  pub written : left ≡ all_held requests (replies (opened house situations commands capacity) (calls_of requests output)) output
  pub lawful : look house situations commands capacity ≡ none
      → (earlier later : List Call) → calls_of requests output ≡ earlier ++ later → Lawful (opened house situations commands capacity) earlier
