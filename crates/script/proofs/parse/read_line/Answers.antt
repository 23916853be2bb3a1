use Rattle.std.proofs.Common.{sym, ◌∙◌}
use Rattle.script.proofs.parse.read_line.Goals as goal

-- the first word, what the command asks for, and the blanks behind it stand in the line as it was passed
pub returns-in-None : goal.returns-in-None
returns-in-None c =
    let word = rw (sym c.in_ok-command.ensures.word) at c.in-Some.ensures.steps.1 in
    let from = rw c.new.ensures.1 at word in
    let stands = rw c.new.ensures.0 at from in
    let line = c.next.ensures.steps.0 ∙ c.new.ensures.0 in
    record {
      p = c.next.new.self.at;
      to = c.command.new.self.words.at;
      command = stands;
      asks = rw line at c.in_ok-command.ensures.asks;
      ended = rw (c.in_ok-command.ensures.same ∙ line) at c.in-None.ensures.steps.1;
    }
