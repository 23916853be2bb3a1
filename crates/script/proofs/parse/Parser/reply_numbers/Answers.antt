use Rattle.std.proofs.Common.{sym, ◌∙◌}
use Rattle.script.proofs.parse.Parser.reply_numbers.Goals as goal

-- the four numbers stand in the line as it was passed
pub returns-clause-numbers : goal.returns-clause-numbers
returns-clause-numbers c =
    let same-2 = c.number-2.ensures.same ∙ c.number.ensures.same in
    record {
      p = c.number.new.self.words.at;
      q = c.number-2.new.self.words.at;
      r = c.number-3.new.self.words.at;
      situations = c.in_ok-situations.situations;
      commands = c.in_ok-commands.commands;
      situation = c.in_ok-situation.situation;
      command = c.in_ok-command.command;
      at_situations = c.in_ok-situations.ensures.value;
      at_commands = rw (sym c.number.ensures.same) c.in_ok-commands.ensures.value;
      at_situation = rw (sym same-2) c.in_ok-situation.ensures.value;
      at_command = rw (sym (c.number-3.ensures.same ∙ same-2)) c.in_ok-command.ensures.value;
      rule = c.new.ensures;
    }
