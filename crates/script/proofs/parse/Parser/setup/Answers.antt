use Rattle.std.proofs.Common.{sym, ◌∙◌}
use Rattle.script.proofs.parse.Parser.setup.Goals as goal

-- the numbers and the rule stand in the line as it was passed
pub returns-clause-writes : goal.returns-clause-writes
returns-clause-writes c =
    let two = c.number-2.ensures.same ∙ c.number.ensures.same in
    let three = c.number_to.ensures.same ∙ two in
    record {
      p = c.number.new.self.words.at;
      q = c.number-2.new.self.words.at;
      r = c.number_to.new.self.words.at;
      t = c.number-3.new.self.words.at;
      at_situations = c.in_ok-number.ensures.value;
      at_commands = rw (sym c.number.ensures.same) c.in_ok-number-2.ensures.value;
      at_capacity = rw (sym two) c.in_ok-number_to.ensures.value;
      at_limit = rw (sym three) c.in_ok-number-3.ensures.value;
      at_house = rw (sym (c.number-3.ensures.same ∙ three)) c.in_ok-rule.ensures.writes;
    }
